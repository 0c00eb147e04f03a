use Rattle.name_ranges.proofs.Places.{keys_in_order}
use Rattle.name_ranges.proofs.laws.keys_are_in_the_order_of_places.Goals as goal

pub returns : goal.returns
returns c = keys_in_order
