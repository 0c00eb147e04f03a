use Rattle.name_ranges.proofs.Listing.{names_are_read}
use Rattle.name_ranges.proofs.laws.names_are_read_from_a_span.Goals as goal

pub returns : goal.returns
returns c = names_are_read
