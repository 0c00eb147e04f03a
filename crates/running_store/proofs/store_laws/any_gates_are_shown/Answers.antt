use Rattle.formats.specs.Objects.{bounds_of}
use Rattle.running_store.specs.Steps.RoundImages.{image_of_gates}
use Rattle.running_store.proofs.store_laws.any_gates_are_shown.Goals as goal

pub returns : goal.returns
returns g c p old files w gates pairs shows cached is others = image_of_gates (g.O.Oper.meaning (bounds_of p)) p old w shows gates pairs cached files is others
