use Rattle.formats.specs.Objects.{bounds_of}
use Rattle.redo_pass.proofs.Due.{found_members}
use Rattle.redo_pass.proofs.redo_laws.records_are_members.Goals as goal

pub returns : goal.returns
returns g c p files commands w found = found_members (g.O.Oper.meaning (bounds_of p)) p files commands w found
