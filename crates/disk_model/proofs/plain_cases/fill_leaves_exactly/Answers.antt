use Rattle.disk_model.specs.Recorded.{calls_of, first_of}
use Rattle.disk_model.proofs.Filled.{fill_exact}
use Rattle.disk_model.proofs.plain_cases.fill_leaves_exactly.Goals as goal

pub returns : goal.returns
returns c m byte file = fill_exact byte file (first_of m.disk.files) (calls_of m.disk.history)
