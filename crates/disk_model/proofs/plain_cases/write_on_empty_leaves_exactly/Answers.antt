use Rattle.disk_model.proofs.Exact.{empty_exact}
use Rattle.disk_model.proofs.plain_cases.write_on_empty_leaves_exactly.Goals as goal

pub returns : goal.returns
returns c at n left = empty_exact at n left
