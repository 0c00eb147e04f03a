use Rattle.disk_model.proofs.Exact.{within_exact}
use Rattle.disk_model.proofs.plain_cases.write_within_leaves_exactly.Goals as goal

pub returns : goal.returns
returns c at n old left within = within_exact at n old left within
