use Rattle.disk_model.proofs.Exact.{memory_exact}
use Rattle.disk_model.proofs.plain_cases.memory_leaves_exactly.Goals as goal

pub returns : goal.returns
returns c m files said = memory_exact m.disk files said
