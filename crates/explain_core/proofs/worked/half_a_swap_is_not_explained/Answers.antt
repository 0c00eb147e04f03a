use Rattle.explain_core.proofs.HalfSwap.{half-unexplained}
use Rattle.explain_core.proofs.worked.half_a_swap_is_not_explained.Goals as goal

pub returns : goal.returns
returns c = half-unexplained
