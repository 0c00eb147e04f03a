use Rattle.std.proofs.Common.{sym}
use Rattle.explain_core.proofs.Fold.{state_after-commands_of}
use Rattle.explain_core.proofs.recovery.history_gives_the_map.Goals as goal

pub returns : goal.returns
returns g c b h x is = sym (state_after-commands_of (g.O.Oper.meaning b) h is x)
