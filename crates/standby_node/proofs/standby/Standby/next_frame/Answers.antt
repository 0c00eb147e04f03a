use Rattle.std.proofs.Common.{subst}
use Rattle.standby_node.specs.Standby.{IsWithinFrame, StandbyView}
use Rattle.standby_node.proofs.standby.Standby.next_frame.Goals as goal

pub returns-in-Ok-clause-within : goal.returns-in-Ok-clause-within
returns-in-Ok-clause-within g c = subst (λ (s : StandbyView). IsWithinFrame s.frames.kept s.done) c.self.view_is c.self.invariant.1

pub returns-in-Err-clause-within : goal.returns-in-Err-clause-within
returns-in-Err-clause-within g c = subst (λ (s : StandbyView). IsWithinFrame s.frames.kept s.done) c.self.view_is c.self.invariant.1
