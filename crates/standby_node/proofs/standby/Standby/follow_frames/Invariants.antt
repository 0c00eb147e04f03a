use Rattle.std.specs.Prelude.{◌≡◌, ◌⊎◌, ⊤, Ok, false, length}
use Rattle.standby_node.specs.Feeding.{must_relieve}
use Rattle.standby_node.specs.Steps.{GoesOn}
use Rattle.standby_node.proofs.standby.Standby.follow_frames.Given as goal

abbrev pub invariant-loop-size : goal.invariant-loop-size
invariant-loop-size g l =
    GoesOn g.O.Oper.meaning (g.M.Machine.disk l.fn.machine) (g.M.Machine.disk l.machine) l.fn.self l.self ⊤ (λ m w. (l.self.frames.passed ≡ l.fn.self.frames.passed) ⊎ (must_relieve m w ≡ false)) (Ok tt)

abbrev pub decreases-loop-size : goal.decreases-loop-size
decreases-loop-size g l = length l.self.frames.kept
