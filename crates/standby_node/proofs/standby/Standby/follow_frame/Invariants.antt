use Rattle.std.specs.Prelude.{◌≡◌, ◌≤◌, ◌-◌, Ok}
use Rattle.standby_node.specs.Steps.{AnyWorld, GoesOn}
use Rattle.standby_node.proofs.standby.Standby.follow_frame.Given as goal

abbrev pub invariant-loop-self : goal.invariant-loop-self
invariant-loop-self g l =
    GoesOn g.O.Oper.meaning (g.M.Machine.disk l.fn.machine) (g.M.Machine.disk l.machine) l.fn.self l.self ((l.self.frames ≡ l.fn.self.frames) × (l.self.done ≤ l.fn.size)) AnyWorld (Ok tt)

abbrev pub decreases-loop-self : goal.decreases-loop-self
decreases-loop-self g l = l.fn.size - l.self.done
