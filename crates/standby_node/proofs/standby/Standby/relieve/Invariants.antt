use Rattle.std.specs.Prelude.{length}
use Rattle.standby_node.proofs.Ended.{LimitsSo}
use Rattle.standby_node.proofs.standby.Standby.relieve.Given as goal

abbrev pub invariant-loop-self : goal.invariant-loop-self
invariant-loop-self g l =
    let inside = l.self-inside in
    LimitsSo g.O.Oper.meaning (g.M.Machine.disk l.fn.machine) (g.M.Machine.disk l.machine) l.fn.self (record { engine = inside.engine; frames = inside.frames; done = inside.done; stopped = inside.stopped })

abbrev pub decreases-loop-self : goal.decreases-loop-self
decreases-loop-self g l = length l.self-inside.engine.parts.volatile.entries
