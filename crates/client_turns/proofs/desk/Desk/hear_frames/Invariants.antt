use Rattle.std.proofs.Common.{List, length}
use Rattle.client_sessions.specs.Standing.{Standing}
use Rattle.client_turns.specs.Serves.{Done, Service}
use Rattle.client_turns.specs.Within.{IsReading, ReadsOn}
use Rattle.client_turns.proofs.desk.Desk.hear_frames.Given as goal

abbrev pub invariant-loop-frame : goal.invariant-loop-frame
invariant-loop-frame g l =
    let view = g.S.NamedStore.view in
    (origin : view.Origin) (was : Standing) → view.stands l.fn.store origin was → (next : Standing) × view.stands l.store origin next
    × ((service : Service) (said all : List Done) → IsReading service said all l.bytes was l.fn.self l.fn.out.items → ReadsOn service said l.rest next l.self l.out.items)

abbrev pub decreases-loop-frame : goal.decreases-loop-frame
decreases-loop-frame g l = length l.rest
