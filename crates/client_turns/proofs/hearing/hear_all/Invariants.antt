use Rattle.std.proofs.Common.{◌≡◌, List, length}
use Rattle.client_sessions.specs.Events.{Begins}
use Rattle.client_sessions.specs.Seen.{count_of}
use Rattle.client_sessions.specs.Standing.{Standing}
use Rattle.client_turns.specs.Serves.{Done, Service}
use Rattle.client_turns.specs.Within.{GoesOn, IsHearing}
use Rattle.client_turns.proofs.hearing.hear_all.Given as goal

abbrev pub invariant-loop-behind : goal.invariant-loop-behind
invariant-loop-behind g l =
    let view = g.S.NamedStore.view in
    record {
      count : count_of l.sessions ≡ count_of l.fn.sessions;
      goes : (origin : view.Origin) (was : Standing) → view.stands l.fn.store origin was → (next : Standing) × view.stands l.store origin next
          × ((service : Service) (said all : List Done) → IsHearing service said all l.client l.bytes was l.fn.sessions l.fn.out.items
          → GoesOn service said all (λ events. Begins service.limits l.client l.bytes events l.rest) was next l.sessions l.out.items);
    }

abbrev pub decreases-loop-behind : goal.decreases-loop-behind
decreases-loop-behind g l = length l.rest
