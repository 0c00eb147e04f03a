use Rattle.std.proofs.Common.{List}
use Rattle.client_sessions.specs.Standing.{Standing}
use Rattle.client_turns.specs.Serves.{Done, IsFront, Service}
use Rattle.client_turns.specs.Turning.{IsBetween}
use Rattle.client_turns.proofs.desk.Desk.turns.Given as goal

abbrev pub invariant-loop : goal.invariant-loop
invariant-loop g l =
    let view = g.S.NamedStore.view in
    (origin : view.Origin) (was : Standing) → view.stands l.fn.store origin was → (next : Standing) × view.stands l.store origin next
    × ((service : Service) (history : List Done) → IsBetween service history was l.fn.self → (later : List Done) × IsFront history later × IsBetween service later next l.self)
