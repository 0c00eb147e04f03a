use Rattle.std.proofs.Common.{drop, map}
use Rattle.client_sessions.specs.Calls.{IsAsLarge, IsDone}
use Rattle.client_sessions.specs.Standing.{Keeps, Standing}
use Rattle.client_sessions.proofs.Turns.{Completes}
use Rattle.client_sessions.proofs.sessions.Sessions.in_turn.Given as goal

abbrev pub invariant-loop-words : goal.invariant-loop-words
invariant-loop-words g l =
    let view = g.S.NamedStore.view in
    record {
      large : IsAsLarge l.fn.self l.self;
      goes : (origin : view.Origin) (was : Standing) → view.stands l.fn.store origin was → (next : Standing) × view.stands l.store origin next × Keeps was next
          × IsDone (Completes was.sizes l.client (map (λ words. map (λ word. word.items) words.items) l.queue) (map (λ words. map (λ word. word.items) words.items) (drop l.words-index l.queue)))
          was next l.fn.self l.self l.fn.into.items l.into.items;
    }
