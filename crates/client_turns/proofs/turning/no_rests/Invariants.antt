use Rattle.std.proofs.Common.{◌≡◌, map}
use Rattle.client_turns.specs.Serves
use Rattle.client_turns.proofs.turning.no_rests.Given as goal

abbrev pub invariant-loop : goal.invariant-loop
invariant-loop l = map (λ rest. rest.items) l.rests.items ≡ Serves.no_rests l.counter
