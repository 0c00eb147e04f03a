use Rattle.std.proofs.Common.{◌≡◌, ℕ, List, length, map, take}
use Rattle.running_store.specs.Laid.{values_in}
use Rattle.cache_manager.proofs.identities.lengths_of.Given as goal

abbrev pub invariant-loop-x : goal.invariant-loop-x
invariant-loop-x l = (file : List ℕ) → l.lengths.items ≡ map (λ x. length (values_in l.objects file x)) (take l.x-index l.xs)
