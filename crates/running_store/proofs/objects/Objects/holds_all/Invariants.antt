use Rattle.std.proofs.Common.{All, IsSome, take}
use Rattle.dirty_cache.specs.Contents.{held}
use Rattle.running_store.proofs.objects.Objects.holds_all.Given as goal

abbrev pub invariant-loop-object : goal.invariant-loop-object
invariant-loop-object l = All (λ x. IsSome (held l.self.cache x)) (take l.object-index l.objects)
