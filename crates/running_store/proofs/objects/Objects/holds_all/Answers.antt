use Rattle.std.proofs.Common.{◌∙◌, All, IsSome, ℕ, List, subst, sym}
use Rattle.std.proofs.lemmas.List.{take_all}
use Rattle.dirty_cache.specs.Contents.{held}
use Rattle.running_store.proofs.SetLemmas.{all_next}
use Rattle.running_store.proofs.objects.Objects.holds_all.Goals as goal

pub loop-object-preserved : goal.loop-object-preserved
loop-object-preserved c =
    all_next (λ x. IsSome (held c.args.self.now.cache x)) (λ x. IsSome (held c.args.self.now.cache x)) c.args.objects.now c.loop-object.object-index (λ x some. some) c.loop-object.invariant c.loop-object-test.true
    (sym c.holds.ensures ∙ c.if-not-holds.false)

pub returns : goal.returns
returns c = λ all. subst (λ (l : List ℕ). All (λ x. IsSome (held c.args.self.now.cache x)) l) (take_all c.loop-object.object-index c.args.objects.now c.loop-object-test.false) c.loop-object.invariant
