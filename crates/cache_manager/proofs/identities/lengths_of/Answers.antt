use Rattle.std.proofs.Common.{◌∙◌, sym, ap, ℕ, List, [], ◌∷◌, ◌++◌, length, map, take, slice_index}
use Rattle.std.proofs.lemmas.List.{map-append, take_all, take_more}
use Rattle.running_store.specs.Laid.{values_in}
use Rattle.running_store.specs.Parts.InUse.{dirty_cached}
use Rattle.cache_manager.proofs.identities.lengths_of.Goals as goal

pub value-requires : goal.value-requires
value-requires c = dirty_cached c.args.objects.now.cache (slice_index c.args.xs.now c.loop-x.x-index) (c.requires.dirty c.loop-x.x-index 0 c.loop-x-test.true)

pub loop-x-preserved : goal.loop-x-preserved
loop-x-preserved c = λ file.
    let lengths : ℕ → ℕ = λ x. length (values_in c.args.objects.now file x) in
    let xs = c.args.xs.now in
    let i = c.loop-x.x-index in
    c.in_ok-push.ensures.items
    ∙ ap (λ (l : List ℕ). l ++ length c.value.result.now ∷ []) (c.loop-x.invariant file)
    ∙ ap (λ (k : ℕ). map lengths (take i xs) ++ k ∷ []) (ap length (c.value.ensures.value file))
    ∙ sym (map-append lengths (take i xs) (slice_index xs i ∷ []))
    ∙ ap (map lengths) (sym (take_more xs i 0 c.loop-x-test.true))

pub returns : goal.returns
returns c = λ file. c.loop-x.invariant file ∙ ap (map (λ x. length (values_in c.args.objects.now file x))) (take_all c.loop-x.x-index c.args.xs.now c.loop-x-test.false)
