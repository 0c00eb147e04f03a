use Rattle.std.proofs.Common.{◌≡◌, ◌∙◌, ◌<◌, ℕ, suc, List, [], ◌∷◌, true, IsSome, length, drop, drop-cons, slice_index, ap, sym, subst, arith, length-append}
use Rattle.oper_core.specs.State.{is_among, value_for}
use Rattle.dirty_cache.specs.Contents.{held, IsSwapped}
use Rattle.running_store.specs.Laid.Lent.{KeepsOthers, cached_values}
use Rattle.running_store.proofs.LentLemmas.{among_front, back_more, keeps_more}
use Rattle.running_store.proofs.SetLemmas.{taken}
use Rattle.running_store.proofs.lending.give_back.Goals as goal

pub loop-value-preserved : goal.loop-value-preserved
loop-value-preserved c =
    let so_far = c.loop-value.invariant in
    let left = c.pop.new.self in
    let n = length left in
    let objects = c.args.objects.now in
    let values = c.args.values in
    let v = c.in-Some.value in
    let is = taken values c.loop-value.values left v c.in-Some.ensures.some so_far.left in
    let size : length c.loop-value.values ≡ suc n = omega (arith, ap length c.in-Some.ensures.some, length-append left (v ∷ [])) in
    let there : n < length objects = omega (arith, so_far.few, size) in
    let o = slice_index objects n in
    let objects_here : drop n objects ≡ o ∷ drop (suc n) objects = drop-cons objects n 0 there in
    let values_here : drop n values ≡ v ∷ drop (suc n) values = drop-cons values n v is.more ∙ ap (λ (w : List ℕ). w ∷ drop (suc n) values) is.here in
    let kept = subst (λ (k : ℕ). KeepsOthers (drop k objects) c.args.cache.now c.loop-value.cache) size so_far.kept in
    let back = subst (λ (k : ℕ). (x : ℕ) → is_among x (drop k objects) ≡ true → IsSome (held c.args.cache.now x) → cached_values c.loop-value.cache x ≡ value_for x (drop k objects) (drop k values)) size so_far.back in
    let swapped = subst (λ (k : ℕ). IsSwapped c.loop-value.cache c.swap.new.self (slice_index objects k) v) c.len.ensures c.swap.ensures.after in
    record {
      few = omega (arith, there);
      left = is.front;
      kept = keeps_more kept swapped (drop n objects) (λ x out. among_front o (drop (suc n) objects) x (sym (ap (is_among x) objects_here) ∙ out)) c.swap.ensures.rooms;
      back = subst (λ (os : List ℕ). (x : ℕ) → is_among x os ≡ true → IsSome (held c.args.cache.now x) → cached_values c.swap.new.self x ≡ value_for x os (drop n values)) (sym objects_here)
          (subst (λ (vs : List (List ℕ)). (x : ℕ) → is_among x (o ∷ drop (suc n) objects) ≡ true → IsSome (held c.args.cache.now x) → cached_values c.swap.new.self x ≡ value_for x (o ∷ drop (suc n) objects) vs) (sym values_here)
          (back_more kept swapped (drop (suc n) values) back));
    }
