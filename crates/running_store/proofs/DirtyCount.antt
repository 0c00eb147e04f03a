-- As many objects of the world that a store shows are dirty as of its cache.
use Rattle.std.proofs.Common.{◌≡◌, ◌∙◌, sym, ap, ℕ, suc, ◌<◌, nat_eq, List, [], ◌∷◌, length, refl, arith}
use Rattle.std.specs.Prelude.{IsTrue, false, ◌||◌}
use Rattle.std.specs.List.{IsDistinct, AllByRecursion, list_any}
use Rattle.std.proofs.lemmas.Bool.{eq-eqb, or_left, or_right}
use Rattle.std.proofs.lemmas.Map.Keys.{IsDistinct-head, IsDistinct-tail}
use Rattle.oper_core.specs.Meaning.{Meaning}
use Rattle.formats.specs.declared.params.Params.{Params}
use Rattle.dirty_cache.specs.Contents.{AreDirty}
use Rattle.explain_core.specs.CountLaws.{count_same, count_none, count_more}
use Rattle.explain_core.specs.Turns.{count_below, is_dirty_in, dirty_in}
use Rattle.explain_core.specs.World.{World}
use Rattle.running_store.specs.Parts.Joins.{dirty_shown}
use Rattle.running_store.specs.Parts.{Volatile, ShowsVolatile}
use Rattle.running_store.specs.Parts.InUse.{dirty_held}

none_equal : (y : ℕ) (ys : List ℕ) → AllByRecursion (λ z. nat_eq y z ≡ false) ys → list_any (nat_eq y) ys ≡ false
none_equal y [] all = refl
none_equal y (z ∷ zs) all = λ i. all.0 i || none_equal y zs all.1 i

-- objects below n that are listed once each are as many as the list is long
listed : (n : ℕ) (xs : List ℕ) → IsDistinct nat_eq xs → ((x : ℕ) → IsTrue (list_any (nat_eq x) xs) → x < n) → count_below n (λ x. list_any (nat_eq x) xs) ≡ length xs
listed n [] apart below = count_none n
listed n (y ∷ ys) apart below =
    count_more n y (λ x. list_any (nat_eq x) ys) (below y (or_left (nat_eq y y) (list_any (nat_eq y) ys) (eq-eqb y y refl))) (none_equal y ys (IsDistinct-head nat_eq y ys apart))
    ∙ ap suc (listed n ys (IsDistinct-tail nat_eq y ys apart) (λ x is. below x (or_right (nat_eq x y) (list_any (nat_eq x) ys) is)))
    ∙ omega arith

module _ {O : Type 0} (m : Meaning O) (p : Params) (file : List ℕ) (it : Volatile) (w : World O) (shows : ShowsVolatile m p file it w) where
  -- so as many objects of the world are dirty as of the cache
  pub dirty_counted : m.objects ≡ p.objects → (objects : List ℕ) → AreDirty it.objects.cache objects → dirty_in m w ≡ length objects
  dirty_counted bounds objects are =
      count_same m.objects (is_dirty_in w) (λ x. list_any (nat_eq x) objects) (λ x below. sym (dirty_shown m p file it w shows x) ∙ sym (are.exactly x))
      ∙ listed m.objects objects are.apart (λ x is.
      let had = dirty_held it.objects.cache x (sym (are.exactly x) ∙ is) in
      let below = shows.below x had.0 had.1 in
      omega (arith, below, bounds))
