-- As many members of the world that a store shows are in the graph as entries of the store.
use Rattle.std.proofs.Common.{◌≡◌, ◌∙◌, sym, subst, ap, ℕ, suc, ◌+◌, ◌<◌, false, List, [], ◌∷◌, length, refl, arith, inl, inr}
use Rattle.std.specs.Prelude.{IsTrue, ◌==◌, slice_index}
use Rattle.std.specs.List.Sorted.{IsStrictlyIncreasing}
use Rattle.std.proofs.lemmas.List.{length-map}
use Rattle.std.proofs.lemmas.Bool.{both_ways, eq-eqb, eqb-true, false_from_ne_true, or_cases, or_left, or_right}
use Rattle.oper_core.specs.State.{is_among}
use Rattle.oper_core.specs.Meaning.{Meaning}
use Rattle.formats.specs.declared.params.Params.{Params}
use Rattle.install_order.specs.declared.entry.Entry.{Entry}
use Rattle.write_graph.specs.Graph.{lsns}
use Rattle.explain_core.specs.CountLaws.{count_more, count_none, count_same}
use Rattle.explain_core.specs.Sound.{IsSound}
use Rattle.explain_core.specs.Turns.{count_below, waiting_in}
use Rattle.explain_core.specs.World.{World, end_of}
use Rattle.running_store.specs.Parts.{Volatile, ShowsVolatile}

-- numbers after one that rise with it rise
rising_tail : (x : ℕ) (xs : List ℕ) → IsStrictlyIncreasing (x ∷ xs) → IsStrictlyIncreasing xs
rising_tail x xs rising i lt =
    let e : suc i + 1 ≡ suc (i + 1) = omega arith in
    subst (λ (j : ℕ). slice_index xs i < slice_index (x ∷ xs) j) e (rising (suc i) (omega (arith, lt)))

-- and it is below them
behind_first : (x : ℕ) (xs : List ℕ) → IsStrictlyIncreasing (x ∷ xs) → (y : ℕ) → IsTrue (is_among y xs) → x < y
behind_first x [] rising y there = absurd (both_ways _ refl there)
behind_first x (z ∷ zs) rising y there =
    let here : x < z = rising 0 (omega arith) in elim (or_cases (y == z) (is_among y zs) there) [
      | inl same ↦ omega (arith, here, eqb-true y z same)
      | inr later ↦ omega (arith, here, behind_first z zs (rising_tail x (z ∷ zs) rising) y later)
    ]

-- numbers below n that rise are as many as their list is long
pub rising_listed : (n : ℕ) (xs : List ℕ) → IsStrictlyIncreasing xs → ((x : ℕ) → IsTrue (is_among x xs) → x < n) → count_below n (λ x. is_among x xs) ≡ length xs
rising_listed n [] rising below = count_none n
rising_listed n (y ∷ ys) rising below =
    let apart : is_among y ys ≡ false = false_from_ne_true _ (λ there. omega (arith, behind_first y ys rising y there)) in
    count_more n y (λ x. is_among x ys) (below y (or_left (y == y) (is_among y ys) (eq-eqb y y refl))) apart
    ∙ ap suc (rising_listed n ys (rising_tail y ys rising) (λ x is. below x (or_right (x == y) (is_among x ys) is))) ∙ omega arith

module _ {O : Type 0} (m : Meaning O) (w : World O) (sound : IsSound m w) where
  -- an LSN of the graph is below the next
  pub in_graph_below : (n : ℕ) → IsTrue (w.graph n) → n < end_of w
  in_graph_below n there = omega (arith, (sound.graph n there).1, sound.next.1)

  pub entries_counted : (p : Params) (file : List ℕ) (it : Volatile) → ShowsVolatile m p file it w → IsStrictlyIncreasing (lsns it.entries) → length it.entries ≡ waiting_in w
  entries_counted p file it shows rising =
      sym (length-map it.entries (λ (e : Entry). e.lsn))
      ∙ sym (rising_listed (end_of w) (lsns it.entries) rising (λ x is. in_graph_below x (sym (shows.members x) ∙ is)))
      ∙ count_same (end_of w) (λ x. is_among x (lsns it.entries)) w.graph (λ x lt. shows.members x)
