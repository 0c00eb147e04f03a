-- Marks that are there, and marks that are taken away.
use Rattle.std.proofs.Common.{◌≢◌, ◌∙◌, sym, subst, ℕ, ◌<◌, Bool, false, List, length, arith, inl, inr}
use Rattle.std.specs.Prelude.{IsTrue, IsFalse, slice_set}
use Rattle.std.proofs.lemmas.Bool.{cases_lt, both_ways}
use Rattle.std.proofs.lemmas.List.{get_or-set_same, get_or-set_other, length-set}
use Rattle.std.proofs.Math.ListN.{get_or-eq_default}
use Rattle.number_lists.specs.Marks.{mark_at}

-- a mark is below the end
pub mark-below : (xs : List Bool) (i : ℕ) → IsTrue (mark_at xs i) → i < length xs
mark-below xs i t = elim (cases_lt i (length xs)) [
  | inl lt ↦ lt
  | inr ge ↦ absurd (both_ways _ (get_or-eq_default xs false ge) t)
]

-- a mark that is taken away is not there, past the end neither
pub mark-gone : (xs : List Bool) (n : ℕ) → IsFalse (mark_at (slice_set xs n false) n)
mark-gone xs n = elim (cases_lt n (length xs)) [
  | inl lt ↦ get_or-set_same xs n false false lt
  | inr ge ↦ get_or-eq_default (slice_set xs n false) false (omega (arith, ge, length-set xs n false))
]

-- a mark that is left was there
pub mark-was : (xs : List Bool) (n i : ℕ) → IsTrue (mark_at (slice_set xs n false) i) → (i ≢ n) × IsTrue (mark_at xs i)
mark-was xs n i t =
    let ne : i ≢ n = λ e. both_ways _ (mark-gone xs n) (subst (λ (k : ℕ). IsTrue (mark_at (slice_set xs n false) k)) e t) in
    (ne, sym (get_or-set_other xs n i false false ne) ∙ t)
