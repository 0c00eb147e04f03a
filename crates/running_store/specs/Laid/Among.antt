-- Objects among some, and the LSNs and the numbers of a store in use.
use Rattle.std.proofs.Common.{◌≡◌, ◌≤◌, ◌==◌, ℕ, List, [], ◌∷◌, sym, subst, ap, refl, arith, inl, inr, Option, None, Some}
use Rattle.std.specs.Prelude.{All, IsTrue}
use Rattle.std.proofs.lemmas.Bool.{both_ways, cases_Bool, eqb-true, or_cases}
use Rattle.std.proofs.lemmas.List.Elements.{All-head, All-tail}
use Rattle.oper_core.specs.Meaning.{IsSmall}
use Rattle.oper_core.specs.State.{is_among}
use Rattle.formats.specs.Objects.{IsInRange, bounds_of}
use Rattle.formats.specs.declared.params.Params.{Params}
use Rattle.stable_objects.specs.SlotsView.{lsn_in}
use Rattle.dirty_cache.specs.Contents.{held, is_dirty}
use Rattle.dirty_cache.specs.declared.entry.Entry.{Entry as Pair}
use Rattle.running_store.specs.Laid.{object_lsn, lsn_or}
use Rattle.running_store.specs.Parts.{AreInUse, Volatile}

-- what holds of all objects holds of one among them
pub all_among : (P : ℕ → Type 0) (xs : List ℕ) (x : ℕ) → All P xs → IsTrue (is_among x xs) → P x
all_among P [] x all there = absurd (both_ways _ refl there)
all_among P (y ∷ xs) x all there = elim (or_cases (x == y) (is_among x xs) there) [
  | inl here ↦ subst P (sym (eqb-true x y here)) (All-head P y xs all)
  | inr later ↦ all_among P xs x (All-tail P y xs all) later
]

-- the LSN of a slot is not above that of its object
pub slot_most : (p : Params) (next : ℕ) (it : Volatile) (x : ℕ) → AreInUse p next it → lsn_in it.objects.slots x ≤ object_lsn it.objects x
slot_most p next it x used = by_entry (held it.objects.cache x) refl
  where
    by_entry : (o : Option Pair) → held it.objects.cache x ≡ o → lsn_in it.objects.slots x ≤ object_lsn it.objects x
    by_entry None none = omega (arith, ap (λ (h : Option Pair). lsn_or h (lsn_in it.objects.slots x)) none)
    by_entry (Some pair) had = elim (cases_Bool (is_dirty it.objects.cache x)) [
      | inl dirty ↦ omega (arith, (used.dirty x pair dirty had).0, ap (λ (h : Option Pair). lsn_or h (lsn_in it.objects.slots x)) had)
      | inr clean ↦ omega (arith, used.clean x pair clean had, ap (λ (h : Option Pair). lsn_or h (lsn_in it.objects.slots x)) had)
    ]

-- a store's numbers are small
pub small_bounds : (p : Params) → IsInRange p → IsSmall (bounds_of p)
small_bounds p range = record { objects = omega (arith, range.objects); cap = omega (arith, range.cap) }
