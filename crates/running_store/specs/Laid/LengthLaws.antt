-- Laws of the lengths of values: they are those of the values, and the next empty object is found by marks.
use Rattle.std.proofs.Common.{◌≡◌, ◌≢◌, ◌∙◌, sym, ap, ℕ, ◌<◌, ◌==◌, Bool, true, false, List, length, Option, None, Some, refl, arith, inl, inr}
use Rattle.std.proofs.lemmas.Bool.{both_ways, cases_Bool, cond-true, cond-false, eqb-true}
use Rattle.oper_core.specs.Cell.{Cell}
use Rattle.formats.specs.Objects.{cell_of}
use Rattle.dirty_cache.specs.Contents.{held, is_dirty}
use Rattle.dirty_cache.specs.declared.entry.Entry.{Entry}
use Rattle.number_lists.specs.Marks.{mark_at, IsNext}
use Rattle.number_lists.specs.MarkLaws.{mark-below}
use Rattle.stable_objects.specs.SlotsView.{length_in}
use Rattle.running_store.specs.Parts.InUse.{dirty_held}
use Rattle.running_store.specs.Laid.{Laid, IsLaidOn, cell_or, values_in}
use Rattle.running_store.specs.Laid.Lengths.{AreEmpties, IsNextEmpty, entry_length, length_at}

-- of a dirty object, and of another
pub dirty_length : (laid : Laid) (x : ℕ) → is_dirty laid.cache x ≡ true → length_at laid x ≡ entry_length (held laid.cache x)
dirty_length laid x dirty = cond-true (is_dirty laid.cache x) (entry_length (held laid.cache x)) (length_in laid.slots x) dirty

pub clean_length : (laid : Laid) (x : ℕ) → is_dirty laid.cache x ≡ false → length_at laid x ≡ length_in laid.slots x
clean_length laid x clean = cond-false (is_dirty laid.cache x) (entry_length (held laid.cache x)) (length_in laid.slots x) clean

-- the length that is told without a file is that of the value
pub length_told : (file : List ℕ) (laid : Laid) (x : ℕ) → IsLaidOn laid file → x < laid.slots.params.objects → length_at laid x ≡ length (values_in laid file x)
length_told file laid x is below = elim (cases_Bool (is_dirty laid.cache x)) [
  | inl dirty ↦
      let had = dirty_held laid.cache x dirty in
      dirty_length laid x dirty ∙ ap entry_length had.1 ∙ sym (ap (λ (o : Option Entry). length (cell_or o (cell_of x file)).value) had.1)
  | inr clean ↦ clean_length laid x clean ∙ is.slots.lengths x below ∙ by_entry clean (held laid.cache x) refl
]
  where
    by_entry : is_dirty laid.cache x ≡ false → (o : Option Entry) → held laid.cache x ≡ o → length (cell_of x file).value ≡ length (values_in laid file x)
    by_entry clean None none = sym (ap (λ (o : Option Entry). length (cell_or o (cell_of x file)).value) none)
    by_entry clean (Some entry) had =
        ap (λ (c : Cell). length c.value) (is.clean x entry clean had) ∙ sym (ap (λ (o : Option Entry). length (cell_or o (cell_of x file)).value) had)

module _ (objects : ℕ) (long : ℕ → ℕ) (marks : List Bool) (are : AreEmpties objects long marks) where
  -- a mark says that an object is empty
  marked : (x : ℕ) → x < objects → mark_at marks x ≡ true → long x ≡ 0
  marked x below mark = eqb-true (long x) 0 (sym (are.each x below) ∙ mark)

  unmarked : (x : ℕ) → x < objects → mark_at marks x ≡ false → long x ≢ 0
  unmarked x below mark none = both_ways _ mark (are.each x below ∙ ap (λ (n : ℕ). n == 0) none)

  -- the next mark is that of the next empty object
  pub next_marked : (from : ℕ) (found : Option ℕ) → IsNext marks from found → IsNextEmpty objects long from found
  next_marked from None none = λ y above below. unmarked y below (none y above)
  next_marked from (Some x) first =
      let below : x < objects = omega (arith, mark-below marks x first.here, are.count) in
      record { below = below; above = first.above; here = marked x below first.here; least = λ y above less. unmarked y (omega (arith, less, below)) (first.least y above less) }

-- the next empty object is that of other lengths that are the same
pub next_same : (objects : ℕ) (long other : ℕ → ℕ) (from : ℕ) (found : Option ℕ) → ((x : ℕ) → x < objects → long x ≡ other x) → IsNextEmpty objects long from found → IsNextEmpty objects other from found
next_same objects long other from None same none = λ y above below is. none y above below (same y below ∙ is)
next_same objects long other from (Some x) same first = record {
  below = first.below;
  above = first.above;
  here = sym (same x first.below) ∙ first.here;
  least = λ y above less is. first.least y above less (same y (omega (arith, less, first.below)) ∙ is);
}
