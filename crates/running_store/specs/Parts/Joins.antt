-- What a store that shows a world has cached: the world's cells, and dirty where the world is.
use Rattle.std.proofs.Common.{◌≡◌, ◌∙◌, sym, ap, ℕ, ◌<◌, false, List, [], refl, inl, inr, Option, Some, None}
use Rattle.std.specs.Prelude.{not, nat_lt}
use Rattle.std.proofs.lemmas.Bool.{cases_Bool, eq-eqb, ne_eqb, lt-ltb, cond-true}
use Rattle.oper_core.specs.Cell.{Cell}
use Rattle.oper_core.specs.Meaning.{Meaning}
use Rattle.formats.specs.Objects.{cell_of}
use Rattle.formats.specs.declared.params.Params.{Params}
use Rattle.dirty_cache.specs.Contents.{held, is_dirty, cell_of_entry}
use Rattle.dirty_cache.specs.declared.entry.Entry.{Entry as Pair}
use Rattle.explain_core.specs.World.{World}
use Rattle.explain_core.specs.Turns.{is_dirty_in}
use Rattle.standing.specs.Standing.{stored}
use Rattle.running_store.specs.Laid.{cell_or, cell_in}
use Rattle.running_store.specs.Parts.{Volatile, ShowsVolatile}

-- an object of the store has in its slots what the file has at their places
pub stored_here : (p : Params) (file : List ℕ) (x : ℕ) → x < p.objects → stored p file x ≡ cell_of x file
stored_here p file x below = cond-true (nat_lt x p.objects) (cell_of x file) (record { lsn = 0; value = [] }) (lt-ltb x p.objects below)

module _ {O : Type 0} (m : Meaning O) (p : Params) (file : List ℕ) (it : Volatile) (w : World O) (shows : ShowsVolatile m p file it w) where
  -- an object's pair is the world's cell
  pub cell_shown : (x : ℕ) → x < p.objects → cell_in it.objects file x ≡ w.cache x
  cell_shown x below =
      ap (λ (c : Cell). cell_or (held it.objects.cache x) c) (sym (stored_here p file x below))
      ∙ shows.cache x

  -- what is cached is the world's cell
  pub cached_shown : (x : ℕ) (pair : Pair) → held it.objects.cache x ≡ Some pair → w.cache x ≡ cell_of_entry pair
  cached_shown x pair had = sym (shows.cache x) ∙ ap (λ (o : Option Pair). cell_or o (stored p file x)) had

  -- a clean object has the cell of its slot
  pub clean_shown : (x : ℕ) → is_dirty it.objects.cache x ≡ false → w.cache x ≡ w.slots x
  clean_shown x clean = sym (shows.cache x) ∙ by_entry (held it.objects.cache x) refl ∙ shows.slots x
    where
      by_entry : (o : Option Pair) → held it.objects.cache x ≡ o → cell_or (held it.objects.cache x) (stored p file x) ≡ stored p file x
      by_entry None none = ap (λ (o : Option Pair). cell_or o (stored p file x)) none
      by_entry (Some pair) had =
          ap (λ (o : Option Pair). cell_or o (stored p file x)) had
          ∙ sym (shows.laid.clean x pair clean had)
          ∙ sym (stored_here p file x (shows.below x pair had))

  -- an object is dirty exactly where the world's two LSNs differ
  pub dirty_shown : (x : ℕ) → is_dirty it.objects.cache x ≡ is_dirty_in w x
  dirty_shown x = elim (cases_Bool (is_dirty it.objects.cache x)) [
    | inl dirty ↦ dirty ∙ sym (ap not (ne_eqb (w.slots x).lsn (w.cache x).lsn (shows.dirty x dirty)))
    | inr clean ↦ clean ∙ sym (ap not (eq-eqb (w.slots x).lsn (w.cache x).lsn (ap (λ (c : Cell). c.lsn) (sym (clean_shown x clean)))))
  ]
