-- What is cached of some objects is written to their closed slots, one after the other, and what was written stands.
use Rattle.std.proofs.Common.{◌≡◌, ◌∙◌, ◌<◌, ◌+◌, ℕ, Option, Some, None, List, ◌∷◌, length, take, sym, ap, subst, inl, inr}
use Rattle.std.specs.Prelude.{◌==◌, IsTrue, slice_index}
use Rattle.std.proofs.lemmas.Bool.{cases_eq, eqb-true, or_cases}
use Rattle.disk_model.specs.Disk.{Disk, Files, In, Runs, Same, Stays}
use Rattle.disk_model.specs.declared.machine.FileNo.TheVariants.{Objects}
use Rattle.oper_core.specs.State.{is_among}
use Rattle.dirty_cache.specs.Contents.{held}
use Rattle.dirty_cache.specs.declared.entry.Entry.{Entry as Pair}
use Rattle.stable_objects.specs.Replacing.{IsFilled}
use Rattle.stable_objects.specs.SpareLaws.{spares_run}
use Rattle.stable_objects.specs.Spares.{KeepsButSpares, KeepsFilledBut, spare_lsn, spare_place}
use Rattle.running_store.specs.Parts.InUse.{none_some}
use Rattle.running_store.specs.Laid.{AreCached, Laid}
use Rattle.running_store.specs.Calls.RoundCalls.{AreFilled}
use Rattle.running_store.proofs.OfRounds.Holds.{next_among}

module _ (laid : Laid) (object : ℕ) (done : List ℕ) (old : List ℕ) (were : AreFilled laid done old) where
  -- nothing is cached of it
  pub filled_absent : held laid.cache object ≡ None → AreFilled laid (object ∷ done) old
  filled_absent absent x pair among had closed = elim (or_cases (x == object) (is_among x done) among) [
    | inl here ↦ none_some (held laid.cache object) pair absent (subst (λ (y : ℕ). held laid.cache y ≡ Some pair) (eqb-true x object here) had)
    | inr before ↦ were x pair before had closed
  ]

  -- its slot is filled, and the others stay
  pub filled_next : (cached : AreCached laid.slots.params laid.cache) (new : List ℕ) (lsn : ℕ) (bytes : List ℕ) → held laid.cache object ≡ Some (record { lsn = lsn; bytes = bytes })
      → (spare_lsn laid.slots object ≡ 0 → IsFilled (spare_place laid.slots object) lsn bytes new) → KeepsFilledBut laid.slots object old new → AreFilled laid (object ∷ done) new
  filled_next cached new lsn bytes there filled kept x pair among had closed = elim (cases_eq x object) [
    | inl here ↦
        let one : Pair = record { lsn = lsn; bytes = bytes } in
        let same : one ≡ pair = from_some one pair (sym there ∙ subst (λ (y : ℕ). held laid.cache y ≡ Some pair) here had) in
        subst (λ (y : ℕ). IsFilled (spare_place laid.slots y) pair.lsn pair.bytes new) (sym here)
        (subst (λ (e : Pair). IsFilled (spare_place laid.slots object) e.lsn e.bytes new) same (filled (subst (λ (y : ℕ). spare_lsn laid.slots y ≡ 0) here closed)))
    | inr other ↦
        let limits = cached.each x pair had in
        let before : IsTrue (is_among x done) = elim (or_cases (x == object) (is_among x done) among) [ inl same ↦ absurd (other (eqb-true x object same)) | inr on ↦ on ] in
        kept x pair.lsn pair.bytes limits.0 other limits.1 (were x pair before had closed)
  ]
    where
      from_some : (a b : Pair) → Some a ≡ Some b → a ≡ b
      from_some a b e = ap (λ (o : Option Pair). or_else o) e
        where
          or_else : Option Pair → Pair
          or_else (Some q) = q
          or_else None = a

-- so far what is cached of these of them is written
pub record HaveFilled (first now : Disk) (laid : Laid) (done : List ℕ) : Type 0 where
  pub runs : Runs (In Objects (KeepsButSpares laid.slots)) Same first now
  pub filled : first.tells_files → AreFilled laid done (now.reads Objects)

-- and of one more
pub fills_more : (first mid now : Disk) (laid : Laid) (objects : List ℕ) (i : ℕ) → i < length objects → HaveFilled first mid laid (take i objects) → Runs (In Objects (KeepsButSpares laid.slots)) Same mid now
    → (mid.tells_files → (done : List ℕ) → AreFilled laid done (mid.reads Objects) → AreFilled laid (slice_index objects i ∷ done) (now.reads Objects)) → HaveFilled first now laid (take (i + 1) objects)
fills_more first mid now laid objects i lt was run fills = record {
  runs = spares_run laid.slots first mid now was.runs run;
  filled = λ told x pair among had closed. fills (was.runs.time.files_told.0 told) (take i objects) (was.filled told) x pair (sym (next_among x i objects lt) ∙ among) had closed;
}

-- they are synced
pub fills_synced : (first mid now : Disk) (laid : Laid) (done objects : List ℕ) → done ≡ objects → HaveFilled first mid laid done → Stays mid now → first.tells_files → AreFilled laid objects (now.reads Objects)
fills_synced first mid now laid done objects all was stays told =
    subst (λ (f : Files). AreFilled laid objects (f Objects)) (sym (stays.reads (was.runs.time.files_told.0 told))) (subst (λ (l : List ℕ). AreFilled laid l (mid.reads Objects)) all (was.filled told))
