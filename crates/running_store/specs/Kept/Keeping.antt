-- What calls keep of the parts of a store, one after the other, and what their ends leave.
use Rattle.std.proofs.Common.{◌≡◌, ◌∙◌, sym, subst, ap, ℕ, ◌+◌, ◌<◌, ◌≤◌, true, List, [], ◌∷◌, length, refl, arith, inl, inr, ⊎_elim, length-append, Option, Some, None}
use Rattle.std.specs.Prelude.{Bool, ◌^◌, ◌||◌}
use Rattle.std.proofs.lemmas.Bool.{both_ways, cases_Bool, cases_eq, cond-false, ne_eqb}
use Rattle.disk_model.specs.Disk.{Disk, Runs, In, Any, Same}
use Rattle.disk_model.specs.declared.machine.FileNo.TheVariants.{Objects}
use Rattle.oper_core.specs.Cell.{Cell}
use Rattle.oper_core.specs.Meaning.{Meaning}
use Rattle.oper_core.specs.declared.bounds.Bounds.{Bounds}
use Rattle.oper_core.specs.State.{is_among}
use Rattle.formats.specs.Objects.{cell_of}
use Rattle.log_records.specs.RecordLog.{RecordLogView}
use Rattle.stable_objects.specs.Replacing.{IsReplaced}
use Rattle.stable_objects.specs.SlotsView.{SlotsView, AreOf}
use Rattle.dirty_cache.specs.Contents.{held, is_dirty, cell_of_entry}
use Rattle.dirty_cache.specs.declared.entry.Entry.{Entry as Pair}
use Rattle.install_order.specs.declared.entry.Entry.{Entry}
use Rattle.explain_core.specs.History.Member.{Identity}
use Rattle.running_store.specs.Laid.Flushed.{AreEarly, IsFlushed}
use Rattle.running_store.specs.Kept.{HasLog, IsAttached, IsLonger, KeepsLog}
use Rattle.running_store.specs.Kept.Laws.{appended_log}
use Rattle.running_store.specs.Laid.{Laid, IsLaidOn}
use Rattle.running_store.specs.Parts.{AreInUse, IsAppended, Parts, Volatile, entry_of, parts, volatile}
use Rattle.running_store.specs.Taking.{ArePartsInUse}
use Rattle.running_store.specs.Steps.Written.{written_dirty}

pub longer_here : (it : Parts) → IsLonger 0 it it
longer_here it = record { next = omega arith; entries = omega arith; dirty = λ y. refl }

pub longer_twice : (n k : ℕ) (before here after : Parts) → IsLonger n before here → IsLonger k here after → IsLonger (n + k) before after
longer_twice n k before here after first second = record {
  next = omega (arith, first.next, second.next);
  entries = omega (arith, first.entries, second.entries);
  dirty = λ y. second.dirty y ∙ first.dirty y;
}

-- a force
pub forced_attached : {O : Type 0} (meaning : Bounds → Meaning O) (old new : Disk) (log later : RecordLogView) (objects : Laid) (entries : List Entry) → Runs (In log.log.active Any) Same old new → KeepsLog meaning old new log later
    → IsAttached meaning old (parts log objects entries) → IsAttached meaning new (parts later objects entries)
forced_attached meaning old new log later objects entries runs keeps at told =
    let before = runs.time.files_told.1 told in
    let was = at before in
    (subst (λ (f : List ℕ). IsLaidOn objects f) (sym ((runs.reads before).others Objects (λ e. was.1.keeps.in_force.a_log (sym e)))) was.0, keeps before was.1)

-- a log that has its bounds and its next LSN still
pub still_in_use : (log later : RecordLogView) (objects : Laid) (entries : List Entry) → later.bounds ≡ log.bounds → later.next ≡ log.next → ArePartsInUse (parts log objects entries) → ArePartsInUse (parts later objects entries)
still_in_use log later objects entries bounds next used = record {
  bounds = bounds ∙ used.bounds;
  store = subst (λ (n : ℕ). AreInUse objects.slots.params n (volatile objects entries)) (sym next) used.store;
  early = subst (λ (n : ℕ). AreEarly n objects) (sym next) used.early;
}

-- an identity write of a cached object
module _ {O : Type 0} (m : Meaning O) (x : ℕ) (pair : Pair) (before after : Parts) (had : held before.volatile.objects.cache x ≡ Some pair)
    (done : IsAppended m before after (Identity x pair.bytes) (pair.bytes ∷ [])) where
  appended_laid : (file : List ℕ) → IsLaidOn before.volatile.objects file → IsLaidOn after.volatile.objects file
  appended_laid file laid = record {
    slots = subst (λ (s : SlotsView). AreOf s file) (sym done.slots) laid.slots;
    clean = λ y other clean there. elim (cases_Bool (is_among y (x ∷ []))) [
      | inl among ↦ absurd (both_ways _ clean (done.dirty y ∙ ap (λ (b : Bool). b || is_dirty before.volatile.objects.cache y) among))
      | inr left ↦
          let here : held before.volatile.objects.cache y ≡ Some other = sym (cond-false (is_among y (x ∷ [])) _ _ left) ∙ sym (done.held y) ∙ there in
          laid.clean y other (sym (done.dirty y ∙ ap (λ (b : Bool). b || is_dirty before.volatile.objects.cache y) left) ∙ clean) here
    ];
  }

  pub appended_keeps : (meaning : Bounds → Meaning O) → meaning before.log.bounds ≡ m → x < m.objects → length pair.bytes ≤ m.cap → before.log.next < 2 ^ 62 → (d : Disk) → KeepsLog meaning d d before.log after.log
  appended_keeps meaning is below short low d told has =
      subst (λ (n : Meaning O). HasLog n d after.log) (sym (ap (λ (r : RecordLogView). meaning r.bounds) done.log ∙ is))
      (appended_log m d before after (Identity x pair.bytes) (pair.bytes ∷ []) done (omega (arith, low), below, short) low (subst (λ (n : Meaning O). HasLog n d before.log) is has))

  pub appended_attached : (meaning : Bounds → Meaning O) (d : Disk) → KeepsLog meaning d d before.log after.log → IsAttached meaning d before → IsAttached meaning d after
  appended_attached meaning d keeps at told = let was = at told in (appended_laid (d.reads Objects) was.0, keeps told was.1)

  -- of one that is dirty
  pub appended_longer : is_dirty before.volatile.objects.cache x ≡ true → (old : Parts) → before.log.next ≡ old.log.next → before.volatile ≡ old.volatile → IsLonger 1 old after
  appended_longer dirty old next store =
      let more = ap length done.entries ∙ length-append before.volatile.entries (entry_of m before.log.next (Identity x pair.bytes) ∷ []) in
      let same = ap (λ (s : Volatile). length s.entries) store in
      let later = ap (λ (r : RecordLogView). r.next) done.log in
      record {
        next = omega (arith, later, next);
        entries = omega (arith, more, same);
        dirty = λ y. written_dirty m x pair before after had done dirty y ∙ ap (λ (s : Volatile). is_dirty s.objects.cache y) store;
      }

-- a flush
pub flushed_laid : (old new : Laid) (x : ℕ) (pair : Pair) (file later : List ℕ) → IsLaidOn old file → held old.cache x ≡ Some pair → AreOf new.slots later
    → IsReplaced old.slots.params x (cell_of_entry pair) file later → IsFlushed old new x → ((y : ℕ) (other : Pair) → held old.cache y ≡ Some other → y < old.slots.params.objects) → IsLaidOn new later
flushed_laid old new x pair file later laid had slots replaced is below = record {
  slots = slots;
  clean = λ y other clean there. elim (cases_eq x y) [
    | inl e ↦ subst (λ (z : ℕ). held new.cache z ≡ Some other → cell_of z later ≡ cell_of_entry other) e (own other) there
    | inr ne ↦
        let was = is.others y (ne_eqb x y ne) in
        let before : held old.cache y ≡ Some other = ⊎_elim (λ same. sym same ∙ there) (λ gone. none_some (held new.cache y) other gone.1 there) was.entry in
        replaced.others y (below y other before) (λ e. ne (sym e)) ∙ laid.clean y other (sym was.dirty ∙ clean) before
  ];
}
  where
    none_some : {B : Type 0} (o : Option Pair) (pair : Pair) → o ≡ None → o ≡ Some pair → B
    none_some o pair none some = let h : None ≡ Some pair = sym none ∙ some in cc

    own : (other : Pair) → held new.cache x ≡ Some other → cell_of x later ≡ cell_of_entry other
    own other there =
        let same : held old.cache x ≡ Some other = ⊎_elim (λ kept. sym kept ∙ there) (λ gone. none_some (held new.cache x) other gone there) is.entry in
        replaced.held ∙ ap (λ (o : Option Pair). cell_of_some (cell_of_entry pair) o) (sym had ∙ same)
      where
        cell_of_some : Cell → Option Pair → Cell
        cell_of_some d None = d
        cell_of_some d (Some e) = cell_of_entry e
