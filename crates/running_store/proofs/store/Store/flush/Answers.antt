use Rattle.std.proofs.Common.{rules, ◌≡◌, ◌⊎◌, ◌∙◌, ap, sym, subst, inl, inr, Bool, List, ℕ, Option, Some, None, Ok, true, false, nat_eq}
use Rattle.std.specs.Prelude.{length, OnErr, OnOk, Result}
use Rattle.std.proofs.lemmas.Bool.{both_ways, cases_eq, ne_eqb}
use Rattle.disk_model.specs.Disk.{Disk, IsSettled, LeavesOnly}
use Rattle.disk_model.specs.declared.machine.FileNo.TheVariants.{Objects}
use Rattle.formats.specs.Objects.{bounds_of}
use Rattle.formats.specs.declared.params.Params.{Params}
use Rattle.dirty_cache.specs.Contents.{Contents, IsSameOrForgotten, cell_of_entry, held, is_dirty}
use Rattle.dirty_cache.specs.declared.entry.Entry.{Entry as Pair}
use Rattle.install_order.specs.declared.entry.Entry.{Entry}
use Rattle.log_records.specs.RecordLog.{RecordLogView}
use Rattle.stable_objects.specs.Replacing.{IsOldOrNew, IsRenewed, IsReplaced}
use Rattle.stable_objects.specs.SlotsView.{AreOf}
use Rattle.explain_core.specs.TurnLaws.{run_none}
use Rattle.explain_core.specs.World.{World, Step, run}
use Rattle.standing.specs.Moments.{TakesSome}
use Rattle.running_store.specs.Courses.{flush_steps}
use Rattle.running_store.specs.Calls.Faults.{has_failed}
use Rattle.running_store.specs.Laid.Flushed.{IsFlushed}
use Rattle.running_store.specs.Parts.InUse.{dirty_held, none_some}
use Rattle.running_store.specs.Laid.{Laid, lsn_or}
use Rattle.running_store.specs.Laid.Lengths.{AreKept}
use Rattle.running_store.specs.Parts.{VolatileShows, meaning_in, parts}
use Rattle.running_store.specs.Parts.Stored.{stays_shown}
use Rattle.running_store.specs.StoreView.{IsUsable, StoreView, view_of}
use Rattle.running_store.proofs.FlushLemmas.{EndsFlush, first_dirty, flush_ends, flush_none, flush_taken}
use Rattle.running_store.proofs.Inside.{flag_after, usable_before}
use Rattle.running_store.proofs.LaidLemmas.{kept_failed, kept_flushed}
use Rattle.running_store.proofs.store.Store.flush.Given.{Over}
use Rattle.running_store.proofs.store.Store.flush.Goals.{After-note}
use Rattle.running_store.proofs.store.Store.flush.Goals as goal

module _ (g : Over) (c : After-note g) where
  abbrev old : Disk
  old = g.M.Machine.disk c.args.machine.now

  abbrev new : Disk
  new = g.M.Machine.disk c.replace-answer.new.machine

  abbrev log : RecordLogView
  log = c.self-inside.inside.0.1.0

  abbrev objects : Laid
  objects = record { slots = c.self-inside.inside.0.1.1.0.slots; cache = c.self-inside.inside.0.1.1.0.cache }

  abbrev entries : List Entry
  entries = c.self-inside.inside.0.1.1.1.0.entries

  abbrev identities : ℕ
  identities = c.self-inside.inside.0.1.1.1.1.0

  abbrev broken : Bool
  broken = c.self-inside.inside.0.1.1.1.1.1.0

  abbrev x : ℕ
  x = c.in-Some.x.now

  abbrev pair : Pair
  pair = c.in-Some-entry.entry.now

  is : view_of log objects entries identities broken ≡ c.args.self.now
  is = (λ i. view_of (c.self-inside.view_is i).log (c.self-inside.view_is i).objects (c.self-inside.view_is i).graph.entries (c.self-inside.view_is i).identities (c.self-inside.view_is i).broken) ∙ c.self.view_is

  had : held objects.cache x ≡ Some pair
  had = sym c.in-Some-entry.ensures.value

  dirty : is_dirty objects.cache x ≡ true
  dirty = ap (λ (s : StoreView). is_dirty s.parts.volatile.objects.cache x) is ∙ first_dirty c.args.self.now.parts.volatile.objects.cache x c.args.work.now (sym c.in-Some.ensures.value) c.requires.dirty

  used : IsUsable (parts log objects entries) identities
  used =
      subst (λ (s : StoreView). IsUsable s.parts s.identities) (c.self.view_is ∙ sym is)
      (usable_before c.self.inside.log c.self.inside.objects c.self.inside.graph.entries c.self.inside.identities c.self.inside.broken c.args.self.now c.self.view_is c.self.invariant c.requires.unbroken)

  leaves : old.tells_moments → IsSettled old → AreOf objects.slots (old.reads Objects) → LeavesOnly old new (IsOldOrNew old objects.slots.params x (cell_of_entry pair))
  leaves =
      subst (λ (bytes : List ℕ). old.tells_moments → IsSettled old → AreOf objects.slots (old.reads Objects) → LeavesOnly old new (IsOldOrNew old objects.slots.params x (record { lsn = pair.lsn; value = bytes })))
      c.as_slice.ensures c.replace-answer.ensures.any_moment

  taken : old.tells_moments → (p : Params) (w : World g.row.O.Denot) (node : ℕ → Bool) → VolatileShows (meaning_in g.O.Oper.meaning p) p old c.args.self.now.parts.volatile w → TakesSome (meaning_in g.O.Oper.meaning p) p old new w (flush_steps (meaning_in g.O.Oper.meaning p) node c.args.work.now)
  taken = flush_taken g.O.Oper.meaning old new log objects entries identities broken c.args.self.now is x pair c.args.work.now (sym c.in-Some.ensures.value) had leaves

  module _ (value : Unit {0}) (was : c.replace-answer.result ≡ Ok value) (cache : Contents) (entry : (held cache x ≡ held objects.cache x) ⊎ (held cache x ≡ None)) (clean : is_dirty cache x ≡ false)
      (others : (y : ℕ) → nat_eq x y ≡ false → IsSameOrForgotten objects.cache cache y) where
    abbrev later : Laid
    later = record { slots = c.replace-answer.new.self; cache = cache }

    done : (P : Type 0) → OnOk c.replace-answer.result P → P
    done P is = subst (λ (r : Result _ _). OnOk r P) was is

    renewed : IsRenewed objects.slots later.slots x pair.lsn (length pair.bytes)
    renewed = subst (λ (bytes : List ℕ). IsRenewed objects.slots later.slots x pair.lsn (length bytes)) c.as_slice.ensures (done _ c.replace-answer.ensures.renewed)

    kept : AreKept later c.self-inside.inside.0.1.1.0.empties.marks
    kept =
        kept_flushed objects later.slots c.replace-answer.ensures.layout c.self-inside.inside.0.1.1.0.empties.marks c.self-inside.invariant cache x pair had dirty renewed.long_is renewed.other_lengths entry clean others

    flushed : IsFlushed objects later x
    flushed = record {
      layout = c.replace-answer.ensures.layout;
      lsn = λ other there. renewed.lsn_is ∙ ap (λ (o : Option Pair). lsn_or o 0) (sym had ∙ there);
      other_lsns = renewed.other_lsns;
      entry = entry;
      clean = clean;
      others = others;
    }

    replaced : old.tells_files → AreOf objects.slots (old.reads Objects) → AreOf later.slots (new.reads Objects) × IsReplaced objects.slots.params x (cell_of_entry pair) (old.reads Objects) (new.reads Objects)
    replaced told are =
        subst (λ (bytes : List ℕ). AreOf later.slots (new.reads Objects) × IsReplaced objects.slots.params x (record { lsn = pair.lsn; value = bytes }) (old.reads Objects) (new.reads Objects)) c.as_slice.ensures
        (done _ (c.replace-answer.ensures.replaced told are))

    still_dirty : (y : ℕ) → is_dirty cache y ≡ true → is_dirty c.args.self.now.parts.volatile.objects.cache y ≡ true
    still_dirty y dirty = elim (cases_eq x y) [
      | inl e ↦ absurd (both_ways _ (subst (λ (z : ℕ). is_dirty cache z ≡ false) e clean) dirty)
      | inr ne ↦ ap (λ (s : StoreView). is_dirty s.parts.volatile.objects.cache y) (sym is) ∙ sym (others y (ne_eqb x y ne)).dirty ∙ dirty
    ]

    unset : c.note.new.broken ≡ false
    unset =
        flag_after log objects entries identities broken c.args.self.now is c.note.new.broken (has_failed (λ e. true) c.replace-answer.result) c.requires.unbroken c.note.ensures
        ∙ ap (λ (r : Result _ _). has_failed (λ e. true) r) was

    ends : EndsFlush g.O.Oper.meaning old new c.args.self.now (view_of log later entries identities c.note.new.broken) c.args.work.now
    ends =
        flush_ends g.O.Oper.meaning old new log objects entries identities broken c.args.self.now is x pair c.args.work.now (sym c.in-Some.ensures.value) had c.note.new.broken later unset used dirty c.replace-answer.ensures.runs flushed
        (λ settled. done (IsSettled new) (c.replace-answer.ensures.settled settled)) replaced (λ y other there. (c.self-inside.invariant.cached.each y other there).0) c.slot_gate_keeps.ensures

pub returns-in_default-clause-shows : goal.returns-in_default-clause-shows
returns-in_default-clause-shows g c = λ p w node shows allowed.
    let m = g.O.Oper.meaning (bounds_of p) in
    let d = g.M.Machine.disk c.args.machine.now in
    subst (λ (l : List (Step g.row.O.Denot)). VolatileShows m p d c.args.self.now.parts.volatile (run m w l)) (flush_none m node c.args.work.now (sym c.in_default.ensures.value))
    (subst (λ (v : World g.row.O.Denot). VolatileShows m p d c.args.self.now.parts.volatile v) (sym (run_none m w)) shows)

pub returns-in_default-clause-steps : goal.returns-in_default-clause-steps
returns-in_default-clause-steps g c = λ told p w node shows.
    let m = g.O.Oper.meaning (bounds_of p) in
    stays_shown m p (g.M.Machine.disk c.args.machine.now) c.args.self.now.parts.volatile w (flush_steps m node c.args.work.now) (g.met.M.Machine.lawful c.args.machine.now) told shows

-- what is dirty is cached
pub returns-in_default-entry-clause-shows : goal.returns-in_default-entry-clause-shows
returns-in_default-entry-clause-shows g c = λ p w node shows allowed.
    let x = c.in-Some.x.now in
    let cache = c.args.self.now.parts.volatile.objects.cache in
    let pair = dirty_held cache x (first_dirty cache x c.args.work.now (sym c.in-Some.ensures.value) c.requires.dirty) in
    let same = (λ i. held (c.self-inside.view_is i).objects.cache x) ∙ ap (λ (s : StoreView). held s.parts.volatile.objects.cache x) c.self.view_is in
    none_some (held cache x) pair.0 (sym same ∙ sym c.in_default-entry.ensures.value) pair.1

pub returns-in_default-entry-clause-steps : goal.returns-in_default-entry-clause-steps
returns-in_default-entry-clause-steps g c = λ told p w node shows.
    let m = g.O.Oper.meaning (bounds_of p) in
    stays_shown m p (g.M.Machine.disk c.args.machine.now) c.args.self.now.parts.volatile w (flush_steps m node c.args.work.now) (g.met.M.Machine.lawful c.args.machine.now) told shows

pub returns-in_err-answer-clause-steps : goal.returns-in_err-answer-clause-steps
returns-in_err-answer-clause-steps g c = taken g (goal.at.returns-in_err-answer-clause-steps g c).After-note

pub mark_clean-requires : goal.mark_clean-requires
mark_clean-requires g c =
    let x = c.in-Some.x.now in
    (λ i. is_dirty (c.self-inside.view_is i).objects.cache x) ∙ ap (λ (s : StoreView). is_dirty s.parts.volatile.objects.cache x) c.self.view_is
    ∙ first_dirty c.args.self.now.parts.volatile.objects.cache x c.args.work.now (sym c.in-Some.ensures.value) c.requires.dirty

pub invariant_of-self-inside : goal.invariant_of-self-inside
invariant_of-self-inside g c =
    kept_failed (record { slots = c.self-inside.inside.0.1.1.0.slots; cache = c.self-inside.inside.0.1.1.0.cache }) c.replace-answer.new.self c.replace-answer.ensures.layout c.self-inside.inside.0.1.1.0.empties.marks c.self-inside.invariant
    (subst (λ (r : Result _ _). OnErr r (c.replace-answer.new.self.lengths ≡ c.self-inside.inside.0.1.1.0.slots.lengths)) c.in_err-answer.was c.replace-answer.ensures.lengths)

pub invariant_of-self-inside-2 : goal.invariant_of-self-inside-2
invariant_of-self-inside-2 g c =
    let clean = c.mark_clean.ensures in
    kept g (goal.at.invariant_of-self-inside-2 g c).After-note c.in_ok-answer.field-0 c.in_ok-answer.was c.mark_clean.new.self clean.entry clean.clean clean.others

pub invariant_of-self-2 : goal.invariant_of-self-2
invariant_of-self-2 g c = λ fine.
    let clean = c.mark_clean.ensures in
    (ends g (goal.at.invariant_of-self-2 g c).After-note c.in_ok-answer.field-0 c.in_ok-answer.was c.mark_clean.new.self clean.entry clean.clean clean.others).usable

pub returns : goal.returns
returns g c =
    let clean = c.mark_clean.ensures in
    record {
      call = (ends g (goal.at.returns g c).After-note c.in_ok-answer.field-0 c.in_ok-answer.was c.mark_clean.new.self clean.entry clean.clean clean.others).call;
      beside = (ends g (goal.at.returns g c).After-note c.in_ok-answer.field-0 c.in_ok-answer.was c.mark_clean.new.self clean.entry clean.clean clean.others).beside;
      entries = search rules;
      dirty = still_dirty g (goal.at.returns g c).After-note c.in_ok-answer.field-0 c.in_ok-answer.was c.mark_clean.new.self clean.entry clean.clean clean.others;
      shows = (ends g (goal.at.returns g c).After-note c.in_ok-answer.field-0 c.in_ok-answer.was c.mark_clean.new.self clean.entry clean.clean clean.others).shows;
      steps = taken g (goal.at.returns g c).After-note;
    }

pub returns-in_default-clause-dirty : goal.returns-in_default-clause-dirty
returns-in_default-clause-dirty g c = λ y dirty. dirty

pub returns-in_default-entry-clause-dirty : goal.returns-in_default-entry-clause-dirty
returns-in_default-entry-clause-dirty g c = λ y dirty. dirty
