-- What the flush of an object leaves of a store, and a removal.
use Rattle.std.proofs.Common.{◌≡◌, ◌∙◌, sym, subst, ap, ℕ, ◌<◌, Bool, true, false, List, [], ◌∷◌, inr, refl, arith, Option, None, Some}
use Rattle.std.specs.Prelude.{All, not, slice_get}
use Rattle.std.proofs.lemmas.Bool.{both_ways}
use Rattle.std.specs.List.{filter}
use Rattle.std.proofs.lemmas.List.Elements.{All-head}
use Rattle.disk_model.specs.Disk.{Any, Disk, In, IsSettled, LeavesOnly, Runs, Same}
use Rattle.disk_model.specs.declared.machine.FileNo.TheVariants.{Objects}
use Rattle.oper_core.specs.Meaning.{Meaning}
use Rattle.oper_core.specs.declared.bounds.Bounds.{Bounds}
use Rattle.formats.specs.Objects.{bounds_of}
use Rattle.formats.specs.declared.layout.Layout.{Layout}
use Rattle.formats.specs.declared.params.Params.{Params}
use Rattle.install_order.specs.declared.entry.Entry.{Entry}
use Rattle.log_records.specs.RecordLog.{RecordLogView}
use Rattle.write_graph.specs.Graph.{lsns}
use Rattle.stable_objects.specs.Replacing.{IsOldOrNew, IsReplaced}
use Rattle.stable_objects.specs.SlotsView.{AreOf}
use Rattle.dirty_cache.specs.Contents.{Contents, cell_of_entry, held, is_dirty}
use Rattle.dirty_cache.specs.declared.entry.Entry.{Entry as Pair}
use Rattle.explain_core.specs.RunLaws.{allowed-front, run-append}
use Rattle.explain_core.specs.Sound.{IsSound}
use Rattle.explain_core.specs.World.{World, Step, step, run, AreAllowed, IsAllowed}
use Rattle.explain_core.specs.World.Step.{Slot_gate, Removal}
use Rattle.standing.specs.Moments.{TakesSome}
use Rattle.running_store.specs.Calls.Beside.{IsOnObjectsAlone}
use Rattle.running_store.specs.Calls.{IsCall, Never}
use Rattle.running_store.specs.Courses.{flush_steps, removal_steps}
use Rattle.running_store.specs.Laid.Flushed.{IsFlushed}
use Rattle.running_store.specs.Parts.InUse.{flushed_early, flushed_in_use, lsns_within, removed_in_use}
use Rattle.running_store.specs.Kept.Keeping.{flushed_laid}
use Rattle.running_store.specs.Kept.{KeepsLog}
use Rattle.running_store.specs.Kept.Laws.{beside_log}
use Rattle.running_store.specs.Laid.{IsLaidOn, Laid}
use Rattle.running_store.specs.Parts.{AreInUse, Volatile, VolatileShows, meaning_in, parts, volatile}
use Rattle.running_store.specs.Parts.Stored.{flush_moments, flush_shows, removal_shows, run_one}
use Rattle.running_store.specs.StoreView.{IsUsable, StoreView, view_of}
use Rattle.running_store.specs.Taking.Ending.{Done}
use Rattle.running_store.proofs.Inside.{call_inside, quiet_one}

-- the first of some objects
starts_with : (x : ℕ) (work : List ℕ) → slice_get work 0 ≡ Some x → (rest : List ℕ) × (work ≡ x ∷ rest)
starts_with x [] is = cc
starts_with x (y ∷ rest) is = (rest, λ i. from_some (is i) ∷ rest)
  where
    from_some : Option ℕ → ℕ
    from_some None = y
    from_some (Some z) = z

pub first_dirty : (cache : Contents) (x : ℕ) (work : List ℕ) → slice_get work 0 ≡ Some x → All (λ y. is_dirty cache y ≡ true) work → is_dirty cache x ≡ true
first_dirty cache x work is all =
    let front = starts_with x work is in All-head (λ y. is_dirty cache y ≡ true) x front.0 (subst (λ (l : List ℕ). All (λ y. is_dirty cache y ≡ true) l) front.1 all)

flush_first : {O : Type 0} (m : Meaning O) (node : ℕ → Bool) (x : ℕ) (work : List ℕ) → slice_get work 0 ≡ Some x → Slot_gate node x ∷ [] ≡ flush_steps m node work
flush_first m node x work is = ap (flush_steps m node) (sym (starts_with x work is).1)

pub flush_none : {O : Type 0} (m : Meaning O) (node : ℕ → Bool) (work : List ℕ) → slice_get work 0 ≡ None → [] ≡ flush_steps m node work
flush_none m node [] is = refl
flush_none m node (y ∷ work) is = cc

-- what a flush leaves that is done
pub record EndsFlush {O : Type 0} (meaning : Bounds → Meaning O) (old new : Disk) (before after : StoreView) (work : List ℕ) : Type 0 where
  pub usable : IsUsable after.parts after.identities
  pub call : IsCall meaning old new before after 0 Never Done
  pub beside : IsOnObjectsAlone old new before after
  pub shows : (p : Params) (w : World O) (node : ℕ → Bool) → VolatileShows (meaning_in meaning p) p old before.parts.volatile w → AreAllowed (meaning_in meaning p) w (flush_steps (meaning_in meaning p) node work)
      → VolatileShows (meaning_in meaning p) p new after.parts.volatile (run (meaning_in meaning p) w (flush_steps (meaning_in meaning p) node work))

-- The first of some objects goes to its slot.
module _ {O : Type 0} (meaning : Bounds → Meaning O) (old new : Disk) (log : RecordLogView) (objects : Laid) (entries : List Entry) (identities : ℕ) (broken : Bool) (before : StoreView) (is : view_of log objects entries identities broken ≡ before)
    (x : ℕ) (pair : Pair) (work : List ℕ) (at_front : slice_get work 0 ≡ Some x) (had : held objects.cache x ≡ Some pair) where
  shown_here : (p : Params) (w : World O) → VolatileShows (meaning_in meaning p) p old before.parts.volatile w → VolatileShows (meaning_in meaning p) p old (volatile objects entries) w
  shown_here p w shows = subst (λ (s : StoreView). VolatileShows (meaning_in meaning p) p old s.parts.volatile w) (sym is) shows

  -- a crash leaves it there, or not
  pub flush_taken : (old.tells_moments → IsSettled old → AreOf objects.slots (old.reads Objects) → LeavesOnly old new (IsOldOrNew old objects.slots.params x (cell_of_entry pair)))
      → old.tells_moments → (p : Params) (w : World O) (node : ℕ → Bool) → VolatileShows (meaning_in meaning p) p old before.parts.volatile w → TakesSome (meaning_in meaning p) p old new w (flush_steps (meaning_in meaning p) node work)
  flush_taken any_moment told p w node shows =
      let m = meaning_in meaning p in
      let here = shown_here p w shows in
      subst (λ (l : List (Step O)). TakesSome m p old new w l) (flush_first m node x work at_front)
      (flush_moments m p old (volatile objects entries) w here node x pair (here.store.below x pair had) had new
      (subst (λ (q : Params). LeavesOnly old new (IsOldOrNew old q x (cell_of_entry pair))) here.store.params (any_moment told here.settled here.store.laid.slots)))

  -- once it is there
  module _ (flag : Bool) (later : Laid) (unset : flag ≡ false) (used : IsUsable (parts log objects entries) identities) (dirty : is_dirty objects.cache x ≡ true) (runs : Runs (In Objects Any) Same old new) (flushed : IsFlushed objects later x)
      (settled : IsSettled old → IsSettled new) (replaced : old.tells_files → AreOf objects.slots (old.reads Objects) → AreOf later.slots (new.reads Objects) × IsReplaced objects.slots.params x (cell_of_entry pair) (old.reads Objects) (new.reads Objects))
      (below : (y : ℕ) (other : Pair) → held objects.cache y ≡ Some other → y < objects.slots.params.objects) where
    abbrev after : StoreView
    after = view_of log later entries identities flag

    still_laid : old.tells_files → IsLaidOn objects (old.reads Objects) → IsLaidOn later (new.reads Objects)
    still_laid told laid = let done = replaced told laid.slots in flushed_laid objects later x pair (old.reads Objects) (new.reads Objects) laid had done.0 done.1 flushed below

    keeps : KeepsLog meaning old new log log
    keeps told has = beside_log (meaning log.bounds) objects.slots.params old new log told runs (settled has.keeps.settled) has

    pub flush_ends : ((b : Bounds) (w : World O) (node : ℕ → Bool) (y : ℕ) → IsSound (meaning b) w → IsAllowed (meaning b) w (Slot_gate node y) → IsSound (meaning b) (step (meaning b) w (Slot_gate node y)))
        → EndsFlush meaning old new before after work
    flush_ends gate = record {
      usable = record {
        in_use = record {
          bounds = used.in_use.bounds ∙ ap (λ (l : Layout). bounds_of l.params) (sym flushed.layout);
          store = subst (λ (l : Layout). AreInUse l.params log.next (volatile later entries)) (sym flushed.layout) (flushed_in_use objects.slots.params log.next (volatile objects entries) later x used.in_use.store flushed);
          early = flushed_early objects.slots.params log.next (volatile objects entries) later x used.in_use.store dirty flushed used.in_use.early;
        };
        counted = used.counted;
      };
      call = call_inside log objects entries identities broken before is old new log later entries identities flag Done meaning 0 Never (quiet_one old new Objects runs) flushed.layout (omega arith) (omega arith) (inr settled) (inr keeps)
          (inr (λ at told. let told_old = runs.time.files_told.1 told in let was = at told_old in (still_laid told_old was.0, keeps told_old was.1)))
          (λ stop ends. cc) (λ set. absurd (both_ways _ unset set), λ failed. absurd failed) (λ failed. absurd failed);
      beside = subst (λ (s : StoreView). IsOnObjectsAlone old new s after) is (record { objects = record { runs = runs; log = refl; laid = inr still_laid }; entries = λ k all. all });
      shows = λ p w node shows allowed.
          let m = meaning_in meaning p in
          let here = shown_here p w shows in
          let done = replaced here.told here.store.laid.slots in
          let may = subst (λ (l : List (Step O)). AreAllowed m w l) (sym (flush_first m node x work at_front)) allowed in
          subst (λ (l : List (Step O)). VolatileShows m p new (volatile later entries) (run m w l)) (flush_first m node x work at_front)
          (subst (λ (v : World O). VolatileShows m p new (volatile later entries) v) (sym (run_one m w (Slot_gate node x)))
          (flush_shows m p old (volatile objects entries) w here node x pair (here.store.below x pair had) had new later runs (settled here.settled) done.0
          (subst (λ (q : Params). IsReplaced q x (cell_of_entry pair) (old.reads Objects) (new.reads Objects)) here.store.params done.1) flushed (gate (bounds_of p) w node x here.sound may.0)));
    }

-- entries of a store are taken out
module _ (log : RecordLogView) (objects : Laid) (entries rest : List Entry) (identities : ℕ) (broken : Bool) (here : StoreView) (is : view_of log objects entries identities broken ≡ here)
    (node : ℕ → Bool) (removed : rest ≡ filter (λ e. not (node e.lsn)) entries) where
  abbrev left : StoreView
  left = view_of log objects rest identities broken

  pub removal_usable : IsUsable (parts log objects entries) identities → IsUsable (parts log objects rest) identities
  removal_usable used = record {
    in_use = record { bounds = used.in_use.bounds; store = removed_in_use objects.slots.params log.next (volatile objects entries) rest node used.in_use.store removed; early = used.in_use.early };
    counted = used.counted;
  }

  module _ (old new : Disk) (before : StoreView) where
    pub removal_call : {O : Type 0} (meaning : Bounds → Meaning O) → IsCall meaning old new before here 0 Never Done → IsCall meaning old new before left 0 Never Done
    removal_call meaning called =
        let call = subst (λ (s : StoreView). IsCall meaning old new before s 0 Never Done) (sym is) called in
        record {
          quiet = call.quiet;
          layout = call.layout;
          rising = call.rising;
          identities = call.identities;
          settled = call.settled;
          kept = call.kept;
          attached = call.attached;
          stopped = call.stopped;
          broken = call.broken;
          fault = call.fault;
        }

    pub removal_beside : IsOnObjectsAlone old new before here → IsOnObjectsAlone old new before left
    removal_beside was =
        let beside = subst (λ (s : StoreView). IsOnObjectsAlone old new before s) (sym is) was in
        record {
          objects = record { runs = beside.objects.runs; log = beside.objects.log; laid = beside.objects.laid };
          entries = λ k all. subst (λ (l : List Entry). All (λ n. n < k) (lsns l)) (sym removed) (lsns_within k (λ e. not (node e.lsn)) entries (beside.entries k all));
        }

-- a store that shows a world shows, after a flush and a removal, the one after both
pub removal_shown : {O : Type 0} (m : Meaning O) (p : Params) (d : Disk) (w : World O) (node : ℕ → Bool) (work : List ℕ) (it : Volatile) (rest : List Entry) → VolatileShows m p d it (run m w (flush_steps m node work))
    → rest ≡ filter (λ e. not (node e.lsn)) it.entries → AreAllowed m w (removal_steps m node work) → ((v : World O) → IsSound m v → IsAllowed m v (Removal node) → IsSound m (step m v (Removal node)))
    → VolatileShows m p d (volatile it.objects rest) (run m w (removal_steps m node work))
removal_shown {O} m p d w node work it rest shows removed allowed law =
    let v = run m w (flush_steps m node work) in
    let may = (allowed-front m w (flush_steps m node work) (Removal node ∷ []) allowed).1 in
    subst (λ (u : World O). VolatileShows m p d (volatile it.objects rest) u) (sym (run-append m w (flush_steps m node work) (Removal node ∷ []) ∙ run_one m v (Removal node)))
    (removal_shows m p d it v shows node rest removed (law v shows.sound may.0))
