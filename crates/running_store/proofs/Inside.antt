-- What a method of a store leaves, by what the calls on its parts do.
use Rattle.std.proofs.Common.{◌≡◌, ◌∙◌, sym, subst, ap, ℕ, ◌+◌, ◌≤◌, Bool, true, false, List, [], ◌++◌, ◌⊎◌, inl, inr, refl, arith}
use Rattle.std.specs.Prelude.{◌↔◌, ◌||◌, IsErr, OnErr, OnOk, Result, Ok, Err}
use Rattle.std.proofs.lemmas.Bool.{both_ways}
use Rattle.disk_model.specs.Disk.{LeavesOnly, Any, Disk, In, IsSettled, Rises, Runs, Same}
use Rattle.disk_model.specs.Moments.{runs_wider}
use Rattle.disk_model.specs.declared.machine.FileNo.TheVariants.{Objects}
use Rattle.oper_core.specs.Meaning.{Meaning}
use Rattle.oper_core.specs.declared.bounds.Bounds.{Bounds}
use Rattle.formats.specs.Objects.{bounds_of}
use Rattle.formats.specs.declared.params.Params.{Params}
use Rattle.formats.specs.declared.record.Record.{Record}
use Rattle.install_order.specs.declared.entry.Entry.{Entry}
use Rattle.log_blocks.specs.LogView.{used_of}
use Rattle.log_records.specs.RecordLog.{IsForcedPartly, Keeps, RecordLogView}
use Rattle.explain_core.specs.Sound.{IsSound}
use Rattle.explain_core.specs.World.{World, step, IsAllowed}
use Rattle.explain_core.specs.World.Step.{Block_gate}
use Rattle.standing.specs.Moments.{TakesSome}
use Rattle.stable_objects.specs.SlotsView.{layout_of}
use Rattle.running_store.specs.Calls.{IsCall, IsFailed, IsForce, IsRoomMade, Never, ending_of_force, failed_of, with_log}
use Rattle.running_store.specs.Courses.{Course, Stop, course, force_course, force_steps}
use Rattle.running_store.specs.Calls.Faults.{has_failed}
use Rattle.running_store.specs.Calls.Fetches.{IsFetch}
use Rattle.running_store.specs.Steps.Finished.{IsQuiet}
use Rattle.running_store.specs.Steps.Forced.{IsForced, force_is_gate, force_moments, forced_shows}
use Rattle.running_store.specs.Kept.Keeping.{forced_attached}
use Rattle.running_store.specs.Kept.{IsAttached, KeepsLog}
use Rattle.running_store.specs.Kept.Laws.{forced_log}
use Rattle.running_store.specs.Laid.{Laid}
use Rattle.running_store.specs.Parts.{Parts, Shows, Volatile, meaning_in, parts, volatile}
use Rattle.running_store.specs.Parts.Reads.{read_in_use}
use Rattle.running_store.specs.StoreView.{IsUsable, StoreView, view_of}
use Rattle.running_store.specs.Taking.{Ending, Takes}
use Rattle.running_store.specs.Taking.Ending.{Done, Stopped, Failed}
use Rattle.running_store.specs.Taking.Laws.{takes_failed}
use Rattle.running_store.specs.Parts.Unchanged.{HasRead}

-- a call on one file is quiet
pub quiet_one : (old new : Disk) (file : _) → Runs (In file Any) Same old new → IsQuiet old new
quiet_one old new file runs = runs_wider old new (In file Any) (λ a b. Unit {0}) (λ a b changed. tt) runs

module _ (log : RecordLogView) (objects : Laid) (entries : List Entry) (identities : ℕ) (broken : Bool) (before : StoreView) (is : view_of log objects entries identities broken ≡ before) where
  -- its flag is not set
  pub flag_before : before.broken ≡ false → broken ≡ false
  flag_before fine = ap (λ (s : StoreView). s.broken) is ∙ fine

  -- a store that is not broken may be used
  pub usable_before : (broken ≡ false → IsUsable (parts log objects entries) identities) → before.broken ≡ false → IsUsable (parts log objects entries) identities
  usable_before invariant fine = invariant (flag_before fine)

  -- then it is set if the call failed
  pub flag_after : (flag failed : Bool) → before.broken ≡ false → flag ≡ (broken || failed) → flag ≡ failed
  flag_after flag failed fine sets = sets ∙ ap (λ (b : Bool). b || failed) (flag_before fine)

  -- a store that is as it was, but perhaps broken
  pub read_same : (flag failed : Bool) → before.broken ≡ false → flag ≡ (broken || failed) → view_of log objects entries identities flag ≡ record before { broken = failed }
  read_same flag failed fine sets =
      subst (λ (s : StoreView). view_of log objects entries identities flag ≡ record s { broken = failed }) is (λ i. view_of log objects entries identities (flag_after flag failed fine sets i))

  module _ (old new : Disk) (after_log : RecordLogView) (after_objects : Laid) (after_entries : List Entry) (after_identities : ℕ) (flag : Bool) (ending : Ending) where
    abbrev outside : StoreView
    outside = view_of after_log after_objects after_entries after_identities flag

    pub call_inside : {O : Type 0} (meaning : Bounds → Meaning O) (logged : ℕ) (stops : RecordLogView → Stop → Type 0) → IsQuiet old new → layout_of after_objects.slots ≡ layout_of objects.slots → log.next ≤ after_log.next
        → after_identities ≡ identities + logged → IsFailed ending ⊎ (IsSettled old → IsSettled new) → IsFailed ending ⊎ KeepsLog meaning old new log after_log → IsFailed ending ⊎ (IsAttached meaning old (parts log objects entries) → IsAttached meaning new (parts after_log after_objects after_entries))
        → ((stop : Stop) → ending ≡ Stopped stop → stops after_log stop) → (flag ≡ true) ↔ IsFailed ending → (IsFailed ending → Rises old.disk_faults new.disk_faults)
        → IsCall meaning old new before outside logged stops ending
    call_inside meaning logged stops quiet layout rising counted settled kept attached stopped so fault = subst (λ (s : StoreView). IsCall meaning old new s outside logged stops ending) is (record {
      quiet = quiet;
      layout = layout;
      rising = rising;
      identities = counted;
      settled = settled;
      kept = kept;
      attached = attached;
      stopped = stopped;
      broken = so;
      fault = fault;
    })

    pub takes_inside : {O : Type 0} (meaning : Bounds → Meaning O) (course : Meaning O → World O → ℕ → Course O)
        → Takes meaning old new (parts log objects entries) (parts after_log after_objects after_entries) course ending → Takes meaning old new before.parts outside.parts course ending
    takes_inside meaning course takes = subst (λ (s : StoreView). Takes meaning old new s.parts outside.parts course ending) is takes

-- while a log is forced a crash leaves the world before the force, or the one after it
pub force_leaves : {O : Type 0} (meaning : Bounds → Meaning O) (old new : Disk) (it : Parts)
    → (old.tells_moments → (stable pending : List (Record O)) → Keeps (meaning it.log.bounds) old it.log stable pending → LeavesOnly old new (IsForcedPartly (meaning it.log.bounds) old it.log stable pending))
    → old.tells_moments → (p : Params) (w : World O) → Shows (meaning_in meaning p) p old it w → TakesSome (meaning_in meaning p) p old new w (force_steps (meaning_in meaning p) w)
force_leaves meaning old new it any_moment told p w shows =
    let l = shows.log in
    let own = subst (λ (b : Bounds). Keeps (meaning b) old it.log l.stable l.pending) (sym shows.bounds) l.keeps in
    force_moments (meaning_in meaning p) p old it w shows new (subst (λ (b : Bounds). LeavesOnly old new (IsForcedPartly (meaning b) old it.log l.stable l.pending)) shows.bounds (any_moment told l.stable l.pending own))

-- a force that is done takes its course
pub force_takes : {O : Type 0} (meaning : Bounds → Meaning O) (old new : Disk) (log after : RecordLogView) (it : Volatile) → IsForced log after → Runs (In log.log.active Any) Same old new
    → (old.tells_files → (stable pending : List (Record O)) → Keeps (meaning log.bounds) old log stable pending → Keeps (meaning log.bounds) new after (stable ++ pending) [])
    → ((b : Bounds) (w : World O) → IsSound (meaning b) w → IsAllowed (meaning b) w Block_gate → IsSound (meaning b) (step (meaning b) w Block_gate))
    → (old.tells_moments → (stable pending : List (Record O)) → Keeps (meaning log.bounds) old log stable pending → LeavesOnly old new (IsForcedPartly (meaning log.bounds) old log stable pending))
    → Takes meaning old new (record { log = log; volatile = it }) (record { log = after; volatile = it }) (λ m w used. force_course m w used) Done
force_takes {O} meaning old new log after it forced runs acknowledged gate any_moment = record {
  follows = λ p w shows.
      let m = meaning_in meaning p in
      let l = shows.log in
      let before : Parts = record { log = log; volatile = it } in
      let later : Parts = record { log = after; volatile = it } in
      let own = subst (λ (b : Bounds). Keeps (meaning b) old log l.stable l.pending) (sym shows.bounds) l.keeps in
      let keeps = subst (λ (b : Bounds). Keeps (meaning b) new after (l.stable ++ l.pending) []) shows.bounds (acknowledged shows.told l.stable l.pending own) in
      let objects = (runs.reads shows.told).others Objects (λ e. l.keeps.in_force.a_log (sym e)) in
      let shown = forced_shows m p old before w shows new later (runs.time.files_told.0 shows.told) objects keeps (ap (λ (r : RecordLogView). r.bounds) forced) (ap (λ (r : RecordLogView). r.log.header) forced) refl
      (gate (bounds_of p) w shows.running.sound (shows.running.live, shows.running.alone)) in
      (refl, record { shows = subst (λ (v : World O). Shows m p new later v) (sym (force_is_gate m p old before w shows)) shown; used = ap (λ (r : RecordLogView). used_of r.log) forced });
  steps = force_leaves meaning old new (record { log = log; volatile = it }) any_moment;
}

-- A log is forced, or the disk failed.
module _ (old new : Disk) (log after : RecordLogView) (objects : Laid) (entries : List Entry) (identities : ℕ) (broken flag : Bool) (before : StoreView) (is : view_of log objects entries identities broken ≡ before) (fine : before.broken ≡ false)
    {O : Type 0} (meaning : Bounds → Meaning O) (runs : Runs (In log.log.active Any) Same old new) where
  abbrev forced_store : StoreView
  forced_store = view_of after objects entries identities flag

  unset : broken ≡ false
  unset = flag_before log objects entries identities broken before is fine

  pub force_call : {T E : Type 0} (r : Result T E) → flag ≡ (broken || has_failed (λ e. true) r) → OnOk r (IsForced log after) → OnErr r (after ≡ log) → (IsSettled old → OnOk r (IsSettled new))
      → (old.tells_files → (stable pending : List (Record O)) → Keeps (meaning log.bounds) old log stable pending → OnOk r (Keeps (meaning log.bounds) new after (stable ++ pending) [])) → (IsErr r → Rises old.disk_faults new.disk_faults)
      → IsCall meaning old new before forced_store 0 Never (ending_of_force r)
  force_call (Ok value) sets forced kept settled acknowledged cause =
      let keeps = forced_log meaning old new log after forced acknowledged in
      call_inside log objects entries identities broken before is old new after objects entries identities flag Done meaning 0 Never (quiet_one old new log.log.active runs) refl (omega (arith, ap (λ (l : RecordLogView). l.next) forced)) (omega arith)
      (inr settled) (inr keeps) (inr (forced_attached meaning old new log after objects entries runs keeps)) (λ stop ends. cc)
      (λ set. absurd (both_ways _ (sets ∙ ap (λ (b : Bool). b || false) unset) set), λ failed. absurd failed) (λ failed. absurd failed)
  force_call (Err e) sets forced kept settled acknowledged cause =
      call_inside log objects entries identities broken before is old new after objects entries identities flag Failed meaning 0 Never (quiet_one old new log.log.active runs) refl (omega (arith, ap (λ (l : RecordLogView). l.next) kept)) (omega arith)
      (inl tt) (inl tt) (inl tt) (λ stop ends. cc) (λ set. tt, λ failed. sets ∙ ap (λ (b : Bool). b || true) unset) (λ failed. cause refl)

  pub force_taken : {T E : Type 0} (r : Result T E) → OnOk r (IsForced log after)
      → (old.tells_files → (stable pending : List (Record O)) → Keeps (meaning log.bounds) old log stable pending → OnOk r (Keeps (meaning log.bounds) new after (stable ++ pending) []))
      → ((b : Bounds) (w : World O) → IsSound (meaning b) w → IsAllowed (meaning b) w Block_gate → IsSound (meaning b) (step (meaning b) w Block_gate))
      → (old.tells_moments → (stable pending : List (Record O)) → Keeps (meaning log.bounds) old log stable pending → LeavesOnly old new (IsForcedPartly (meaning log.bounds) old log stable pending))
      → Takes meaning old new before.parts forced_store.parts (λ m w used. force_course m w used) (ending_of_force r)
  force_taken (Ok value) forced acknowledged gate any_moment =
      takes_inside log objects entries identities broken before is old new after objects entries identities flag Done meaning (λ m w used. force_course m w used)
      (force_takes meaning old new log after (volatile objects entries) forced runs acknowledged gate any_moment)
  force_taken (Err e) forced acknowledged gate any_moment =
      takes_inside log objects entries identities broken before is old new after objects entries identities flag Failed meaning (λ m w used. force_course m w used)
      (takes_failed meaning old new (parts log objects entries) (parts after objects entries) (λ m w used. force_course m w used) (force_leaves meaning old new (parts log objects entries) any_moment))

  pub force_is : {T E : Type 0} (r : Result T E) → flag ≡ (broken || has_failed (λ e. true) r) → OnOk r (IsForced log after) → OnErr r (after ≡ log) → IsForce before forced_store r
  force_is (Ok value) sets forced kept =
      let same : flag ≡ broken = sets ∙ ap (λ (b : Bool). b || false) unset ∙ sym unset in
      subst (λ (s : StoreView). IsForced s.parts.log after × (forced_store ≡ with_log s after)) is (forced, λ i. view_of after objects entries identities (same i))
  force_is (Err e) sets forced kept =
      let set : flag ≡ true = sets ∙ ap (λ (b : Bool). b || true) unset in
      subst (λ (s : StoreView). forced_store ≡ failed_of s) is (λ i. view_of (kept i) objects entries identities (set i))

pub forced_or_not : {T E : Type 0} (before after : StoreView) (r : Result T E) → IsForce before after r → IsRoomMade before after r
forced_or_not before after (Ok value) is = record {
  long = record { bounds = ap (λ (l : RecordLogView). l.bounds) is.0; next = ap (λ (l : RecordLogView). l.next) is.0; used = ap (λ (l : RecordLogView). used_of l.log) is.0 };
  log = inr is.0;
  same = is.1;
}
forced_or_not before after (Err e) is = is

module _ (old new : Disk) (log : RecordLogView) (objects later : Laid) (entries : List Entry) (identities : ℕ) (broken flag : Bool) (before : StoreView) (is : view_of log objects entries identities broken ≡ before)
    (read : HasRead old new objects later) where
  pub fetch_inside : (failed : Bool) → flag ≡ failed → IsFetch old new before (view_of log later entries identities flag) (failed ≡ true)
  fetch_inside failed same =
      subst (λ (s : StoreView). IsFetch old new s (view_of log later entries identities flag) (failed ≡ true)) is
      (record { read = read; log = refl; entries = refl; identities = refl; broken = (λ set. sym same ∙ set, λ fails. same ∙ fails) })

  pub fetch_usable : IsUsable (parts log objects entries) identities → IsUsable (parts log later entries) identities
  fetch_usable used = record { in_use = read_in_use old new (parts log objects entries) later read used.in_use; counted = used.counted }
