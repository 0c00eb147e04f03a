-- What a redo of what was loaded makes of the world, and the checkpoint after it.
use Rattle.std.proofs.Common.{◌≡◌, ◌∙◌, sym, ap, subst, ℕ, zero, suc, ◌++◌, ◌-◌, ◌*◌, List, [], ◌∷◌, map, refl, arith, ⊎_elim, inr, nat_lt, ◌<◌, ◌≢◌}
use Rattle.std.proofs.lemmas.List.{drop_all}
use Rattle.disk_model.specs.Disk.{Files, Disk, Rises, Stays, IsSettled}
use Rattle.disk_model.specs.Moments.{agreed_before}
use Rattle.disk_model.specs.declared.machine.FileNo.{FileNo}
use Rattle.disk_model.specs.declared.machine.FileNo.TheVariants.{Objects}
use Rattle.oper_core.specs.Meaning.{Meaning, HasBounds, IsLawful, IsSmall}
use Rattle.oper_core.specs.declared.bounds.Bounds.{Bounds}
use Rattle.formats.specs.Log.{Header}
use Rattle.formats.specs.Objects.{bounds_of, slot_place}
use Rattle.formats.specs.Reading.{FailsBy}
use Rattle.formats.specs.Records.{IsRecordLog, payload_of, records_of}
use Rattle.formats.specs.declared.layout.Layout.{Layout}
use Rattle.formats.specs.declared.params.Params.{Params}
use Rattle.formats.specs.declared.read_err.ReadErr.{ReadErr}
use Rattle.formats.specs.declared.record.Record.{Record}
use Rattle.log_blocks.specs.LogView.{LogView, used_of}
use Rattle.log_records.specs.CodecLaws.{HasCodes}
use Rattle.log_records.specs.Loading.{IsTailFault}
use Rattle.log_records.specs.RecordLog.{RecordLogView, Keeps}
use Rattle.log_records.specs.Rewriting.{from_lsn}
use Rattle.log_records.specs.Uniqueness.{one_records, no_record_fault}
use Rattle.stable_objects.specs.Reading.{IsLongValue, OpensNot, open_from_read}
use Rattle.stable_objects.specs.SlotsView.{SlotsView, AreOf, head, holder_in}
use Rattle.explain_core.specs.KeptLog.{AreQuiet, IsQuiet, quiet_turn, turns_kept, kept_stable}
use Rattle.explain_core.specs.RunLaws.{run-append}
use Rattle.explain_core.specs.Sound.{IsSound}
use Rattle.explain_core.specs.TurnLaws.{turns_next, turns_none}
use Rattle.explain_core.specs.Turns.{turn, turns}
use Rattle.explain_core.specs.World.{World, Step, step, run, end_of}
use Rattle.explain_core.specs.World.Step.{Begin, End, Append, Block_gate, Checkpoint as Take_checkpoint, Slot_gate, Removal, Header_gate, Replay, Crash}
use Rattle.explain_core.specs.declared.marks.Marks.{Marks}
use Rattle.standing.specs.Crashed.{crashed-pending, crashed-stable}
use Rattle.standing.specs.Members.{members_of, tables_in}
use Rattle.standing.specs.Moments.{TakesSome, moments_longer, moments_twice}
use Rattle.standing.specs.Standing.{FilesShow}
use Rattle.analysis_pass.specs.Analysis.{PlanView, plan_table, least_start}
use Rattle.stable_objects.specs.SlotLaws.{place_of_file}
use Rattle.running_store.specs.Calls.Beside.{IsOnObjects}
use Rattle.running_store.specs.Calls.{IsCall, Never}
use Rattle.running_store.specs.Courses.{Course}
use Rattle.running_store.specs.Parts.{Parts, Shows, ShowsLog, meaning_in}
use Rattle.running_store.specs.Parts.Stored.{keeps_beside}
use Rattle.running_store.specs.StoreView.{StoreView}
use Rattle.running_store.specs.Taking.{Ending, IsAfter, Takes}
use Rattle.running_store.specs.Taking.Ending.{Done}
use Rattle.checkpointing.specs.Courses.{closing_course}
use Rattle.redo_pass.specs.Redo.{IsRedoDue, IsLogDue, IsRedone, redo_steps, redone_world}
use Rattle.redo_pass.specs.Causes.{IsSlotFault}
use Rattle.restart.specs.Courses.{opening_course}
use Rattle.restart.specs.Damage.{IsFoundInRedo, IsReadAsDamaged}
use Rattle.restart.specs.DamageLaws.{codes_in}
use Rattle.restart.specs.Loading.{IsFiled, IsRead}
use Rattle.restart.specs.Redoing.{IsToRedo}
use Rattle.restart.proofs.Opened.{filed_well_formed, holder_two, opens_not}

-- no quiet step changes what is stable of a checkpoint that waits
step_pending : {O : Type 0} (m : Meaning O) (w : World O) (s : Step O) → IsQuiet s → (step m w s).pending ≡ w.pending
unfolding step
step_pending m w Begin q = absurd q
step_pending m w End q = absurd q
step_pending m w (Append member) q = absurd q
step_pending m w Block_gate q = absurd q
step_pending m w Take_checkpoint q = absurd q
step_pending m w (Slot_gate node x) q = refl
step_pending m w (Removal node) q = refl
step_pending m w (Header_gate base) q = absurd q
step_pending m w Replay q = refl
step_pending m w Crash q = absurd q

run_pending : {O : Type 0} (m : Meaning O) (w : World O) (steps : List (Step O)) → AreQuiet steps → (run m w steps).pending ≡ w.pending
unfolding run
run_pending m w [] q = refl
run_pending m w (s ∷ steps) q = run_pending m (step m w s) steps q.1 ∙ step_pending m w s q.0

quiet_append : {O : Type 0} (xs ys : List (Step O)) → AreQuiet xs → AreQuiet ys → AreQuiet (xs ++ ys)
quiet_append [] ys a b = b
quiet_append (x ∷ xs) ys a b = (a.0, quiet_append xs ys a.1 b)

quiet_turns : {O : Type 0} (m : Meaning O) (marks : Marks) (n : ℕ) (w : World O) → AreQuiet (turns m marks n w)
quiet_turns {O} m marks zero w = subst (λ (l : List (Step O)). AreQuiet l) (sym (turns_none m marks w)) tt
quiet_turns {O} m marks (suc n) w =
    let first = turn m marks w in
    subst (λ (l : List (Step O)). AreQuiet l) (sym (turns_next m marks n w)) (quiet_append first (turns m marks n (run m w first)) (quiet_turn m marks w) (quiet_turns m marks n (run m w first)))

module _ {O : Type 0} (meaning : Bounds → Meaning O) (p : Params) (codes : HasCodes (meaning_in meaning p)) (d : Disk) (before : StoreView) (plan : PlanView) (w : World O) (to : IsToRedo (meaning_in meaning p) p d before.parts plan w) where
  abbrev m : Meaning O
  m = meaning_in meaning p

  abbrev it : Parts
  it = before.parts

  -- the log and its records are those in which files show a world
  same_log : (e : Disk) (v : World O) (shows : FilesShow m p e.reads v) (keeps : Keeps m e it.log to.stable []) → (it.log.log.header ≡ shows.header) × (to.stable ≡ records_of shows.groups)
  same_log e v shows keeps =
      let same = one_records m codes it.log.log.active shows.active it.log.log.header shows.header keeps.groups shows.groups e.reads (record { in_force = keeps.in_force; log = keeps.file }) shows.log in
      (same.1, sym keeps.stable_are ∙ same.2)

  -- its redo is due, by the plan of these records
  pub is_due : ((slots : SlotsView) (plan : PlanView) → slots.params ≡ p → AreOf slots (d.reads Objects) → plan.table ≡ plan_table to.found.shows.header.base (records_of to.found.shows.groups)
      → plan.start ≡ least_start plan.table.next plan.table.starts → IsRedoDue m p d.reads slots plan (from_lsn plan.start (records_of to.found.shows.groups)) w)
      → IsLogDue m p d it.log it.volatile.objects.slots plan w
  is_due due =
      let planned = to.planned in
      let same = same_log d w to.found.shows to.keeps in
      record {
        stable = to.stable;
        keeps = to.keeps;
        due = subst (λ (l : List (Record O)). IsRedoDue m p d.reads it.volatile.objects.slots plan (from_lsn plan.start l) w) (sym same.1)
            (due it.volatile.objects.slots plan to.params to.of_file (planned.table ∙ (λ i. plan_table (same.0 i).base (same.1 i))) planned.start);
      }

  module _ (marks : Marks) where
    abbrev later : World O
    later = redone_world m marks w

    -- the checkpoint with which the opening ends
    abbrev closing : Course O
    closing = closing_course m later (used_of it.log.log)

    -- what a crash leaves within the redo is after some first steps of the opening
    pub redo_moments : (new : Disk) → TakesSome m p d new w (redo_steps m marks w) → TakesSome m p d new w (opening_course m marks w (used_of it.log.log)).steps
    redo_moments new first = moments_longer m p d new w (redo_steps m marks w) closing.steps first

    -- After the redo parts and files show its world.
    module _ (new : Disk) (after : StoreView) (call : IsCall meaning d new before after 0 Never Done) (objects : IsOnObjects d new before after) where
      settled : IsSettled new
      settled = ⊎_elim (λ failed. absurd failed) (λ kept. kept to.keeps.settled) call.settled

      redone_log : FilesShow m p new.reads later → ShowsLog m new it.log later
      redone_log shows =
          let n = 2 * (end_of w - w.next) in
          let keeps = keeps_beside m p d new it.log to.stable [] (objects.runs.reads to.told).others settled to.keeps in
          let same = same_log new later shows keeps in
          let all = kept_stable w later (turns_kept m marks n w) (crashed-stable m w to.found.crashed to.found.sound) in
          record {
            stable = to.stable;
            pending = [];
            keeps = keeps;
            base = ap (λ (h : Header). h.base) same.0 ∙ shows.base;
            commands_before = ap (λ (h : Header). h.commands) same.0 ∙ shows.commands_before;
            forced = ap (λ (l : List (Record O)). members_of l) same.1 ∙ shows.members;
            waiting = sym (drop_all later.forced later.history (omega (arith, all.0)));
            tables = ap (λ (l : List (Record O)). tables_in l) same.1 ∙ shows.tables;
            pending_tables = sym (run_pending m w (turns m marks n w) (quiet_turns m marks n w) ∙ crashed-pending m w to.found.crashed);
          }

      redone_shows : IsSound m later → IsRedone m p new.reads after.parts.volatile marks w → Shows m p new after.parts later
      redone_shows sound redone =
          let n = 2 * (end_of w - w.next) in
          let kept = turns_kept m marks n w in
          let stable = crashed-stable m w to.found.crashed to.found.sound in
          subst (λ (log : RecordLogView). Shows m p new (record { log = log; volatile = after.parts.volatile }) later) (sym objects.log) (record {
            told = objects.runs.time.files_told.0 to.told;
            running = record { sound = sound; live = redone.live; alone = (kept_stable w later kept stable).1 };
            bounds = to.bounds;
            store = redone.store_shows;
            log = redone_log redone.files_show;
          })

      -- Then the checkpoint is taken.
      module _ (last : Disk) (there : Parts) (sound : IsSound m later) (redone : IsRedone m p new.reads after.parts.volatile marks w) where
        pub opened_after : Takes meaning new last after.parts there (λ m w used. closing_course m w used) Done → IsAfter m p last there w (opening_course m marks w (used_of it.log.log))
        opened_after takes =
            let is = subst (λ (log : RecordLogView). IsAfter m p last there later (closing_course m later (used_of log.log))) objects.log (takes.follows p later (redone_shows sound redone)).1 in
            record { shows = subst (λ (v : World O). Shows m p last there v) (sym (run-append m w (redo_steps m marks w) closing.steps)) is.shows; used = is.used }

        -- and what a crash leaves within it is after some first steps of the opening
        pub checkpoint_moments : {ending : Ending} → d.tells_moments → TakesSome m p d new w (redo_steps m marks w) → Takes meaning new last after.parts there (λ m w used. closing_course m w used) ending
            → TakesSome m p d last w (opening_course m marks w (used_of it.log.log)).steps
        checkpoint_moments told first takes =
            let then = takes.steps (objects.runs.time.moments_told.0 told) p later (redone_shows sound redone) in
            moments_twice m p d new last w (redo_steps m marks w) closing.steps (objects.runs.said to.told) first
            (subst (λ (log : RecordLogView). TakesSome m p new last later (closing_course m later (used_of log.log)).steps) objects.log then)

-- Where a log's file is as in some files, which hold whole records, none of them is reported to be damaged.
pub no_tail_fault : {O : Type 0} (m : Meaning O) → HasCodes m → (d : Disk) (log : LogView) (groups : List (List (Record O))) (was now : Files) (file : FileNo) (place : ℕ)
    → IsRecordLog m log.header groups (was log.active) → now log.active ≡ was log.active → d.agrees now → IsTailFault m d log file place → ⊥
no_tail_fault m codes d log groups was now file place holds same agrees fault =
    let here = subst (IsRecordLog m log.header groups) (sym same) holds in
    no_record_fault m codes log.header groups (now log.active) place here (fault.1 now agrees (map (payload_of m) groups) here.log)

-- why a store that was loaded is not opened
pub opening_fails : {O : Type 0} (meaning : Bounds → Meaning O) (old new : Disk) (before after : Parts) (e : ReadErr) → FailsBy (Rises old.disk_faults new.disk_faults) (IsFoundInRedo meaning old new before after) e
    → OpensNot ⊥ (FailsBy (Rises old.disk_faults new.disk_faults) (IsFoundInRedo meaning old new before after)) (open_from_read e)
opening_fails meaning old new before after = opens_not ⊥ (FailsBy (Rises old.disk_faults new.disk_faults) (IsFoundInRedo meaning old new before after))

module _ {O : Type 0} (meaning : Bounds → Meaning O) (bounded : (b : Bounds) → HasBounds b (meaning b)) (lawful : (b : Bounds) → IsSmall b → IsLawful (meaning b)) (old d new : Disk) (kept : Stays old d) (it after : Parts) (plan : PlanView)
    (bounds : it.log.bounds ≡ bounds_of it.volatile.objects.slots.params) (file : FileNo) (place : ℕ) (found : IsFoundInRedo meaning d new it after file place) where
  abbrev q : Params
  q = it.volatile.objects.slots.params

  -- Of files that were loaded the redo reads no record that breaks its format.
  no_tail : (was now : Files) → IsFiled meaning was it plan → now it.log.log.active ≡ was it.log.log.active → new.agrees now
      → (it.log.log.active ≢ Objects → IsTailFault (meaning it.log.bounds) new it.log.log file place) → ⊥
  no_tail was now is same agrees tail =
      no_tail_fault (meaning_in meaning q) (codes_in meaning bounded lawful q is.laid.slots.whole.in_range) new it.log.log is.groups was now file place is.file.log same agrees
      (subst (λ (b : Bounds). IsTailFault (meaning b) new it.log.log file place) bounds (tail is.file.in_force.a_log))

  -- where the machine reports its files, the redo finds no fault in those that were loaded
  pub redo_never : old.tells_files → IsRead meaning old.reads d it plan → ⊥
  redo_never told read =
      let told_d = kept.time.files_told.0 told in
      let reads = kept.reads told in
      ⊎_elim
      (λ (slot : IsSlotFault d new it.volatile.objects.slots after.volatile.objects.slots file place).
      slot.never told_d (subst (λ (f : Files). AreOf it.volatile.objects.slots (f Objects)) (sym reads) read.filed.laid.slots))
      (no_tail old.reads new.reads read.filed ((found.runs.reads told_d).others it.log.log.active read.filed.file.in_force.a_log ∙ ap (λ (f : Files). f it.log.log.active) reads) (found.runs.ends.agreeing (found.runs.time.files_told.0 told_d)))
      found.fault

  -- In all files that agree at its end, a slot has too long a value, and before the redo they met their format.
  pub redo_damages : ((files : Files) → d.agrees files → IsFiled meaning files it plan) → IsReadAsDamaged meaning old new file place
  redo_damages filed files agrees =
      let was = found.runs.agreed files agrees in
      let is = filed was.0 was.1 in
      ⊎_elim
      (λ (slot : IsSlotFault d new it.volatile.objects.slots after.volatile.objects.slots file place).
      let x = slot.object in
      let long = slot.long in
      let s = holder_in after.volatile.objects.slots x in
      inr (record {
        loaded = was.0;
        before = agreed_before kept was.0 was.1;
        formed = filed_well_formed meaning was.0 it plan is;
        others = was.2.others;
        file_is = long.file_is;
        object = x;
        below = subst (λ (l : Layout). x < l.params.objects) slot.layout long.below;
        slot = s;
        two = holder_two (nat_lt (head after.volatile.objects.slots x 0) (head after.volatile.objects.slots x 1));
        long = subst (λ (at : ℕ). IsLongValue it.volatile.objects.slots.params.cap at (files Objects) place) (place_of_file it.volatile.objects.slots (was.0 Objects) x s is.laid.slots)
            (subst (λ (l : Layout). IsLongValue l.params.cap (slot_place l x s) (files Objects) place) slot.layout (long.long files agrees));
      }))
      (λ tail. absurd (no_tail was.0 files is (was.2.others it.log.log.active is.file.in_force.a_log) agrees tail))
      found.fault
