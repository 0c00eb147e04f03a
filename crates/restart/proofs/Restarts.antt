-- A restart takes its course, step by step.
use Rattle.std.proofs.Common.{◌≡◌, ◌∙◌, sym, ap, subst, ℕ, List, [], ◌∷◌, map, refl, arith}
use Rattle.std.proofs.lemmas.List.{take-take}
use Rattle.disk_model.specs.Disk.{Files, Disk, IsDisk, Passes, Stays, LeavesOnly}
use Rattle.disk_model.specs.Silent.{IsSilent, silent_weaker}
use Rattle.disk_model.specs.declared.machine.FileNo.TheVariants.{Objects}
use Rattle.oper_core.specs.Meaning.{Meaning}
use Rattle.oper_core.specs.declared.bounds.Bounds.{Bounds}
use Rattle.formats.specs.Image.{EndsAt}
use Rattle.formats.specs.Log.{end_of}
use Rattle.formats.specs.Objects.{bounds_of}
use Rattle.formats.specs.Records.{payload_of, records_of}
use Rattle.formats.specs.declared.params.Params.{Params}
use Rattle.log_blocks.specs.Laws.{one_in_force}
use Rattle.log_blocks.specs.LogView.{end_with, used_of}
use Rattle.log_records.specs.RecordLog.{RecordLogView, Keeps}
use Rattle.log_records.specs.Uniqueness.{log_of}
use Rattle.stable_objects.specs.Laws.{one_store}
use Rattle.stable_objects.specs.SlotsView.{AreOf}
use Rattle.explain_core.specs.History.{Member}
use Rattle.explain_core.specs.Sound.{IsSound}
use Rattle.explain_core.specs.Taken.{after_behind, after_none}
use Rattle.explain_core.specs.World.{World, step, run}
use Rattle.explain_core.specs.World.Step.{Crash}
use Rattle.explain_core.specs.declared.marks.Marks.{Marks}
use Rattle.standing.specs.Moments.{ShowsSome, TakesSome}
use Rattle.standing.specs.Standing.{FilesShow}
use Rattle.analysis_pass.specs.Analysis.{PlanView}
use Rattle.running_store.specs.Kept.{IsAttached}
use Rattle.running_store.specs.Laid.{IsLaidOn}
use Rattle.running_store.specs.Parts.{Parts, meaning_in}
use Rattle.running_store.specs.Taking.{IsAfter}
use Rattle.restart.specs.Courses.{opening_course, restart_course}
use Rattle.restart.specs.Loading.{IsRead}
use Rattle.restart.specs.Opening.{OpensOn, OpensThrough}
use Rattle.restart.specs.Redoing.{IsToRedo}
use Rattle.restart.specs.Starts.{then_leaves}

-- a world just after a crash is as another crash leaves it
pub crash_twice : {O : Type 0} (m : Meaning O) (w : World O) → step m (step m w Crash) Crash ≡ step m w Crash
unfolding step
crash_twice m w = ap (λ (h : List (Member _)). record (step m w Crash) { history = h }) (take-take w.forced w.forced w.history (omega arith))

-- no block waits
no_waiting : (log : RecordLogView) → log.log.pending ≡ [] → used_of log.log ≡ log.log.end
no_waiting log none = ap (λ (bytes : List ℕ). end_with log.log.end bytes) none

module _ {O : Type 0} (meaning : Bounds → Meaning O) (old d : Disk) (kept : Stays old d) (it : Parts) (plan : PlanView) (bounds : it.log.bounds ≡ bounds_of it.volatile.objects.slots.params) where
  -- what was read is attached
  pub read_attached : (old.tells_files → IsRead meaning old.reads d it plan) → IsAttached meaning d it
  read_attached read told_d =
      let told = kept.time.files_told.1 told_d in
      let is = read told in (
        subst (λ (f : Files). IsLaidOn it.volatile.objects (f Objects)) (sym (kept.reads told)) is.filed.laid,
        record { stable = records_of is.filed.groups; pending = []; keeps = subst (λ (b : Bounds). Keeps (meaning b) d it.log (records_of is.filed.groups) []) (sym bounds) is.keeps },
      )

  module _ (p : Params) (used : ℕ) (w : World O) (opens : OpensOn (meaning_in meaning p) p old used w) where
    abbrev m : Meaning O
    m = meaning_in meaning p

    abbrev crashed : World O
    crashed = step m w Crash

    -- the world after the crash is found in the files, and is to be redone
    pub to_redo : IsRead meaning old.reads d it plan → IsSound m crashed → FilesShow m p old.reads crashed → IsToRedo m p d it plan crashed
    to_redo read sound shows =
        let same : it.volatile.objects.slots.params ≡ p = one_store it.volatile.objects.slots.params p (old.reads Objects) read.filed.laid.slots.whole opens.shows.objects in
        let files = sym (kept.reads opens.told) in
        record {
          told = kept.time.files_told.0 opens.told;
          found = record {
            shows = subst (λ (f : Files). FilesShow m p f crashed) files shows;
            sound = sound;
            crashed = crash_twice m w;
            commands_are = refl;
          };
          params = same;
          bounds = bounds ∙ ap (λ (q : Params). bounds_of q) same;
          of_file = subst (λ (f : Files). AreOf it.volatile.objects.slots (f Objects)) files read.filed.laid.slots;
          stable = records_of read.filed.groups;
          keeps = subst (λ (q : Params). Keeps (meaning_in meaning q) d it.log (records_of read.filed.groups) []) same read.keeps;
          planned = read.filed.planned;
        }

    module _ (to : IsToRedo m p d it plan crashed) (marks : Marks) (new : Disk) where
      -- the log that is loaded is as long as that of the files
      used_is : used_of it.log.log ≡ used
      used_is =
          let keeps = to.keeps in
          let ends = subst (λ (f : Files). EndsAt f used) (sym (kept.reads opens.told)) opens.ends in
          let same = one_in_force it.log.log.active ends.active it.log.log.header ends.header (map (payload_of m) keeps.groups) ends.payloads d.reads (log_of m (record { in_force = keeps.in_force; log = keeps.file })) ends.log in
          no_waiting it.log keeps.pending_are ∙ keeps.place ∙ ap end_of same.2 ∙ sym ends.here

      -- the whole course is taken with that of the opening
      pub whole_after : (after : Parts) → IsAfter m p new after crashed (opening_course m marks crashed (used_of it.log.log)) → IsAfter m p new after w (restart_course m marks w used)
      unfolding run
      whole_after after opened =
          let is = subst (λ (n : ℕ). IsAfter m p new after crashed (opening_course m marks crashed n)) used_is opened in
          record { shows = is.shows; used = is.used }

      -- and what a crash leaves within the opening is after some first steps of the whole
      pub whole_moments : old.tells_moments → TakesSome m p d new crashed (opening_course m marks crashed (used_of it.log.log)).steps → OpensThrough m p old new w (restart_course m marks w used).steps
      unfolding run
      whole_moments told taken =
          let xs = (opening_course m marks crashed used).steps in
          let whole = (restart_course m marks w used).steps in
          let front = silent_weaker d new (ShowsSome m p crashed xs) (ShowsSome m p w whole) (λ files is. after_behind m (FilesShow m p files) w (Crash ∷ []) xs is)
          (subst (λ (n : ℕ). TakesSome m p d new crashed (opening_course m marks crashed n).steps) used_is taken) in
          then_leaves old d new (IsSilent (ShowsSome m p w whole) old.said) kept told
          (subst (λ (s : List ℕ). LeavesOnly d new (IsSilent (ShowsSome m p w whole) s)) (kept.said opens.told) front)

      -- what reads give is one of these images
      pub whole_reads : old.tells_moments → IsDisk new → Passes d new → TakesSome m p d new crashed (opening_course m marks crashed (used_of it.log.log)).steps → ShowsSome m p w (restart_course m marks w used).steps new.reads
      unfolding run
      whole_reads told lawful time taken =
          let xs = (opening_course m marks crashed used).steps in
          let now = lawful.as_read (time.moments_told.0 (kept.time.moments_told.0 told)) in
          let since = lawful.among d.clock new.clock new.reads new.said time.later (omega arith) now in
          let is = subst (λ (n : ℕ). TakesSome m p d new crashed (opening_course m marks crashed n).steps) used_is taken in
          after_behind m (FilesShow m p new.reads) w (Crash ∷ []) xs (is.each new.reads new.said since).holds

-- where nothing was loaded they give what they gave
pub unread_shows : {O : Type 0} (m : Meaning O) (p : Params) (old new : Disk) (marks : Marks) (used : ℕ) (w : World O) → Stays old new → OpensOn m p old used w → ShowsSome m p w (restart_course m marks w used).steps new.reads
unread_shows m p old new marks used w kept opens =
    after_none m (FilesShow m p new.reads) w (restart_course m marks w used).steps (subst (λ (f : Files). FilesShow m p f w) (sym (kept.reads opens.told)) opens.shows)
