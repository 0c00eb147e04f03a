-- What holds of a member that may come next, once room for it is looked for.
use Rattle.std.proofs.Common.{◌≡◌, ◌∙◌, subst, ap, ℕ, ◌+◌, ◌≤◌, []}
use Rattle.std.specs.Prelude.{IsTrue, Ok, Err}
use Rattle.disk_model.specs.Disk.{Disk}
use Rattle.oper_core.specs.Meaning.{Meaning}
use Rattle.oper_core.specs.declared.bounds.Bounds.{Bounds}
use Rattle.formats.specs.Limits.{log_limit}
use Rattle.formats.specs.declared.params.Params.{Params}
use Rattle.log_blocks.specs.LogView.{used_of}
use Rattle.log_records.specs.RecordLog.{RecordLogView}
use Rattle.explain_core.specs.History.{Member}
use Rattle.explain_core.specs.World.{World}
use Rattle.running_store.specs.Courses.{record_length}
use Rattle.running_store.specs.Parts.{Parts, Shows, meaning_in}
use Rattle.running_store.specs.Taking.{Ending, Takes}
use Rattle.running_store.specs.Taking.Ending.{Done}
use Rattle.running_store.specs.Taking.Laws.{takes_same}
use Rattle.execution.specs.Following.{HasMemberCause, LacksRoom, ending_of_record_error, grown_by, member_course}
use Rattle.execution.specs.Judged.{may_follow}
use Rattle.execution.specs.declared.record_err.RecordErr.{RecordErr}
use Rattle.execution.specs.declared.record_err.RecordErr.TheVariants.{Gap, Differs, LogFull, DiskFault, Damaged, Memory}
use Rattle.execution.proofs.Followed.{full_takes, roomed, unroomed_takes, whole}
use Rattle.execution.proofs.Judging.{may_is}
use Rattle.execution.proofs.Roomed.{stopped_over, through_fits}

module _ {O : Type 0} (meaning : Bounds → Meaning O) (n : ℕ) (member : Member O) (old : Disk) (before : Parts) where
  -- it may come next in each world that is shown, and its record is so long
  abbrev pub MayCome : Type 0
  MayCome = (p : Params) (w : World O) → Shows (meaning_in meaning p) p old before w → IsTrue (may_follow (meaning_in meaning p) (λ x. (w.cache x).value) member) × (n ≡ record_length (meaning_in meaning p) member)

  module _ (may : MayCome) (new : Disk) where
    -- then its course is this
    pub as_member : (after : Parts) (ending : Ending) → Takes meaning old new before after (whole meaning n member) ending → Takes meaning old new before after (λ m w used. member_course m member w used) ending
    as_member after ending takes = takes_same meaning old new before after (whole meaning n member) (λ m w used. member_course m member w used) ending
        (λ p w shows.
        let m = meaning_in meaning p in
        let so = may p w shows in
        ap (λ (k : ℕ). whole meaning k member m w (used_of before.log.log)) so.1 ∙ may_is m w member (used_of before.log.log) so.0) takes

    module _ (room : Parts) where
      -- there is no room for it
      module _ (log : RecordLogView) (rises : Type 0) where
        pub roomless_takes : (e : RecordErr) → LacksRoom log n rises e → Takes meaning old new before room (roomed meaning n member) (ending_of_record_error e)
            → Takes meaning old new before room (λ m w used. member_course m member w used) (ending_of_record_error e)
        roomless_takes (LogFull used need limit) lacks takes = as_member room (ending_of_record_error (LogFull used need limit)) (full_takes meaning n member old new before room used need limit takes)
        roomless_takes DiskFault lacks takes = as_member room Ending.Failed (unroomed_takes meaning n member old new before room takes)
        roomless_takes (Gap expected got) lacks takes = absurd lacks
        roomless_takes (Differs lsn) lacks takes = absurd lacks
        roomless_takes (Damaged file place) lacks takes = absurd lacks
        roomless_takes Memory lacks takes = absurd lacks

        pub roomless_cause : (e : RecordErr) → LacksRoom log n rises e → Takes meaning old new before room (roomed meaning n member) (ending_of_record_error e)
            → (p : Params) (w : World O) → Shows (meaning_in meaning p) p old before w → HasMemberCause (meaning_in meaning p) w (used_of before.log.log) member (Err e)
        roomless_cause (LogFull held need limit) lacks takes p w shows =
            let m = meaning_in meaning p in
            let so = may p w shows in
            let over = stopped_over m w n [] 0 (used_of before.log.log) held need limit (takes.follows p w shows).0 in
            (so.0, over.0, over.1 ∙ ap (λ (k : ℕ). grown_by m w k) so.1, over.2, over.3)
        roomless_cause DiskFault lacks takes p w shows = tt
        roomless_cause (Gap expected got) lacks takes p w shows = absurd lacks
        roomless_cause (Differs lsn) lacks takes p w shows = absurd lacks
        roomless_cause (Damaged file place) lacks takes p w shows = absurd lacks
        roomless_cause Memory lacks takes p w shows = absurd lacks

      -- there is
      pub taken_cause : Takes meaning old new before room (roomed meaning n member) Done
          → (p : Params) (w : World O) → Shows (meaning_in meaning p) p old before w → HasMemberCause (meaning_in meaning p) w (used_of before.log.log) member (Ok tt)
      taken_cause takes p w shows =
          let m = meaning_in meaning p in
          let so = may p w shows in
          let used = used_of before.log.log in
          (so.0, subst (λ (k : ℕ). used + grown_by m w k ≤ log_limit) so.1 (through_fits m w n [] 0 used (takes.follows p w shows).0))
