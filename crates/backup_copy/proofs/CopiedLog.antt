-- How the copy of the log ends.
use Rattle.std.proofs.Common.{◌≡◌, ◌⊎◌, ◌∙◌, inl, inr, ⊎_elim, ◌≤◌, ◌+◌, ◌^◌, ℕ, List, [], ◌∷◌, map, nat_le, arith, refl, sym, ap, subst}
use Rattle.std.specs.Prelude.{◌≢◌, ◌↔◌, IfErr, OnErr, IsErrOf, Result, Ok, Err}
use Rattle.std.proofs.lemmas.Bool.{cond-true, le-leb}
use Rattle.disk_model.specs.Disk.{Disk}
use Rattle.oper_core.specs.Meaning.{Meaning}
use Rattle.oper_core.specs.declared.bounds.Bounds.{Bounds}
use Rattle.formats.specs.Records.{AreRecords, payload_of}
use Rattle.formats.specs.declared.params.Params.{Params}
use Rattle.formats.specs.declared.record.Record.{Record}
use Rattle.formats.specs.declared.record.Record.TheVariants as logged
use Rattle.log_blocks.specs.Rewriting.{file_length}
use Rattle.log_records.specs.LogCopy.{CopyFails, IsCopyLength, IsCopyWithin, IsTooLong, copied_groups, copied_length, or_checkpoint}
use Rattle.log_records.specs.Loading.{IsTailFault}
use Rattle.log_records.specs.RecordLaws.{AreRecords-front}
use Rattle.log_records.specs.RecordLog.{Keeps}
use Rattle.log_records.specs.Rewriting.{in_full_blocks, from_lsn}
use Rattle.log_records.specs.declared.copy_err.CopyErr.{CopyErr}
use Rattle.log_records.specs.declared.copy_err.CopyErr.TheVariants as of_copy
use Rattle.explain_core.specs.History.{Member}
use Rattle.explain_core.specs.World.{World}
use Rattle.standing.specs.Members.{members_of}
use Rattle.running_store.specs.Parts.{Parts}
use Rattle.store_engine.specs.Engine.{EngineView, ShowsIn}
use Rattle.store_engine.specs.Store.{meaning_in}
use Rattle.backup_copy.specs.Calls.{FinishFailsBy, HasLength, IsFault, TellsLength}
use Rattle.backup_copy.specs.Failures.{backup_from_copy}
use Rattle.backup_copy.specs.Length.{backup_length, records_from}
use Rattle.backup_copy.specs.declared.backup_err.BackupErr.{BackupErr}
use Rattle.backup_copy.specs.declared.backup_err.BackupErr.TheVariants.{DiskFault}

-- the store's disk failed exactly where the answer says so
pub copy_failed : {T A : Type 0} (r : Result T CopyErr) (cause : CopyErr) (result : Result A BackupErr) → r ≡ Err cause → result ≡ Err (backup_from_copy cause) → IsErrOf r of_copy.DiskFault ↔ IsErrOf result DiskFault
copy_failed r (of_copy.LogFull used need limit) result was is = (λ failed. cc, λ failed. cc)
copy_failed r of_copy.DiskFault result was is = (λ _. is, λ _. was)
copy_failed r of_copy.TargetFault result was is = (λ failed. cc, λ failed. cc)
copy_failed r (of_copy.Damaged file place) result was is = (λ failed. cc, λ failed. cc)
copy_failed r of_copy.Memory result was is = (λ failed. cc, λ failed. cc)

-- what is left of the engine, and of the target, where neither machine failed
left_so : {T A P Q : Type 0} (r : Result T CopyErr) (cause : CopyErr) (result : Result A BackupErr) → r ≡ Err cause → result ≡ Err (backup_from_copy cause) → IsErrOf r of_copy.DiskFault ⊎ P → (cause ≢ of_copy.TargetFault → Q) → IsFault result ⊎ (P × Q)
left_so r (of_copy.LogFull used need limit) result was is (inl failed) target = cc
left_so r (of_copy.LogFull used need limit) result was is (inr kept) target = inr (kept, target (λ e. cc))
left_so r of_copy.DiskFault result was is engine target = inl (inl is)
left_so r of_copy.TargetFault result was is engine target = inl (inr is)
left_so r (of_copy.Damaged file place) result was is (inl failed) target = cc
left_so r (of_copy.Damaged file place) result was is (inr kept) target = inr (kept, target (λ e. cc))
left_so r of_copy.Memory result was is (inl failed) target = cc
left_so r of_copy.Memory result was is (inr kept) target = inr (kept, target (λ e. cc))

pub copy_left : {T A P Q R : Type 0} (r : Result T CopyErr) (cause : CopyErr) (result : Result A BackupErr) → r ≡ Err cause → result ≡ Err (backup_from_copy cause) → IsErrOf r of_copy.DiskFault ⊎ P → IfErr r (λ e. e ≢ of_copy.TargetFault → Q)
    → (P → Q → R) → OnErr result (IsFault result ⊎ R)
copy_left {T} {A} {P} {Q} {R} r cause result was is engine target so =
    let refused = subst (λ (x : Result T CopyErr). IfErr x (λ e. e ≢ of_copy.TargetFault → Q)) was target in
    let left : IsFault result ⊎ R = ⊎_elim (λ fault. inl fault) (λ (both : P × Q). inr (so both.0 both.1)) (left_so r cause result was is engine refused) in
    subst (λ (x : Result A BackupErr). OnErr x (IsFault result ⊎ R)) (sym is) left

-- what a copy that is refused leaves where something is told
pub refused_told : {T : Type 0} (r : Result T CopyErr) (Told Q : Type 0) → (Told → IfErr r (λ e. e ≢ of_copy.TargetFault → Q)) → IfErr r (λ e. e ≢ of_copy.TargetFault → Told → Q)
refused_told (Ok value) Told Q so = tt
refused_told (Err e) Told Q so = λ other told. so told other

-- the records with an LSN of a log are those of its members
from_lsn_members : {O : Type 0} (m : Meaning O) (base next : ℕ) (records : List (Record O)) → base ≤ next → AreRecords m base next records → from_lsn base records ≡ records_from next (members_of records)
from_lsn_members m base next [] low are = refl
from_lsn_members {O} m base next (logged.Command lsn op ∷ records) low are =
    let rest = from_lsn_members m base (next + 1) records (omega (arith, low)) are.2 in
    cond-true (nat_le base lsn) (logged.Command lsn op ∷ from_lsn base records) (from_lsn base records) (le-leb base lsn (omega (arith, low, are.1.0)))
    ∙ (λ i. logged.Command (are.1.0 i) op ∷ rest i)
from_lsn_members {O} m base next (logged.Identity lsn x value ∷ records) low are =
    let rest = from_lsn_members m base (next + 1) records (omega (arith, low)) are.2 in
    cond-true (nat_le base lsn) (logged.Identity lsn x value ∷ from_lsn base records) (from_lsn base records) (le-leb base lsn (omega (arith, low, are.1.0)))
    ∙ (λ i. logged.Identity (are.1.0 i) x value ∷ rest i)
from_lsn_members m base next (logged.Checkpoint table ∷ records) low are = from_lsn_members m base next records low are.2

module _ {O : Type 0} (meaning : Bounds → Meaning O) (old new : Disk) (rises target_rises : Type 0) where
  -- why the copy of the log of these parts fails
  abbrev pub LogFails : Parts → CopyErr → Type 0
  LogFails it cause = CopyFails rises target_rises (IsTailFault (meaning it.log.bounds) new it.log.log) (IsTooLong it.log.log (IsCopyLength (meaning it.log.bounds) old it.log)) cause

  fails_so : (engine : EngineView) (cause : CopyErr) → LogFails engine.parts cause → FinishFailsBy rises target_rises (IsTailFault (meaning engine.parts.log.bounds) new engine.parts.log.log) engine (backup_from_copy cause)
  fails_so engine (of_copy.LogFull used need limit) fails = (fails.used_is, fails.limit_is, fails.above)
  fails_so engine of_copy.DiskFault fails = fails
  fails_so engine of_copy.TargetFault fails = fails
  fails_so engine (of_copy.Damaged file place) fails = fails
  fails_so engine of_copy.Memory fails = tt

  pub copy_cause : {T A : Type 0} (before after : EngineView) (r : Result T CopyErr) (cause : CopyErr) (result : Result A BackupErr) → after.parts ≡ before.parts → r ≡ Err cause → result ≡ Err (backup_from_copy cause) → IfErr r (LogFails before.parts)
      → IfErr result (FinishFailsBy rises target_rises (IsTailFault (meaning after.parts.log.bounds) new after.parts.log.log) after)
  copy_cause {T} {A} before after r cause result same was is fails =
      let here = subst (λ (it : Parts). LogFails it cause) (sym same) (subst (λ (x : Result T CopyErr). IfErr x (LogFails before.parts)) was fails) in
      subst (λ (x : Result A BackupErr). IfErr x (FinishFailsBy rises target_rises (IsTailFault (meaning after.parts.log.bounds) new after.parts.log.log) after)) (sym is) (fails_so after cause here)

  module _ (p : Params) (w : World O) (before : EngineView) (shows : ShowsIn meaning p old before w)
      (keeps : Keeps (meaning before.parts.log.bounds) old before.parts.log shows.shows.log.stable shows.shows.log.pending) where
    -- the copy of the log that is shown is so long
    long_so : copied_length (meaning before.parts.log.bounds) before.parts.log.log shows.shows.log.stable ≡ backup_length (meaning_in meaning p) w
    long_so =
        let m = meaning_in meaning p in
        let it = before.parts.log in
        let stable = shows.shows.log.stable in
        let placed : AreRecords m w.base w.base stable = subst (λ (k : ℕ). AreRecords m k k stable) shows.shows.log.base
        (subst (λ (b : Bounds). AreRecords (meaning b) it.log.header.base it.log.header.base stable) shows.shows.bounds
        (AreRecords-front (meaning it.bounds) it.log.header.base it.log.header.base stable shows.shows.log.pending keeps.placed)) in
        let records = from_lsn_members m w.base w.base stable (omega arith) placed ∙ ap (λ (l : List (Member O)). records_from w.base l) shows.shows.log.forced in
        ap (λ (b : Bounds). copied_length (meaning b) it.log stable) shows.shows.bounds
        ∙ ap (λ (k : ℕ). file_length (map (payload_of m) (copied_groups m k stable))) shows.shows.log.base
        ∙ ap (λ (l : List (Record O)). file_length (map (payload_of m) (in_full_blocks m (or_checkpoint w.base l)))) records

    fails_long : (cause : CopyErr) → LogFails before.parts cause → TellsLength (backup_length (meaning_in meaning p) w) (backup_from_copy cause)
    fails_long (of_copy.LogFull used need limit) fails = fails.need_is shows.shows.told shows.shows.log.stable shows.shows.log.pending keeps ∙ long_so
    fails_long of_copy.DiskFault fails = tt
    fails_long of_copy.TargetFault fails = tt
    fails_long (of_copy.Damaged file place) fails = tt
    fails_long of_copy.Memory fails = tt

    pub copy_long : {T : Type 0} (r : Result T CopyErr) (cause : CopyErr) (result : Result (Unit {0}) BackupErr) → r ≡ Err cause → result ≡ Err (backup_from_copy cause) → IfErr r (LogFails before.parts)
        → HasLength (backup_length (meaning_in meaning p) w) result
    copy_long {T} r cause result was is fails =
        subst (λ (x : Result (Unit {0}) BackupErr). HasLength (backup_length (meaning_in meaning p) w) x) (sym is) (fails_long cause (subst (λ (x : Result T CopyErr). IfErr x (LogFails before.parts)) was fails))

    -- and it is within the greatest length, where it was made
    pub copy_within : IsCopyWithin (meaning before.parts.log.bounds) old before.parts.log → backup_length (meaning_in meaning p) w ≤ 2 ^ 48
    copy_within within = subst (λ (n : ℕ). n ≤ 2 ^ 48) long_so (within shows.shows.told shows.shows.log.stable shows.shows.log.pending keeps)
