-- How the calls of a backup end that fail.
use Rattle.std.proofs.Common.{◌≡◌, ◌⊎◌, ◌∙◌, inl, inr, ⊎_elim, ℕ, ◌≤◌, ◌+◌, ap, sym, Option, Some, subst, arith}
use Rattle.std.specs.Prelude.{◌↔◌, IsErrAnd, IsErrOf, IfErr, Result, Ok, Err}
use Rattle.std.proofs.lemmas.Result.{err_from_is_err_and}
use Rattle.disk_model.specs.Disk.{Disk, Rises, Stays}
use Rattle.disk_model.specs.declared.machine.FileNo.{FileNo}
use Rattle.oper_core.specs.Meaning.{Meaning}
use Rattle.oper_core.specs.declared.bounds.Bounds.{Bounds}
use Rattle.formats.specs.declared.read_err.ReadErr.{ReadErr}
use Rattle.formats.specs.declared.read_err.ReadErr.TheVariants as of_read
use Rattle.running_store.specs.Laid.LongSlot.{IsLongSlot}
use Rattle.running_store.specs.Parts.{Parts}
use Rattle.store_engine.specs.Engine.{EngineView, IsAttached}
use Rattle.store_engine.specs.FailureLaws.{none_damaged}
use Rattle.store_engine.specs.Failures.{IsFetchFailure}
use Rattle.backup_copy.specs.Calls.{CopiesUpTo, CopyFailsBy, IsFault, StopsWithin}
use Rattle.backup_copy.specs.Failures.{backup_from_read}
use Rattle.backup_copy.specs.declared.backup_err.BackupErr.{BackupErr}
use Rattle.backup_copy.specs.declared.backup_err.BackupErr.TheVariants.{InGroup, InBackup, NoBackup, AlreadyStore, NotCopied, DiskFault, TargetFault, Damaged, LogFull, Memory}

-- an error that is handed on
pub error_from : {T E : Type 0} (r : Result T E) (e : E) → IsErrAnd r (λ k. k ≡ e) → r ≡ Err e
error_from r e is = let q = err_from_is_err_and r is in q.1 ∙ ap (λ x. Err x) q.2

-- what is answered is no fault
pub no_fault : {A : Type 0} (value : A) → IsFault (Ok value) → ⊥
no_fault value (inl is) = cc
no_fault value (inr is) = cc

-- a read that failed leaves what it left of the copy, unless the disk failed
pub read_fault : {T A P : Type 0} (r : Result T ReadErr) (cause : ReadErr) (result : Result A BackupErr) → r ≡ Err cause → result ≡ Err (backup_from_read cause) → IsErrOf r of_read.DiskFault ⊎ P → IsFault result ⊎ P
read_fault r of_read.DiskFault result was is kept = inl (inl is)
read_fault r (of_read.Damaged file place) result was is (inl failed) = cc
read_fault r (of_read.Damaged file place) result was is (inr left) = inr left
read_fault r of_read.Memory result was is (inl failed) = cc
read_fault r of_read.Memory result was is (inr left) = inr left

-- the disk failed in one exactly where it did in the other
pub read_failed : {T A : Type 0} (r : Result T ReadErr) (cause : ReadErr) (result : Result A BackupErr) → r ≡ Err cause → result ≡ Err (backup_from_read cause) → IsErrOf r of_read.DiskFault ↔ IsErrOf result DiskFault
read_failed r of_read.DiskFault result was is = (λ _. is, λ _. was)
read_failed r (of_read.Damaged file place) result was is = (λ failed. cc, λ failed. cc)
read_failed r of_read.Memory result was is = (λ failed. cc, λ failed. cc)

-- and no object is counted
read_stop : (object end : ℕ) (after : Option ℕ) (cause : ReadErr) → object ≤ end → after ≡ Some object → StopsWithin object end after (backup_from_read cause)
read_stop object end after of_read.DiskFault le same = (object, same, omega arith, le)
read_stop object end after (of_read.Damaged file place) le same = (object, same, omega arith, le)
read_stop object end after of_read.Memory le same = (object, same, omega arith, le)

pub read_count : {A : Type 0} (object end : ℕ) (after : Option ℕ) (cause : ReadErr) (result : Result A BackupErr) → object ≤ end → after ≡ Some object → result ≡ Err (backup_from_read cause) → CopiesUpTo object end after result
read_count {A} object end after cause result le same is = subst (λ (r : Result A BackupErr). CopiesUpTo object end after r) (sym is) (read_stop object end after cause le same)

-- why the pair of the next object was not read
module _ (old new : Disk) (engine : EngineView) (copied : Option ℕ) (object : ℕ) (next : copied ≡ Some object) (target_rises : Type 0) where
  read_fails : (cause : ReadErr) → IsFetchFailure old new engine object cause → CopyFailsBy new engine copied (Rises old.disk_faults new.disk_faults) target_rises (backup_from_read cause)
  read_fails of_read.DiskFault fails = fails.1
  read_fails (of_read.Damaged file place) fails = (object, next, fails.1)
  read_fails of_read.Memory fails = tt

  pub read_cause : {T A : Type 0} (r : Result T ReadErr) (cause : ReadErr) (result : Result A BackupErr) → r ≡ Err cause → result ≡ Err (backup_from_read cause) → IfErr r (IsFetchFailure old new engine object)
      → IfErr result (CopyFailsBy new engine copied (Rises old.disk_faults new.disk_faults) target_rises)
  read_cause {T} {A} r cause result was is fails =
      subst (λ (x : Result A BackupErr). IfErr x (CopyFailsBy new engine copied (Rises old.disk_faults new.disk_faults) target_rises)) (sym is)
      (read_fails cause (subst (λ (x : Result T ReadErr). IfErr x (IsFetchFailure old new engine object)) was fails))

-- an error of one step is that of all
module _ {A B : Type 0} (step : Result A BackupErr) (e : BackupErr) (result : Result B BackupErr) (was : step ≡ Err e) (is : result ≡ Err e) where
  pub same_fault : IsFault step → IsFault result
  same_fault failed = ⊎_elim (λ (one : IsErrOf step DiskFault). inl (is ∙ ap (λ (r : Result A BackupErr). with_error r e) (sym was ∙ one))) (λ (two : IsErrOf step TargetFault). inr (is ∙ ap (λ (r : Result A BackupErr). with_error r e) (sym was ∙ two))) failed
    where
      with_error : Result A BackupErr → BackupErr → Result B BackupErr
      with_error (Ok value) other = Err other
      with_error (Err k) other = Err k

  pub same_error : (k : BackupErr) → IsErrOf result k → IsErrOf step k
  same_error k failed = was ∙ ap (λ (r : Result B BackupErr). with_error r e) (sym is ∙ failed)
    where
      with_error : Result B BackupErr → BackupErr → Result A BackupErr
      with_error (Ok value) other = Err other
      with_error (Err k) other = Err k

  stop_later : (from now end : ℕ) (after : Option ℕ) (k : BackupErr) → from ≤ now → now + 1 ≤ end → StopsWithin now (now + 1) after k → StopsWithin from end after k
  stop_later from now end after TargetFault low high stop = stop
  stop_later from now end after (InGroup size) low high stop = (stop.0, stop.1, omega (arith, low, stop.2), omega (arith, high, stop.3))
  stop_later from now end after (InBackup copied) low high stop = (stop.0, stop.1, omega (arith, low, stop.2), omega (arith, high, stop.3))
  stop_later from now end after NoBackup low high stop = (stop.0, stop.1, omega (arith, low, stop.2), omega (arith, high, stop.3))
  stop_later from now end after AlreadyStore low high stop = (stop.0, stop.1, omega (arith, low, stop.2), omega (arith, high, stop.3))
  stop_later from now end after (NotCopied copied) low high stop = (stop.0, stop.1, omega (arith, low, stop.2), omega (arith, high, stop.3))
  stop_later from now end after DiskFault low high stop = (stop.0, stop.1, omega (arith, low, stop.2), omega (arith, high, stop.3))
  stop_later from now end after (Damaged file place) low high stop = (stop.0, stop.1, omega (arith, low, stop.2), omega (arith, high, stop.3))
  stop_later from now end after (LogFull used need limit) low high stop = (stop.0, stop.1, omega (arith, low, stop.2), omega (arith, high, stop.3))
  stop_later from now end after Memory low high stop = (stop.0, stop.1, omega (arith, low, stop.2), omega (arith, high, stop.3))

  pub count_later : (from now end : ℕ) (after : Option ℕ) → from ≤ now → now + 1 ≤ end → CopiesUpTo now (now + 1) after step → CopiesUpTo from end after result
  count_later from now end after low high count =
      subst (λ (r : Result B BackupErr). CopiesUpTo from end after r) (sym is) (stop_later from now end after e low high (subst (λ (r : Result A BackupErr). CopiesUpTo now (now + 1) after r) was count))

-- why one step failed is why all did
fails_later : (new : Disk) (before between : EngineView) (copied : Option ℕ) (first mid last t t' t'' : ℕ) (e : BackupErr) → between.parts ≡ before.parts → first ≤ mid → t ≤ t'
    → CopyFailsBy new between copied (Rises mid last) (Rises t' t'') e → CopyFailsBy new before copied (Rises first last) (Rises t t'') e
fails_later new before between copied first mid last t t' t'' DiskFault same le lt rises = λ below. let risen = rises below in omega (arith, risen, le)
fails_later new before between copied first mid last t t' t'' TargetFault same le lt rises = λ below. let risen = rises below in omega (arith, risen, lt)
fails_later new before between copied first mid last t t' t'' (Damaged file place) same le lt fault =
    subst (λ (it : Parts). (object : ℕ) × (copied ≡ Some object) × IsLongSlot new it.volatile.objects.slots object file place) same fault
fails_later new before between copied first mid last t t' t'' Memory same le lt fault = tt
fails_later new before between copied first mid last t t' t'' (InGroup size) same le lt fault = absurd fault
fails_later new before between copied first mid last t t' t'' (InBackup n) same le lt fault = absurd fault
fails_later new before between copied first mid last t t' t'' NoBackup same le lt fault = absurd fault
fails_later new before between copied first mid last t t' t'' AlreadyStore same le lt fault = absurd fault
fails_later new before between copied first mid last t t' t'' (NotCopied n) same le lt fault = absurd fault
fails_later new before between copied first mid last t t' t'' (LogFull used need limit) same le lt fault = absurd fault

pub cause_later : {A B : Type 0} (new : Disk) (before between : EngineView) (copied : Option ℕ) (first mid last t t' t'' : ℕ) (step : Result A BackupErr) (e : BackupErr) (result : Result B BackupErr) → step ≡ Err e → result ≡ Err e
    → between.parts ≡ before.parts → first ≤ mid → t ≤ t' → IfErr step (CopyFailsBy new between copied (Rises mid last) (Rises t' t'')) → IfErr result (CopyFailsBy new before copied (Rises first last) (Rises t t''))
cause_later {A} {B} new before between copied first mid last t t' t'' step e result was is same le lt cause =
    subst (λ (r : Result B BackupErr). IfErr r (CopyFailsBy new before copied (Rises first last) (Rises t t''))) (sym is)
    (fails_later new before between copied first mid last t t' t'' e same le lt (subst (λ (r : Result A BackupErr). IfErr r (CopyFailsBy new between copied (Rises mid last) (Rises t' t''))) was cause))

-- no slot of an engine that is attached to its files is damaged
pub never_damaged : {O A : Type 0} (meaning : Bounds → Meaning O) (old new : Disk) (before : EngineView) (copied : Option ℕ) (rises target_rises : Type 0) (result : Result A BackupErr) → Stays old new
    → IfErr result (CopyFailsBy new before copied rises target_rises) → old.tells_files → IsAttached meaning old before → (file : FileNo) (place : ℕ) → IsErrOf result (Damaged file place) → ⊥
never_damaged {O} {A} meaning old new before copied rises target_rises result stays cause told attached file place is =
    let fault = subst (λ (r : Result A BackupErr). IfErr r (CopyFailsBy new before copied rises target_rises)) is cause in
    none_damaged meaning before.parts stays told attached fault.2
