-- What holds on every machine of the calls on a running store, one after the other.
pub mod Laws
pub mod Faults
pub mod Beside
pub mod AfterReads
pub mod Fetches
pub mod Commands
pub mod Checkpoints
pub mod Writes
pub mod Logged
pub mod Entered
pub mod LogReads
pub mod Rewrites
pub mod RewriteLaws
pub mod RoundCalls
use Rattle.std.proofs.Common.{◌≡◌, ◌∙◌, ◌+◌, ◌≤◌, ◌⊎◌, ⊎_elim, inl, inr, ℕ, true, false, refl, arith}
use Rattle.std.specs.Prelude.{◌↔◌, ⊤, Result, Ok, Err}
use Rattle.std.proofs.lemmas.Bool.{both_ways}
use Rattle.disk_model.specs.Disk.{Disk, IsDisk, IsSettled, Rises}
use Rattle.disk_model.specs.Moments.{runs_none, runs_twice}
use Rattle.oper_core.specs.Meaning.{Meaning}
use Rattle.oper_core.specs.declared.bounds.Bounds.{Bounds}
use Rattle.formats.specs.declared.read_err.ReadErr.{ReadErr}
use Rattle.formats.specs.declared.read_err.ReadErr.TheVariants as of_read
use Rattle.log_records.specs.RecordLog.{RecordLogView}
use Rattle.running_store.specs.Courses.{Stop}
use Rattle.running_store.specs.Steps.Finished.{IsQuiet}
use Rattle.running_store.specs.Steps.Forced.{IsForced}
use Rattle.running_store.specs.Kept.{IsAttached, KeepsLog}
use Rattle.running_store.specs.Calls.Logged.{IsAsLong}
use Rattle.running_store.specs.StoreView.{StoreView, next_of, store_layout}
use Rattle.running_store.specs.Taking.{Ending}
use Rattle.running_store.specs.Taking.Ending.{Done, Stopped, Short, Failed}
use Rattle.running_store.specs.declared.store_err.StoreErr.{StoreErr}
use Rattle.running_store.specs.declared.store_err.StoreErr.TheVariants as of_store

-- the disk failed
abbrev pub IsFailed : Ending → Type 0
IsFailed Done = ⊥
IsFailed (Stopped stop) = ⊥
IsFailed Short = ⊥
IsFailed Failed = ⊤

-- how a call ended that fails with the disk alone
abbrev pub ending_of_force : {T E : Type 0} → Result T E → Ending
ending_of_force (Ok value) = Done
ending_of_force (Err e) = Failed

-- and one that fails for want of memory alone
abbrev pub ending_of_memory : {T E : Type 0} → Result T E → Ending
ending_of_memory (Ok value) = Done
ending_of_memory (Err e) = Short

-- one that fails with either
abbrev pub ending_of_store : {T : Type 0} → Result T StoreErr → Ending
ending_of_store (Ok value) = Done
ending_of_store (Err of_store.DiskFault) = Failed
ending_of_store (Err of_store.Memory) = Short

-- and one that reads; of a damaged file nothing is done, as without memory
abbrev pub ending_of_read : {T : Type 0} → Result T ReadErr → Ending
ending_of_read (Ok value) = Done
ending_of_read (Err of_read.DiskFault) = Failed
ending_of_read (Err (of_read.Damaged file place)) = Short
ending_of_read (Err of_read.Memory) = Short

-- What holds on every machine of each call on a store: time passes, and nothing is said; the store's numbers stay, and where
-- its slots stand, no LSN of a record is given again, and so many identity writes are logged; unless it is answered that
-- the disk failed, the machine stays settled, a log that keeps some records keeps some still, and the store stays attached; a
-- call that was stopped says so of the log that it leaves; the store is broken exactly where it is answered that the disk
-- failed, and then the disk counted that. (The count may rise beside another answer: where a force succeeds, zeros may have
-- been refused.)
pub record IsCall {O : Type 0} (meaning : Bounds → Meaning O) (old new : Disk) (before after : StoreView) (logged : ℕ) (stops : RecordLogView → Stop → Type 0) (ending : Ending) : Type 0 where
  pub quiet : IsQuiet old new
  pub layout : store_layout after ≡ store_layout before
  pub rising : next_of before ≤ next_of after
  pub identities : after.identities ≡ before.identities + logged
  pub settled : IsFailed ending ⊎ (IsSettled old → IsSettled new)
  pub kept : IsFailed ending ⊎ KeepsLog meaning old new before.parts.log after.parts.log
  pub attached : IsFailed ending ⊎ (IsAttached meaning old before.parts → IsAttached meaning new after.parts)
  pub stopped : (stop : Stop) → ending ≡ Stopped stop → stops after.parts.log stop
  pub broken : (after.broken ≡ true) ↔ IsFailed ending
  pub fault : IsFailed ending → Rises old.disk_faults new.disk_faults

-- what a call keeps that is done, and one after it, unless it fails, both keep
and_on : {F P Q R : Type 0} → ⊥ ⊎ (P → Q) → F ⊎ (Q → R) → F ⊎ (P → R)
and_on first second = ⊎_elim (λ failed. absurd failed) (λ kept. ⊎_elim (λ failed. inl failed) (λ on. inr (λ at. on (kept at))) second) first

-- a store whose flag stays says by it that a call did not fail
pub unset : (before after : StoreView) (e : Ending) → before.broken ≡ false → after.broken ≡ before.broken → (IsFailed e → ⊥) → (after.broken ≡ true) ↔ IsFailed e
unset before after e fine flag none = (λ set. absurd (both_ways _ (flag ∙ fine) set), λ failed. absurd (none failed))

-- no call is stopped so
abbrev pub Never : RecordLogView → Stop → Type 0
Never log stop = ⊥

-- the same store with another log
abbrev pub with_log : StoreView → RecordLogView → StoreView
with_log it log = record it { parts = record it.parts { log = log } }

-- the same store, whose disk failed
abbrev pub failed_of : StoreView → StoreView
failed_of it = record it { broken = true }

-- the log was forced, or the disk failed
abbrev pub IsForce : {T E : Type 0} → StoreView → StoreView → Result T E → Type 0
IsForce before after (Ok value) = IsForced before.parts.log after.parts.log × (after ≡ with_log before after.parts.log)
IsForce before after (Err e) = after ≡ failed_of before

-- the log was forced, or was not and is as it was; or the disk failed
pub record IsForcedOrNot (before after : StoreView) : Type 0 where
  pub long : IsAsLong before.parts.log after.parts.log
  pub log : (after.parts.log ≡ before.parts.log) ⊎ IsForced before.parts.log after.parts.log
  pub same : after ≡ with_log before after.parts.log

abbrev pub IsRoomMade : {T E : Type 0} → StoreView → StoreView → Result T E → Type 0
IsRoomMade before after (Ok value) = IsForcedOrNot before after
IsRoomMade before after (Err e) = after ≡ failed_of before

module _ {O : Type 0} (meaning : Bounds → Meaning O) where
  -- nothing is done
  pub call_none : (d : Disk) (it : StoreView) (stops : RecordLogView → Stop → Type 0) → IsDisk d → it.broken ≡ false → IsCall meaning d d it it 0 stops Done
  call_none d it stops lawful unbroken = record {
    quiet = runs_none d (λ before after. Unit {0}) (λ files. tt) lawful;
    layout = refl;
    rising = omega arith;
    identities = omega arith;
    settled = inr (λ is. is);
    kept = inr (λ told has. has);
    attached = inr (λ at. at);
    stopped = λ stop is. cc;
    broken = (λ broken. both_ways _ unbroken broken, λ failed. absurd failed);
    fault = λ failed. absurd failed;
  }

  -- a call that is done, and another after it
  pub call_twice : (old mid new : Disk) (before here after : StoreView) (n k : ℕ) (stops then : RecordLogView → Stop → Type 0) (ending : Ending)
      → IsCall meaning old mid before here n stops Done → IsCall meaning mid new here after k then ending → IsCall meaning old new before after (n + k) then ending
  call_twice old mid new before here after n k stops then ending first second = record {
    quiet = runs_twice old mid new (λ before after. Unit {0}) (λ a b c changed then. tt) first.quiet second.quiet;
    layout = second.layout ∙ first.layout;
    rising = omega (arith, first.rising, second.rising);
    identities = omega (arith, first.identities, second.identities);
    settled = and_on first.settled second.settled;
    kept = ⊎_elim (λ failed. absurd failed) (λ one. ⊎_elim (λ failed. inl failed) (λ two. inr (λ told has. two (first.quiet.time.files_told.0 told) (one told has))) second.kept) first.kept;
    attached = and_on first.attached second.attached;
    stopped = second.stopped;
    broken = second.broken;
    fault = λ failed low. let more = second.fault failed low in omega (arith, more, first.quiet.time.disk_faults);
  }

  -- one that says more of a stop, or of what it logs
  pub call_as : (old new : Disk) (before after : StoreView) (n k : ℕ) (stops then : RecordLogView → Stop → Type 0) (ending : Ending)
      → n ≡ k → ((stop : Stop) → ending ≡ Stopped stop → stops after.parts.log stop → then after.parts.log stop) → IsCall meaning old new before after n stops ending → IsCall meaning old new before after k then ending
  call_as old new before after n k stops then ending same more is = record {
    quiet = is.quiet;
    layout = is.layout;
    rising = is.rising;
    identities = omega (arith, same, is.identities);
    settled = is.settled;
    kept = is.kept;
    attached = is.attached;
    stopped = λ stop ends. more stop ends (is.stopped stop ends);
    broken = is.broken;
    fault = is.fault;
  }
