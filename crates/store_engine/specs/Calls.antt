-- What the calls say that no group allows: where none is open, and where one is.
use Rattle.std.specs.Prelude.{◌≡◌, ◌+◌, ◌≤◌, ℕ, false, List, [], ◌∷◌, ◌++◌, length, Option, None, Some, Result, Ok, Err, IfOk, IfErr, OnOk, OnErr, IsErrOf}
use Rattle.disk_model.specs.Disk.{Disk}
use Rattle.disk_model.specs.declared.machine.Failed.{Failed}
use Rattle.disk_model.specs.declared.machine.FileNo.{FileNo}
use Rattle.oper_core.specs.Meaning.{Meaning}
use Rattle.oper_core.specs.declared.bounds.Bounds.{Bounds}
use Rattle.formats.specs.Limits.{log_limit}
use Rattle.formats.specs.declared.params.Params.{Params}
use Rattle.log_records.specs.Loading.{IsTailFault}
use Rattle.log_records.specs.declared.rewrite_err.RewriteErr.{RewriteErr}
use Rattle.log_records.specs.declared.rewrite_err.RewriteErr.TheVariants as of_rewrite
use Rattle.dirty_cache.specs.Contents.{AreDirty, is_dirty}
use Rattle.explain_core.specs.Turns.{count_below, dirty_in}
use Rattle.explain_core.specs.World.{World, end_of}
use Rattle.explain_core.specs.World.Step.{Begin, End}
use Rattle.running_store.specs.Courses.{Course, course, force_course, force_steps}
use Rattle.cache_manager.specs.InstallCourses.{install_course, drain_course, removals, turn_course}
use Rattle.running_store.specs.Courses.Stop.{Through}
use Rattle.running_store.specs.Calls.{ending_of_force}
use Rattle.running_store.specs.Calls.Rewrites.{ending_of_rewrite}
use Rattle.cache_manager.specs.Endings.{ending_of}
use Rattle.cache_manager.specs.Told.{IsInstall, TellsParts, TellsTend}
use Rattle.cache_manager.specs.declared.install.Install.{Install}
use Rattle.cache_manager.specs.declared.install_err.InstallErr.{InstallErr}
use Rattle.cache_manager.specs.declared.install_err.InstallErr.TheVariants as of_install
use Rattle.checkpointing.specs.Courses.{checkpoint_course, trim_within}
use Rattle.checkpointing.specs.Left.{IsTooLong, ending_of_checkpoint}
use Rattle.checkpointing.specs.declared.checkpoint_err.CheckpointErr.{CheckpointErr}
use Rattle.checkpointing.specs.declared.checkpoint_err.CheckpointErr.TheVariants as of_checkpoint
use Rattle.store_engine.specs.Engine.{EngineView, Holds, IsAttached, IsEngineCall, KeepsCommands, ShowsIn, TakesIn, forced_in, logged_since, so_far, used_in}
use Rattle.store_engine.specs.Store.{meaning_in}
use Rattle.store_engine.specs.declared.work_err.WorkErr.{WorkErr}
use Rattle.store_engine.specs.declared.work_err.WorkErr.TheVariants.{InGroup, InBackup, LogFull, LsnEnd, Exhausted, DiskFault, Damaged, Memory}

-- a call is refused while a group is open that has so many commands
abbrev pub refused_in : Option ℕ → Result (Unit {0}) WorkErr
refused_in None = Ok tt
refused_in (Some size) = Err (InGroup size)

-- a trim is refused while the slots are copied, of which so many are
abbrev pub refused_beside : Option ℕ → Result (Unit {0}) WorkErr
refused_beside None = Ok tt
refused_beside (Some copied) = Err (InBackup copied)

-- why the calls below were not done, as the engine answers it
abbrev pub work_from_install : InstallErr → WorkErr
work_from_install (of_install.LogFull used need limit) = LogFull used need limit
work_from_install (of_install.LsnEnd lsn) = LsnEnd lsn
work_from_install of_install.DiskFault = DiskFault
work_from_install of_install.Memory = Memory

abbrev pub work_from_checkpoint : CheckpointErr → WorkErr
work_from_checkpoint (of_checkpoint.LogFull used need limit) = LogFull used need limit
work_from_checkpoint of_checkpoint.DiskFault = DiskFault
work_from_checkpoint of_checkpoint.Memory = Memory

abbrev pub work_from_rewrite : RewriteErr → WorkErr
work_from_rewrite (of_rewrite.LogFull used need limit) = LogFull used need limit
work_from_rewrite (of_rewrite.Exhausted epoch) = Exhausted epoch
work_from_rewrite of_rewrite.DiskFault = DiskFault
work_from_rewrite (of_rewrite.Damaged file place) = Damaged file place
work_from_rewrite of_rewrite.Memory = Memory

-- what they answer
abbrev pub work_of : {T E : Type 0} → (E → WorkErr) → Result T E → Result T WorkErr
work_of from (Ok value) = Ok value
work_of from (Err e) = Err (from e)

abbrev pub work_of_force : {T E : Type 0} → Result T E → Result T WorkErr
work_of_force = work_of (λ e. DiskFault)

abbrev pub work_of_install : {T : Type 0} → Result T InstallErr → Result T WorkErr
work_of_install = work_of work_from_install

abbrev pub work_of_checkpoint : {T : Type 0} → Result T CheckpointErr → Result T WorkErr
work_of_checkpoint = work_of work_from_checkpoint

abbrev pub work_of_trim : {T : Type 0} → Result T RewriteErr → Result T WorkErr
work_of_trim = work_of work_from_rewrite

-- the course of the beginning of a group: what waits is forced first
abbrev pub begin_course : {O : Type 0} → Meaning O → World O → ℕ → Course O
begin_course m w used = course (force_steps m w ++ Begin ∷ []) used Through

-- that of its end
abbrev pub end_course : {O : Type 0} → Meaning O → World O → ℕ → Course O
end_course m w used = course (End ∷ []) used Through

-- A call is refused so, and nothing is done.
pub record IsRefusedSo {T : Type 0} {M : Type 0} (why : WorkErr) (old new : M) (before after : EngineView) (result : Result T WorkErr) : Type 0 where
  pub answer : result ≡ Err why
  pub machine : new ≡ old
  pub engine : after ≡ before

-- within a group with the number of the group's commands
abbrev pub IsRefused : {T : Type 0} {M : Type 0} → ℕ → M → M → EngineView → EngineView → Result T WorkErr → Type 0
IsRefused size = IsRefusedSo (InGroup size)

-- a trim while the slots are copied with the number of those that are
abbrev pub IsRefusedBeside : {T : Type 0} {M : Type 0} → ℕ → M → M → EngineView → EngineView → Result T WorkErr → Type 0
IsRefusedBeside copied = IsRefusedSo (InBackup copied)

module _ {O : Type 0} (meaning : Bounds → Meaning O) (old new : Disk) (before after : EngineView) where
  -- the log was forced, or the disk failed
  pub record IsForcing (answer : Result ℕ Failed) : Type 0 where
    pub call : IsEngineCall meaning log_limit old new before after 0 (ending_of_force answer)
    pub takes : TakesIn meaning old new before after (λ m w used. force_course m w used) (ending_of_force answer)
    pub commands : KeepsCommands meaning old new before after (ending_of_force answer)
    pub forced : (p : Params) (commands : List O) → Holds meaning p old before commands → IfOk answer (λ n. (n ≡ length commands) × (forced_in after ≡ length commands))
    pub empty : OnOk answer (after.parts.log.log.pending ≡ [])
    pub count : IfOk answer (λ n. n ≡ forced_in after)

  -- a node was installed, or none was left
  pub record IsInstalling (answer : Result Install InstallErr) : Type 0 where
    pub call : IsEngineCall meaning log_limit old new before after (logged_since before after) (ending_of answer)
    pub takes : TakesIn meaning old new before after (λ m w used. install_course m (so_far before.copied) w used) (ending_of answer)
    pub commands : KeepsCommands meaning old new before after (ending_of answer)
    pub told : (p : Params) (w : World O) → ShowsIn meaning p old before w → IfOk answer (IsInstall (meaning_in meaning p) w (install_course (meaning_in meaning p) (so_far before.copied) w (used_in before)).steps)
    pub tells : IfOk answer (TellsParts before.parts after.parts)

  -- a turn of so many nodes at most was taken: several were installed together, or one was, or none was left
  pub record IsTending (most : ℕ) (answer : Result ℕ InstallErr) : Type 0 where
    pub call : IsEngineCall meaning log_limit old new before after (logged_since before after) (ending_of answer)
    pub takes : TakesIn meaning old new before after (λ m w used. turn_course m (so_far before.copied) most w used) (ending_of answer)
    pub commands : KeepsCommands meaning old new before after (ending_of answer)
    pub count : (p : Params) (w : World O) → ShowsIn meaning p old before w → IfOk answer (λ n. n ≡ removals (turn_course (meaning_in meaning p) (so_far before.copied) most w (used_in before)).steps)
    pub tells : IfOk answer (TellsTend most before.parts after.parts)

  -- nodes were installed until none was left
  pub record IsDraining (answer : Result ℕ InstallErr) : Type 0 where
    pub call : IsEngineCall meaning log_limit old new before after (logged_since before after) (ending_of answer)
    pub takes : TakesIn meaning old new before after (λ m w used. drain_course m (so_far before.copied) w used) (ending_of answer)
    pub commands : KeepsCommands meaning old new before after (ending_of answer)
    pub count : (p : Params) (w : World O) → ShowsIn meaning p old before w → IfOk answer (λ n. n ≡ removals (drain_course (meaning_in meaning p) (so_far before.copied) w (used_in before)).steps)
    -- each install takes an entry out of the graph at least, and each identity write puts one in
    pub bounded : IfOk answer (λ n. n ≤ length before.parts.volatile.entries + logged_since before after)
    -- and these are of different objects that were dirty: at most as many nodes as there were entries and dirty objects together
    pub within : (objects : List ℕ) → AreDirty before.parts.volatile.objects.cache objects → IfOk answer (λ n. n ≤ length before.parts.volatile.entries + length objects)
    -- as many as the graph of the world had members and it had dirty objects
    pub few : (p : Params) (w : World O) → ShowsIn meaning p old before w → IfOk answer (λ n. n ≤ count_below (end_of w) w.graph + dirty_in (meaning_in meaning p) w)
    pub drained : OnOk answer (after.parts.volatile.entries ≡ [])
    pub clean : (p : Params) (w : World O) → ShowsIn meaning p old before w → OnOk answer ((x : ℕ) → is_dirty after.parts.volatile.objects.cache x ≡ false)

  -- a checkpoint was taken and forced
  pub record IsTakingCheckpoint {T : Type 0} (answer : Result T CheckpointErr) : Type 0 where
    pub call : IsEngineCall meaning log_limit old new before after 0 (ending_of_checkpoint answer)
    pub takes : TakesIn meaning old new before after (λ m w used. checkpoint_course m w used) (ending_of_checkpoint answer)
    pub commands : KeepsCommands meaning old new before after (ending_of_checkpoint answer)

  -- the log was rewritten, in a file of at most so many bytes
  pub record IsTrimmingWithin (most : ℕ) {T : Type 0} (answer : Result T RewriteErr) : Type 0 where
    pub call : IsEngineCall meaning most old new before after 0 (ending_of_rewrite answer)
    pub takes : TakesIn meaning old new before after (λ m w used. trim_within m most before.parts.log.log.header.epoch w used) (ending_of_rewrite answer)
    pub commands : KeepsCommands meaning old new before after (ending_of_rewrite answer)
    pub epoch : OnOk answer (after.parts.log.log.header.epoch ≡ before.parts.log.log.header.epoch + 1)
    pub undamaged : old.tells_files → IsAttached meaning old before → (file : FileNo) (place : ℕ) → IsErrOf answer (of_rewrite.Damaged file place) → ⊥
    pub damage : (file : FileNo) (place : ℕ) → IsErrOf answer (of_rewrite.Damaged file place) → IsTailFault (meaning after.parts.log.bounds) new after.parts.log.log file place
    pub long : IfErr answer IsTooLong
    -- where all is installed the log that is left has no command and no identity write: it begins at the next LSN
    pub emptied : before.parts.volatile.entries ≡ [] → OnOk answer (after.parts.log.log.header.base ≡ after.parts.log.next)

  -- it was, in a file as long as a log's may be
  abbrev pub IsTrimming : {T : Type 0} → Result T RewriteErr → Type 0
  IsTrimming = IsTrimmingWithin log_limit

  -- the log was forced, and a group is open that has no command yet; or the disk failed
  pub record IsBeginning {T : Type 0} (answer : Result T Failed) : Type 0 where
    pub call : IsEngineCall meaning log_limit old new before (record after { group = before.group }) 0 (ending_of_force answer)
    pub takes : TakesIn meaning old new before after (λ m w used. begin_course m w used) (ending_of_force answer)
    pub commands : KeepsCommands meaning old new before after (ending_of_force answer)
    pub opened : OnOk answer (after.group ≡ Some after.parts.log.next)
    pub unopened : OnErr answer (after.group ≡ None)
    pub empty : OnOk answer (after.parts.log.log.pending ≡ [])
