-- Which calls are refused before anything is done.
use Rattle.std.specs.Prelude.{◌≡◌, ℕ, nat_lt, if◌then◌else◌, Option, None, Some, Result, Ok, Err}
use Rattle.store_engine.specs.Engine.{EngineView, group_size, params_of}
use Rattle.backup_copy.specs.declared.backup_err.BackupErr.{BackupErr}
use Rattle.backup_copy.specs.declared.backup_err.BackupErr.TheVariants.{InGroup, InBackup, NoBackup, NotCopied}

-- a start within a group, which has so many commands, and while the slots are copied
abbrev pub unstarted : Option ℕ → Option ℕ → Result (Unit {0}) BackupErr
unstarted (Some size) copied = Err (InGroup size)
unstarted None (Some copied) = Err (InBackup copied)
unstarted None None = Ok tt

-- any other call within a group, and while they are not; else so many objects are copied
abbrev pub begun : Option ℕ → Option ℕ → Result ℕ BackupErr
begun (Some size) copied = Err (InGroup size)
begun None (Some copied) = Ok copied
begun None None = Err NoBackup

-- a finish also before all objects are copied, which are so many
abbrev pub whole : ℕ → Option ℕ → Option ℕ → Result (Unit {0}) BackupErr
whole objects (Some size) copied = Err (InGroup size)
whole objects None (Some copied) = if nat_lt copied objects then Err (NotCopied copied) else Ok tt
whole objects None None = Err NoBackup

-- whether these calls on an engine are refused
abbrev pub judge_start : EngineView → Result (Unit {0}) BackupErr
judge_start engine = unstarted (group_size engine) engine.copied

abbrev pub judge_copy : EngineView → Result ℕ BackupErr
judge_copy engine = begun (group_size engine) engine.copied

abbrev pub judge_finish : EngineView → Result (Unit {0}) BackupErr
judge_finish engine = whole (params_of engine).objects (group_size engine) engine.copied

-- The call was refused so: it made no call on either machine, and left the engine as it was.
pub record IsRefusedSo {A M T : Type 0} (why : BackupErr) (old new : M) (target target' : T) (before after : EngineView) (result : Result A BackupErr) : Type 0 where
  pub answer : result ≡ Err why
  pub machine : new ≡ old
  pub target_is : target' ≡ target
  pub engine : after ≡ before
