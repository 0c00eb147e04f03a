-- What a call leaves of the parts of a store on every machine, and what it says of a stop.
pub mod Laws
pub mod Keeping
use Rattle.std.specs.Prelude.{◌≡◌, ◌+◌, ◌<◌, ◌^◌, ℕ, List, [], length}
use Rattle.disk_model.specs.Disk.{Disk}
use Rattle.disk_model.specs.declared.machine.FileNo.TheVariants.{Objects}
use Rattle.oper_core.specs.Meaning.{Meaning}
use Rattle.oper_core.specs.declared.bounds.Bounds.{Bounds}
use Rattle.formats.specs.declared.record.Record.{Record}
use Rattle.dirty_cache.specs.Contents.{is_dirty}
use Rattle.log_blocks.specs.LogView.{used_of}
use Rattle.log_records.specs.RecordLog.{RecordLogView, Keeps}
use Rattle.running_store.specs.Courses.{Stop}
use Rattle.running_store.specs.Courses.Stop.{Through, Full, At_end, Worn}
use Rattle.running_store.specs.Laid.{IsLaidOn}
use Rattle.running_store.specs.Parts.{Parts}

-- the log keeps some records: stable ones, and others that wait
pub record HasLog {O : Type 0} (m : Meaning O) (d : Disk) (log : RecordLogView) : Type 0 where
  pub stable : List (Record O)
  pub pending : List (Record O)
  pub keeps : Keeps m d log stable pending

-- what a call on the log keeps: where the machine reports its files, and the log keeps some records, it keeps some still
abbrev pub KeepsLog : {O : Type 0} → (Bounds → Meaning O) → Disk → Disk → RecordLogView → RecordLogView → Type 0
KeepsLog meaning old new before after = old.tells_files → HasLog (meaning before.bounds) old before → HasLog (meaning after.bounds) new after

-- where the machine reports its files, the objects are laid on their file, and the log, which is another one, keeps some
-- records
abbrev pub IsAttached : {O : Type 0} → (Bounds → Meaning O) → Disk → Parts → Type 0
IsAttached meaning d it = d.tells_files → IsLaidOn it.volatile.objects (d.reads Objects) × HasLog (meaning it.log.bounds) d it.log

-- so many identity writes more are logged, each with an entry in the graph; the same objects are dirty
pub record IsLonger (n : ℕ) (before after : Parts) : Type 0 where
  pub next : after.log.next ≡ before.log.next + n
  pub entries : length after.volatile.entries ≡ length before.volatile.entries + n
  pub dirty : (y : ℕ) → is_dirty after.volatile.objects.cache y ≡ is_dirty before.volatile.objects.cache y

-- Why a call is stopped whose log may have so many bytes, by the log that it leaves: nothing waits in it, and a record has no
-- room after it, or no LSN is left for one; or no epoch is left for another log.
abbrev pub StopsAt : ℕ → RecordLogView → Stop → Type 0
StopsAt most log Through = ⊥
StopsAt most log (Full used need limit) = (used ≡ used_of log.log) × (log.log.pending ≡ []) × (limit < used + need) × (limit ≡ most)
StopsAt most log (At_end lsn) = (lsn ≡ log.next) × (log.log.pending ≡ []) × (lsn ≡ 2 ^ 62)
StopsAt most log (Worn epoch) = (epoch ≡ log.log.header.epoch) × (epoch ≡ 2 ^ 62)
