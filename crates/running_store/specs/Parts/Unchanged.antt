-- What a call leaves that only reads slots, or that is not done: parts as they were, but for what is cached of clean objects, and
-- for room.
use Rattle.std.specs.Prelude.{◌≡◌, ℕ, List}
use Rattle.disk_model.specs.Disk.{Disk, Stays}
use Rattle.disk_model.specs.declared.machine.FileNo.TheVariants.{Objects}
use Rattle.log_records.specs.RecordLog.{RecordLogView}
use Rattle.dirty_cache.specs.Contents.{held, is_dirty}
use Rattle.running_store.specs.Laid.Fetched.{IsFetched}
use Rattle.running_store.specs.Laid.{Laid, IsLaidOn, KeepsCells}
use Rattle.running_store.specs.Parts.{Parts}

-- a log that is as it was, but for room
abbrev pub IsSameLog : RecordLogView → RecordLogView → Type 0
IsSameLog before log = log ≡ record before { log = record before.log { room = log.log.room } }

-- Slots were read, and nothing else was done: each object has the pair that it had.
pub record HasRead (old new : Disk) (before after : Laid) : Type 0 where
  pub stays : Stays old new
  pub fetched : IsFetched before after
  pub cells : old.tells_files → IsLaidOn before (old.reads Objects) → KeepsCells (old.reads Objects) before after × IsLaidOn after (old.reads Objects)

-- no call was made on the machine, and what is cached stays as it is
pub record IsUntaken (before after : Parts) : Type 0 where
  pub log : IsSameLog before.log after.log
  pub slots : after.volatile.objects.slots ≡ before.volatile.objects.slots
  pub held : (x : ℕ) → held after.volatile.objects.cache x ≡ held before.volatile.objects.cache x
  pub dirty : (x : ℕ) → is_dirty after.volatile.objects.cache x ≡ is_dirty before.volatile.objects.cache x
  pub laid : (file : List ℕ) → IsLaidOn before.volatile.objects file → IsLaidOn after.volatile.objects file
  pub entries : after.volatile.entries ≡ before.volatile.entries
