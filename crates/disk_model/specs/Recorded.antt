-- What a machine in memory holds: its record, its files.
use Rattle.std.specs.Prelude.{◌≡◌, ℕ, ◌+◌, List, [], length, slice_index}
use Rattle.disk_model.specs.ByFile.{part_of}
use Rattle.disk_model.specs.Disk.{Files}
use Rattle.disk_model.specs.Call.{Call}
use Rattle.disk_model.specs.Entries.{calls_in, replay}
use Rattle.disk_model.specs.declared.machine.FileNo.{FileNo}
use Rattle.disk_model.specs.declared.machine.FileNo.TheVariants.{Objects, LogA, LogB}
use Rattle.disk_model.specs.declared.call_history.CallHistory.{CallHistory}
use Rattle.disk_model.specs.declared.entry.Entry.{Entry}
use Rattle.disk_model.specs.declared.crash.Crash.{Crash}
use Rattle.disk_model.specs.declared.crash.Crash.TheVariants.{Old, New, Fill}
use Rattle.disk_model.specs.declared.mem_file.MemFile.{MemFile}
use Rattle.disk_model.specs.declared.mem_files.MemFiles.{MemFiles}

abbrev pub calls_of : CallHistory → List Call
calls_of r = calls_in r.entries.items r.pool.bytes.items

-- no call has been recorded
pub record IsEmpty (r : CallHistory) : Type 0 where
  pub entries : r.entries.items ≡ []
  pub pool : r.pool.bytes.items ≡ []

pub record HasSameLimits (old new : CallHistory) : Type 0 where
  pub limit : new.limit ≡ old.limit
  pub pool : new.pool.bound ≡ old.pool.bound

-- one call more is recorded, with so many bytes
pub record CallsCounted (count : ℕ) (old new : CallHistory) : Type 0 where
  pub limit : new.limit ≡ old.limit
  pub pool : new.pool.bound ≡ old.pool.bound
  pub calls : length new.entries.items ≡ length old.entries.items + 1
  pub bytes : length new.pool.bytes.items ≡ length old.pool.bytes.items + count

abbrev pub file_of : MemFiles → FileNo → MemFile
file_of m file = part_of m.files file

-- the files as the machine was made
abbrev pub first_of : MemFiles → Files
first_of m file = (file_of m file).first.bytes.items

abbrev pub reads_of : MemFiles → Files
reads_of m file = (file_of m file).present.bytes.items

-- the files as they were at their last syncs
abbrev pub synced_of : MemFiles → Files
synced_of m file = (file_of m file).synced.bytes.items

abbrev pub bound_of : MemFiles → FileNo → ℕ
bound_of m file = (file_of m file).present.bound

-- what a crash leaves of a file after these calls
abbrev pub left_by : Crash → FileNo → List Entry → MemFile → List ℕ
left_by Old file entries f = f.synced.bytes.items
left_by New file entries f = f.present.bytes.items
left_by (Fill byte) file entries f = replay byte file f.synced.bytes.items entries f.synced.bytes.items

-- a file that holds these bytes, settled
pub record IsFresh (bytes : List ℕ) (old new : MemFile) : Type 0 where
  pub first : new.first.bytes.items ≡ bytes
  pub present : new.present.bytes.items ≡ bytes
  pub synced : new.synced.bytes.items ≡ bytes
  pub bound : new.present.bound ≡ old.present.bound

-- three files that are empty and settled
pub record AreEmpty (m : MemFiles) : Type 0 where
  pub first : (file : FileNo) → first_of m file ≡ []
  pub reads : (file : FileNo) → reads_of m file ≡ []
  pub synced : (file : FileNo) → synced_of m file ≡ []

-- of three sizes, that of this file
abbrev pub size_in : List ℕ → FileNo → ℕ
size_in sizes Objects = slice_index sizes 0
size_in sizes LogA = slice_index sizes 1
size_in sizes LogB = slice_index sizes 2
