-- What a machine in memory reports, and what a crash leaves of it.
use Rattle.disk_model.specs.Disk.{Files, Disk}
use Rattle.disk_model.specs.Calls.{DiskState, disk_start, disk_after, disk_at}
use Rattle.disk_model.specs.Recorded.{calls_of, first_of, reads_of}
use Rattle.disk_model.specs.declared.crash.Crash.{Crash}
use Rattle.disk_model.specs.declared.crash.Crash.TheVariants.{Old, New, Fill}
use Rattle.disk_model.specs.declared.mem_disk.MemDisk.{MemDisk}

-- its files and images are those that the disk model gives for its record
abbrev pub recorded : MemDisk → Disk
recorded d = disk_at (first_of d.files) (calls_of d.history) (reads_of d.files) d.said.bytes.items 0 0

abbrev pub state_of : MemDisk → DiskState
state_of d = disk_after (disk_start (first_of d.files)) (calls_of d.history)

-- the files as they were at their last syncs, as they read, or with one byte in place of all that was not synced
abbrev pub left_after : Crash → DiskState → Files
left_after Old st = st.synced
left_after New st = st.reads
left_after (Fill byte) st = st.filled byte
