-- What the files were, and what has been made of them.
use Rattle.std.specs.Prelude.{◌≡◌, ◌≤◌, ◌++◌, ℕ, List, length, take, refl}
use Rattle.disk_model.specs.Disk.{Files, Disk, Exchange, IsDisk}
use Rattle.disk_model.specs.Call.{Call}
use Rattle.disk_model.specs.Calls.{DiskState, IsImage, Matches, disk_start, disk_after, disk_at}
use Rattle.disk_model.specs.CallLaws.{is_disk}
use Rattle.disk_model.specs.declared.machine.FileNo.{FileNo}
use Rattle.write_queue.specs.Handed.{handed}
use Rattle.write_queue.specs.Waiting.{waiting}
use Rattle.write_queue.specs.declared.past.Past.{Past}
use Rattle.write_queue.specs.declared.queue.Queue.{Queue}

-- the files as they were handed in
abbrev pub first_of : Past → Files
first_of past = handed past.objects past.log_a past.log_b

-- what its user handed in, and what was handed over
abbrev pub exchanged : Past → Exchange
exchanged past = record { files = first_of past; calls = past.taken }

-- all calls, those that were taken and those that wait
abbrev pub all_calls : Past → Queue → List Call
all_calls past queue = past.taken ++ waiting queue

-- what files become by calls, by the disk model
abbrev pub Makes : Files → List Call → Files → Type 0
Makes first calls now = (file : FileNo) → now file ≡ (disk_after (disk_start first) calls).reads file

-- Real files that held what was handed in, all of it on the disk, once what was taken was made on them, and then so many of
-- the calls that wait, in order. A write that a crash cuts short is among them: of it a crash leaves any bytes.
abbrev pub real_after : Files → List Call → List Call → ℕ → DiskState
real_after first taken waiting k = disk_after (disk_start first) (taken ++ take k waiting)

-- a crash may leave these real files, and these bytes printed, where some front of the calls that wait was made
pub record IsLeftBy (first : Files) (taken waiting : List Call) (files : Files) (said : List ℕ) : Type 0 where
  pub front : ℕ
  pub within : front ≤ length waiting
  pub image : IsImage (real_after first taken waiting front) files
  pub printed : said ≡ (real_after first taken waiting front).said

-- a machine that holds what its calls made of the files that were handed in, and said what they said
abbrev pub disk_by : Files → List Call → Files → ℕ → ℕ → Disk
disk_by first calls reads disk_faults say_faults = disk_at first calls reads (disk_after (disk_start first) calls).said disk_faults say_faults

pub lawful_by : (first : Files) (calls : List Call) (reads : Files) (disk_faults say_faults : ℕ) → Makes first calls reads → IsDisk (disk_by first calls reads disk_faults say_faults)
lawful_by first calls reads disk_faults say_faults made =
    let st = disk_after (disk_start first) calls in
    let matches : Matches first calls reads st.synced st.said = record { reads = made; syncs = λ file. refl; said = refl } in
    is_disk first calls reads st.synced st.said disk_faults say_faults matches
