-- What proofs know of a machine with a queue, and what its calls do to it.
use Rattle.std.specs.Prelude.{◌≡◌, ℕ, ◌+◌, ◌-◌, ◌^◌, min, List, [], ◌∷◌, ◌++◌}
use Rattle.disk_model.specs.Disk.{Files, Disk, IsDisk}
use Rattle.disk_model.specs.Exchanged.{with_exchange, lawful_exchange}
use Rattle.disk_model.specs.Growing.{files_of}
use Rattle.disk_model.specs.Call.{Call}
use Rattle.write_queue.specs.Waiting.{waiting}
use Rattle.write_queue.specs.Before.{IsLeftBy, first_of, exchanged, all_calls, disk_by, lawful_by}
use Rattle.write_queue.specs.declared.queue_mem.QueueMem.{QueueMem}

-- the files as they were handed in
abbrev pub first_files : QueueMem → Files
first_files m = first_of m.past

-- the calls that the caller has taken, in their order
abbrev pub taken_from : QueueMem → List Call
taken_from m = m.past.taken

-- and those since, which wait for it
abbrev pub waiting_in : QueueMem → List Call
waiting_in m = waiting m.queue

-- its files and images are those that the disk model gives for all its calls; it exchanges with its user the files that are handed
-- in, and the calls that are taken
abbrev pub disk_of : QueueMem → Disk
disk_of m = with_exchange (exchanged m.past) (disk_by (first_of m.past) (all_calls m.past m.queue) (files_of m.files) m.disk_faults m.say_faults)

pub lawful : (m : QueueMem) → IsDisk (disk_of m)
lawful m =
    let d = disk_by (first_of m.past) (all_calls m.past m.queue) (files_of m.files) m.disk_faults m.say_faults in
    lawful_exchange (exchanged m.past) d (lawful_by (first_of m.past) (all_calls m.past m.queue) (files_of m.files) m.disk_faults m.say_faults m.made)

-- a crash may leave these real files, and these bytes printed, where some front of the queue was made
abbrev pub IsLeftByFront : QueueMem → Files → List ℕ → Type 0
IsLeftByFront m = IsLeftBy (first_files m) (taken_from m) (waiting_in m)

-- the same calls, the same files, and the same counts of faults: the same to whoever looks at the machine
pub record LooksTheSame (old new : QueueMem) : Type 0 where
  pub first : first_files new ≡ first_files old
  pub calls : all_calls new.past new.queue ≡ all_calls old.past old.queue
  pub files : files_of new.files ≡ files_of old.files
  pub disk_faults : new.disk_faults ≡ old.disk_faults
  pub say_faults : new.say_faults ≡ old.say_faults

-- this call is now the last that waits, and no fault was counted
pub record Queues (call : Call) (old new : QueueMem) : Type 0 where
  pub past : new.past ≡ old.past
  pub waiting : waiting_in new ≡ waiting_in old ++ call ∷ []
  pub disk_faults : new.disk_faults ≡ old.disk_faults
  pub say_faults : new.say_faults ≡ old.say_faults

-- the same calls, files and past
pub record HoldsTheSame (old new : QueueMem) : Type 0 where
  pub past : new.past ≡ old.past
  pub waiting : waiting_in new ≡ waiting_in old
  pub files : files_of new.files ≡ files_of old.files

-- a call on a file that fails: it changes nothing but the count of disk faults
pub record CountsDiskFault (old new : QueueMem) : Type 0 where
  pub unchanged : HoldsTheSame old new
  pub disk_faults : new.disk_faults ≡ min (old.disk_faults + 1) (2 ^ 64 - 1)
  pub say_faults : new.say_faults ≡ old.say_faults

-- a call of `say` that fails: it changes nothing but the count of output faults
pub record CountsSayFault (old new : QueueMem) : Type 0 where
  pub unchanged : HoldsTheSame old new
  pub disk_faults : new.disk_faults ≡ old.disk_faults
  pub say_faults : new.say_faults ≡ min (old.say_faults + 1) (2 ^ 64 - 1)
