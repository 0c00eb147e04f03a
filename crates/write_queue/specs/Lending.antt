-- What proofs know of a machine over bytes that are lent, and what its calls do to it.
use Rattle.std.specs.Prelude.{◌≡◌, ℕ, ◌+◌, ◌-◌, ◌^◌, min, List, [], ◌∷◌, ◌++◌}
use Rattle.disk_model.specs.Disk.{Files, Disk, IsDisk}
use Rattle.disk_model.specs.Exchanged.{with_exchange, lawful_exchange}
use Rattle.disk_model.specs.Call.{Call}
use Rattle.write_queue.specs.Waiting.{waiting}
use Rattle.write_queue.specs.Before.{IsLeftBy, Makes, first_of, exchanged, all_calls, disk_by, lawful_by}
use Rattle.write_queue.specs.Lent.{lent_files, looked}
use Rattle.write_queue.specs.LookingLaws.{makes_through}
use Rattle.write_queue.specs.declared.lent_mem.LentMem.{LentMem}

-- the calls that wait for the caller
abbrev pub waiting_in : LentMem → List Call
waiting_in m = waiting m.queue

-- what its files hold: the lent bytes, once the calls that wait are made on them
abbrev pub files_in : LentMem → Files
files_in m = looked m.lent m.queue

-- its files and images are those that the disk model gives for all its calls, those that the caller took before the bytes were
-- lent, and those that wait
abbrev pub disk_of : LentMem → Disk
disk_of m = with_exchange (exchanged m.past) (disk_by (first_of m.past) (all_calls m.past m.queue) (files_in m) m.disk_faults m.say_faults)

pub made : (m : LentMem) → Makes (first_of m.past) (all_calls m.past m.queue) (files_in m)
made m = makes_through (first_of m.past) (lent_files m.lent) m.past.taken (waiting m.queue) m.whole.0

pub lawful : (m : LentMem) → IsDisk (disk_of m)
lawful m =
    let d = disk_by (first_of m.past) (all_calls m.past m.queue) (files_in m) m.disk_faults m.say_faults in
    lawful_exchange (exchanged m.past) d (lawful_by (first_of m.past) (all_calls m.past m.queue) (files_in m) m.disk_faults m.say_faults (made m))

-- a crash may leave these real files, and these bytes printed, where some front of the queue was made
abbrev pub IsLeftByFront : LentMem → Files → List ℕ → Type 0
IsLeftByFront m = IsLeftBy (first_of m.past) m.past.taken (waiting_in m)

-- the same past, and the same bytes are lent
pub record IsOfOne (old new : LentMem) : Type 0 where
  pub past : new.past ≡ old.past
  pub lent : lent_files new.lent ≡ lent_files old.lent

-- this call is now the last that waits, and no fault was counted
pub record Queues (call : Call) (old new : LentMem) : Type 0 where
  pub one : IsOfOne old new
  pub waiting : waiting_in new ≡ waiting_in old ++ call ∷ []
  pub disk_faults : new.disk_faults ≡ old.disk_faults
  pub say_faults : new.say_faults ≡ old.say_faults

-- the same calls wait
pub record HoldsTheSame (old new : LentMem) : Type 0 where
  pub one : IsOfOne old new
  pub waiting : waiting_in new ≡ waiting_in old

-- and the counts of faults are the same
pub record LooksTheSame (old new : LentMem) : Type 0 where
  pub unchanged : HoldsTheSame old new
  pub disk_faults : new.disk_faults ≡ old.disk_faults
  pub say_faults : new.say_faults ≡ old.say_faults

-- a call on a file that fails: it changes nothing but the count of disk faults
pub record CountsDiskFault (old new : LentMem) : Type 0 where
  pub unchanged : HoldsTheSame old new
  pub disk_faults : new.disk_faults ≡ min (old.disk_faults + 1) (2 ^ 64 - 1)
  pub say_faults : new.say_faults ≡ old.say_faults

-- a call of `say` that fails: it changes nothing but the count of output faults
pub record CountsSayFault (old new : LentMem) : Type 0 where
  pub unchanged : HoldsTheSame old new
  pub disk_faults : new.disk_faults ≡ old.disk_faults
  pub say_faults : new.say_faults ≡ min (old.say_faults + 1) (2 ^ 64 - 1)
