-- Groups that are given up, and groups for which the log has room.
use Rattle.std.specs.Prelude.{◌≡◌, ◌≤◌, ◌⊎◌, ◌++◌, if◌then◌else◌, true, false, ℕ, List, Option, None, Some, Result, Box, IfSome, IsSome, OnOk, length, take}
use Rattle.std.specs.Global.{Global}
use Rattle.disk_model.specs.Disk.{LeavesOnly}
use Rattle.disk_model.specs.Silent.{IsSilent}
use Rattle.disk_model.specs.declared.machine.Failed.{Failed}
use Rattle.formats.specs.declared.params.Params.{Params}
use Rattle.op_codec.specs.AllOps.{AllOps, all_meaning}
use Rattle.store_engine.specs.Calls.{IsBeginning, IsRefused, work_of_force}
use Rattle.store_engine.specs.Engine.{Between, Holds, IsAttached, Opens, accepted_in, forced_in, group_size}
use Rattle.store_engine.specs.Store.{Stands}
use Rattle.store_engine.specs.declared.work_err.WorkErr.{WorkErr}
use Rattle.store_engine.specs.declared.work_err.WorkErr.TheVariants as work
use Rattle.transactions.specs.Room.{HasRoomOf}
use Rattle.transactions.specs.Snapshots.{IsSnapshot}
use Rattle.transactions.specs.declared.snapshot.Snapshot.{Snapshot}
use Rattle.write_queue.specs.Memory.{disk_of}
use Rattle.write_queue.specs.declared.queue_mem.QueueMem.{QueueMem}
use Rattle.embed.specs.Embedded.{IsStillBroken, SaysFull}
use Rattle.embed.specs.declared.store.Store.{Store}
use Rattle.embed_c.specs.Answers.{alone, done_answer}
use Rattle.embed_c.specs.Calls.{DoesNothing, IsUntaken}
use Rattle.embed_c.specs.Handles.{not_open}
use Rattle.embed_c.specs.declared.session.Session.{Session}

-- a group was opened, and the log has room for records of so many bytes within; or it has no such room, and nothing was done
pub record DoesBeginRoom (bytes : ℕ) (old new : Store QueueMem) (made : Result (Unit {0}) WorkErr) : Type 0 where
  pub in_group : old.engine.broken ≡ false → IfSome (group_size old.engine) (λ size. IsRefused size old.machine new.machine old.engine new.engine made)
  pub full : old.engine.broken ≡ false → old.engine.group ≡ None → (HasRoomOf old.engine bytes → ⊥) → (new ≡ old) × SaysFull old.engine bytes made
  pub alone : old.engine.broken ≡ false → old.engine.group ≡ None → HasRoomOf old.engine bytes → (its : Result (Unit {0}) Failed) × (made ≡ work_of_force its) × IsBeginning all_meaning (disk_of old.machine) (disk_of new.machine) old.engine new.engine its
  pub room : old.engine.broken ≡ false → old.engine.group ≡ None → (p : Params) (commands : List AllOps) → Holds all_meaning p (disk_of old.machine) old.engine commands → OnOk made (HasRoomOf new.engine bytes)
  pub broken : old.engine.broken ≡ true → IsStillBroken work.DiskFault old new made

-- The open group of a store was given up: it stands for the commands before the group, all of which are durable, and so does
-- whatever a crash leaves of its files since. It is in use, with no group and no backup under way, and has logged no identity write.
pub record DoesAbort (old new : Store QueueMem) : Type 0 where
  pub unbroken : new.engine.broken ≡ false
  pub group : new.engine.group ≡ None
  pub copied : new.engine.copied ≡ None
  pub identities : new.engine.identities ≡ 0
  pub attached : IsAttached all_meaning (disk_of new.machine) new.engine
  pub undone : (p : Params) (commands ops : List AllOps) → Holds all_meaning p (disk_of old.machine) old.engine (commands ++ ops) → group_size old.engine ≡ Some (length ops) →
      Holds all_meaning p (disk_of new.machine) new.engine commands × (forced_in new.engine ≡ length commands)
  pub images : (p : Params) (commands ops : List AllOps) → Holds all_meaning p (disk_of old.machine) old.engine (commands ++ ops) → group_size old.engine ≡ Some (length ops) →
      LeavesOnly (disk_of old.machine) (disk_of new.machine) (Between all_meaning p (disk_of old.machine) None (length commands) (length commands) commands)

-- All that was not forced was given up: the store stands for the forced commands, and so does whatever a crash leaves of its files
-- since. It is in use, with no group and no backup under way, and has logged no identity write.
pub record DoesReopen (old new : Store QueueMem) : Type 0 where
  pub unbroken : new.engine.broken ≡ false
  pub group : new.engine.group ≡ None
  pub copied : new.engine.copied ≡ None
  pub identities : new.engine.identities ≡ 0
  pub attached : IsAttached all_meaning (disk_of new.machine) new.engine
  pub back : (p : Params) (commands : List AllOps) → Holds all_meaning p (disk_of old.machine) old.engine commands →
      Holds all_meaning p (disk_of new.machine) new.engine (take (forced_in old.engine) commands) × (forced_in new.engine ≡ forced_in old.engine)
  pub images : (p : Params) (commands : List AllOps) → Holds all_meaning p (disk_of old.machine) old.engine commands →
      LeavesOnly (disk_of old.machine) (disk_of new.machine) (IsSilent (λ files. Stands all_meaning p files (take (forced_in old.engine) commands)) (disk_of old.machine).said)

-- A snapshot of a store that went back to first ones of its commands is one of the same state still, or it was given up; it was not
-- where the store has as many commands as when it began.
pub record GoesBack (store : Store QueueMem) (s t : Snapshot) : Type 0 where
  pub back : (p : Params) (base commands : List AllOps) (n : ℕ) → IsSnapshot all_meaning p s base commands → Holds all_meaning p (disk_of store.machine) store.engine (take n commands) → IsSnapshot all_meaning p t base (take n commands)
  pub stands : s.at ≤ accepted_in store.engine → t ≡ s

abbrev pub BringsBack : Store QueueMem → Option Snapshot → Option Snapshot → Type 0
BringsBack store None after = after ≡ None
BringsBack store (Some s) None = ⊥
BringsBack store (Some s) (Some t) = GoesBack store s t

-- a session whose store was given up so; no call is taken from its machine, and what else is kept for C is as it was
pub record IsAgain (does : Store QueueMem → Store QueueMem → Type 0) (old new : Session) : Type 0 where
  pub store : does old.store new.store
  pub detail : new.detail ≡ done_answer.detail
  pub untaken : IsUntaken old.store.machine new.store.machine
  pub taken : new.taken ≡ old.taken
  pub pairs : new.pairs ≡ old.pairs
  pub staging : new.staging ≡ old.staging
  pub snapshot : BringsBack new.store old.snapshot new.snapshot

abbrev pub IsGivenUp : Session → Session → Type 0
IsGivenUp = IsAgain DoesAbort

abbrev pub IsReopened : Session → Session → Type 0
IsReopened = IsAgain DoesReopen

-- It was given up, but is not there again: the store was dropped with this machine, from which no call was taken. Whatever a crash
-- leaves of its files since stands for the commands before the group, and so do the files themselves.
pub record IsLost (old : Store QueueMem) : Type 0 where
  pub machine : QueueMem
  pub untaken : IsUntaken old.machine machine
  pub images : (p : Params) (commands ops : List AllOps) → Holds all_meaning p (disk_of old.machine) old.engine (commands ++ ops) → group_size old.engine ≡ Some (length ops) →
      LeavesOnly (disk_of old.machine) (disk_of machine) (Between all_meaning p (disk_of old.machine) None (length commands) (length commands) commands)
  pub again : (p : Params) (commands ops : List AllOps) → Holds all_meaning p (disk_of old.machine) old.engine (commands ++ ops) → group_size old.engine ≡ Some (length ops) → Opens all_meaning p (disk_of machine) commands

-- The same where all that was not forced was given up: the forced commands are left.
pub record LosesUnforced (old : Store QueueMem) : Type 0 where
  pub machine : QueueMem
  pub untaken : IsUntaken old.machine machine
  pub images : (p : Params) (commands : List AllOps) → Holds all_meaning p (disk_of old.machine) old.engine commands →
      LeavesOnly (disk_of old.machine) (disk_of machine) (IsSilent (λ files. Stands all_meaning p files (take (forced_in old.engine) commands)) (disk_of old.machine).said)
  pub again : (p : Params) (commands : List AllOps) → Holds all_meaning p (disk_of old.machine) old.engine commands → Opens all_meaning p (disk_of machine) (take (forced_in old.engine) commands)

-- what C is told where no group is open: that, or that the disk has failed
abbrev pub no_group_in : Session → ℕ
no_group_in s = if s.store.engine.broken then 5 else 19

-- a session is put behind a handle, and what it was to say is answered; where there is none, 5 is
abbrev pub PutsBack : Option (Box Session Global) → ℕ → Option Session → ℕ → Type 0
PutsBack None says new answer = (new ≡ None) × (answer ≡ 5)
PutsBack (Some it) says new answer = (new ≡ Some it.value) × (answer ≡ says)

-- The open group of the session behind a handle was given up; where none is open C is told so, and nothing is done. Where the store
-- is not there again, for want of memory or with its machine, the session was dropped, and 5 is answered.
abbrev pub GivesUp : Option Session → Option Session → ℕ → Type 0
GivesUp None new answer = (new ≡ None) × (answer ≡ not_open)
GivesUp (Some old) None answer = IsSome old.store.engine.group × IsLost old.store × (answer ≡ 5)
GivesUp (Some old) (Some new) answer = ((old.store.engine.broken ≡ false → old.store.engine.group ≡ None) × DoesNothing (alone (no_group_in old)) old new answer)
    ⊎ (IsSome old.store.engine.group × IsGivenUp old new × (answer ≡ 0))
