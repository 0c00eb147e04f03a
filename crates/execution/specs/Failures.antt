-- Why a command is not done, on every machine.
use Rattle.std.specs.Prelude.{◌≡◌, ◌⊎◌, ◌+◌, ◌<◌, ◌≤◌, ◌^◌, ⊤, ℕ, Bool, true, false, List, length, Option, None, Some, Result, Ok, Err}
use Rattle.disk_model.specs.Disk.{Disk, Rises}
use Rattle.disk_model.specs.declared.machine.FileNo.{FileNo}
use Rattle.oper_core.specs.Meaning.{Meaning, FitsReads, refusal_of}
use Rattle.oper_core.specs.State.{State}
use Rattle.oper_core.specs.declared.bounds.Bounds.{Bounds}
use Rattle.oper_core.specs.declared.refusal.Refusal.{Refusal}
use Rattle.formats.specs.declared.params.Params.{Params}
use Rattle.formats.specs.declared.read_err.ReadErr.{ReadErr}
use Rattle.formats.specs.declared.read_err.ReadErr.TheVariants as of_read
use Rattle.log_blocks.specs.LogView.{used_of, growth_of}
use Rattle.log_records.specs.RecordLog.{RecordLogView}
use Rattle.running_store.specs.Laid.{Laid}
use Rattle.running_store.specs.Laid.LongSlot.{HasLongSlot}
use Rattle.running_store.specs.Parts.{Parts, meaning_in}
use Rattle.running_store.specs.Calls.Commands.{HasPlaceBelow, IsReady, command_length, length_with}
use Rattle.execution.specs.declared.exec_err.ExecErr.{ExecErr}
use Rattle.execution.specs.declared.exec_err.ExecErr.TheVariants.{Refused, DiskFault, Damaged, LogFull, LsnEnd, Memory}

-- what a command answers where a slot is not read
abbrev pub exec_from_read : ReadErr → ExecErr
exec_from_read of_read.DiskFault = DiskFault
exec_from_read (of_read.Damaged file place) = Damaged file place
exec_from_read of_read.Memory = Memory

-- so many bytes a record of n bytes needs that gets no place: within a group (`grouped`) nothing is forced, and it goes behind
-- what waits
abbrev pub needed_by : Bool → RecordLogView → ℕ → ℕ
needed_by true log n = growth_of log.log.pending n
needed_by false log n = n + 5

-- why a record of n bytes gets no place: no room in the log, or else no LSN; the force that comes then may fail, where no
-- group is open
abbrev pub LacksPlace : Bool → ℕ → RecordLogView → ℕ → ExecErr → Type 0
LacksPlace grouped limit log n (LogFull used need most) = (limit < length_with log n) × (used ≡ used_of log.log) × (need ≡ needed_by grouped log n) × (most ≡ limit)
LacksPlace grouped limit log n (LsnEnd lsn) = (length_with log n ≤ limit) × (2 ^ 62 ≤ log.next) × (lsn ≡ log.next)
LacksPlace grouped limit log n DiskFault = (grouped ≡ false) × ((limit < length_with log n) ⊎ (2 ^ 62 ≤ log.next))
LacksPlace grouped limit log n (Refused refusal) = ⊥
LacksPlace grouped limit log n (Damaged file place) = ⊥
LacksPlace grouped limit log n Memory = ⊥

-- Why slots are not read: the disk fails, and counts that; or a file is damaged at a place, and this holds of the two; or memory
-- runs out.
abbrev pub IsReadFailure : Disk → Disk → (FileNo → ℕ → Type 0) → ExecErr → Type 0
IsReadFailure old new damage DiskFault = Rises old.disk_faults new.disk_faults
IsReadFailure old new damage (Damaged file place) = damage file place
IsReadFailure old new damage Memory = ⊤
IsReadFailure old new damage (Refused refusal) = ⊥
IsReadFailure old new damage (LogFull used need limit) = ⊥
IsReadFailure old new damage (LsnEnd lsn) = ⊥

module _ {O : Type 0} (meaning : Bounds → Meaning O) (p : Params) (op : O) where
  abbrev m : Meaning O
  m = meaning_in meaning p

  -- nothing refuses it on some values that it may read
  abbrev pub IsAdmissible : Type 0
  IsAdmissible = (values : List (List ℕ)) × IsReady meaning p op values

  -- it is refused whatever the values are, or else on some values that it may read
  abbrev pub IsRefused : Refusal → Type 0
  IsRefused r = (m.shape op ≡ Some r)
      ⊎ ((values : List (List ℕ)) × (m.shape op ≡ None) × FitsReads m op values × (m.check op values ≡ Some r))

  -- where memory may run out for a command before its place in the log is known: it reads objects, or no memory holds its code
  abbrev pub NeedsMemory : Type 0
  NeedsMemory = (0 < length (m.reads op)) ⊎ (2 ^ 63 ≤ length (m.code op))

  -- Why a command is not admitted: it is refused, or memory runs out, or the slots of the objects that it reads are not read:
  -- the disk fails, or the value in one of them is too long.
  abbrev pub IsAdmitFailure : Disk → Disk → Laid → ExecErr → Type 0
  IsAdmitFailure old new objects (Refused refusal) = IsRefused refusal
  IsAdmitFailure old new objects Memory = NeedsMemory
  IsAdmitFailure old new objects e = IsReadFailure old new (HasLongSlot new objects.slots (m.reads op)) e

-- What an admission answers where the objects have these values: what is refused is refused on them.
abbrev pub IsAdmittedOn : {O : Type 0} → Meaning O → State → O → Result (Option (List (List ℕ)) × ℕ) ExecErr → Type 0
IsAdmittedOn m state op (Ok pair) = ⊤
IsAdmittedOn m state op (Err (Refused refusal)) = refusal_of m state op ≡ Some refusal
IsAdmittedOn m state op (Err DiskFault) = ⊤
IsAdmittedOn m state op (Err (Damaged file place)) = ⊤
IsAdmittedOn m state op (Err (LogFull used need limit)) = ⊤
IsAdmittedOn m state op (Err (LsnEnd lsn)) = ⊤
IsAdmittedOn m state op (Err Memory) = ⊤

module _ {O : Type 0} (meaning : Bounds → Meaning O) (grouped : Bool) (old new : Disk) (before : Parts) (op : O) where
  abbrev p : Params
  p = before.volatile.objects.slots.params

  abbrev n : ℕ
  n = command_length (meaning_in meaning p) op

  -- Why a command is not done, on every machine: it gets no place, though some values admit it, or else it is not admitted.
  -- Where a force fails for it, the disk counts that. For a command that reads no object, and whose code memory can hold,
  -- memory runs out only where it has its place.
  abbrev pub IsExecFailure : ExecErr → Type 0
  IsExecFailure (LogFull used need limit) = IsAdmissible meaning p op × LacksPlace grouped p.limit before.log n (LogFull used need limit)
  IsExecFailure (LsnEnd lsn) = IsAdmissible meaning p op × LacksPlace grouped p.limit before.log n (LsnEnd lsn)
  IsExecFailure Memory = NeedsMemory meaning p op ⊎ (IsAdmissible meaning p op × HasPlaceBelow p.limit before.log n)
  IsExecFailure e = IsAdmitFailure meaning p op old new before.volatile.objects e
