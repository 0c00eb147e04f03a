-- What a command leaves of the parts, on every machine.
use Rattle.std.specs.Prelude.{◌≡◌, ◌+◌, ℕ, Bool, true, false, [], ◌∷◌, ◌++◌, Result, Ok, Err}
use Rattle.disk_model.specs.Disk.{Disk}
use Rattle.oper_core.specs.Meaning.{Meaning}
use Rattle.oper_core.specs.declared.bounds.Bounds.{Bounds}
use Rattle.formats.specs.Records.{record_code}
use Rattle.formats.specs.declared.record.Record.TheVariants.{Command as Logged}
use Rattle.log_records.specs.RecordLog.{RecordLogView}
use Rattle.explain_core.specs.History.Member.{Command}
use Rattle.running_store.specs.Calls.{failed_of, with_log}
use Rattle.running_store.specs.Laid.Fetched.{IsFetched}
use Rattle.running_store.specs.Steps.Forced.{IsForced}
use Rattle.running_store.specs.Parts.{Parts, entry_of, meaning_in}
use Rattle.running_store.specs.StoreView.{StoreView}
use Rattle.execution.specs.Failures.{IsAdmissible, IsExecFailure}
use Rattle.running_store.specs.Parts.Unchanged.{IsSameLog}
use Rattle.running_store.specs.Calls.Commands.{command_length, HasPlaceBelow}
use Rattle.execution.specs.declared.exec_err.ExecErr.{ExecErr}
use Rattle.execution.specs.declared.exec_err.ExecErr.TheVariants.{LogFull, LsnEnd}

-- the log with a record of the command that waits after all others
abbrev pub IsLogWith : {O : Type 0} → Meaning O → O → RecordLogView → RecordLogView → Type 0
IsLogWith m op before log = log ≡ record before {
  log = record before.log { pending = before.log.pending ++ record_code m (Logged before.next op); room = log.log.room };
  next = before.next + 1;
  accepted = before.accepted + 1;
}

-- A command was done, the nth since the store was made: some values admit it, its record had a place and waits after all
-- others, and the graph has its entry.
pub record IsExecuted {O : Type 0} (meaning : Bounds → Meaning O) (before after : Parts) (op : O) (n : ℕ) : Type 0 where
  pub admissible : IsAdmissible meaning before.volatile.objects.slots.params op
  pub place : HasPlaceBelow before.volatile.objects.slots.params.limit before.log (command_length (meaning_in meaning before.volatile.objects.slots.params) op)
  pub log : IsLogWith (meaning_in meaning before.volatile.objects.slots.params) op before.log after.log
  pub nth : n ≡ before.log.accepted + 1
  pub slots : after.volatile.objects.slots ≡ before.volatile.objects.slots
  pub entries : after.volatile.entries ≡ before.volatile.entries ++ entry_of (meaning_in meaning before.volatile.objects.slots.params) before.log.next (Command op) ∷ []

-- the log after a record that got no place: all that waited is forced, but nothing within a group (`grouped`)
abbrev pub IsUnplaced : Bool → RecordLogView → RecordLogView → Type 0
IsUnplaced true before log = IsSameLog before log
IsUnplaced false before log = IsForced before log

-- the log after a command that was not done: one without the record, else it is as it was
abbrev pub LogWithout : Bool → RecordLogView → RecordLogView → ExecErr → Type 0
LogWithout grouped before log (LogFull used need limit) = IsUnplaced grouped before log
LogWithout grouped before log (LsnEnd lsn) = IsUnplaced grouped before log
LogWithout grouped before log e = IsSameLog before log

-- such a force: the store is as it was but for its log, or the disk failed, which it does outside groups alone
abbrev pub IsForcedOutside : {T E : Type 0} → Bool → StoreView → StoreView → Result T E → Type 0
IsForcedOutside grouped before after (Ok value) = IsUnplaced grouped before.parts.log after.parts.log × (after ≡ with_log before after.parts.log)
IsForcedOutside grouped before after (Err e) = (grouped ≡ false) × (after ≡ failed_of before)

-- A command was not done: the log has no record of it, nothing but slots was read, and the graph is as it was.
pub record IsUndone (grouped : Bool) (before after : Parts) (e : ExecErr) : Type 0 where
  pub log : LogWithout grouped before.log after.log e
  pub objects : IsFetched before.volatile.objects after.volatile.objects
  pub entries : after.volatile.entries ≡ before.volatile.entries

-- What holds on every machine of a command: where it is done its record waits, and it has its entry; where it is not the log
-- has none, and nothing but slots was read. The answer has a cause.
abbrev pub IsOutcome : {O : Type 0} → (Bounds → Meaning O) → Bool → Disk → Disk → Parts → Parts → O → Result ℕ ExecErr → Type 0
IsOutcome meaning grouped old new before after op (Ok n) = IsExecuted meaning before after op n
IsOutcome meaning grouped old new before after op (Err e) = IsUndone grouped before after e × IsExecFailure meaning grouped old new before op e
