-- What a failure of a call below is for a record that is followed.
use Rattle.std.specs.Prelude.{ℕ}
use Rattle.formats.specs.declared.read_err.ReadErr.{ReadErr}
use Rattle.formats.specs.declared.read_err.ReadErr.TheVariants as of_read
use Rattle.execution.specs.declared.exec_err.ExecErr.{ExecErr}
use Rattle.execution.specs.declared.exec_err.ExecErr.TheVariants as of_exec
use Rattle.execution.specs.declared.record_err.RecordErr.{RecordErr}
use Rattle.execution.specs.declared.record_err.RecordErr.TheVariants.{Differs, LogFull, DiskFault, Damaged, Memory}

abbrev pub record_from_read : ReadErr → RecordErr
record_from_read of_read.DiskFault = DiskFault
record_from_read (of_read.Damaged file place) = Damaged file place
record_from_read of_read.Memory = Memory

-- of the record with this LSN, whose command is not admitted
abbrev pub record_from_exec : ℕ → ExecErr → RecordErr
record_from_exec lsn (of_exec.Refused refusal) = Differs lsn
record_from_exec lsn of_exec.DiskFault = DiskFault
record_from_exec lsn (of_exec.Damaged file place) = Damaged file place
record_from_exec lsn (of_exec.LogFull used need limit) = LogFull used need limit
record_from_exec lsn (of_exec.LsnEnd end) = Differs lsn
record_from_exec lsn of_exec.Memory = Memory
