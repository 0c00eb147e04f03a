-- What a failure of a call below is in the terms of a backup.
use Rattle.formats.specs.declared.read_err.ReadErr.{ReadErr}
use Rattle.formats.specs.declared.read_err.ReadErr.TheVariants as of_read
use Rattle.log_records.specs.declared.copy_err.CopyErr.{CopyErr}
use Rattle.log_records.specs.declared.copy_err.CopyErr.TheVariants as of_copy
use Rattle.backup_copy.specs.declared.backup_err.BackupErr.{BackupErr}
use Rattle.backup_copy.specs.declared.backup_err.BackupErr.TheVariants.{DiskFault, TargetFault, Damaged, LogFull, Memory}

-- why a slot was not read
abbrev pub backup_from_read : ReadErr → BackupErr
backup_from_read of_read.DiskFault = DiskFault
backup_from_read (of_read.Damaged file place) = Damaged file place
backup_from_read of_read.Memory = Memory

-- why the log was not copied
abbrev pub backup_from_copy : CopyErr → BackupErr
backup_from_copy (of_copy.LogFull used need limit) = LogFull used need limit
backup_from_copy of_copy.DiskFault = DiskFault
backup_from_copy of_copy.TargetFault = TargetFault
backup_from_copy (of_copy.Damaged file place) = Damaged file place
backup_from_copy of_copy.Memory = Memory
