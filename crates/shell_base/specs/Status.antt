-- How a run ends, and the status that reports it.
use Rattle.std.specs.Prelude.{⊤, ℕ, Bool, true, false, Result, Ok, Err}
use Rattle.formats.specs.declared.read_err.ReadErr.{ReadErr}
use Rattle.formats.specs.declared.read_err.ReadErr.TheVariants as of_files
use Rattle.script_lines.specs.declared.read_error.ReadError.{ReadError}
use Rattle.script_lines.specs.declared.read_error.ReadError.TheVariants.{ReadFault as ReadFailed, TooLong as ReadTooMuch, Memory as NoMemoryToRead}
use Rattle.shell_base.specs.declared.stop.Stop.{Stop}
use Rattle.shell_base.specs.declared.stop.Stop.TheVariants.{DiskFault, Damaged as SlotDamaged, ReadFault, SayFault, BackupFault, Memory, TooLong}
use Rattle.shell_base.specs.declared.status.Status.{Status}
use Rattle.shell_base.specs.declared.status.Status.TheVariants.{Done, DoneWithRefusals, Usage, NotAStore, AlreadyStore, Damaged, DiskFault as DiskFailed, ReadFault as InputFailed, SayFault as OutputFailed, Memory as OutOfMemory, RestartMemory, TooLong as InputTooLong, AlreadyTwo, Smaller, BackupFault as BackupFailed, Gone, BadStream, StandbyFull}

-- the number that the process ends with
abbrev pub lsn_of : Status → ℕ
lsn_of Done = 0
lsn_of DoneWithRefusals = 1
lsn_of Usage = 2
lsn_of NotAStore = 3
lsn_of AlreadyStore = 3
lsn_of Damaged = 4
lsn_of DiskFailed = 5
lsn_of InputFailed = 6
lsn_of OutputFailed = 7
lsn_of OutOfMemory = 8
lsn_of RestartMemory = 8
lsn_of InputTooLong = 9
lsn_of AlreadyTwo = 3
lsn_of Smaller = 10
lsn_of BackupFailed = 11
lsn_of Gone = 12
lsn_of BadStream = 13
lsn_of StandbyFull = 14

-- why a run ends where no line could be read
abbrev pub stop_of_input : ReadError → Stop
stop_of_input ReadFailed = ReadFault
stop_of_input ReadTooMuch = TooLong
stop_of_input NoMemoryToRead = Memory

-- where a slot could not be read
abbrev pub stop_from_read : ReadErr → Stop
stop_from_read of_files.DiskFault = DiskFault
stop_from_read (of_files.Damaged file place) = SlotDamaged file place
stop_from_read of_files.Memory = Memory

-- the status of a run that ends before its script does
abbrev pub status_of : Stop → Status
status_of DiskFault = DiskFailed
status_of (SlotDamaged file place) = Damaged
status_of ReadFault = InputFailed
status_of SayFault = OutputFailed
status_of BackupFault = BackupFailed
status_of Memory = OutOfMemory
status_of TooLong = InputTooLong

-- the status of a run, by whether some answer was a refusal, or by why it ended early
abbrev pub status_after : Result Bool Stop → Status
status_after (Ok true) = DoneWithRefusals
status_after (Ok false) = Done
status_after (Err stop) = status_of stop

-- memory ran out, in the restart or later
abbrev pub LacksMemory : Status → Type 0
LacksMemory OutOfMemory = ⊤
LacksMemory RestartMemory = ⊤
LacksMemory status = ⊥

-- a run ended with this status before its script did, and the disk did not fail: the input, the output or the disk of a backup
-- failed, the input was too long, or memory ran out
abbrev pub IsCut : Status → Type 0
IsCut InputFailed = ⊤
IsCut OutputFailed = ⊤
IsCut OutOfMemory = ⊤
IsCut RestartMemory = ⊤
IsCut InputTooLong = ⊤
IsCut BackupFailed = ⊤
IsCut status = ⊥

-- a run may end with this status
abbrev pub IsOfRun : Status → Type 0
IsOfRun Usage = ⊥
IsOfRun AlreadyStore = ⊥
IsOfRun AlreadyTwo = ⊥
IsOfRun Smaller = ⊥
IsOfRun Gone = ⊥
IsOfRun BadStream = ⊥
IsOfRun StandbyFull = ⊥
IsOfRun status = ⊤

-- a dump may end with this status
abbrev pub IsOfDump : Status → Type 0
IsOfDump DoneWithRefusals = ⊥
IsOfDump Usage = ⊥
IsOfDump AlreadyStore = ⊥
IsOfDump InputFailed = ⊥
IsOfDump InputTooLong = ⊥
IsOfDump AlreadyTwo = ⊥
IsOfDump Smaller = ⊥
IsOfDump BackupFailed = ⊥
IsOfDump Gone = ⊥
IsOfDump BadStream = ⊥
IsOfDump StandbyFull = ⊥
IsOfDump status = ⊤

-- a layout may end with this status
abbrev pub IsOfInit : Status → Type 0
IsOfInit Done = ⊤
IsOfInit AlreadyStore = ⊤
IsOfInit DiskFailed = ⊤
IsOfInit OutputFailed = ⊤
IsOfInit status = ⊥

-- an upgrade may end with this status
abbrev pub IsOfUpgrade : Status → Type 0
IsOfUpgrade Done = ⊤
IsOfUpgrade NotAStore = ⊤
IsOfUpgrade Damaged = ⊤
IsOfUpgrade DiskFailed = ⊤
IsOfUpgrade OutputFailed = ⊤
IsOfUpgrade OutOfMemory = ⊤
IsOfUpgrade RestartMemory = ⊤
IsOfUpgrade AlreadyTwo = ⊤
IsOfUpgrade Smaller = ⊤
IsOfUpgrade status = ⊥

-- of a store of version 2 it may end with this status
abbrev pub IsOfSecond : Status → Type 0
IsOfSecond AlreadyTwo = ⊤
IsOfSecond DiskFailed = ⊤
IsOfSecond OutputFailed = ⊤
IsOfSecond OutOfMemory = ⊤
IsOfSecond RestartMemory = ⊤
IsOfSecond status = ⊥

-- a shipment may end with this status
abbrev pub IsOfShip : Status → Type 0
IsOfShip Done = ⊤
IsOfShip NotAStore = ⊤
IsOfShip Damaged = ⊤
IsOfShip DiskFailed = ⊤
IsOfShip OutputFailed = ⊤
IsOfShip OutOfMemory = ⊤
IsOfShip RestartMemory = ⊤
IsOfShip Gone = ⊤
IsOfShip status = ⊥

-- the following of a stream may end with this status
abbrev pub IsOfFollow : Status → Type 0
IsOfFollow Done = ⊤
IsOfFollow NotAStore = ⊤
IsOfFollow Damaged = ⊤
IsOfFollow DiskFailed = ⊤
IsOfFollow InputFailed = ⊤
IsOfFollow OutputFailed = ⊤
IsOfFollow OutOfMemory = ⊤
IsOfFollow RestartMemory = ⊤
IsOfFollow InputTooLong = ⊤
IsOfFollow BadStream = ⊤
IsOfFollow StandbyFull = ⊤
IsOfFollow status = ⊥

-- a call that has opened the store may end with this status
abbrev pub IsOfOpened : Status → Type 0
IsOfOpened NotAStore = ⊥
IsOfOpened RestartMemory = ⊥
IsOfOpened status = ⊤

-- a call ends with this status only where it has opened the store
abbrev pub IsOfStore : Status → Type 0
IsOfStore Done = ⊤
IsOfStore DoneWithRefusals = ⊤
IsOfStore InputFailed = ⊤
IsOfStore InputTooLong = ⊤
IsOfStore AlreadyTwo = ⊤
IsOfStore Smaller = ⊤
IsOfStore BackupFailed = ⊤
IsOfStore Gone = ⊤
IsOfStore BadStream = ⊤
IsOfStore StandbyFull = ⊤
IsOfStore status = ⊥

-- where a store is not opened, the program ends with this status
abbrev pub IsOfUnopened : Status → Type 0
IsOfUnopened NotAStore = ⊤
IsOfUnopened Damaged = ⊤
IsOfUnopened DiskFailed = ⊤
IsOfUnopened OutputFailed = ⊤
IsOfUnopened OutOfMemory = ⊤
IsOfUnopened RestartMemory = ⊤
IsOfUnopened status = ⊥
