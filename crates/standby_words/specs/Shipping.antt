-- The log is said for a standby, as frames.
use Rattle.std.specs.Prelude.{◌≡◌, ◌≢◌, ◌⊎◌, ◌<◌, ◌≤◌, ◌++◌, ℕ, List, map}
use Rattle.disk_model.specs.Disk.{Files, Disk, LeavesOnly, IsSettled, SaysFront, Runs, Same}
use Rattle.disk_model.specs.declared.machine.FileNo.{FileNo}
use Rattle.formats.specs.InForce.{IsInForce}
use Rattle.formats.specs.Log.{Header, IsWholeLog}
use Rattle.formats.specs.Records.{AreRecords, HoldsRecordLog, payload_of, records_of}
use Rattle.formats.specs.declared.params.Params.{Params}
use Rattle.formats.specs.declared.record.Record.{Record}
use Rattle.frame_stream.specs.Frames.{frames}
use Rattle.log_blocks.specs.LogView.{LogView}
use Rattle.oper_core.specs.Meaning.{Meaning}
use Rattle.log_records.specs.BlockReader.{payloads_from}
use Rattle.restart.specs.Starts.{OrAtStart}
use Rattle.store_engine.specs.Engine.{InEachImage}
use Rattle.shell_base.specs.declared.budget.Budget.{Budget}
use Rattle.shell_base.specs.Again.{IsStartRefused}
use Rattle.shell_base.specs.Judging.{JudgesFiles, ReadsNoStore}
use Rattle.shell_base.specs.First.{TableMoment, Stage, IsFirst}
use Rattle.shell_base.specs.Notices as notices
use Rattle.shell_base.specs.Status.{IsOfShip}
use Rattle.shell_base.specs.Store.{Command, Opens, Stands, meaning_in}
use Rattle.shell_base.specs.declared.status.Status.{Status}
use Rattle.shell_base.specs.declared.status.Status.TheVariants.{Done, NotAStore, Damaged, DiskFault, RestartMemory, Gone}

-- The log in the files begins with no later number than this one, and the frames of what its blocks have from that number on
-- were said: a frame for each block that has a command or an identity write with such a number.
pub record SaysFrames (p : Params) (from : ℕ) (old new : Disk) : Type 0 where
  pub active : FileNo
  pub header : Header
  pub groups : List (List (Record Command))
  pub log : HoldsRecordLog (meaning_in p) active header groups new.reads
  pub reached : header.base ≤ from
  pub said : new.said ≡ old.said ++ frames (payloads_from (meaning_in p) from groups)

-- the log in the files begins with a later number, which was said
pub record SaysGone (p : Params) (from : ℕ) (old new : Disk) : Type 0 where
  pub active : FileNo
  pub header : Header
  pub groups : List (List (Record Command))
  pub log : HoldsRecordLog (meaning_in p) active header groups new.reads
  pub above : from < header.base
  pub said : new.said ≡ old.said ++ notices.gone header.base

-- The log in the files begins with these blocks, whose records are these groups, and a part of the frames of what they have from
-- that number on was said after these bytes.
pub record SaysPart (p : Params) (from : ℕ) (before : List ℕ) (files : Files) (said : List ℕ) : Type 0 where
  pub active : FileNo
  pub header : Header
  pub groups : List (List (Record Command))
  pub later : List (List ℕ)
  pub in_force : IsInForce active header.epoch files
  pub log : IsWholeLog header (map (payload_of (meaning_in p)) groups ++ later) (files active)
  pub placed : AreRecords (meaning_in p) header.base header.base (records_of groups)
  pub reached : header.base ≤ from
  pub part : SaysFront (frames (payloads_from (meaning_in p) from groups)) before said

-- or the log begins later, and a part of that was said
pub record SaysPartGone (p : Params) (from : ℕ) (before : List ℕ) (files : Files) (said : List ℕ) : Type 0 where
  pub active : FileNo
  pub header : Header
  pub groups : List (List (Record Command))
  pub log : HoldsRecordLog (meaning_in p) active header groups files
  pub above : from < header.base
  pub part : SaysFront (notices.gone header.base) before said

-- what was said of the log in the files: nothing yet, or a part of that
abbrev pub SaysOfLog : Params → ℕ → List ℕ → Files → List ℕ → Type 0
SaysOfLog p from before files said = (said ≡ before) ⊎ (SaysPart p from before files said ⊎ SaysPartGone p from before files said)

-- a moment of a shipment: the files stand for the commands, and no more was said than of the log in them
abbrev pub ShipMoment : Params → List Command → ℕ → List ℕ → Files → List ℕ → Type 0
ShipMoment p commands from before files said = Stands p files commands × SaysOfLog p from before files said

-- The log of files that stand for commands is shipped from a number on.
pub record IsShipOn (budget : Budget) (from : ℕ) (p : Params) (commands : List Command) (old new : Disk) (status : Status) : Type 0 where
  -- with status 0 the frames of the log that the restart left were said; with status 12 it begins later, and that was said
  pub done : status ≡ Done → SaysFrames p from old new
  pub gone : status ≡ Gone → SaysGone p from old new
  -- whatever the status, no more was said than of that log
  pub said : SaysOfLog p from old.said new.reads new.said
  -- what a crash at any moment leaves is what one at the start could leave, or it stands for these commands, and no more was said
  pub images : old.tells_moments → LeavesOnly old new (OrAtStart old (ShipMoment p commands from old.said))
  pub from_settled : old.tells_moments → IsSettled old → LeavesOnly old new (ShipMoment p commands from old.said)
  pub store : (status ≢ NotAStore) × (status ≢ Damaged)
  -- but where the disk may have failed, or memory the opening, the machine is settled then, and the files stand for these
  -- commands
  pub settled : status ≢ DiskFault → status ≢ RestartMemory → IsSettled new
  pub stands : status ≢ DiskFault → status ≢ RestartMemory → InEachImage new (λ files. Stands p files commands)
  -- where the restart was refused memory, the files stand for these commands still
  pub unopened : old.tells_moments → status ≡ RestartMemory → IsStartRefused budget p commands old new
  -- the restart takes its course, and nothing else is done: a crash at any moment leaves what one at the start could leave, or
  -- the world after some first steps of it
  pub steps : old.tells_moments → (first : Stage) → (is : IsFirst budget p commands old first) → LeavesOnly old new (OrAtStart old (TableMoment budget p commands old first is))

-- The log of any files is shipped.
pub record IsShipCall (budget : Budget) (from : ℕ) (old new : Disk) (status : Status) : Type 0 where
  pub log : (p : Params) (commands : List Command) → Opens p old commands → IsShipOn budget from p commands old new status
  pub ends : IsOfShip status
  pub judged : old.tells_files → JudgesFiles old new status
  pub read : status ≡ NotAStore → ReadsNoStore new

-- These payloads are those of a log's first blocks, as far as such files agree with what was read.
pub record AreFirstBlocks (m : Meaning Command) (d : Disk) (log : LogView) (from : ℕ) (given : List (List ℕ)) : Type 0 where
  pub groups : List (List (Record Command))
  pub given_are : given ≡ payloads_from m from groups
  pub placed : AreRecords m log.header.base log.header.base (records_of groups)
  pub read : (files : Files) → d.agrees files → (payloads : List (List ℕ)) → IsWholeLog log.header payloads (files log.active) → (later : List (List ℕ)) × (payloads ≡ map (payload_of m) groups ++ later)

-- of a reader of the log from a number on so much was said, a frame for each block that it gave, or a part of the last one
pub record SaysBlocks (m : Meaning Command) (old new : Disk) (log : LogView) (from : ℕ) : Type 0 where
  pub given : List (List ℕ)
  pub first : AreFirstBlocks m new log from given
  pub says : Runs Same (SaysFront (frames given)) old new

-- a shipment that finds memory says frames, or that the log begins later
abbrev pub IsShipEnd : Status → Type 0
IsShipEnd status = (status ≡ Done) ⊎ (status ≡ Gone)
