-- Which world the files show, and which commands they stand for.
use Rattle.std.specs.Prelude.{◌≡◌, ℕ, Bool, nat_lt, if◌then◌else◌, List, []}
use Rattle.disk_model.specs.Disk.{Files}
use Rattle.disk_model.specs.declared.machine.FileNo.{FileNo}
use Rattle.disk_model.specs.declared.machine.FileNo.TheVariants.{Objects}
use Rattle.oper_core.specs.Cell.{Cell}
use Rattle.oper_core.specs.Meaning.{Meaning}
use Rattle.oper_core.specs.declared.bounds.Bounds.{Bounds}
use Rattle.formats.specs.Log.{Header}
use Rattle.formats.specs.Objects.{IsObjectsFile, cell_of, bounds_of}
use Rattle.formats.specs.Records.{HoldsRecordLog, records_of}
use Rattle.formats.specs.declared.params.Params.{Params}
use Rattle.formats.specs.declared.record.Record.{Record}
use Rattle.explain_core.specs.History.{Member, commands_of}
use Rattle.explain_core.specs.Sound.{IsSound}
use Rattle.explain_core.specs.Stable.{Stable, IsStableOf, stable_of}
use Rattle.explain_core.specs.World.{World, step}
use Rattle.explain_core.specs.World.Step.{Crash}
use Rattle.standing.specs.Members.{members_of, tables_in}

-- an object as its slots hold it; past the last object of the store stand the LSN 0 and no bytes
abbrev pub stored : Params → List ℕ → ℕ → Cell
stored p file x = if nat_lt x p.objects then cell_of x file else record { lsn = 0; value = [] }

-- The files are whole, and hold these parts: the slots have the cells; of the log in force the header has the base and
-- how many commands are before it, and the records are the members from the base on, and the checkpoints.
pub record HoldsStable {O : Type 0} (m : Meaning O) (p : Params) (files : Files) (parts : Stable O) : Type 0 where
  pub objects : IsObjectsFile p (files Objects)
  pub cells : (x : ℕ) → stored p (files Objects) x ≡ parts.slots x
  pub active : FileNo
  pub header : Header
  pub groups : List (List (Record O))
  pub log : HoldsRecordLog m active header groups files
  pub base : header.base ≡ parts.base
  pub commands_before : header.commands ≡ parts.commands_before
  pub members : members_of (records_of groups) ≡ parts.records
  pub tables : tables_in (records_of groups) ≡ parts.tables

-- the files hold what is stable in a world
abbrev pub FilesShow : {O : Type 0} → Meaning O → Params → Files → World O → Type 0
FilesShow m p files w = HoldsStable m p files (stable_of w)

-- The files stand for the commands: what they hold may be what is stable of a history with just these commands, of which
-- some members are installed; these explain the slots, and no checkpoint skips one of the others.
pub record StandsFor {O : Type 0} (meaning : Bounds → Meaning O) (p : Params) (files : Files) (commands : List O) : Type 0 where
  pub parts : Stable O
  pub holds : HoldsStable (meaning (bounds_of p)) p files parts
  pub history : List (Member O)
  pub installed : ℕ → Bool
  pub stable : IsStableOf (meaning (bounds_of p)) parts history installed
  pub commands_are : commands_of history ≡ commands

-- The world that a restart finds: the files show it, it is sound, a crash leaves it as it is, and it has these commands.
pub record IsFound {O : Type 0} (m : Meaning O) (p : Params) (files : Files) (commands : List O) (w : World O) : Type 0 where
  pub shows : FilesShow m p files w
  pub sound : IsSound m w
  pub crashed : step m w Crash ≡ w
  pub commands_are : commands_of w.history ≡ commands
