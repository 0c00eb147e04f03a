-- Files whose log is that of a world. Here `disk` is what proofs know of a machine.
use Rattle.std.specs.Prelude.{◌≡◌, ◌⊎◌, ◌-◌, List, [], ◌∷◌, drop, take}
use Rattle.disk_model.specs.Disk.{Disk, Files}
use Rattle.disk_model.specs.declared.machine.FileNo.{FileNo}
use Rattle.oper_core.specs.Meaning.{Meaning}
use Rattle.oper_core.specs.declared.bounds.Bounds.{Bounds}
use Rattle.formats.specs.Log.{Header}
use Rattle.formats.specs.Records.{HoldsRecordLog, records_of}
use Rattle.formats.specs.declared.params.Params.{Params}
use Rattle.formats.specs.declared.record.Record.{Record}
use Rattle.log_records.specs.LogCopy.{HoldsCopy}
use Rattle.log_records.specs.RecordLog.{Keeps}
use Rattle.explain_core.specs.World.{World, plan_of}
use Rattle.standing.specs.Members.{members_of, tables_in}
use Rattle.store_engine.specs.Engine.{EngineView, ShowsIn}
use Rattle.store_engine.specs.Store.{meaning_in}

-- The log in force has the world's base, as many commands before it, and the stable members from the base on; it has no checkpoint,
-- or one that asks for all of them.
pub record HoldsLogOf {O : Type 0} (m : Meaning O) (w : World O) (files : Files) : Type 0 where
  pub active : FileNo
  pub header : Header
  pub groups : List (List (Record O))
  pub log : HoldsRecordLog m active header groups files
  pub base : header.base ≡ w.base
  pub commands_before : header.commands ≡ w.commands_before
  pub members : members_of (records_of groups) ≡ drop (w.base - 1) (take w.forced w.history)
  pub tables : (tables_in (records_of groups) ≡ []) ⊎ (tables_in (records_of groups) ≡ plan_of [] w.base ∷ [])

module _ {O T : Type 0} (meaning : Bounds → Meaning O) (disk : T → Disk) where
  -- the log of an engine that shows a world keeps the records that are shown
  abbrev pub KeepsShown : Type 0
  KeepsShown = (p : Params) (now : T) (engine : EngineView) (w : World O) (shows : ShowsIn meaning p (disk now) engine w)
      → Keeps (meaning engine.parts.log.bounds) (disk now) engine.parts.log shows.shows.log.stable shows.shows.log.pending

  -- and files with a copy of that log have the log of the world
  abbrev pub CopyHoldsLog : Type 0
  CopyHoldsLog = (p : Params) (now : T) (engine : EngineView) (w : World O) (files : Files) (shows : ShowsIn meaning p (disk now) engine w)
      → HoldsCopy (meaning engine.parts.log.bounds) engine.parts.log.log shows.shows.log.stable files → HoldsLogOf (meaning_in meaning p) w files
