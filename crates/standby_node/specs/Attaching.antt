-- What a standby begins with.
use Rattle.std.specs.Prelude.{◌≡◌, List, [], length, Result, Ok, Err}
use Rattle.disk_model.specs.Disk.{Disk}
use Rattle.oper_core.specs.Meaning.{Meaning}
use Rattle.oper_core.specs.declared.bounds.Bounds.{Bounds}
use Rattle.formats.specs.declared.params.Params.{Params}
use Rattle.explain_core.specs.History.{Member, commands_of}
use Rattle.stable_objects.specs.declared.open_err.OpenErr.{OpenErr}
use Rattle.running_store.specs.Parts.{Parts}
use Rattle.store_engine.specs.Engine.{forced_in}
use Rattle.standby_node.specs.Standby.{IsFollowing, StandbyView}

-- what an attachment answers, without the counts of the standby
abbrev pub attached : Result StandbyView OpenErr → Result Parts OpenErr
attached (Ok s) = Ok s.engine.parts
attached (Err cause) = Err cause

-- the standby stands for these commands, all of them stable, and nothing came of a stream yet
pub record BeginsOn {O : Type 0} (meaning : Bounds → Meaning O) (p : Params) (d : Disk) (commands : List O) (s : StandbyView) : Type 0 where
  pub first : List (Member O)
  pub commands_are : commands_of first ≡ commands
  pub following : IsFollowing meaning p first [] d s
  pub stable : forced_in s.engine ≡ length commands
