-- The store that the program runs: its operations, and what its engine and its files stand for.
use Rattle.std.specs.Prelude.{◌≡◌, ◌≤◌, ◌⊎◌, ℕ, List, Option, None, Result}
use Rattle.oper_core.specs.State.{State}
use Rattle.oper_core.specs.Meaning.{Meaning}
use Rattle.oper_core.specs.declared.refusal.Refusal.{Refusal}
use Rattle.disk_model.specs.Disk.{Files, Disk}
use Rattle.formats.specs.declared.params.Params.{Params}
use Rattle.op_codec.specs.AllOps.{AllOps}
use Rattle.op_codec.specs.AllOps.{all_meaning}
use Rattle.explain_core.specs.History.{commands_of}
use Rattle.explain_core.specs.World.{World}
use Rattle.running_store.specs.Taking.{Ending}
use Rattle.store_engine.specs.Store as of_store
use Rattle.store_engine.specs.Engine as of_engine
use Rattle.store_engine.specs.Upgrading as of_upgrading
use Rattle.store_engine.specs.Engine.{EngineView, accepted_in, forced_in}
use Rattle.execution.specs.declared.exec_err.ExecErr.{ExecErr}

-- the operations of a script's commands
abbrev pub Command : Type 0
Command = AllOps

-- what they mean in a store with these numbers
abbrev pub meaning_in : Params → Meaning Command
meaning_in p = of_store.meaning_in all_meaning p

-- the values of the objects after the commands
abbrev pub state_of : Params → List Command → State
state_of p commands = of_store.state_of all_meaning p commands

-- the first refusal that a command meets after the commands
abbrev pub refusal_after : Params → List Command → Command → Option Refusal
refusal_after p commands op = of_store.refusal_after all_meaning p commands op

-- the length of a command's record
abbrev pub record_length : Params → Command → ℕ
record_length p op = of_store.record_length all_meaning p op

-- the files meet their format
abbrev pub IsWellFormed : Files → Type 0
IsWellFormed files = of_store.IsWellFormed all_meaning files

-- the files stand for the commands
abbrev pub Stands : Params → Files → List Command → Type 0
Stands p files commands = of_store.Stands all_meaning p files commands

-- the files are those of a new store
abbrev pub IsNewStore : Params → Files → Type 0
IsNewStore p files = of_engine.IsNewStore all_meaning p files

-- the files are those of a store of version 2 with these numbers, and stand for the commands
abbrev pub IsUpgraded : Params → List Command → Files → Type 0
IsUpgraded q commands files = of_upgrading.IsUpgraded all_meaning q commands files

-- they stand for the commands, in the store with the first numbers that was there or in the larger one with the others
abbrev pub StandsInEither : Params → Params → List Command → Files → Type 0
StandsInEither p q commands files = of_upgrading.StandsInEither all_meaning p q commands files

-- no store is there, or one without commands
abbrev pub IsNew : Params → Files → Type 0
IsNew p files = of_engine.IsNew all_meaning p files

-- the machine reports its files, and what reads give stands for the commands
abbrev pub Opens : Params → Disk → List Command → Type 0
Opens p d commands = of_engine.Opens all_meaning p d commands

-- engine and files show the world
abbrev pub ShowsIn : Params → Disk → EngineView → World Command → Type 0
ShowsIn p d engine w = of_engine.ShowsIn all_meaning p d engine w

-- where the machine reports its files, the engine is on them: the objects are laid on their file, and the log keeps some records
abbrev pub IsAttached : Disk → EngineView → Type 0
IsAttached d engine = of_engine.IsAttached all_meaning d engine

-- what holds on every machine of a call whose log may have so many bytes
abbrev pub IsEngineCall : ℕ → Disk → Disk → EngineView → EngineView → ℕ → Ending → Type 0
IsEngineCall most old new before after logged ending = of_engine.IsEngineCall all_meaning most old new before after logged ending

-- each image stands for the commands that are forced, and the map has the values after all
abbrev pub Says : Params → Disk → EngineView → List Command → Type 0
Says p d engine commands = of_engine.Says all_meaning p d engine commands

-- Engine and files stand for the commands: they show a sound world whose history has these commands, so that the files
-- stand for those that are forced, and the map for all.
pub record Holds (p : Params) (d : Disk) (engine : EngineView) (commands : List Command) : Type 0 where
  pub world : World Command
  pub shows : ShowsIn p d engine world
  pub commands_are : commands_of world.history ≡ commands
  pub says : Says p d engine commands

-- an image at a moment of calls on an engine that came to stand for the commands, with so many at their start: the forced ones
-- are there, or, where no group was open, at least those of the start
abbrev pub Between : Params → Disk → Option ℕ → ℕ → ℕ → List Command → Files → List ℕ → Type 0
Between p old group forced start commands files said = of_engine.Between all_meaning p old group forced start commands files said

-- what engine and files stand for after a call: no fewer are forced
pub record Kept (p : Params) (before : EngineView) (d : Disk) (engine : EngineView) (commands : List Command) : Type 0 where
  pub holds : Holds p d engine commands
  pub rising : forced_in before ≤ forced_in engine
  pub which : (forced_in engine ≡ forced_in before) ⊎ ((before.group ≡ None) × (accepted_in before ≤ forced_in engine))

-- why a command gets its answer after these commands, in a group that has so many, or in none
abbrev pub HasCause : Option ℕ → Params → List Command → Command → Result ℕ ExecErr → Type 0
HasCause size p commands op result = of_engine.HasCause all_meaning size p commands op result
