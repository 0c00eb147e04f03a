-- A store of some operations, and what its files stand for.
use Rattle.std.specs.Prelude.{ℕ, List, Option}
use Rattle.oper_core.specs.State.{State}
use Rattle.oper_core.specs.Meaning.{Meaning, refusal_of, state_after}
use Rattle.oper_core.specs.declared.bounds.Bounds.{Bounds}
use Rattle.oper_core.specs.declared.refusal.Refusal.{Refusal}
use Rattle.disk_model.specs.Disk.{Files}
use Rattle.formats.specs.Objects.{bounds_of}
use Rattle.formats.specs.declared.params.Params.{Params}
use Rattle.standing.specs.Standing.{StandsFor}
use Rattle.running_store.specs.Calls.Commands.{command_length}
use Rattle.restart.specs.WellFormed as of_files

module _ {O : Type 0} (meaning : Bounds → Meaning O) where
  -- what the operations mean in a store with these numbers
  abbrev pub meaning_in : Params → Meaning O
  meaning_in p = meaning (bounds_of p)

  -- the values of the objects after the commands
  abbrev pub state_of : Params → List O → State
  state_of p commands = state_after (meaning_in p) commands

  -- the first refusal that a command meets after the commands
  abbrev pub refusal_after : Params → List O → O → Option Refusal
  refusal_after p commands op = refusal_of (meaning_in p) (state_of p commands) op

  -- the length of a command's record: kind, LSN and code
  abbrev pub record_length : Params → O → ℕ
  record_length p op = command_length (meaning_in p) op

  -- the files meet their format
  abbrev pub IsWellFormed : Files → Type 0
  IsWellFormed files = of_files.IsWellFormed meaning files

  -- the files stand for the commands
  abbrev pub Stands : Params → Files → List O → Type 0
  Stands p files commands = StandsFor meaning p files commands
