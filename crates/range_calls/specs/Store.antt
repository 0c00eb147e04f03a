-- The operations of the store that the calls work on: those of `AllOps`.
use Rattle.std.specs.Prelude.{List}
use Rattle.oper_core.specs.State.{State}
use Rattle.oper_core.specs.Meaning.{Meaning}
use Rattle.formats.specs.declared.params.Params.{Params}
use Rattle.op_codec.specs.AllOps.{AllOps, all_meaning}
use Rattle.store_engine.specs.Store as of_store

-- the operations of commands
abbrev pub Command : Type 0
Command = AllOps

-- what they mean in a store with these numbers
abbrev pub meaning_in : Params → Meaning Command
meaning_in p = of_store.meaning_in all_meaning p

-- the values of the objects after the commands
abbrev pub state_of : Params → List Command → State
state_of p commands = of_store.state_of all_meaning p commands
