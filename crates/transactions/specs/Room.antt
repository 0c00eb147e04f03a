-- Room in the log for commands that are added one after the other.
use Rattle.std.specs.Prelude.{◌+◌, ◌≤◌, ℕ, List}
use Rattle.oper_core.specs.Meaning.{Meaning}
use Rattle.oper_core.specs.declared.bounds.Bounds.{Bounds}
use Rattle.store_engine.specs.Engine.{EngineView, params_of, records_of, used_in}

-- records of so many bytes fit below the limit of the log, also where the first of them begins a block
abbrev pub HasRoomOf : EngineView → ℕ → Type 0
HasRoomOf engine bytes = used_in engine + 5 + bytes ≤ (params_of engine).limit

-- those of these commands do
abbrev pub HasRoomFor : {O : Type 0} → (Bounds → Meaning O) → EngineView → List O → Type 0
HasRoomFor meaning engine ops = HasRoomOf engine (records_of meaning (params_of engine) ops)
