use Rattle.std.proofs.Common.{◌≡◌, ◌∷◌, ◌++◌, take}
use Rattle.std.specs.Int.{from_bool}
use Rattle.std.specs.Prelude.{flat_map}
use Rattle.byteorder.specs.Endian.{little_bytes}
use Rattle.app_program.proofs.machine_state.MachineState.head.Given as goal

abbrev pub invariant-loop-number : goal.invariant-loop-number
invariant-loop-number l = l.value.items ≡ little_bytes 4 l.self.pc ++ (from_bool l.self.halted ∷ flat_map (little_bytes 8) (take l.number-index l.self.registers))
