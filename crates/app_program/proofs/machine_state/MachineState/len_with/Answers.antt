use Rattle.std.proofs.Common.{◌≡◌, length, ap, ◌∙◌, sym, arith}
use Rattle.app_program.specs.Machine.{Machine}
use Rattle.app_program.specs.StateLaws.{length-state_code}
use Rattle.app_program.proofs.machine_state.MachineState.len_with.Goals as goal

pub returns-clause-value : goal.returns-clause-value
returns-clause-value c =
    let view = c.self.view_is in
    let count : length c.args.self.now.registers ≡ 8 = ap (λ (m : Machine). length m.registers) (sym view) ∙ c.self.invariant in
    let code = length-state_code c.args.self.now count in
    omega (arith, code, ap (λ (m : Machine). length m.input) view, ap (λ (m : Machine). length m.output) view)

pub returns-clause-size : goal.returns-clause-size
returns-clause-size c =
    let view = c.self.view_is in
    omega (arith, ap (λ (m : Machine). length m.input) view, ap (λ (m : Machine). length m.output) view)
