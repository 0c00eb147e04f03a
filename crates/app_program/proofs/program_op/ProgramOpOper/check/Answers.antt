use Rattle.std.proofs.Common.{List, ℕ, sym, ap, ◌∙◌}
use Rattle.app_program.specs.Table.{program_row, step_check}
use Rattle.app_program.specs.declared.program_op.ProgramOp.{ProgramOp}
use Rattle.app_program.proofs.Got.{first_is, second_is}
use Rattle.app_program.proofs.program_op.ProgramOpOper.check.Goals as goal

pub returns-in-Step : goal.returns-in-Step
returns-in-Step c =
    let values : List (List ℕ) = c.args.values.now in
    let state = sym (first_is values c.get.result.now c.get.ensures) in
    let code = sym (second_is values c.get-in-Step.result.now c.get-in-Step.ensures) in
    c.require_step.ensures ∙ (λ i. step_check c.args.b (state i) (code i)) ∙ ap (λ (op : ProgramOp). (program_row op).check c.args.b values) (sym c.in-Step.is)
