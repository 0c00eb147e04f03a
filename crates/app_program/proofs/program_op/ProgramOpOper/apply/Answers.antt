use Rattle.std.proofs.Common.{◌≡◌, List, [], ◌∷◌, ℕ, sym, ap, ◌∙◌}
use Rattle.std.proofs.lemmas.Result.{IfOk-weaker}
use Rattle.op_rows.specs.Rows.{first, if_applicable, second}
use Rattle.app_program.specs.State.{state_code}
use Rattle.app_program.specs.Table.{program_meaning, step_check, stepped}
use Rattle.app_program.specs.declared.program_op.ProgramOp.{ProgramOp}
use Rattle.app_program.proofs.Got.{first_is, second_is}
use Rattle.app_program.proofs.program_op.ProgramOpOper.apply.Goals as goal

pub returns-in-Step : goal.returns-in-Step
returns-in-Step c =
    let values : List (List ℕ) = c.args.values.now in
    let a : List ℕ = c.get.result.now in
    let p : List ℕ = c.get-in-Step.result.now in
    let state : a ≡ first values = sym (first_is values a c.get.ensures) in
    let code : p ≡ second values = sym (second_is values p c.get-in-Step.ensures) in
    let effect : ProgramOp → List (List ℕ) = λ (op : ProgramOp). (program_meaning c.args.b).effect op values in
    let made : if_applicable (step_check c.args.b a p) (state_code (stepped a p) ∷ []) ≡ if_applicable (step_check c.args.b (first values) (second values)) (state_code (stepped (first values) (second values)) ∷ []) =
    λ i. if_applicable (step_check c.args.b (state i) (code i)) (state_code (stepped (state i) (code i)) ∷ []) in
    let row : if_applicable (step_check c.args.b (first values) (second values)) (state_code (stepped (first values) (second values)) ∷ []) ≡ effect c.args.self.now =
    ap effect (sym c.in-Step.is) in
    IfOk-weaker c.step.result (λ (l : List (List ℕ)). l ≡ if_applicable (step_check c.args.b a p) (state_code (stepped a p) ∷ [])) (λ (l : List (List ℕ)). l ≡ effect c.args.self.now)
    (λ l is. is ∙ made ∙ row) c.step.ensures
