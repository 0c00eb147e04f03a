use Rattle.std.proofs.Common.{◌≡◌, ◌*◌, List, ℕ, drop, slice_get, sym, ap, ◌∙◌, arith}
use Rattle.oper_core.specs.LittleEndian.{slice_from}
use Rattle.app_program.specs.Program.{instruction_in}
use Rattle.app_program.specs.ProgramLaws.{get_past, get_within}
use Rattle.app_program.specs.declared.instruction.Instruction.{Instruction}
use Rattle.app_program.proofs.program.Program.get.Goals as goal

pub returns-then-self-start-clause-value : goal.returns-then-self-start-clause-value
returns-then-self-start-clause-value c =
    let bytes : List ℕ = c.self.inside.bytes.now in
    let past = c.if-self-start.true in
    sym (ap (λ (p : List Instruction). slice_get p c.args.place) (sym c.self.view_is) ∙ get_past bytes c.args.place c.self.invariant (omega (arith, past)))

pub returns-clause-value : goal.returns-clause-value
returns-clause-value c =
    let bytes : List ℕ = c.self.inside.bytes.now in
    let within = c.if-self-start.false in
    let place : c.args.place * 8 ≡ 8 * c.args.place = omega arith in
    c.decode.ensures.value ∙ ap instruction_in (slice_from (c.args.place * 8) bytes ∙ ap (λ (k : ℕ). drop k bytes) place)
    ∙ sym (ap (λ (p : List Instruction). slice_get p c.args.place) (sym c.self.view_is) ∙ get_within bytes c.args.place c.self.invariant (omega (arith, within)))
