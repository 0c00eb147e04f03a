use Rattle.std.proofs.Common.{◌≡◌, ◌≤◌, ℕ, Some, false, List, [], length, slice_get, sym, ap, ◌∙◌, arith}
use Rattle.std.specs.Int.{from_bool}
use Rattle.op_rows.specs.Rows.{listed_number}
use Rattle.app_program.specs.Machine.{Machine, done}
use Rattle.app_program.specs.Program.{program_of}
use Rattle.app_program.specs.State.{machine_of, state_code, with_more}
use Rattle.app_program.specs.StateLaws.{longer}
use Rattle.app_program.specs.declared.instruction.Instruction.{Instruction}
use Rattle.app_program.proofs.Accepted.{accepted, counted}
use Rattle.app_program.proofs.effects.next_state.Goals as goal

pub returns-clause-refusal : goal.returns-clause-refusal
returns-clause-refusal c =
    let a : List ℕ = c.args.value.now in
    let p : List ℕ = c.args.code.now in
    let i : Instruction = c.in-Some.instruction in
    let next : Machine = c.in-Some-step.next in
    let more : List ℕ = listed_number c.in-Some-step.put in
    let machine : machine_of a ≡ c.in_ok-state.state = sym c.in_ok-state.ensures.machine in
    let inside = machine ∙ sym c.state.view_is in
    let goes_on : (machine_of a).halted ≡ false = ap (λ (m : Machine). m.halted) inside ∙ c.if-state.false in
    let there : slice_get (program_of p) (machine_of a).pc ≡ Some i =
    ap (λ (code : List Instruction). slice_get code (machine_of a).pc) (sym c.in_ok-program.ensures.program)
    ∙ ap (λ (m : Machine). slice_get c.in_ok-program.program m.pc) inside ∙ sym c.get.ensures.value ∙ c.in-Some.is in
    let does : done (machine_of a) i ≡ Some (with_more next [] more) = ap (λ (m : Machine). done m i) machine ∙ c.in-Some-step.ensures.machine in
    let count : c.from.result ≡ length more = c.from.ensures ∙ ap from_bool c.is_some.ensures ∙ counted c.in-Some-step.put in
    let size = longer next [] more in
    let room : length (state_code (with_more next [] more)) ≤ c.args.b.cap = omega (arith, size, count, c.len_with.ensures.value, c.if-len_with-b.false) in
    sym (accepted c.args.b a p i (with_more next [] more) (sym c.in_ok-state.ensures.refusal) (sym c.in_ok-program.ensures.refusal) goes_on there does room)
