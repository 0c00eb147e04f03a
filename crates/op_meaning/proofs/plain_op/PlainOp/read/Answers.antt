use Rattle.std.proofs.Common.{◌≡◌, ℕ, List, ◌∙◌, slice_index, arith}
use Rattle.std.proofs.lemmas.Bool.Decides.{nat_tests}
use Rattle.op_rows.specs.FirstBytes.{first_byte, none_of_one, none_of_two, none_of_three}
use Rattle.op_meaning.proofs.ReadOps.{no_put, no_tag, none_found}
use Rattle.op_meaning.proofs.plain_op.PlainOp.read.Goals as goal
use Rattle.op_meaning.proofs.plain_op.PlainOp.read.Goals.{in-2, in-3, in-4, in-5, in-6, in-7, in-8, in-9, in_default-tag}

pub returns-clause-none : goal.returns-clause-none
returns-clause-none c =
    let b = c.args.b in
    let bytes : List ℕ = c.args.bytes.now in
    let first : slice_index bytes 0 ≡ c.in-Some.tag.now = first_byte c.in-Some.tag.now bytes c.in-Some.ensures.value in
    elim c.match-tag.branch [
      | in-2 w ↦ none_found b bytes _ 2 w.two_numbers.result c.match-tag.op w.map-op.result (first ∙ w.in-2.is) w.op-is w.map-op.ensures.variant w.two_numbers.ensures.none (none_of_two 2 bytes)
      | in-3 w ↦ none_found b bytes _ 3 w.two_numbers-in-3.result c.match-tag.op w.map-op-in-3.result (first ∙ w.in-3.is) w.op-is w.map-op-in-3.ensures.variant w.two_numbers-in-3.ensures.none (none_of_two 3 bytes)
      | in-4 w ↦ none_found b bytes _ 4 w.three_numbers.result c.match-tag.op w.map-op-in-4.result (first ∙ w.in-4.is) w.op-is w.map-op-in-4.ensures.variant w.three_numbers.ensures.none (none_of_three 4 bytes)
      | in-5 w ↦ none_found b bytes _ 5 w.three_numbers-in-5.result c.match-tag.op w.map-op-in-5.result (first ∙ w.in-5.is) w.op-is w.map-op-in-5.ensures.variant w.three_numbers-in-5.ensures.none (none_of_three 5 bytes)
      | in-6 w ↦ none_found b bytes _ 6 w.two_numbers-in-6.result c.match-tag.op w.map-op-in-6.result (first ∙ w.in-6.is) w.op-is w.map-op-in-6.ensures.variant w.two_numbers-in-6.ensures.none (none_of_two 6 bytes)
      | in-7 w ↦ none_found b bytes _ 7 w.one_number.result c.match-tag.op w.map-op-in-7.result (first ∙ w.in-7.is) w.op-is w.map-op-in-7.ensures.variant w.one_number.ensures.none (none_of_one 7 bytes)
      | in-8 w ↦ none_found b bytes _ 8 w.two_numbers-in-8.result c.match-tag.op w.map-op-in-8.result (first ∙ w.in-8.is) w.op-is w.map-op-in-8.ensures.variant w.two_numbers-in-8.ensures.none (none_of_two 8 bytes)
      | in-9 w ↦ none_found b bytes _ 9 w.two_numbers-in-9.result c.match-tag.op w.map-op-in-9.result (first ∙ w.in-9.is) w.op-is w.map-op-in-9.ensures.variant w.two_numbers-in-9.ensures.none (none_of_two 9 bytes)
      | in_default-tag w ↦ no_tag b bytes c.in-Some.tag.now c.match-tag.op first (λ owned. grind (arith, nat_tests, owned)) w.op-is
    ]

pub returns-in-1-clause-none : goal.returns-in-1-clause-none
returns-in-1-clause-none c =
    let bytes : List ℕ = c.args.bytes.now in
    no_put c.args.b bytes c.read_put.result (first_byte c.in-Some.tag.now bytes c.in-Some.ensures.value ∙ c.in-1.is) c.read_put.ensures.none
