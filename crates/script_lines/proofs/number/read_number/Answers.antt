use Rattle.std.proofs.Common.{◌≡◌, ◌<◌, ◌+◌, ◌*◌, ◌-◌, [], length, drop, get_or, ap, ◌∙◌, sym, arith, rules, true}
use Rattle.std.proofs.lemmas.Grind.{common_steps}
use Rattle.std.proofs.lemmas.List.{drop_all}
use Rattle.std.specs.Str.{all_ascii_digits}
use Rattle.script_lines.proofs.NumberLemmas.{not_empty, not_zero, not_digits, not_small, is_number, read_on, one_digit}
use Rattle.script_lines.proofs.number.read_number.Goals.{else-text-gt1-via-then-text-gt1+else-text-eq48, else-text-gt1-via-else-text-gt1}
use Rattle.script_lines.proofs.number.read_number.Goals as goal

pub returns-then-is_empty-clause-none : goal.returns-then-is_empty-clause-none
returns-then-is_empty-clause-none c = not_empty c.args.text.now (grind (arith, common_steps, c.if-is_empty.ensures))

pub returns-then-text-eq48-clause-none : goal.returns-then-text-eq48-clause-none
returns-then-text-eq48-clause-none c = not_zero c.args.text.now (omega arith) (search rules)

pub returns-then-not-is_ascii_digit-clause-none : goal.returns-then-not-is_ascii_digit-clause-none
returns-then-not-is_ascii_digit-clause-none c = not_digits c.args.text.now (let e = c.if-not-is_ascii_digit.ensures in let t = c.loop-digit.invariant.digits in grind (arith, common_steps))

pub returns-then-value-gt4294967295-clause-none : goal.returns-then-value-gt4294967295-clause-none
returns-then-value-gt4294967295-clause-none c = not_small c.args.text.now (drop (c.loop-digit.digit-index + 1) c.args.text.now) (10 * c.loop-digit.value + (get_or c.args.text.now c.loop-digit.digit-index 0 - 48)) (one_digit c.args.text.now c.loop-digit.value c.loop-digit.digit-index c.loop-digit-test.true ∙ c.loop-digit.invariant.value) c.if-value-gt4294967295.true

pub returns-clause-some : goal.returns-clause-some
returns-clause-some c =
    let over : drop c.loop-digit.digit-index c.args.text.now ≡ [] = drop_all c.loop-digit.digit-index c.args.text.now (omega arith) in
    let digits : all_ascii_digits c.args.text.now ≡ true = c.loop-digit.invariant.digits ∙ ap all_ascii_digits over in
    let value : read_on 0 c.args.text.now ≡ c.loop-digit.value = sym c.loop-digit.invariant.value ∙ ap (read_on c.loop-digit.value) over in
    let some : 0 < length c.args.text.now = grind (arith, common_steps, c.if-is_empty.ensures) in
    let first : get_or c.args.text.now 0 0 ≡ 48 → length c.args.text.now ≡ 1 = elim c.else-text-gt1.branch [ else-text-gt1-via-then-text-gt1+else-text-eq48 w ↦ λ z. absurd (w.if-text-eq48.false z) | else-text-gt1-via-else-text-gt1 w ↦ λ z. omega (arith, w.if-text-gt1.false, some) ] in
    is_number c.args.text.now c.loop-digit.value digits value some first c.loop-digit.invariant.small
