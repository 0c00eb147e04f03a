use Rattle.std.proofs.Common.{◌≡◌, ◌<◌, ◌+◌, ◌*◌, ◌-◌, [], length, drop, get_or, ap, ◌∙◌, sym, arith, rules, true}
use Rattle.std.proofs.lemmas.Grind.{common_steps}
use Rattle.std.proofs.lemmas.List.{drop_all}
use Rattle.std.specs.Str.{all_ascii_digits}
use Rattle.named_words.proofs.Numerals.{not_empty, not_zero, not_digits, not_small, is_number, read_on, one_digit}
use Rattle.named_words.proofs.number.magnitude.Goals.{else-digits-gt1-via-then-digits-gt1+else-digits-eq48, else-digits-gt1-via-else-digits-gt1}
use Rattle.named_words.proofs.number.magnitude.Goals as goal

pub returns-then-is_empty-clause-none : goal.returns-then-is_empty-clause-none
returns-then-is_empty-clause-none c = not_empty c.args.digits.now (grind (arith, common_steps, c.if-is_empty.ensures))

pub returns-then-digits-eq48-clause-none : goal.returns-then-digits-eq48-clause-none
returns-then-digits-eq48-clause-none c = not_zero c.args.digits.now (omega arith) (search rules)

pub returns-then-not-is_ascii_digit-clause-none : goal.returns-then-not-is_ascii_digit-clause-none
returns-then-not-is_ascii_digit-clause-none c = not_digits c.args.digits.now (let e = c.if-not-is_ascii_digit.ensures in let t = c.loop-digit.invariant.digits in grind (arith, common_steps))

pub returns-then-number-gt9223372036854775808-clause-none : goal.returns-then-number-gt9223372036854775808-clause-none
returns-then-number-gt9223372036854775808-clause-none c = not_small c.args.digits.now (drop (c.loop-digit.digit-index + 1) c.args.digits.now) (10 * c.loop-digit.number + (get_or c.args.digits.now c.loop-digit.digit-index 0 - 48)) (one_digit c.args.digits.now c.loop-digit.number c.loop-digit.digit-index c.loop-digit-test.true ∙ c.loop-digit.invariant.value) c.if-number-gt9223372036854775808.true

pub returns-clause-some : goal.returns-clause-some
returns-clause-some c =
    let over : drop c.loop-digit.digit-index c.args.digits.now ≡ [] = drop_all c.loop-digit.digit-index c.args.digits.now (omega arith) in
    let digits : all_ascii_digits c.args.digits.now ≡ true = c.loop-digit.invariant.digits ∙ ap all_ascii_digits over in
    let value : read_on 0 c.args.digits.now ≡ c.loop-digit.number = sym c.loop-digit.invariant.value ∙ ap (read_on c.loop-digit.number) over in
    let some : 0 < length c.args.digits.now = grind (arith, common_steps, c.if-is_empty.ensures) in
    let first : get_or c.args.digits.now 0 0 ≡ 48 → length c.args.digits.now ≡ 1 = elim c.else-digits-gt1.branch [ else-digits-gt1-via-then-digits-gt1+else-digits-eq48 w ↦ λ z. absurd (w.if-digits-eq48.false z) | else-digits-gt1-via-else-digits-gt1 w ↦ λ z. omega (arith, w.if-digits-gt1.false, some) ] in
    is_number c.args.digits.now c.loop-digit.number digits value some first c.loop-digit.invariant.small
