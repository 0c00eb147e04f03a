use Rattle.std.proofs.Common.{◌≡◌, ◌<◌, ◌+◌, ◌*◌, ◌-◌, [], length, drop, get_or, ap, ◌∙◌, sym, arith, rules}
use Rattle.std.proofs.lemmas.Bool.Decides.{nat_tests}
use Rattle.std.proofs.lemmas.Grind.{common_steps}
use Rattle.std.proofs.lemmas.List.{drop_all}
use Rattle.resp_words.specs.Runs.{is_digit}
use Rattle.resp_words.proofs.Numerals.{not_empty, not_zero, not_small, is_number, read_on, one_digit}
use Rattle.resp_words.proofs.Runs.{pass_at}
use Rattle.resp_words.proofs.number.read_number.Goals.{else-digits-gt1-via-then-digits-gt1+else-digits-eq48, else-digits-gt1-via-else-digits-gt1}
use Rattle.resp_words.proofs.number.read_number.Goals as goal

pub returns-then-is_empty-clause-none : goal.returns-then-is_empty-clause-none
returns-then-is_empty-clause-none c n low = not_empty c.args.digits.now (grind (arith, common_steps, c.if-is_empty.ensures)) n (omega (arith, low, c.ranges.most.fits))

pub returns-then-digits-eq48-clause-none : goal.returns-then-digits-eq48-clause-none
returns-then-digits-eq48-clause-none c n low = not_zero c.args.digits.now (omega arith) (search rules) n (omega (arith, low, c.ranges.most.fits))

pub overflow_sub-number : goal.overflow_sub-number
overflow_sub-number c = let passes = pass_at is_digit c.args.digits.now c.loop-digit.digit-index (omega (arith, c.loop-digit-test.true)) c.requires in grind (arith, nat_tests)

pub returns-then-number-most-clause-none : goal.returns-then-number-most-clause-none
returns-then-number-most-clause-none c =
    not_small c.args.digits.now (drop (c.loop-digit.digit-index + 1) c.args.digits.now) (10 * c.loop-digit.number + (get_or c.args.digits.now c.loop-digit.digit-index 0 - 48)) c.args.most
    (one_digit c.args.digits.now c.loop-digit.number c.loop-digit.digit-index c.loop-digit-test.true ∙ c.loop-digit.invariant.value) c.if-number-most.true (omega (arith, c.ranges.most.fits))

pub returns-clause-some : goal.returns-clause-some
returns-clause-some c =
    let over : drop c.loop-digit.digit-index c.args.digits.now ≡ [] = drop_all c.loop-digit.digit-index c.args.digits.now (omega arith) in
    let value : read_on 0 c.args.digits.now ≡ c.loop-digit.number = sym c.loop-digit.invariant.value ∙ ap (read_on c.loop-digit.number) over in
    let some : 0 < length c.args.digits.now = grind (arith, common_steps, c.if-is_empty.ensures) in
    let first : get_or c.args.digits.now 0 0 ≡ 48 → length c.args.digits.now ≡ 1 = elim c.else-digits-gt1.branch [ else-digits-gt1-via-then-digits-gt1+else-digits-eq48 w ↦ λ z. absurd (w.if-digits-eq48.false z) | else-digits-gt1-via-else-digits-gt1 w ↦ λ z. omega (arith, w.if-digits-gt1.false, some) ] in
    is_number c.args.digits.now c.loop-digit.number c.requires value some first (omega (arith, c.loop-digit.invariant.small, c.ranges.most.fits))
