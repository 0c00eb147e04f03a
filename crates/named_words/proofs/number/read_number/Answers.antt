use Rattle.std.proofs.Common.{◌≡◌, ◌∙◌, ap, sym, ℕ, ◌∷◌, rules}
use Rattle.named_words.proofs.Numerals.{empty_none, minus_is, minus_none, plain_is}
use Rattle.named_words.proofs.number.read_number.Goals as goal

pub returns-in_default : goal.returns-in_default
returns-in_default c = sym (empty_none c.args.text.now (search rules))

pub returns-in_err-magnitude : goal.returns-in_err-magnitude
returns-in_err-magnitude c =
    let is : c.args.text.now ≡ 45 ∷ c.in-Some.rest.now = c.in-Some.ensures.cases.0 ∙ ap (λ (b : ℕ). b ∷ c.in-Some.rest.now) c.if-first-eq45.true in
    rw (c.from_residual.ensures) (sym (minus_none c.args.text.now c.in-Some.rest.now is c.in_err-magnitude.ensures.none))

pub returns-then-first-eq45 : goal.returns-then-first-eq45
returns-then-first-eq45 c =
    let is : c.args.text.now ≡ 45 ∷ c.in-Some.rest.now = c.in-Some.ensures.cases.0 ∙ ap (λ (b : ℕ). b ∷ c.in-Some.rest.now) c.if-first-eq45.true in
    c.below_zero.ensures ∙ minus_is c.args.text.now c.in-Some.rest.now is c.in_ok-magnitude.field-0 c.in_ok-magnitude.ensures.some c.in_ok-magnitude.ensures.small

pub returns : goal.returns
returns c = c.from_zero.ensures ∙ plain_is c.args.text.now c.in_ok-magnitude-2.field-0 c.in_ok-magnitude-2.ensures.some c.in_ok-magnitude-2.ensures.small
