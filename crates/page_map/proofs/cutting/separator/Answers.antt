use Rattle.std.proofs.Common.{◌≡◌, ℕ, suc, ◌+◌, take, take_all, sym, ap, ◌∙◌, arith}
use Rattle.page_map.proofs.cutting.separator.Goals as goal

pub returns-then-common-high : goal.returns-then-common-high
returns-then-common-high c =
    let next : c.common-common.result + 1 ≡ suc c.common-common.result = omega arith in
    ap (λ (n : ℕ). take n c.args.high.now) next ∙ c.common-common.ensures.value

pub returns : goal.returns
returns c = sym (take_all (suc c.common-common.result) c.args.high.now (omega (arith, c.if-common-high.false))) ∙ c.common-common.ensures.value
