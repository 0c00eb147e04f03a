use Rattle.std.proofs.Common.{◌≡◌, ℕ, suc, ◌+◌, sym, ap, ◌∙◌, arith}
use Rattle.page_map.proofs.RowLemmas.{common_ends, common_goes, inside_both, so_far}
use Rattle.page_map.proofs.cutting.common.Goals as goal

pub loop-i-preserved : goal.loop-i-preserved
loop-i-preserved c =
    let low = c.args.low.now in
    let high = c.args.high.now in
    let i : ℕ = c.loop-i.i in
    let next : i + 1 ≡ suc i = omega arith in
    let same = sym c.same_at.ensures ∙ c.loop-i-test.true in
    record {
      so_far = ap (λ (n : ℕ). so_far low high n) next ∙ common_goes low high i same ∙ c.loop-i.invariant.so_far;
      within = omega (arith, (inside_both low high i same).1);
    }

pub returns : goal.returns
returns c = record {
  value = common_ends c.args.low.now c.args.high.now c.loop-i.i (sym c.same_at.ensures ∙ c.loop-i-test.false) ∙ c.loop-i.invariant.so_far;
  within = c.loop-i.invariant.within;
}
