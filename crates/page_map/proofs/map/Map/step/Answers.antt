use Rattle.std.proofs.Common.{rules, ◌≡◌, Some, arith}
use Rattle.page_map.specs.Walk.{child_in}
use Rattle.page_map.proofs.StepLemmas.{child_low}
use Rattle.page_map.proofs.map.Map.step.Goals as goal

pub overflow_cast-result : goal.overflow_cast-result
overflow_cast-result c =
    let lo = c.args.self.now.lo in
    let hi = c.args.self.now.hi in
    let found : child_in lo hi c.args.page.now c.args.i ≡ Some c.in_ok-child.child = search rules in
    let low = child_low lo hi c.args.page.now c.args.i c.in_ok-child.child found in
    omega (arith, low, c.count-count.ensures.fits, c.count-count.ensures.value)
