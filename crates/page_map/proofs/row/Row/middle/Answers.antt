use Rattle.std.proofs.Common.{arith}
use Rattle.page_map.proofs.CellLemmas.{middle_done, middle_found, middle_goes}
use Rattle.page_map.proofs.row.Row.middle.Goals as goal

pub loop-i-preserved : goal.loop-i-preserved
loop-i-preserved c = record {
  so_far =
      middle_goes c.args.self.now c.loop-i.i c.loop-i.front c.loop-i.invariant.so_far c.size-size.result c.size-size.ensures.value
      (omega (arith, c.loop-i-test.true, c.count-count.ensures.value)) (omega (arith, c.if-all-front.false, c.total-all.ensures.value));
  few = omega (arith, c.loop-i.invariant.few, c.size-size.ensures.few);
}

pub returns-then-all-front : goal.returns-then-all-front
returns-then-all-front c = record {
  value =
      middle_found c.args.self.now c.loop-i.i c.loop-i.front c.loop-i.invariant.so_far c.size-size.result c.size-size.ensures.value
      (omega (arith, c.loop-i-test.true, c.count-count.ensures.value)) (omega (arith, c.if-all-front.true, c.total-all.ensures.value));
  within = omega (arith, c.loop-i-test.true, c.count-count.ensures.value);
}

pub returns : goal.returns
returns c = record {
  value =
      let ended = middle_done c.args.self.now c.loop-i.i c.loop-i.front c.loop-i.invariant.so_far (omega (arith, c.loop-i-test.false, c.count-count.ensures.value)) in
      omega (arith, ended, c.loop-i-test.false, c.loop-i.auto.i-end);
  within = omega (arith, c.count-count.ensures.value);
}
