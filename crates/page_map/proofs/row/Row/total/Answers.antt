use Rattle.std.proofs.Common.{ap, arith}
use Rattle.page_map.specs.Splits.{size_of}
use Rattle.page_map.proofs.CellLemmas.{nothing_behind, size_from}
use Rattle.page_map.proofs.row.Row.total.Goals as goal

pub loop-i-preserved : goal.loop-i-preserved
loop-i-preserved c = record {
  so_far =
      omega (
        arith,
        c.loop-i.invariant.so_far,
        size_from c.args.self.now c.loop-i.i (omega (arith, c.loop-i-test.true, c.count-count.ensures.value)),
        c.size-total.ensures.value,
      );
  few = omega (arith, c.loop-i.invariant.few, c.size-total.ensures.few);
}

pub returns : goal.returns
returns c = record {
  value =
      omega (
        arith,
        c.loop-i.invariant.so_far,
        ap size_of (nothing_behind c.args.self.now c.loop-i.i (omega (arith, c.loop-i-test.false, c.count-count.ensures.value))),
      );
  few = omega (arith, c.loop-i.invariant.few, c.loop-i.auto.i-end, c.count-count.ensures.fits);
}
