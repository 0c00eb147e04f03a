use Rattle.std.proofs.Common.{◌≡◌, ◌<◌, None, arith, reverse, option_map}
use Rattle.page_map.specs.Steps.{cells_from}
use Rattle.range_calls.specs.ReadLaws.{passed, refused_passed}
use Rattle.map_client.specs.Ranging.{Fails}
use Rattle.map_client.proofs.RangingPairsLemmas.{fails_so, falling_done, falling_missing, falling_taken}
use Rattle.map_client.proofs.ranging_pairs.push_falling.Goals as goal

pub returns-in_err-push_cell-clause-fails : goal.returns-in_err-push_cell-clause-fails
returns-in_err-push_cell-clause-fails c =
    let some : 0 < c.loop-left.left = omega (arith, c.loop-left-test.true) in
    refused_passed c.from_residual.result c.in_err-push_cell.field-0.0 (λ e. Fails c.args.object (option_map reverse (cells_from c.args.leaf.now c.args.first c.args.count) ≡ None) e)
    (passed c.from_residual.result c.in_err-push_cell.field-0.0 c.from_residual.ensures.1)
    (fails_so c.args.object c.in_err-push_cell.field-0.0
    (λ lacks. falling_missing c.args.leaf.now c.args.first c.args.count c.loop-left.left c.args.pairs.now.items c.loop-left.pairs.items c.loop-left.invariant.same some lacks) c.in_err-push_cell.ensures.fails)

pub loop-left-preserved : goal.loop-left-preserved
loop-left-preserved c =
    let some : 0 < c.loop-left.left = omega (arith, c.loop-left-test.true) in
    record {
      few = omega (arith, c.loop-left.invariant.few);
      same = falling_taken c.args.leaf.now c.args.first c.args.count c.loop-left.left c.args.pairs.now.items c.loop-left.pairs.items c.loop-left.invariant.same c.push_cell.new.pairs.items some
          c.in_ok-push_cell.ensures.there c.in_ok-push_cell.ensures.pair;
    }

pub returns-clause-cells : goal.returns-clause-cells
returns-clause-cells c =
    let none : c.loop-left.left ≡ 0 = omega (arith, c.loop-left-test.false) in
    falling_done c.args.leaf.now c.args.first c.args.count c.loop-left.left c.args.pairs.now.items c.loop-left.pairs.items c.loop-left.invariant.same none
