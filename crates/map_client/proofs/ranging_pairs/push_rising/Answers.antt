use Rattle.std.proofs.Common.{◌≡◌, ◌+◌, ◌-◌, None, arith}
use Rattle.page_map.specs.Steps.{cells_from}
use Rattle.range_calls.specs.ReadLaws.{passed, refused_passed}
use Rattle.map_client.specs.Ranging.{Fails, behind}
use Rattle.map_client.proofs.RangingPairsLemmas.{fails_so, rising_done, rising_missing, rising_taken}
use Rattle.map_client.proofs.ranging_pairs.push_rising.Goals as goal

pub loop-i-init : goal.loop-i-init
loop-i-init c =
    let first : c.args.first ≡ c.args.first + 0 = omega arith in
    let all : c.args.count ≡ c.args.count - 0 = omega arith in
    λ k. behind c.args.pairs.now.items (cells_from c.args.leaf.now (first k) (all k))

pub returns-in_err-push_cell-clause-fails : goal.returns-in_err-push_cell-clause-fails
returns-in_err-push_cell-clause-fails c =
    refused_passed c.from_residual.result c.in_err-push_cell.field-0.0 (λ e. Fails c.args.object (cells_from c.args.leaf.now c.args.first c.args.count ≡ None) e)
    (passed c.from_residual.result c.in_err-push_cell.field-0.0 c.from_residual.ensures.1)
    (fails_so c.args.object c.in_err-push_cell.field-0.0
    (λ lacks. rising_missing c.args.leaf.now c.args.first c.args.count c.loop-i.i c.args.pairs.now.items c.loop-i.pairs.items c.loop-i.invariant c.loop-i-test.true lacks) c.in_err-push_cell.ensures.fails)

pub loop-i-preserved : goal.loop-i-preserved
loop-i-preserved c =
    rising_taken c.args.leaf.now c.args.first c.args.count c.loop-i.i c.args.pairs.now.items c.loop-i.pairs.items c.loop-i.invariant c.push_cell.new.pairs.items c.loop-i-test.true
    c.in_ok-push_cell.ensures.there c.in_ok-push_cell.ensures.pair

pub returns-clause-cells : goal.returns-clause-cells
returns-clause-cells c =
    let none : c.args.count - c.loop-i.i ≡ 0 = omega (arith, c.loop-i-test.false) in
    rising_done c.args.leaf.now c.args.first c.args.count c.loop-i.i c.args.pairs.now.items c.loop-i.pairs.items c.loop-i.invariant none
