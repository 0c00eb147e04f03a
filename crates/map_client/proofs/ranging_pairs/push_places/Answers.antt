use Rattle.std.proofs.Common.{◌≡◌, ◌-◌, None}
use Rattle.range_calls.specs.ReadLaws.{passed, refused_passed}
use Rattle.map_client.specs.Ranging.{Fails, cells_behind, cells_by}
use Rattle.map_client.proofs.RangingPairsLemmas.{fails_so, none_left}
use Rattle.map_client.proofs.ranging_pairs.push_places.Goals as goal

pub returns-in_err-push_cells-clause-fails : goal.returns-in_err-push_cells-clause-fails
returns-in_err-push_cells-clause-fails c =
    let most = c.args.gathered.now.left in
    let others = c.args.gathered.now.pairs.items in
    refused_passed c.from_residual.result c.in_err-push_cells.field-0.0 (λ e. Fails c.args.object (cells_behind c.args.order c.args.leaf.now others most c.args.places.now ≡ None) e)
    (passed c.from_residual.result c.in_err-push_cells.field-0.0 c.from_residual.ensures.1)
    (fails_so c.args.object c.in_err-push_cells.field-0.0 (λ none. none_left others (most - c.args.places.now.count) (cells_by c.args.order c.args.leaf.now most c.args.places.now) none) c.in_err-push_cells.ensures.fails)
