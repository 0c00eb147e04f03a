use Rattle.std.proofs.Common.{◌≡◌, sym, ap, ◌∙◌, subst, List, Option, Some, reverse, option_map}
use Rattle.std.specs.Prelude.{OnOk}
use Rattle.page_ops.specs.Page.{Cell}
use Rattle.page_map.specs.Steps.{Places, cells_from}
use Rattle.map_client.specs.Ranging.{behind, cells_by}
use Rattle.map_client.proofs.RangingPairsLemmas.{fails_same}
use Rattle.map_client.proofs.ranging_pairs.push_cells.Goals as goal

pub returns-in-Rising-clause-cells : goal.returns-in-Rising-clause-cells
returns-in-Rising-clause-cells c =
    let same : cells_from c.args.leaf.now c.first.result c.count.result ≡ cells_by c.args.order c.args.leaf.now c.args.most c.args.places.now =
    (λ k. cells_from c.args.leaf.now ((c.first.ensures.value ∙ ap (λ (p : Places). p.first) c.from_front-cells.ensures) k) ((c.count.ensures ∙ ap (λ (p : Places). p.count) c.from_front-cells.ensures) k)) ∙ (λ k. cells_by (sym c.in-Rising.is k) c.args.leaf.now c.args.most c.args.places.now) in
    subst (λ (o : Option (List Cell)). OnOk c.push_rising.result (behind c.args.pairs.now.items o ≡ Some c.push_rising.new.pairs.items)) same c.push_rising.ensures.cells

pub returns-in-Rising-clause-fails : goal.returns-in-Rising-clause-fails
returns-in-Rising-clause-fails c =
    let same : cells_from c.args.leaf.now c.first.result c.count.result ≡ cells_by c.args.order c.args.leaf.now c.args.most c.args.places.now =
    (λ k. cells_from c.args.leaf.now ((c.first.ensures.value ∙ ap (λ (p : Places). p.first) c.from_front-cells.ensures) k) ((c.count.ensures ∙ ap (λ (p : Places). p.count) c.from_front-cells.ensures) k)) ∙ (λ k. cells_by (sym c.in-Rising.is k) c.args.leaf.now c.args.most c.args.places.now) in
    fails_same c.args.object c.push_rising.result (cells_from c.args.leaf.now c.first.result c.count.result) (cells_by c.args.order c.args.leaf.now c.args.most c.args.places.now) same c.push_rising.ensures.fails

pub returns-in-Falling-clause-cells : goal.returns-in-Falling-clause-cells
returns-in-Falling-clause-cells c =
    let same : option_map reverse (cells_from c.args.leaf.now c.first-in-Falling.result c.count-in-Falling.result) ≡ cells_by c.args.order c.args.leaf.now c.args.most c.args.places.now =
    (λ k. option_map reverse (cells_from c.args.leaf.now ((c.first-in-Falling.ensures.value ∙ ap (λ (p : Places). p.first) c.from_back-cells.ensures) k) ((c.count-in-Falling.ensures ∙ ap (λ (p : Places). p.count) c.from_back-cells.ensures) k))) ∙ (λ k. cells_by (sym c.in-Falling.is k) c.args.leaf.now c.args.most c.args.places.now) in
    subst (λ (o : Option (List Cell)). OnOk c.push_falling.result (behind c.args.pairs.now.items o ≡ Some c.push_falling.new.pairs.items)) same c.push_falling.ensures.cells

pub returns-in-Falling-clause-fails : goal.returns-in-Falling-clause-fails
returns-in-Falling-clause-fails c =
    let same : option_map reverse (cells_from c.args.leaf.now c.first-in-Falling.result c.count-in-Falling.result) ≡ cells_by c.args.order c.args.leaf.now c.args.most c.args.places.now =
    (λ k. option_map reverse (cells_from c.args.leaf.now ((c.first-in-Falling.ensures.value ∙ ap (λ (p : Places). p.first) c.from_back-cells.ensures) k) ((c.count-in-Falling.ensures ∙ ap (λ (p : Places). p.count) c.from_back-cells.ensures) k))) ∙ (λ k. cells_by (sym c.in-Falling.is k) c.args.leaf.now c.args.most c.args.places.now) in
    fails_same c.args.object c.push_falling.result (option_map reverse (cells_from c.args.leaf.now c.first-in-Falling.result c.count-in-Falling.result)) (cells_by c.args.order c.args.leaf.now c.args.most c.args.places.now) same c.push_falling.ensures.fails
