use Rattle.std.proofs.Common.{◌≡◌, List, Bor, ℕ, map, ap, ◌∙◌}
use Rattle.std.specs.List.{concat}
use Rattle.std.proofs.lemmas.Result.{IfOk-weaker}
use Rattle.op_meaning.specs.Order.{in_order, records}
use Rattle.op_meaning.proofs.RecordLemmas.{sorted_records}
use Rattle.op_meaning.proofs.order.sorted.Goals as goal

pub returns : goal.returns
returns c =
    let now : Bor (List ℕ) → List ℕ = λ (r : Bor (List ℕ)). r.now in
    let before = c.in_ok-found.found.items in
    let after = c.sort.new.self.items in
    let same : concat (map now c.as_slice.result.now) ≡ concat (in_order (records c.args.width c.args.bytes.now)) =
    ap (λ (l : List (Bor (List ℕ))). concat (map now l)) c.as_slice.ensures.value
    ∙ ap concat (sorted_records now before after c.in_ok-sort.ensures.permutation c.in_ok-sort.ensures.sorted)
    ∙ ap (λ (rs : List (List ℕ)). concat (in_order rs)) c.in_ok-found.ensures in
    IfOk-weaker c.join.result _ _ (λ made is. is ∙ same) c.join.ensures
