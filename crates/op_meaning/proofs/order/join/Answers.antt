use Rattle.std.proofs.Common.{ℕ, List, [], ◌++◌, Bor, get_or, ap, ◌∙◌}
use Rattle.op_meaning.proofs.RecordLemmas.{joined_more}
use Rattle.op_meaning.proofs.order.join.Goals as goal

pub loop-one-preserved : goal.loop-one-preserved
loop-one-preserved c =
    let now : Bor (List ℕ) → List ℕ = λ (r : Bor (List ℕ)). r.now in
    let found = c.args.found.now in
    let i = c.loop-one.one-index in
    let none : Bor (List ℕ) = record { ref_ptr = (0, 0); now = [] } in
    c.in_ok-extend_from_slice.ensures.items
    ∙ ap (λ (l : List ℕ). l ++ now (get_or found i none)) c.loop-one.invariant
    ∙ joined_more now found i none c.loop-one-test.true
