use Rattle.std.proofs.Common.{◌≡◌, List, [], ◌∷◌, ◌++◌, Bor, ℕ, sym, subst, arith}
use Rattle.op_meaning.proofs.RecordLemmas.{AreFirst, first_more, first_all}
use Rattle.op_meaning.proofs.order.cut_up.Goals as goal

pub loop-rest-preserved : goal.loop-rest-preserved
loop-rest-preserved c =
    let now : Bor (List ℕ) → List ℕ = λ (r : Bor (List ℕ)). r.now in
    let found = c.loop-rest.found.items in
    let next = c.split_at.result.0 in
    let more = c.split_at.result.1.now in
    let pushed : c.push.new.self.items ≡ found ++ next ∷ [] = c.in_ok-push.ensures.items in
    subst (λ (items : List (Bor (List ℕ))). AreFirst now c.args.width c.args.bytes.now items more) (sym pushed)
    (first_more now c.args.width c.args.bytes.now found next c.loop-rest.rest.now more c.loop-rest.invariant (omega arith) c.split_at.ensures.front c.split_at.ensures.back)

pub returns : goal.returns
returns c =
    let now : Bor (List ℕ) → List ℕ = λ (r : Bor (List ℕ)). r.now in
    first_all now c.args.width c.args.bytes.now c.loop-rest.found.items c.loop-rest.rest.now c.loop-rest.invariant (omega arith)
