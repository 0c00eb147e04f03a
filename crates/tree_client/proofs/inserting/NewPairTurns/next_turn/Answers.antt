use Rattle.std.proofs.Common.{◌≡◌, refl, sym, ap, ◌∙◌, ◌<◌, subst, List, Option, true, false, Ok, Err, Result, arith}
use Rattle.formats.specs.Objects.{bounds_of}
use Rattle.formats.specs.declared.params.Params.{Params}
use Rattle.execution.specs.declared.exec_err.ExecErr.{ExecErr}
use Rattle.key_entries.specs.Pairs.{has}
use Rattle.op_codec.specs.AllOps.{node}
use Rattle.logical_btree.specs.Plan.{TreeNext, insert_next}
use Rattle.logical_btree.specs.Walk.{Pair, walk}
use Rattle.store_calls.specs.Making.{Reads}
use Rattle.range_calls.specs.ReadLaws.{answers_passed, passed}
use Rattle.range_calls.specs.Store.{Command, state_of}
use Rattle.range_calls.specs.Turns.{turn_answer}
use Rattle.range_calls.specs.declared.turn.Turn.{Turn}
use Rattle.tree_client.specs.Answers.{TreeErr}
use Rattle.tree_client.proofs.PlanLemmas.{bad_way, end_of_way}
use Rattle.tree_client.proofs.TurnLemmas.{next_bad, next_present, next_put, next_split}
use Rattle.tree_client.proofs.inserting.NewPairTurns.next_turn.Goals as goal

pub returns-in_err-found-clause-answer : goal.returns-in_err-found-clause-answer
returns-in_err-found-clause-answer g c = λ p commands holds.
    let s = state_of p commands in
    let lo = c.args.self.now.tree.now.lo in
    let hi = c.args.self.now.tree.now.hi in
    let key = c.args.self.now.key in
    let value = c.args.self.now.value in
    answers_passed c.from_residual.result c.in_err-found.field-0.0 (turn_answer node (insert_next (bounds_of p) lo hi s key value)) (passed c.from_residual.result c.in_err-found.field-0.0 c.from_residual.ensures.1)
    (λ done.
    let bad = bad_way (walk lo hi s key) c.in_err-found.field-0.0 (c.in_err-found.ensures.answer p commands holds done) in
    ap (λ (e : TreeErr). (let r : Result Turn TreeErr = Err e in r)) bad.error ∙ sym (ap (λ (n : TreeNext). turn_answer node n) (next_bad (bounds_of p) lo hi s key value c.in_err-found.field-0.0 bad)))

-- what the leaf's pairs say of the key
pub returns-then-has_key-clause-answer : goal.returns-then-has_key-clause-answer
returns-then-has_key-clause-answer g c = λ p commands holds done.
    let s = state_of p commands in
    let lo = c.args.self.now.tree.now.lo in
    let hi = c.args.self.now.tree.now.hi in
    let key = c.args.self.now.key in
    let found = end_of_way (walk lo hi s key) c.in_ok-found.found (c.in_ok-found.ensures.answer p commands holds refl) in
    let here : has key c.in_ok-found.found.pairs.items ≡ true = ap (λ (l : List Pair). has key l) (sym c.as_slice.ensures.value) ∙ sym c.if-has_key.ensures in
    ap (λ (o : Command). (let r : Result Turn TreeErr = Ok (record { op = o; last = true }) in r)) c.node_op-put.ensures
    ∙ sym (ap (λ (n : TreeNext). turn_answer node n) (next_present (bounds_of p) lo hi s key c.args.self.now.value c.in_ok-found.found found here))

pub returns-in-None-clause-answer : goal.returns-in-None-clause-answer
returns-in-None-clause-answer g c = λ p commands holds done.
    let s = state_of p commands in
    let lo = c.args.self.now.tree.now.lo in
    let hi = c.args.self.now.tree.now.hi in
    let key = c.args.self.now.key in
    let found = end_of_way (walk lo hi s key) c.in_ok-found.found (c.in_ok-found.ensures.answer p commands holds refl) in
    let absent : has key c.in_ok-found.found.pairs.items ≡ false = ap (λ (l : List Pair). has key l) (sym c.as_slice.ensures.value) ∙ sym c.if-has_key.ensures in
    ap (λ (o : Command). (let r : Result Turn TreeErr = Ok (record { op = o; last = true }) in r)) c.node_op-put.ensures
    ∙ sym (ap (λ (n : TreeNext). turn_answer node n) (next_put (bounds_of p) lo hi s key c.args.self.now.value c.in_ok-found.found found absent c.in-None.is))

pub returns-in-Some-clause-reads : goal.returns-in-Some-clause-reads
returns-in-Some-clause-reads g c =
    subst (λ (e : Option ExecErr). Reads g.S.Store.view (g.M.Machine.disk c.args.machine.now) (g.M.Machine.disk c.walk.new.machine) c.args.store.now c.walk.new.store e) (sym c.split_turn.ensures.found) c.in_ok-found.ensures.reads

pub returns-in-Some-clause-answer : goal.returns-in-Some-clause-answer
returns-in-Some-clause-answer g c = λ p commands holds done.
    let s = state_of p commands in
    let lo = c.args.self.now.tree.now.lo in
    let hi = c.args.self.now.tree.now.hi in
    let key = c.args.self.now.key in
    let found = end_of_way (walk lo hi s key) c.in_ok-found.found (c.in_ok-found.ensures.answer p commands holds refl) in
    let absent : has key c.in_ok-found.found.pairs.items ≡ false = ap (λ (l : List Pair). has key l) (sym c.as_slice.ensures.value) ∙ sym c.if-has_key.ensures in
    let fits = ap (λ (q : Params). q.objects) (g.S.Store.view.numbers p (g.M.Machine.disk c.args.machine.now) c.args.store.now commands holds) in
    let within : hi < p.objects = omega (arith, c.requires.there, fits) in
    let told = c.split_turn.ensures.answer p commands (c.reads_go_on.ensures.holds p c.args.machine.now c.walk.new.machine c.args.store.now c.walk.new.store commands c.in_ok-found.ensures.reads holds) within in
    let same = rw c.in-Some.is at told in
    same
    ∙ sym (ap (λ (n : TreeNext). turn_answer node n) (next_split (bounds_of p) lo hi s key c.args.self.now.value c.in_ok-found.found found absent c.in-Some.full c.in-Some.is))
