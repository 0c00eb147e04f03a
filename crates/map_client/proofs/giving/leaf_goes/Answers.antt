use Rattle.std.proofs.Common.{◌<◌, refl, ap, ◌∙◌, sym, List, ℕ, [], Option, None, Result, Ok, Err, option_map, arith}
use Rattle.page_ops.specs.declared.page_op.PageOp.{PageOp}
use Rattle.page_map.specs.Deletes.{front_at, tidy_from}
use Rattle.range_calls.specs.ReadLaws.{answers_passed, makes_err, passed}
use Rattle.range_calls.specs.Store.{Command, state_of}
use Rattle.map_client.specs.Answers.{MapErr, told}
use Rattle.map_client.specs.Tidying.{stored}
use Rattle.map_client.proofs.TidyLemmas.{bad_stored, turn_bad, turn_empty, turn_full}
use Rattle.map_client.proofs.WalkLemmas.{was_bad, was_read}
use Rattle.map_client.proofs.giving.leaf_goes.Goals as goal

pub returns-in_err-at-clause-answer : goal.returns-in_err-at-clause-answer
returns-in_err-at-clause-answer g c = λ p commands holds within.
    let way = c.args.way.now in
    let r : Result (List PageOp) ℕ = tidy_from way.map.now.lo way.map.now.hi (state_of p commands) way.key.now c.args.levels way.map.now.lo None in
    let e = c.in_err-at.field-0.0 in
    answers_passed c.from_residual.result e (stored r) (passed c.from_residual.result e c.from_residual.ensures.1)
    (λ done. bad_stored r e (c.in_err-at.ensures.bad p commands holds within done))

pub returns-in_err-found-clause-reads : goal.returns-in_err-found-clause-reads
returns-in_err-found-clause-reads g c =
    let e = c.in_err-found.field-0.0 in
    let r = c.from_residual-in_err-found.result in
    makes_err r e (passed r e c.from_residual-in_err-found.ensures.1)
    (c.reads_go_on.ensures.behind c.args.machine.now c.page_above.new.machine c.leaf_under.new.machine c.args.store.now c.page_above.new.store c.leaf_under.new.store (λ p commands. []) _ c.in_ok-at.ensures.reads c.in_err-found.ensures.reads)

pub returns-in_err-found-clause-answer : goal.returns-in_err-found-clause-answer
returns-in_err-found-clause-answer g c = λ p commands holds within.
    let way = c.args.way.now in
    let t : Result (List PageOp) ℕ = tidy_from way.map.now.lo way.map.now.hi (state_of p commands) way.key.now c.args.levels way.map.now.lo None in
    let e = c.in_err-found.field-0.0 in
    let r = c.from_residual-in_err-found.result in
    let above = c.in_ok-at.ensures.found p commands holds within in
    let below : c.in_ok-at.at.object < p.objects = omega (arith, above.0, within) in
    answers_passed r e (stored t) (passed r e c.from_residual-in_err-found.ensures.1)
    (λ done. bad_stored t e (ap told above.1 ∙ c.in_err-found.ensures.bad p commands (c.reads_go_on.ensures.holds p c.args.machine.now c.page_above.new.machine c.args.store.now c.page_above.new.store commands c.in_ok-at.ensures.reads holds) below done))

pub returns-in_err-count-clause-reads : goal.returns-in_err-count-clause-reads
returns-in_err-count-clause-reads g c =
    let e = c.in_err-count.field-0.0 in
    let r = c.from_residual-in_err-count.result in
    makes_err r e (passed r e c.from_residual-in_err-count.ensures.1)
    (c.reads_go_on.ensures.behind c.args.machine.now c.leaf_under.new.machine c.cells_within.new.machine c.args.store.now c.leaf_under.new.store c.cells_within.new.store (λ p commands. []) _
    (c.reads_go_on.ensures.behind c.args.machine.now c.page_above.new.machine c.leaf_under.new.machine c.args.store.now c.page_above.new.store c.leaf_under.new.store (λ p commands. []) None c.in_ok-at.ensures.reads c.in_ok-found.ensures.reads)
    c.in_err-count.ensures.reads)

pub returns-in_err-count-clause-answer : goal.returns-in_err-count-clause-answer
returns-in_err-count-clause-answer g c = λ p commands holds within.
    let way = c.args.way.now in
    let lo = way.map.now.lo in
    let hi = way.map.now.hi in
    let s = state_of p commands in
    let t : Result (List PageOp) ℕ = tidy_from lo hi s way.key.now c.args.levels lo None in
    let e = c.in_err-count.field-0.0 in
    let r = c.from_residual-in_err-count.result in
    let above = c.in_ok-at.ensures.found p commands holds within in
    let first = c.reads_go_on.ensures.holds p c.args.machine.now c.page_above.new.machine c.args.store.now c.page_above.new.store commands c.in_ok-at.ensures.reads holds in
    let found = c.in_ok-found.found in
    let leaf = c.in_ok-found.ensures.found p commands first in
    let to : Option (List ℕ) = option_map (λ v. v.items) found.leaf.to in
    let below : found.leaf.object < p.objects = omega (arith, leaf.0, within) in
    answers_passed r e (stored t) (passed r e c.from_residual-in_err-count.ensures.1)
    (λ done.
    let bad = was_bad found.leaf.object (front_at lo hi s to found.leaf.object) e (c.in_err-count.ensures.answer p commands (c.reads_go_on.ensures.holds p c.page_above.new.machine c.leaf_under.new.machine c.page_above.new.store c.leaf_under.new.store commands c.in_ok-found.ensures.reads first) below done) in
    ap (λ (x : MapErr). (let q : Result (List Command) MapErr = Err x in q)) bad.1
    ∙ sym (ap stored (above.1 ∙ leaf.2 ∙ turn_bad lo hi s found.above found.place found.leaf.object found.from.items to found.beside bad.0)))

-- it has none
pub returns-then-count-eq0-clause-reads : goal.returns-then-count-eq0-clause-reads
returns-then-count-eq0-clause-reads g c =
    c.reads_go_on.ensures.behind c.args.machine.now c.cells_within.new.machine c.gives_way.new.machine c.args.store.now c.cells_within.new.store c.gives_way.new.store (λ p commands. []) _
    (c.reads_go_on.ensures.behind c.args.machine.now c.leaf_under.new.machine c.cells_within.new.machine c.args.store.now c.leaf_under.new.store c.cells_within.new.store (λ p commands. []) None
    (c.reads_go_on.ensures.behind c.args.machine.now c.page_above.new.machine c.leaf_under.new.machine c.args.store.now c.page_above.new.store c.leaf_under.new.store (λ p commands. []) None c.in_ok-at.ensures.reads c.in_ok-found.ensures.reads)
    c.in_ok-count.ensures.reads)
    c.gives_way.ensures.reads

pub returns-then-count-eq0-clause-answer : goal.returns-then-count-eq0-clause-answer
returns-then-count-eq0-clause-answer g c = λ p commands holds within done.
    let way = c.args.way.now in
    let lo = way.map.now.lo in
    let hi = way.map.now.hi in
    let s = state_of p commands in
    let above = c.in_ok-at.ensures.found p commands holds within in
    let first = c.reads_go_on.ensures.holds p c.args.machine.now c.page_above.new.machine c.args.store.now c.page_above.new.store commands c.in_ok-at.ensures.reads holds in
    let found = c.in_ok-found.found in
    let leaf = c.in_ok-found.ensures.found p commands first in
    let second = c.reads_go_on.ensures.holds p c.page_above.new.machine c.leaf_under.new.machine c.page_above.new.store c.leaf_under.new.store commands c.in_ok-found.ensures.reads first in
    let to : Option (List ℕ) = option_map (λ v. v.items) found.leaf.to in
    let below : found.leaf.object < p.objects = omega (arith, leaf.0, within) in
    let is = was_read found.leaf.object (front_at lo hi s to found.leaf.object) c.in_ok-count.count (c.in_ok-count.ensures.answer p commands second below refl) in
    c.gives_way.ensures.answer p commands (c.reads_go_on.ensures.holds p c.leaf_under.new.machine c.cells_within.new.machine c.leaf_under.new.store c.cells_within.new.store commands c.in_ok-count.ensures.reads second) within leaf.1 done
    ∙ sym (ap stored (above.1 ∙ leaf.2 ∙ turn_empty lo hi s found.above found.place found.leaf.object found.from.items to found.beside c.in_ok-count.count c.if-count-eq0.true is))

-- the leaf has cells
pub returns-clause-reads : goal.returns-clause-reads
returns-clause-reads g c =
    c.reads_go_on.ensures.behind c.args.machine.now c.leaf_under.new.machine c.cells_within.new.machine c.args.store.now c.leaf_under.new.store c.cells_within.new.store (λ p commands. []) None
    (c.reads_go_on.ensures.behind c.args.machine.now c.page_above.new.machine c.leaf_under.new.machine c.args.store.now c.page_above.new.store c.leaf_under.new.store (λ p commands. []) None c.in_ok-at.ensures.reads c.in_ok-found.ensures.reads)
    c.in_ok-count.ensures.reads

pub returns-clause-answer : goal.returns-clause-answer
returns-clause-answer g c = λ p commands holds within done.
    let way = c.args.way.now in
    let lo = way.map.now.lo in
    let hi = way.map.now.hi in
    let s = state_of p commands in
    let above = c.in_ok-at.ensures.found p commands holds within in
    let first = c.reads_go_on.ensures.holds p c.args.machine.now c.page_above.new.machine c.args.store.now c.page_above.new.store commands c.in_ok-at.ensures.reads holds in
    let found = c.in_ok-found.found in
    let leaf = c.in_ok-found.ensures.found p commands first in
    let to : Option (List ℕ) = option_map (λ v. v.items) found.leaf.to in
    let below : found.leaf.object < p.objects = omega (arith, leaf.0, within) in
    let is = was_read found.leaf.object (front_at lo hi s to found.leaf.object) c.in_ok-count.count (c.in_ok-count.ensures.answer p commands (c.reads_go_on.ensures.holds p c.page_above.new.machine c.leaf_under.new.machine c.page_above.new.store c.leaf_under.new.store commands c.in_ok-found.ensures.reads first) below refl) in
    ap (λ (l : List Command). (let q : Result (List Command) MapErr = Ok l in q)) c.new.ensures
    ∙ sym (ap stored (above.1 ∙ leaf.2 ∙ turn_full lo hi s found.above found.place found.leaf.object found.from.items to found.beside c.in_ok-count.count c.if-count-eq0.false is))
