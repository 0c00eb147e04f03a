use Rattle.std.proofs.Common.{◌<◌, refl, ap, ◌∙◌, sym, List, ℕ, true, false, [], None, Result, Ok, arith}
use Rattle.formats.specs.declared.params.Params.{Params}
use Rattle.page_ops.specs.declared.page_op.PageOp.{PageOp}
use Rattle.page_map.specs.Deletes.{root_goes, tidy_from, tidy_turn}
use Rattle.page_map.specs.Map.{bytes_at}
use Rattle.range_calls.specs.Answers as answers
use Rattle.range_calls.specs.ReadLaws.{answers_passed, makes_err, passed}
use Rattle.range_calls.specs.Store.{Command, state_of}
use Rattle.range_calls.specs.declared.round.Round.{Round}
use Rattle.map_client.specs.Answers.{MapErr}
use Rattle.map_client.specs.Reading.{level_of}
use Rattle.map_client.specs.Turning.{tidy_round}
use Rattle.map_client.proofs.TidyLemmas.{as_round, leaf_ends, leaf_none, leaf_round, leaf_turns, root_opens, round_told, some_level, shut_turn, turn_begins}
use Rattle.map_client.proofs.WalkLemmas.{was_read}
use Rattle.map_client.proofs.deleting.WayRounds.next_round.Goals as goal

pub returns-in_err-level-clause-answer : goal.returns-in_err-level-clause-answer
returns-in_err-level-clause-answer g c = λ p commands holds.
    let way = c.args.self.now in
    let lo = way.map.now.lo in
    let hi = way.map.now.hi in
    let s = state_of p commands in
    let e = c.in_err-level.field-0.0 in
    let fits = ap (λ (q : Params). q.objects) (g.S.Store.view.numbers p (g.M.Machine.disk c.args.machine.now) c.args.store.now commands holds) in
    let below : lo < p.objects = omega (arith, c.last-last.ensures.value, c.last-last.ensures.order, c.requires.there, fits) in
    answers_passed c.from_residual.result e (answers.told (tidy_round (tidy_turn lo hi s way.key.now))) (passed c.from_residual.result e c.from_residual.ensures.1)
    (λ done. shut_turn lo hi way.key.now s e (c.in_err-level.ensures.answer p commands holds below done))

-- the root is a leaf
pub returns-then-level-eq0-clause-answer : goal.returns-then-level-eq0-clause-answer
returns-then-level-eq0-clause-answer g c = λ p commands holds done.
    let way = c.args.self.now in
    let lo = way.map.now.lo in
    let hi = way.map.now.hi in
    let s = state_of p commands in
    let fits = ap (λ (q : Params). q.objects) (g.S.Store.view.numbers p (g.M.Machine.disk c.args.machine.now) c.args.store.now commands holds) in
    let below : lo < p.objects = omega (arith, c.last-last.ensures.value, c.last-last.ensures.order, c.requires.there, fits) in
    let is = was_read lo (level_of (bytes_at lo s lo)) c.in_ok-level.level (c.in_ok-level.ensures.answer p commands holds below refl) in
    ap (λ (l : List Command). (let q : Result Round MapErr = Ok (record { ops = l; last = false }) in q)) c.new.ensures
    ∙ ap (λ (r : Result (List PageOp) ℕ). answers.told (tidy_round r)) (leaf_turns lo hi way.key.now s c.in_ok-level.level is c.if-level-eq0.true)

pub leaf_goes-requires-clause-inner : goal.leaf_goes-requires-clause-inner
leaf_goes-requires-clause-inner g c = some_level c.in_ok-level.level c.if-level-eq0.false

pub returns-in_err-leaf-clause-reads : goal.returns-in_err-leaf-clause-reads
returns-in_err-leaf-clause-reads g c =
    let e = c.in_err-leaf.field-0.0 in
    let r = c.from_residual-in_err-leaf.result in
    makes_err r e (passed r e c.from_residual-in_err-leaf.ensures.1)
    (c.reads_go_on.ensures.behind c.args.machine.now c.root_level.new.machine c.leaf_goes.new.machine c.args.store.now c.root_level.new.store c.leaf_goes.new.store (λ p commands. []) _ c.in_ok-level.ensures.reads c.in_err-leaf.ensures.reads)

pub returns-in_err-leaf-clause-answer : goal.returns-in_err-leaf-clause-answer
returns-in_err-leaf-clause-answer g c = λ p commands holds.
    let way = c.args.self.now in
    let lo = way.map.now.lo in
    let hi = way.map.now.hi in
    let s = state_of p commands in
    let e = c.in_err-leaf.field-0.0 in
    let r = c.from_residual-in_err-leaf.result in
    let level = c.in_ok-level.level in
    let fits = ap (λ (q : Params). q.objects) (g.S.Store.view.numbers p (g.M.Machine.disk c.args.machine.now) c.args.store.now commands holds) in
    let below : lo < p.objects = omega (arith, c.last-last.ensures.value, c.last-last.ensures.order, c.requires.there, fits) in
    let within : hi < p.objects = omega (arith, c.requires.there, fits) in
    let is = was_read lo (level_of (bytes_at lo s lo)) level (c.in_ok-level.ensures.answer p commands holds below refl) in
    let from : Result (List PageOp) ℕ = tidy_from lo hi s way.key.now level lo None in
    answers_passed r e (answers.told (tidy_round (tidy_turn lo hi s way.key.now))) (passed r e c.from_residual-in_err-leaf.ensures.1)
    (λ done. leaf_ends lo hi s level from e (c.in_err-leaf.ensures.answer p commands (c.reads_go_on.ensures.holds p c.args.machine.now c.root_level.new.machine c.args.store.now c.root_level.new.store commands c.in_ok-level.ensures.reads holds) within done)
    ∙ sym (ap (λ (t : Result (List PageOp) ℕ). answers.told (tidy_round t)) (turn_begins lo hi way.key.now s level is)))

-- a leaf goes, or gives way
pub returns-then-not-is_empty-clause-reads : goal.returns-then-not-is_empty-clause-reads
returns-then-not-is_empty-clause-reads g c =
    c.reads_go_on.ensures.behind c.args.machine.now c.root_level.new.machine c.leaf_goes.new.machine c.args.store.now c.root_level.new.store c.leaf_goes.new.store (λ p commands. []) None c.in_ok-level.ensures.reads c.in_ok-leaf.ensures.reads

pub returns-then-not-is_empty-clause-answer : goal.returns-then-not-is_empty-clause-answer
returns-then-not-is_empty-clause-answer g c = λ p commands holds done.
    let way = c.args.self.now in
    let lo = way.map.now.lo in
    let hi = way.map.now.hi in
    let s = state_of p commands in
    let level = c.in_ok-level.level in
    let fits = ap (λ (q : Params). q.objects) (g.S.Store.view.numbers p (g.M.Machine.disk c.args.machine.now) c.args.store.now commands holds) in
    let below : lo < p.objects = omega (arith, c.last-last.ensures.value, c.last-last.ensures.order, c.requires.there, fits) in
    let within : hi < p.objects = omega (arith, c.requires.there, fits) in
    let is = was_read lo (level_of (bytes_at lo s lo)) level (c.in_ok-level.ensures.answer p commands holds below refl) in
    let from : Result (List PageOp) ℕ = tidy_from lo hi s way.key.now level lo None in
    leaf_round lo hi s level from c.in_ok-leaf.leaf (c.in_ok-leaf.ensures.answer p commands (c.reads_go_on.ensures.holds p c.args.machine.now c.root_level.new.machine c.args.store.now c.root_level.new.store commands c.in_ok-level.ensures.reads holds) within refl) (sym c.is_empty.ensures ∙ c.if-not-is_empty.true)
    ∙ sym (ap (λ (t : Result (List PageOp) ℕ). answers.told (tidy_round t)) (turn_begins lo hi way.key.now s level is))

pub root_goes-requires-clause-inner : goal.root_goes-requires-clause-inner
root_goes-requires-clause-inner g c = some_level c.in_ok-level.level c.if-level-eq0.false

pub returns-in_err-root-clause-reads : goal.returns-in_err-root-clause-reads
returns-in_err-root-clause-reads g c =
    let e = c.in_err-root.field-0.0 in
    let r = c.from_residual-in_err-root.result in
    makes_err r e (passed r e c.from_residual-in_err-root.ensures.1)
    (c.reads_go_on.ensures.behind c.args.machine.now c.leaf_goes.new.machine c.root_goes.new.machine c.args.store.now c.leaf_goes.new.store c.root_goes.new.store (λ p commands. []) _
    (c.reads_go_on.ensures.behind c.args.machine.now c.root_level.new.machine c.leaf_goes.new.machine c.args.store.now c.root_level.new.store c.leaf_goes.new.store (λ p commands. []) None c.in_ok-level.ensures.reads c.in_ok-leaf.ensures.reads)
    c.in_err-root.ensures.reads)

pub returns-in_err-root-clause-answer : goal.returns-in_err-root-clause-answer
returns-in_err-root-clause-answer g c = λ p commands holds.
    let way = c.args.self.now in
    let lo = way.map.now.lo in
    let hi = way.map.now.hi in
    let s = state_of p commands in
    let e = c.in_err-root.field-0.0 in
    let r = c.from_residual-in_err-root.result in
    let level = c.in_ok-level.level in
    let fits = ap (λ (q : Params). q.objects) (g.S.Store.view.numbers p (g.M.Machine.disk c.args.machine.now) c.args.store.now commands holds) in
    let below : lo < p.objects = omega (arith, c.last-last.ensures.value, c.last-last.ensures.order, c.requires.there, fits) in
    let within : hi < p.objects = omega (arith, c.requires.there, fits) in
    let is = was_read lo (level_of (bytes_at lo s lo)) level (c.in_ok-level.ensures.answer p commands holds below refl) in
    let from : Result (List PageOp) ℕ = tidy_from lo hi s way.key.now level lo None in
    let first = c.reads_go_on.ensures.holds p c.args.machine.now c.root_level.new.machine c.args.store.now c.root_level.new.store commands c.in_ok-level.ensures.reads holds in
    let root = leaf_none lo hi s level from c.in_ok-leaf.leaf (c.in_ok-leaf.ensures.answer p commands first within refl) (sym c.is_empty.ensures ∙ c.if-not-is_empty.false) in
    answers_passed r e (answers.told (tidy_round (tidy_turn lo hi s way.key.now))) (passed r e c.from_residual-in_err-root.ensures.1)
    (λ done. ap (round_told lo hi s) (c.in_err-root.ensures.answer p commands (c.reads_go_on.ensures.holds p c.root_level.new.machine c.leaf_goes.new.machine c.root_level.new.store c.leaf_goes.new.store commands c.in_ok-leaf.ensures.reads first) within (root_opens lo hi way.key.now s level is) done) ∙ as_round lo hi s (root_goes lo hi s level)
    ∙ sym (ap (λ (t : Result (List PageOp) ℕ). answers.told (tidy_round t)) (turn_begins lo hi way.key.now s level is ∙ root)))

-- the leaf stays, and the root has a turn
pub returns-clause-reads : goal.returns-clause-reads
returns-clause-reads g c =
    c.reads_go_on.ensures.behind c.args.machine.now c.leaf_goes.new.machine c.root_goes.new.machine c.args.store.now c.leaf_goes.new.store c.root_goes.new.store (λ p commands. []) None
    (c.reads_go_on.ensures.behind c.args.machine.now c.root_level.new.machine c.leaf_goes.new.machine c.args.store.now c.root_level.new.store c.leaf_goes.new.store (λ p commands. []) None c.in_ok-level.ensures.reads c.in_ok-leaf.ensures.reads)
    c.in_ok-root.ensures.reads

pub returns-clause-answer : goal.returns-clause-answer
returns-clause-answer g c = λ p commands holds done.
    let way = c.args.self.now in
    let lo = way.map.now.lo in
    let hi = way.map.now.hi in
    let s = state_of p commands in
    let level = c.in_ok-level.level in
    let fits = ap (λ (q : Params). q.objects) (g.S.Store.view.numbers p (g.M.Machine.disk c.args.machine.now) c.args.store.now commands holds) in
    let below : lo < p.objects = omega (arith, c.last-last.ensures.value, c.last-last.ensures.order, c.requires.there, fits) in
    let within : hi < p.objects = omega (arith, c.requires.there, fits) in
    let is = was_read lo (level_of (bytes_at lo s lo)) level (c.in_ok-level.ensures.answer p commands holds below refl) in
    let from : Result (List PageOp) ℕ = tidy_from lo hi s way.key.now level lo None in
    let first = c.reads_go_on.ensures.holds p c.args.machine.now c.root_level.new.machine c.args.store.now c.root_level.new.store commands c.in_ok-level.ensures.reads holds in
    let root = leaf_none lo hi s level from c.in_ok-leaf.leaf (c.in_ok-leaf.ensures.answer p commands first within refl) (sym c.is_empty.ensures ∙ c.if-not-is_empty.false) in
    ap (round_told lo hi s) (c.in_ok-root.ensures.answer p commands (c.reads_go_on.ensures.holds p c.root_level.new.machine c.leaf_goes.new.machine c.root_level.new.store c.leaf_goes.new.store commands c.in_ok-leaf.ensures.reads first) within (root_opens lo hi way.key.now s level is) refl) ∙ as_round lo hi s (root_goes lo hi s level)
    ∙ sym (ap (λ (t : Result (List PageOp) ℕ). answers.told (tidy_round t)) (turn_begins lo hi way.key.now s level is ∙ root))
