use Rattle.std.proofs.Common.{◌≡◌, ◌<◌, refl, sym, ap, ◌∙◌, subst, ℕ, true, Option, Result, Ok, Err, List, None, Some, [], ◌∷◌, arith}
use Rattle.formats.specs.Objects.{bounds_of}
use Rattle.formats.specs.declared.params.Params.{Params}
use Rattle.page_ops.specs.declared.page_op.PageOp.{PageOp}
use Rattle.page_map.specs.Sets.{set_turn}
use Rattle.page_map.specs.Walk.{walk, walk_from}
use Rattle.range_calls.specs.Answers as answers
use Rattle.range_calls.specs.ReadLaws.{answers_passed, makes_err, passed}
use Rattle.range_calls.specs.Store.{Command, state_of}
use Rattle.range_calls.specs.declared.round.Round.{Round}
use Rattle.map_client.specs.Answers.{MapErr, told}
use Rattle.map_client.specs.Turning.{round_of}
use Rattle.map_client.proofs.SetLemmas.{bad_told, found_turn, ready_in}
use Rattle.map_client.proofs.setting.NewPairRounds.next_round.Goals as goal

pub walk-requires-clause-there : goal.walk-requires-clause-there
walk-requires-clause-there g c = c.requires.there.there

pub returns-in_err-leaf-clause-answer : goal.returns-in_err-leaf-clause-answer
returns-in_err-leaf-clause-answer g c = λ p commands holds.
    let pair = c.args.self.now in
    let lo = pair.map.now.lo in
    let hi = pair.map.now.hi in
    let s = state_of p commands in
    let e = c.in_err-leaf.field-0.0 in
    let ready = ready_in (g.S.Store.view.numbers p (g.M.Machine.disk c.args.machine.now) c.args.store.now commands holds) c.requires.there in
    answers_passed c.from_residual.result e (answers.told (round_of (set_turn (bounds_of p) lo hi pair.key pair.value s))) (passed c.from_residual.result e c.from_residual.ensures.1)
    (λ done. bad_told (bounds_of p) lo hi pair.key pair.value s ready.short e
    (subst (λ (k : List ℕ). told (walk lo hi s k) ≡ Err e) c.as_slice.ensures.value (c.in_err-leaf.ensures.bad p commands holds done)))

pub returns-in_err-found-clause-reads : goal.returns-in_err-found-clause-reads
returns-in_err-found-clause-reads g c =
    let e = c.in_err-found.field-0.0 in
    let r = c.from_residual-in_err-found.result in
    makes_err r e (passed r e c.from_residual-in_err-found.ensures.1)
    (c.reads_go_on.ensures.behind c.args.machine.now c.walk.new.machine c.put_in.new.machine c.args.store.now c.walk.new.store c.put_in.new.store (λ p commands. []) _ c.in_ok-leaf.ensures.reads c.in_err-found.ensures.reads)

pub returns-in_err-found-clause-answer : goal.returns-in_err-found-clause-answer
returns-in_err-found-clause-answer g c = λ p commands holds.
    let pair = c.args.self.now in
    let lo = pair.map.now.lo in
    let hi = pair.map.now.hi in
    let s = state_of p commands in
    let e = c.in_err-found.field-0.0 in
    let r = c.from_residual-in_err-found.result in
    let ready = ready_in (g.S.Store.view.numbers p (g.M.Machine.disk c.args.machine.now) c.args.store.now commands holds) c.requires.there in
    let below : c.in_ok-leaf.leaf < p.objects = omega (arith, c.in_ok-leaf.ensures.within, ready.there) in
    let way = subst (λ (k : List ℕ). walk lo hi s k ≡ walk_from lo hi s k 0 c.in_ok-leaf.leaf) c.as_slice.ensures.value (c.in_ok-leaf.ensures.leaf p commands holds) in
    answers_passed r e (answers.told (round_of (set_turn (bounds_of p) lo hi pair.key pair.value s))) (passed r e c.from_residual-in_err-found.ensures.1)
    (λ done. found_turn (bounds_of p) lo hi pair.key pair.value s ready.short c.in_ok-leaf.leaf pair.room ready.room_is way (Err e)
    (c.in_err-found.ensures.answer p commands (c.reads_go_on.ensures.holds p c.args.machine.now c.walk.new.machine c.args.store.now c.walk.new.store commands c.in_ok-leaf.ensures.reads holds) below done))

pub returns-in-Some-clause-reads : goal.returns-in-Some-clause-reads
returns-in-Some-clause-reads g c =
    c.reads_go_on.ensures.behind c.args.machine.now c.walk.new.machine c.put_in.new.machine c.args.store.now c.walk.new.store c.put_in.new.store (λ p commands. []) None c.in_ok-leaf.ensures.reads c.in_ok-found.ensures.reads

-- the leaf has room
pub returns-in-Some-clause-answer : goal.returns-in-Some-clause-answer
returns-in-Some-clause-answer g c = λ p commands holds done.
    let pair = c.args.self.now in
    let lo = pair.map.now.lo in
    let hi = pair.map.now.hi in
    let s = state_of p commands in
    let ready = ready_in (g.S.Store.view.numbers p (g.M.Machine.disk c.args.machine.now) c.args.store.now commands holds) c.requires.there in
    let below : c.in_ok-leaf.leaf < p.objects = omega (arith, c.in_ok-leaf.ensures.within, ready.there) in
    let way = subst (λ (k : List ℕ). walk lo hi s k ≡ walk_from lo hi s k 0 c.in_ok-leaf.leaf) c.as_slice.ensures.value (c.in_ok-leaf.ensures.leaf p commands holds) in
    ap (λ (l : List Command). (let r : Result Round MapErr = Ok (record { ops = l; last = true }) in r)) (c.new.ensures ∙ ap (λ (o : Command). o ∷ []) c.page_op.ensures)
    ∙ found_turn (bounds_of p) lo hi pair.key pair.value s ready.short c.in_ok-leaf.leaf pair.room ready.room_is way (Ok (Some c.in-Some.op))
    (ap (λ (o : Option PageOp). (let r : Result (Option PageOp) MapErr = Ok o in r)) (sym c.in-Some.is) ∙ c.in_ok-found.ensures.answer p commands (c.reads_go_on.ensures.holds p c.args.machine.now c.walk.new.machine c.args.store.now c.walk.new.store commands c.in_ok-leaf.ensures.reads holds) below refl)

-- a page is cut
pub returns-in-None-clause-reads : goal.returns-in-None-clause-reads
returns-in-None-clause-reads g c =
    c.reads_go_on.ensures.behind c.args.machine.now c.put_in.new.machine c.cut.new.machine c.args.store.now c.put_in.new.store c.cut.new.store (λ p commands. []) _
    (c.reads_go_on.ensures.behind c.args.machine.now c.walk.new.machine c.put_in.new.machine c.args.store.now c.walk.new.store c.put_in.new.store (λ p commands. []) None c.in_ok-leaf.ensures.reads c.in_ok-found.ensures.reads)
    c.cut.ensures.reads

pub returns-in-None-clause-answer : goal.returns-in-None-clause-answer
returns-in-None-clause-answer g c = λ p commands holds done.
    let pair = c.args.self.now in
    let lo = pair.map.now.lo in
    let hi = pair.map.now.hi in
    let s = state_of p commands in
    let ready = ready_in (g.S.Store.view.numbers p (g.M.Machine.disk c.args.machine.now) c.args.store.now commands holds) c.requires.there in
    let below : c.in_ok-leaf.leaf < p.objects = omega (arith, c.in_ok-leaf.ensures.within, ready.there) in
    let way = subst (λ (k : List ℕ). walk lo hi s k ≡ walk_from lo hi s k 0 c.in_ok-leaf.leaf) c.as_slice.ensures.value (c.in_ok-leaf.ensures.leaf p commands holds) in
    let first = c.reads_go_on.ensures.holds p c.args.machine.now c.walk.new.machine c.args.store.now c.walk.new.store commands c.in_ok-leaf.ensures.reads holds in
    c.cut.ensures.answer p commands (c.reads_go_on.ensures.holds p c.walk.new.machine c.put_in.new.machine c.walk.new.store c.put_in.new.store commands c.in_ok-found.ensures.reads first) ready.room_is done
    ∙ found_turn (bounds_of p) lo hi pair.key pair.value s ready.short c.in_ok-leaf.leaf pair.room ready.room_is way (Ok None)
    (ap (λ (o : Option PageOp). (let r : Result (Option PageOp) MapErr = Ok o in r)) (sym c.in-None.is) ∙ c.in_ok-found.ensures.answer p commands first below refl)

pub cut-requires-clause-there : goal.cut-requires-clause-there
cut-requires-clause-there g c =
    let hi = c.args.self.now.map.now.hi in
    subst (λ (q : Params). hi < q.objects) (sym (c.in_ok-found.ensures.reads.calls.params ∙ c.in_ok-leaf.ensures.reads.calls.params)) c.requires.there.there
