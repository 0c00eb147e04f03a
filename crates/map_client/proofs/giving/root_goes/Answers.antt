use Rattle.std.proofs.Common.{◌<◌, refl, ap, ◌∙◌, sym, List, ℕ, ◌-◌, [], Option, None, Some, Result, Ok, Err, arith}
use Rattle.page_map.specs.Deletes.{root_goes}
use Rattle.page_map.specs.Map.{bytes_at}
use Rattle.range_calls.specs.ReadLaws.{answers_passed, passed}
use Rattle.range_calls.specs.Store.{Command, state_of}
use Rattle.map_client.specs.Answers.{MapErr}
use Rattle.map_client.specs.Tidying.{only_child_of, stored}
use Rattle.map_client.proofs.TidyLemmas.{only_within, root_found}
use Rattle.map_client.proofs.WalkLemmas.{was_bad, was_read}
use Rattle.map_client.proofs.giving.root_goes.Goals as goal

pub returns-in_err-child-clause-answer : goal.returns-in_err-child-clause-answer
returns-in_err-child-clause-answer g c = λ p commands holds within opened.
    let way = c.args.way.now in
    let lo = way.map.now.lo in
    let hi = way.map.now.hi in
    let s = state_of p commands in
    let e = c.in_err-child.field-0.0 in
    let below : lo < p.objects = omega (arith, c.last-last.ensures.value, c.last-last.ensures.order, within) in
    answers_passed c.from_residual.result e (stored (root_goes lo hi s c.args.levels)) (passed c.from_residual.result e c.from_residual.ensures.1)
    (λ done.
    let bad = was_bad lo (only_child_of lo hi (bytes_at lo s lo)) e (c.in_err-child.ensures.answer p commands holds below done) in
    ap (λ (x : MapErr). (let q : Result (List Command) MapErr = Err x in q)) bad.1 ∙ sym (ap stored (root_found lo hi s c.args.levels c.requires.inner opened None bad.0)))

pub returns-in-Some-clause-reads : goal.returns-in-Some-clause-reads
returns-in-Some-clause-reads g c =
    c.reads_go_on.ensures.behind c.args.machine.now c.child_of_root.new.machine c.child_goes.new.machine c.args.store.now c.child_of_root.new.store c.child_goes.new.store (λ p commands. []) _ c.in_ok-child.ensures.reads c.child_goes.ensures.reads

pub returns-in-Some-clause-answer : goal.returns-in-Some-clause-answer
returns-in-Some-clause-answer g c = λ p commands holds within opened done.
    let way = c.args.way.now in
    let lo = way.map.now.lo in
    let hi = way.map.now.hi in
    let s = state_of p commands in
    let below : lo < p.objects = omega (arith, c.last-last.ensures.value, c.last-last.ensures.order, within) in
    let is = was_read lo (only_child_of lo hi (bytes_at lo s lo)) c.in_ok-child.child (c.in_ok-child.ensures.answer p commands holds below refl) ∙ ap (λ (o : Option ℕ). Some o) c.in-Some.is in
    let inside = only_within lo hi s c.in-Some.child is in
    let there : c.in-Some.child < p.objects = omega (arith, inside, within) in
    c.child_goes.ensures.answer p commands (c.reads_go_on.ensures.holds p c.args.machine.now c.child_of_root.new.machine c.args.store.now c.child_of_root.new.store commands c.in_ok-child.ensures.reads holds) there done
    ∙ sym (ap stored (root_found lo hi s c.args.levels c.requires.inner opened (Some (Some c.in-Some.child)) is))

pub returns-in-None-clause-answer : goal.returns-in-None-clause-answer
returns-in-None-clause-answer g c = λ p commands holds within opened done.
    let way = c.args.way.now in
    let lo = way.map.now.lo in
    let hi = way.map.now.hi in
    let s = state_of p commands in
    let below : lo < p.objects = omega (arith, c.last-last.ensures.value, c.last-last.ensures.order, within) in
    let is = was_read lo (only_child_of lo hi (bytes_at lo s lo)) c.in_ok-child.child (c.in_ok-child.ensures.answer p commands holds below refl) ∙ ap (λ (o : Option ℕ). Some o) c.in-None.is in
    ap (λ (l : List Command). (let q : Result (List Command) MapErr = Ok l in q)) c.new.ensures
    ∙ sym (ap stored (root_found lo hi s c.args.levels c.requires.inner opened (Some None) is))
