use Rattle.std.proofs.Common.{◌≡◌, ◌≤◌, sym, ap, ◌∙◌, subst, ℕ, suc, ◌+◌, List, arith}
use Rattle.formats.specs.Objects.{bounds_of}
use Rattle.formats.specs.declared.params.Params.{Params}
use Rattle.running_store.specs.Taking.Ending.{Done}
use Rattle.store_engine.specs.Lists.{ending_of}
use Rattle.logical_btree.specs.Plan.{TreePlan, insert_from}
use Rattle.logical_btree.specs.Walk.{size}
use Rattle.range_calls.specs.MakeLaws.{made_none}
use Rattle.range_calls.specs.Store.{Command, state_of}
use Rattle.tree_client.specs.Answers.{cause_in, made_of, refused_in}
use Rattle.tree_client.proofs.PlanLemmas.{is_within}
use Rattle.tree_client.proofs.TurnLemmas.{plan_past, plan_there}
use Rattle.tree_client.proofs.inserting.insert.Goals as goal

pub returns-then-last-params-clause-adds : goal.returns-then-last-params-clause-adds
returns-then-last-params-clause-adds g c = λ p commands holds.
    let fits = ap (λ (q : Params). q.objects) (c.params.ensures.value ∙ (g.S.Store.view.numbers p (g.M.Machine.disk c.args.machine.now) c.args.store.now commands holds)) in
    let past : p.objects ≤ c.args.tree.now.hi = omega (arith, c.if-last-params.true, c.last.ensures.value, fits) in
    let plan = plan_past (bounds_of p) c.args.tree.now.lo c.args.tree.now.hi c.args.key.now c.args.value.now (state_of p commands) past in
    subst (λ (l : List Command). g.S.Store.view.adds p (g.M.Machine.disk c.args.machine.now) (g.M.Machine.disk c.args.machine.now) c.args.store.now c.args.store.now commands l Done)
    (sym (ap (λ (q : TreePlan). made_of p.cap q.commands) plan ∙ made_none p.cap)) (c.nothing_is_made.ensures.front p commands holds)

pub returns-then-last-params-clause-answer : goal.returns-then-last-params-clause-answer
returns-then-last-params-clause-answer g c = λ p commands holds done.
    let fits = ap (λ (q : Params). q.objects) (c.params.ensures.value ∙ (g.S.Store.view.numbers p (g.M.Machine.disk c.args.machine.now) c.args.store.now commands holds)) in
    let past : p.objects ≤ c.args.tree.now.hi = omega (arith, c.if-last-params.true, c.last.ensures.value, fits) in
    sym (ap (refused_in p.cap) (plan_past (bounds_of p) c.args.tree.now.lo c.args.tree.now.hi c.args.key.now c.args.value.now (state_of p commands) past))

pub returns-clause-adds : goal.returns-clause-adds
returns-clause-adds g c = λ p commands holds.
    let b = bounds_of p in
    let lo = c.args.tree.now.lo in
    let hi = c.args.tree.now.hi in
    let s = state_of p commands in
    let fits = ap (λ (q : Params). q.objects) (c.params.ensures.value ∙ (g.S.Store.view.numbers p (g.M.Machine.disk c.args.machine.now) c.args.store.now commands holds)) in
    let there = is_within b lo hi c.size.ensures.order (omega (arith, c.if-last-params.false, c.last.ensures.value, fits)) in
    let most : c.size.result + 1 ≡ suc (size lo hi) = omega (arith, c.size.ensures.value) in
    subst (λ (q : TreePlan). g.S.Store.view.adds p (g.M.Machine.disk c.args.machine.now) (g.M.Machine.disk c.take_turns.new.machine) c.args.store.now c.take_turns.new.store commands (made_of p.cap q.commands) (ending_of (cause_in c.take_turns.result)))
    (ap (λ (n : ℕ). insert_from b lo hi c.args.key.now c.args.value.now n s) most ∙ sym (plan_there b lo hi c.args.key.now c.args.value.now s there))
    (c.take_turns.ensures.adds p commands holds)

pub returns-clause-answer : goal.returns-clause-answer
returns-clause-answer g c = λ p commands holds done.
    let b = bounds_of p in
    let lo = c.args.tree.now.lo in
    let hi = c.args.tree.now.hi in
    let s = state_of p commands in
    let fits = ap (λ (q : Params). q.objects) (c.params.ensures.value ∙ (g.S.Store.view.numbers p (g.M.Machine.disk c.args.machine.now) c.args.store.now commands holds)) in
    let there = is_within b lo hi c.size.ensures.order (omega (arith, c.if-last-params.false, c.last.ensures.value, fits)) in
    let most : c.size.result + 1 ≡ suc (size lo hi) = omega (arith, c.size.ensures.value) in
    c.take_turns.ensures.answer p commands holds done
    ∙ ap (refused_in p.cap) (ap (λ (n : ℕ). insert_from b lo hi c.args.key.now c.args.value.now n s) most ∙ sym (plan_there b lo hi c.args.key.now c.args.value.now s there))
