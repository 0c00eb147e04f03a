use Rattle.std.proofs.Common.{◌≤◌, sym, ap, ◌∙◌, subst, List, map, arith}
use Rattle.formats.specs.Objects.{bounds_of}
use Rattle.formats.specs.declared.params.Params.{Params}
use Rattle.op_codec.specs.AllOps.{hash}
use Rattle.running_store.specs.Taking.Ending.{Done}
use Rattle.store_engine.specs.Lists.{ending_of}
use Rattle.hash_file.specs.Plan.{HashPlan}
use Rattle.range_calls.specs.Answers.{cause_in, made_of, refused_in}
use Rattle.range_calls.specs.MakeLaws.{made_none}
use Rattle.range_calls.specs.Store.{Command, state_of}
use Rattle.hash_client.proofs.PutLemmas.{is_within, put_past, put_there}
use Rattle.hash_client.proofs.putting.put.Goals as goal

pub returns-then-last-params-clause-adds : goal.returns-then-last-params-clause-adds
returns-then-last-params-clause-adds g c = λ p commands holds.
    let b = bounds_of p in
    let s = state_of p commands in
    let lo = c.args.file.now.lo in
    let hi = c.args.file.now.hi in
    let key = c.args.key.now in
    let fits = ap (λ (q : Params). q.objects) (c.params.ensures.value ∙ (g.S.Store.view.numbers p (g.M.Machine.disk c.args.machine.now) c.args.store.now commands holds)) in
    let past : p.objects ≤ hi = omega (arith, c.if-last-params.true, c.last.ensures.value, fits) in
    let plan = put_past b lo hi s key past c.args.value.now in
    subst (λ (l : List Command). g.S.Store.view.adds p (g.M.Machine.disk c.args.machine.now) (g.M.Machine.disk c.args.machine.now) c.args.store.now c.args.store.now commands l Done)
    (sym (ap (λ (q : HashPlan). made_of p.cap (map hash q.commands)) plan ∙ made_none p.cap)) (c.nothing_is_made.ensures.front p commands holds)

pub returns-then-last-params-clause-answer : goal.returns-then-last-params-clause-answer
returns-then-last-params-clause-answer g c = λ p commands holds done.
    let b = bounds_of p in
    let s = state_of p commands in
    let lo = c.args.file.now.lo in
    let hi = c.args.file.now.hi in
    let key = c.args.key.now in
    let fits = ap (λ (q : Params). q.objects) (c.params.ensures.value ∙ (g.S.Store.view.numbers p (g.M.Machine.disk c.args.machine.now) c.args.store.now commands holds)) in
    let past : p.objects ≤ hi = omega (arith, c.if-last-params.true, c.last.ensures.value, fits) in
    sym (ap (refused_in p.cap) (put_past b lo hi s key past c.args.value.now))

pub returns-clause-adds : goal.returns-clause-adds
returns-clause-adds g c = λ p commands holds.
    let b = bounds_of p in
    let s = state_of p commands in
    let lo = c.args.file.now.lo in
    let hi = c.args.file.now.hi in
    let key = c.args.key.now in
    let fits = ap (λ (q : Params). q.objects) (c.params.ensures.value ∙ (g.S.Store.view.numbers p (g.M.Machine.disk c.args.machine.now) c.args.store.now commands holds)) in
    let there = is_within b lo hi (omega (arith, c.last.ensures.order, c.last.ensures.value)) (omega (arith, c.if-last-params.false, c.last.ensures.value, fits)) in
    subst (λ (q : HashPlan). g.S.Store.view.adds p (g.M.Machine.disk c.args.machine.now) (g.M.Machine.disk c.take_turns.new.machine) c.args.store.now c.take_turns.new.store commands (made_of p.cap (map hash q.commands)) (ending_of (cause_in c.take_turns.result)))
    (sym (put_there b lo hi s key there c.args.value.now)) (c.take_turns.ensures.adds p commands holds)

pub returns-clause-answer : goal.returns-clause-answer
returns-clause-answer g c = λ p commands holds done.
    let b = bounds_of p in
    let s = state_of p commands in
    let lo = c.args.file.now.lo in
    let hi = c.args.file.now.hi in
    let key = c.args.key.now in
    let fits = ap (λ (q : Params). q.objects) (c.params.ensures.value ∙ (g.S.Store.view.numbers p (g.M.Machine.disk c.args.machine.now) c.args.store.now commands holds)) in
    let there = is_within b lo hi (omega (arith, c.last.ensures.order, c.last.ensures.value)) (omega (arith, c.if-last-params.false, c.last.ensures.value, fits)) in
    c.take_turns.ensures.answer p commands holds done ∙ sym (ap (refused_in p.cap) (put_there b lo hi s key there c.args.value.now))
