use Rattle.std.proofs.Common.{◌≡◌, ◌≤◌, ◌<◌, refl, sym, ap, ◌∙◌, ℕ, ◌-◌, None, [], Err, arith}
use Rattle.formats.specs.declared.params.Params.{Params}
use Rattle.page_map.specs.Walk as walks
use Rattle.range_calls.specs.ReadLaws.{makes_err, passed, refused_passed}
use Rattle.range_calls.specs.Store.{state_of}
use Rattle.running_store.specs.Taking.Ending.{Done}
use Rattle.store_engine.specs.Lists.{ending_of}
use Rattle.map_client.specs.Answers.{cause_of, told}
use Rattle.map_client.proofs.WalkLemmas.{begins, begins_bad, goes_below, meets_bad}
use Rattle.map_client.proofs.walking.walk.Goals as goal

pub returns-in_err-levels-clause-bad : goal.returns-in_err-levels-clause-bad
returns-in_err-levels-clause-bad g c = λ p commands holds.
    let s = state_of p commands in
    let lo = c.args.map.now.lo in
    let hi = c.args.map.now.hi in
    let fits = ap (λ (q : Params). q.objects) (g.S.Store.view.numbers p (g.M.Machine.disk c.args.machine.now) c.args.store.now commands holds) in
    let below : lo < p.objects = omega (arith, c.last-last.ensures.value, c.last-last.ensures.order, c.requires.there, fits) in
    refused_passed c.from_residual.result c.in_err-levels.field-0.0 (λ e. ending_of (cause_of e) ≡ Done → told (walks.walk lo hi s c.args.key.now) ≡ Err e)
    (passed c.from_residual.result c.in_err-levels.field-0.0 c.from_residual.ensures.1)
    (λ done. begins_bad lo hi s c.args.key.now c.in_err-levels.field-0.0 (c.in_err-levels.ensures.answer p commands holds below done))

pub loop-step-init : goal.loop-step-init
loop-step-init g c = record {
  reads = c.in_ok-levels.ensures.reads;
  within = (let low : c.root-object.result ≤ c.args.map.now.hi = omega (arith, c.root-object.ensures, c.last-last.ensures.value, c.last-last.ensures.order) in low);
  way = λ p commands holds.
      let s = state_of p commands in
      let lo = c.args.map.now.lo in
      let hi = c.args.map.now.hi in
      let fits = ap (λ (q : Params). q.objects) (g.S.Store.view.numbers p (g.M.Machine.disk c.args.machine.now) c.args.store.now commands holds) in
      let below : lo < p.objects = omega (arith, c.last-last.ensures.value, c.last-last.ensures.order, c.requires.there, fits) in
      let all : c.in_ok-levels.levels ≡ c.in_ok-levels.levels - 0 = omega arith in
      begins lo hi s c.args.key.now c.in_ok-levels.levels (c.in_ok-levels.ensures.answer p commands holds below refl)
      ∙ ap (λ (x : ℕ). walks.walk_from lo hi s c.args.key.now c.in_ok-levels.levels x) (sym c.root-object.ensures)
      ∙ ap (λ (n : ℕ). walks.walk_from lo hi s c.args.key.now n c.root-object.result) all;
}

pub returns-in_err-object-clause-reads : goal.returns-in_err-object-clause-reads
returns-in_err-object-clause-reads g c =
    makes_err c.from_residual-in_err-object.result c.in_err-object.field-0.0 (passed c.from_residual-in_err-object.result c.in_err-object.field-0.0 c.from_residual-in_err-object.ensures.1)
    (c.reads_go_on.ensures.behind c.args.machine.now c.loop-step.machine c.child_of.new.machine c.args.store.now c.loop-step.store c.child_of.new.store (λ p commands. []) _ c.loop-step.invariant.reads c.in_err-object.ensures.reads)

pub returns-in_err-object-clause-bad : goal.returns-in_err-object-clause-bad
returns-in_err-object-clause-bad g c = λ p commands holds.
    let s = state_of p commands in
    let lo = c.args.map.now.lo in
    let hi = c.args.map.now.hi in
    let inv = c.loop-step.invariant in
    let fits = ap (λ (q : Params). q.objects) (g.S.Store.view.numbers p (g.M.Machine.disk c.args.machine.now) c.args.store.now commands holds) in
    let below : c.loop-step.object < p.objects = omega (arith, inv.within, c.requires.there, fits) in
    refused_passed c.from_residual-in_err-object.result c.in_err-object.field-0.0 (λ e. ending_of (cause_of e) ≡ Done → told (walks.walk lo hi s c.args.key.now) ≡ Err e)
    (passed c.from_residual-in_err-object.result c.in_err-object.field-0.0 c.from_residual-in_err-object.ensures.1)
    (λ done. ap told (inv.way p commands holds)
    ∙ meets_bad lo hi s c.args.key.now c.in_ok-levels.levels c.loop-step.step c.loop-step.object c.in_err-object.field-0.0 c.loop-step-test.true
    (c.in_err-object.ensures.answer p commands (c.reads_go_on.ensures.holds p c.args.machine.now c.loop-step.machine c.args.store.now c.loop-step.store commands inv.reads holds) below done))

pub loop-step-preserved : goal.loop-step-preserved
loop-step-preserved g c =
    let lo = c.args.map.now.lo in
    let hi = c.args.map.now.hi in
    let inv = c.loop-step.invariant in
    record {
      reads = c.reads_go_on.ensures.behind c.args.machine.now c.loop-step.machine c.child_of.new.machine c.args.store.now c.loop-step.store c.child_of.new.store (λ p commands. []) None inv.reads c.in_ok-object.ensures.reads;
      within = c.in_ok-object.ensures.within;
      way = λ p commands holds.
          let fits = ap (λ (q : Params). q.objects) (g.S.Store.view.numbers p (g.M.Machine.disk c.args.machine.now) c.args.store.now commands holds) in
          let below : c.loop-step.object < p.objects = omega (arith, inv.within, c.requires.there, fits) in
          inv.way p commands holds
          ∙ goes_below lo hi (state_of p commands) c.args.key.now c.in_ok-levels.levels c.loop-step.step c.loop-step.object c.in_ok-object.object c.loop-step-test.true
          (c.in_ok-object.ensures.answer p commands (c.reads_go_on.ensures.holds p c.args.machine.now c.loop-step.machine c.args.store.now c.loop-step.store commands inv.reads holds) below refl);
    }

pub returns-clause-leaf : goal.returns-clause-leaf
returns-clause-leaf g c = λ p commands holds.
    let none : c.in_ok-levels.levels - c.loop-step.step ≡ 0 = omega (arith, c.loop-step-test.false) in
    c.loop-step.invariant.way p commands holds
    ∙ ap (λ (n : ℕ). walks.walk_from c.args.map.now.lo c.args.map.now.hi (state_of p commands) c.args.key.now n c.loop-step.object) none
