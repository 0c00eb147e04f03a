use Rattle.std.proofs.Common.{◌≡◌, ◌≤◌, ◌<◌, refl, sym, ap, subst, ℕ, ◌-◌, None, [], Err, arith, option_map}
use Rattle.formats.specs.declared.params.Params.{Params}
use Rattle.page_map.specs.Map.{Span, all_keys}
use Rattle.page_map.specs.Ranges.{stop as stop_at, under_key}
use Rattle.range_calls.specs.ReadLaws.{makes_err, passed, refused_passed}
use Rattle.range_calls.specs.Store.{state_of}
use Rattle.running_store.specs.Taking.Ending.{Done}
use Rattle.store_engine.specs.Lists.{ending_of}
use Rattle.map_client.specs.Answers.{cause_of, told}
use Rattle.map_client.specs.RangingWay.{IsOnWay}
use Rattle.map_client.proofs.RangingWayLemmas.{begins_bad, way_bad, way_begins, way_goes_on}
use Rattle.map_client.proofs.ranging_leaf.leaf_under.Goals as goal

pub returns-in_err-levels-clause-bad : goal.returns-in_err-levels-clause-bad
returns-in_err-levels-clause-bad g c = λ p commands holds.
    let s = state_of p commands in
    let lo = c.args.map.now.lo in
    let hi = c.args.map.now.hi in
    let fits = ap (λ (q : Params). q.objects) (g.S.Store.view.numbers p (g.M.Machine.disk c.args.machine.now) c.args.store.now commands holds) in
    let below : lo < p.objects = omega (arith, c.last-last.ensures.value, c.last-last.ensures.order, c.requires.there, fits) in
    refused_passed c.from_residual.result c.in_err-levels.field-0.0 (λ e. ending_of (cause_of e) ≡ Done → told (stop_at lo hi s (under_key c.args.key.now)) ≡ Err e)
    (passed c.from_residual.result c.in_err-levels.field-0.0 c.from_residual.ensures.1)
    (λ done. begins_bad lo hi s (under_key c.args.key.now) c.in_err-levels.field-0.0 (c.in_err-levels.ensures.answer p commands holds below done))

pub loop-step-init : goal.loop-step-init
loop-step-init g c = record {
  reads = c.in_ok-levels.ensures.reads;
  way = λ p commands holds.
      let s = state_of p commands in
      let lo = c.args.map.now.lo in
      let hi = c.args.map.now.hi in
      let fits = ap (λ (q : Params). q.objects) (g.S.Store.view.numbers p (g.M.Machine.disk c.args.machine.now) c.args.store.now commands holds) in
      let below : lo < p.objects = omega (arith, c.last-last.ensures.value, c.last-last.ensures.order, c.requires.there, fits) in
      let order : lo ≤ hi = omega (arith, c.last-last.ensures.value, c.last-last.ensures.order) in
      let all : c.in_ok-levels.levels ≡ c.in_ok-levels.levels - 0 = omega arith in
      let begun = way_begins lo hi s (under_key c.args.key.now) c.in_ok-levels.levels order (c.in_ok-levels.ensures.answer p commands holds below refl) in
      ([], subst (λ (n : ℕ). IsOnWay lo hi s (under_key c.args.key.now) n c.root.result all_keys) all (subst (λ (x : ℕ). IsOnWay lo hi s (under_key c.args.key.now) c.in_ok-levels.levels x all_keys) (sym c.root.ensures) begun));
}

pub returns-in_err-at-clause-reads : goal.returns-in_err-at-clause-reads
returns-in_err-at-clause-reads g c =
    makes_err c.from_residual-in_err-at.result c.in_err-at.field-0.0 (passed c.from_residual-in_err-at.result c.in_err-at.field-0.0 c.from_residual-in_err-at.ensures.1)
    (c.reads_go_on.ensures.behind c.args.machine.now c.loop-step.machine c.go_down.new.machine c.args.store.now c.loop-step.store c.go_down.new.store (λ p commands. []) _ c.loop-step.invariant.reads c.in_err-at.ensures.reads)

pub returns-in_err-at-clause-bad : goal.returns-in_err-at-clause-bad
returns-in_err-at-clause-bad g c = λ p commands holds.
    let s = state_of p commands in
    let lo = c.args.map.now.lo in
    let hi = c.args.map.now.hi in
    let inv = c.loop-step.invariant in
    let way = inv.way p commands holds in
    let within = way.1.within in
    let span : Span = record { from = way.0; to = option_map (λ v. v.items) c.loop-step.at.to } in
    let fits = ap (λ (q : Params). q.objects) (g.S.Store.view.numbers p (g.M.Machine.disk c.args.machine.now) c.args.store.now commands holds) in
    let below : c.loop-step.at.object < p.objects = omega (arith, within, c.requires.there, fits) in
    refused_passed c.from_residual-in_err-at.result c.in_err-at.field-0.0 (λ e. ending_of (cause_of e) ≡ Done → told (stop_at lo hi s (under_key c.args.key.now)) ≡ Err e)
    (passed c.from_residual-in_err-at.result c.in_err-at.field-0.0 c.from_residual-in_err-at.ensures.1)
    (λ done. way_bad lo hi s (under_key c.args.key.now) c.in_ok-levels.levels c.loop-step.step c.loop-step.at.object span c.loop-step-test.true way.1 c.in_err-at.field-0.0
    (c.in_err-at.ensures.bad p commands (c.reads_go_on.ensures.holds p c.args.machine.now c.loop-step.machine c.args.store.now c.loop-step.store commands inv.reads holds) below done))

pub loop-step-preserved : goal.loop-step-preserved
loop-step-preserved g c =
    let lo = c.args.map.now.lo in
    let hi = c.args.map.now.hi in
    let inv = c.loop-step.invariant in
    record {
      reads = c.reads_go_on.ensures.behind c.args.machine.now c.loop-step.machine c.go_down.new.machine c.args.store.now c.loop-step.store c.go_down.new.store (λ p commands. []) None inv.reads c.in_ok-at.ensures.reads;
      way = λ p commands holds.
          let found = c.in_ok-at.ensures.found p commands (c.reads_go_on.ensures.holds p c.args.machine.now c.loop-step.machine c.args.store.now c.loop-step.store commands inv.reads holds) in
          let way = inv.way p commands holds in
          let span : Span = record { from = way.0; to = option_map (λ v. v.items) c.loop-step.at.to } in
          let next : Span = record { from = found.0.from; to = option_map (λ v. v.items) c.in_ok-at.at.to } in (
            found.0.from,
            way_goes_on lo hi (state_of p commands) (under_key c.args.key.now) c.in_ok-levels.levels c.loop-step.step c.loop-step.at.object span c.loop-step-test.true way.1
                found.0 found.1 c.in_ok-at.at.object found.2 next (λ k. record { from = found.0.from; to = found.3 k }),
          );
    }

pub returns-clause-leaf : goal.returns-clause-leaf
returns-clause-leaf g c = λ p commands holds.
    let none : c.in_ok-levels.levels - c.loop-step.step ≡ 0 = omega (arith, c.loop-step-test.false) in
    let way = c.loop-step.invariant.way p commands holds in
    let span : Span = record { from = way.0; to = option_map (λ v. v.items) c.loop-step.at.to } in
    (way.0, subst (λ (n : ℕ). IsOnWay c.args.map.now.lo c.args.map.now.hi (state_of p commands) (under_key c.args.key.now) n c.loop-step.at.object span) none way.1)
