use Rattle.std.proofs.Common.{◌≡◌, ◌≤◌, ◌<◌, sym, subst, ap, ◌∙◌, ℕ, ◌+◌, ◌-◌, [], List, Option, None, Result, Err, option_map, arith}
use Rattle.running_store.specs.Taking.Ending.{Done}
use Rattle.store_engine.specs.Lists.{ending_of}
use Rattle.page_ops.specs.declared.page_op.PageOp.{PageOp}
use Rattle.page_map.specs.Deletes.{tidy_from}
use Rattle.page_map.specs.Map.{bytes_at}
use Rattle.page_map.specs.Steps.{Step}
use Rattle.range_calls.specs.JoinLaws.{nothing_reads}
use Rattle.range_calls.specs.ReadLaws.{makes_err, nothing_passed, passed, refused_passed}
use Rattle.range_calls.specs.Store.{state_of}
use Rattle.map_client.specs.Answers.{cause_of, told}
use Rattle.map_client.proofs.TidyLemmas.{goes_below, meets_bad, step_within}
use Rattle.map_client.proofs.tidying.page_above.Goals as goal

pub loop-step-init : goal.loop-step-init
loop-step-init g c = record {
  reads = nothing_reads g.S.Store.view (g.M.Machine.disk c.args.machine.now) c.args.store.now c.nothing_is_made.ensures.front (c.nothing_is_made.ensures.calls c.requires.unbroken);
  left = c.requires.inner;
  way = λ p commands holds.
      let way = c.args.way.now in
      let lo = way.map.now.lo in
      let hi = way.map.now.hi in
      let s = state_of p commands in
      let all : c.args.levels ≡ c.args.levels - 0 = omega arith in (
        omega (arith, c.root.ensures, c.last-last.ensures.value, c.last-last.ensures.order),
        ap (λ (n : ℕ). tidy_from lo hi s way.key.now n lo None) all ∙ ap (λ (x : ℕ). tidy_from lo hi s way.key.now (c.args.levels - 0) x None) (sym c.root.ensures),
      );
}

pub returns-in_err-at-clause-reads : goal.returns-in_err-at-clause-reads
returns-in_err-at-clause-reads g c =
    let e = c.in_err-at.field-0.0 in
    makes_err c.from_residual.result e (passed c.from_residual.result e c.from_residual.ensures.1)
    (c.reads_go_on.ensures.behind c.args.machine.now c.loop-step.machine c.go_down.new.machine c.args.store.now c.loop-step.store c.go_down.new.store (λ p commands. []) _ c.loop-step.invariant.reads c.in_err-at.ensures.reads)

pub returns-in_err-at-clause-found : goal.returns-in_err-at-clause-found
returns-in_err-at-clause-found g c = λ p commands holds within.
    let way = c.args.way.now in
    let lo = way.map.now.lo in
    let hi = way.map.now.hi in
    let s = state_of p commands in
    let e = c.in_err-at.field-0.0 in
    nothing_passed c.from_residual.result e
    (λ at. (at.object ≤ hi) × (tidy_from lo hi s way.key.now c.args.levels lo None ≡ tidy_from lo hi s way.key.now 1 at.object (option_map (λ v. v.items) at.to)))
    (passed c.from_residual.result e c.from_residual.ensures.1)

pub returns-in_err-at-clause-bad : goal.returns-in_err-at-clause-bad
returns-in_err-at-clause-bad g c = λ p commands holds within.
    let way = c.args.way.now in
    let lo = way.map.now.lo in
    let hi = way.map.now.hi in
    let s = state_of p commands in
    let e = c.in_err-at.field-0.0 in
    let inv = c.loop-step.invariant in
    let here = inv.way p commands holds in
    let below : c.loop-step.at.object < p.objects = omega (arith, here.0, within) in
    let r : Result (List PageOp) ℕ = tidy_from lo hi s way.key.now c.args.levels lo None in
    refused_passed c.from_residual.result e (λ x. ending_of (cause_of x) ≡ Done → told r ≡ Err x) (passed c.from_residual.result e c.from_residual.ensures.1)
    (λ done.
    let bad = c.in_err-at.ensures.bad p commands (c.reads_go_on.ensures.holds p c.args.machine.now c.loop-step.machine c.args.store.now c.loop-step.store commands inv.reads holds) below done in
    ap told here.1 ∙ meets_bad lo hi s way.key.now c.args.levels c.loop-step.step c.loop-step.at.object (option_map (λ v. v.items) c.loop-step.at.to) c.loop-step-test.true e bad.0 bad.1)

pub loop-step-preserved : goal.loop-step-preserved
loop-step-preserved g c =
    let way = c.args.way.now in
    let lo = way.map.now.lo in
    let hi = way.map.now.hi in
    let inv = c.loop-step.invariant in
    record {
      reads = c.reads_go_on.ensures.behind c.args.machine.now c.loop-step.machine c.go_down.new.machine c.args.store.now c.loop-step.store c.go_down.new.store (λ p commands. []) None inv.reads c.in_ok-at.ensures.reads;
      left = (let less : c.loop-step.step + 1 < c.args.levels = omega (arith, c.loop-step-test.true) in less);
      way = λ p commands holds.
          let s = state_of p commands in
          let here = inv.way p commands holds in
          let x : ℕ = c.loop-step.at.object in
          let to : Option (List ℕ) = option_map (λ v. v.items) c.loop-step.at.to in
          let found = c.in_ok-at.ensures.found p commands (c.reads_go_on.ensures.holds p c.args.machine.now c.loop-step.machine c.args.store.now c.loop-step.store commands inv.reads holds) in
          let step : Step = found.0 in
          let on = goes_below lo hi s way.key.now c.args.levels c.loop-step.step x to c.loop-step-test.true step found.1 in (
            subst (λ (y : ℕ). y ≤ hi) (sym found.2) (step_within lo hi (bytes_at lo s x) to (c.args.levels - c.loop-step.step) way.key.now step found.1),
            here.1 ∙ on ∙ (λ k. tidy_from lo hi s way.key.now (c.args.levels - (c.loop-step.step + 1)) (sym found.2 k) (sym found.3 k)),
          );
    }

pub returns-clause-found : goal.returns-clause-found
returns-clause-found g c = λ p commands holds within.
    let way = c.args.way.now in
    let inv = c.loop-step.invariant in
    let here = inv.way p commands holds in
    let one : c.args.levels - c.loop-step.step ≡ 1 = omega (arith, c.loop-step-test.false, inv.left) in
    (here.0, here.1 ∙ ap (λ (n : ℕ). tidy_from way.map.now.lo way.map.now.hi (state_of p commands) way.key.now n c.loop-step.at.object (option_map (λ v. v.items) c.loop-step.at.to)) one)
