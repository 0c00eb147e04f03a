use Rattle.std.proofs.Common.{◌≡◌, ◌-◌, ℕ, None, Result, Ok, [], length, refl, sym, ap, ◌∙◌, arith}
use Rattle.page_map.specs.Checks.{Checking, Met, check_from}
use Rattle.running_store.specs.Taking.Ending.{Done}
use Rattle.store_engine.specs.Lists.{ending_of}
use Rattle.range_calls.specs.JoinLaws.{nothing_reads}
use Rattle.range_calls.specs.ReadLaws.{makes_err, passed, refused_passed}
use Rattle.range_calls.specs.Store.{state_of}
use Rattle.map_client.specs.Answers.{cause_of, told}
use Rattle.map_client.specs.Checking.{IsBad}
use Rattle.map_client.proofs.checking.meet_all.Goals as goal

pub loop-page-init : goal.loop-page-init
loop-page-init g c = record {
  reads = nothing_reads g.S.Store.view (g.M.Machine.disk c.args.machine.now) c.args.store.now c.nothing_is_made.ensures.front (c.nothing_is_made.ensures.calls c.requires.unbroken);
  range = c.requires.range;
  same = λ p commands holds. refl;
}

pub loop-page-smaller : goal.loop-page-smaller
loop-page-smaller g c = omega (arith, c.in_ok-meet.ensures.more, c.in_ok-meet.ensures.few, ap (λ (k : Checking). length k.met.objects) c.in-Some.ensures.some)

pub loop-page-preserved : goal.loop-page-preserved
loop-page-preserved g c = let inv = c.loop-page.invariant in record {
  reads = c.reads_go_on.ensures.behind c.args.machine.now c.loop-page.machine c.meet.new.machine c.args.store.now c.loop-page.store c.meet.new.store (λ p commands. []) None inv.reads c.in_ok-meet.ensures.reads;
  range = c.in_ok-meet.ensures.range;
  same = λ p commands holds.
      inv.same p commands holds ∙ ap (check_from (state_of p commands)) c.in-Some.ensures.some
      ∙ c.in_ok-meet.ensures.goes p commands (c.reads_go_on.ensures.holds p c.args.machine.now c.loop-page.machine c.args.store.now c.loop-page.store commands inv.reads holds);
}

pub returns-in_err-meet-clause-reads : goal.returns-in_err-meet-clause-reads
returns-in_err-meet-clause-reads g c =
    makes_err c.from_residual.result c.in_err-meet.field-0.0 (passed c.from_residual.result c.in_err-meet.field-0.0 c.from_residual.ensures.1)
    (c.reads_go_on.ensures.behind c.args.machine.now c.loop-page.machine c.meet.new.machine c.args.store.now c.loop-page.store c.meet.new.store (λ p commands. []) _ c.loop-page.invariant.reads c.in_err-meet.ensures.reads)

pub returns-in_err-meet-clause-bad : goal.returns-in_err-meet-clause-bad
returns-in_err-meet-clause-bad g c = λ p commands holds.
    let s = state_of p commands in
    let inv = c.loop-page.invariant in
    refused_passed c.from_residual.result c.in_err-meet.field-0.0 (λ e. ending_of (cause_of e) ≡ Done → IsBad s c.args.check.now e)
    (passed c.from_residual.result c.in_err-meet.field-0.0 c.from_residual.ensures.1)
    (λ done. ap told (inv.same p commands holds ∙ ap (check_from s) c.in-Some.ensures.some)
    ∙ c.in_err-meet.ensures.bad p commands (c.reads_go_on.ensures.holds p c.args.machine.now c.loop-page.machine c.args.store.now c.loop-page.store commands inv.reads holds) done)

pub returns-clause-reads : goal.returns-clause-reads
returns-clause-reads g c = c.loop-page.invariant.reads

pub returns-clause-range : goal.returns-clause-range
returns-clause-range g c = ap (λ (k : Checking). k.range) (c.in_default.ensures.none refl).1 ∙ c.loop-page.invariant.range

-- none is awaited
pub returns-clause-met : goal.returns-clause-met
returns-clause-met g c = λ p commands holds.
    let s = state_of p commands in
    c.loop-page.invariant.same p commands holds ∙ c.a_check_goes_page_by_page.ensures.done s c.loop-page.check (c.in_default.ensures.none refl).0
    ∙ ap (λ (k : Checking). (let r : Result Met ℕ = Ok k.met in r)) (sym (c.in_default.ensures.none refl).1)
