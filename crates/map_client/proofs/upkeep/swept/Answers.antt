use Rattle.std.proofs.Common.{◌≡◌, ◌<◌, sym, subst, Err}
use Rattle.formats.specs.declared.params.Params.{Params}
use Rattle.page_map.specs.Checks.{check}
use Rattle.running_store.specs.Taking.Ending.{Done}
use Rattle.store_engine.specs.Lists.{ending_of}
use Rattle.range_calls.specs.JoinLaws.{not_refused, reads_then}
use Rattle.range_calls.specs.ReadLaws.{passed, refused_passed}
use Rattle.range_calls.specs.Store.{state_of}
use Rattle.map_client.specs.Answers.{cause_of, told}
use Rattle.map_client.proofs.UpkeepLemmas.{plan_all}
use Rattle.map_client.proofs.upkeep.swept.Goals as goal

pub returns-in_err-check-clause-bad : goal.returns-in_err-check-clause-bad
returns-in_err-check-clause-bad g c = λ p commands holds.
    let e = c.in_err-check.field-0.0 in
    refused_passed c.from_residual.result e (λ e. ending_of (cause_of e) ≡ Done → told (check c.args.map.now (state_of p commands)) ≡ Err e)
    (passed c.from_residual.result e c.from_residual.ensures.1) (c.in_err-check.ensures.bad p commands holds)

pub left_over-requires-clause-there : goal.left_over-requires-clause-there
left_over-requires-clause-there g c = subst (λ (q : Params). c.args.map.now.hi < q.objects) (sym (c.in_ok-check.ensures.reads.calls.params)) c.requires.there

pub returns-clause-reads : goal.returns-clause-reads
returns-clause-reads g c =
    reads_then g.S.Store.view g.M.Machine.disk c.reads_run_short.ensures c.args.machine.now c.checked_pages.new.machine c.args.store.now c.checked_pages.new.store c.left_over.result c.in_ok-check.ensures.reads c.left_over.ensures.memory

pub returns-clause-found : goal.returns-clause-found
returns-clause-found g c = λ p commands holds.
    let there = c.reads_go_on.ensures.holds p c.args.machine.now c.checked_pages.new.machine c.args.store.now c.checked_pages.new.store commands c.in_ok-check.ensures.reads holds in
    plan_all c.args.map.now (state_of p commands) c.in_ok-check.check.met c.left_over.result (λ left. left.items) (c.in_ok-check.ensures.met p commands holds) (c.left_over.ensures.left p commands there)

pub returns-clause-bad : goal.returns-clause-bad
returns-clause-bad g c = λ p commands holds. not_refused c.left_over.result (λ e. told (check c.args.map.now (state_of p commands)) ≡ Err e) c.left_over.ensures.memory
