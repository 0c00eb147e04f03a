use Rattle.std.proofs.Common.{◌≡◌, ◌<◌, ℕ, None, Err, [], refl, sym, ap, ◌∙◌, arith}
use Rattle.formats.specs.declared.params.Params.{Params}
use Rattle.page_map.specs.Checks.{Checking, begun, check, check_from}
use Rattle.page_map.specs.Map.{bytes_at}
use Rattle.page_ops.specs.Reading.{level_in}
use Rattle.running_store.specs.Taking.Ending.{Done}
use Rattle.store_engine.specs.Lists.{ending_of}
use Rattle.range_calls.specs.JoinLaws.{memory_is_short, reads_then}
use Rattle.range_calls.specs.ReadLaws.{makes_err, passed, refused_passed}
use Rattle.range_calls.specs.Store.{state_of}
use Rattle.map_client.specs.Answers.{cause_of, told}
use Rattle.map_client.proofs.CheckLemmas.{level_told, not_ok}
use Rattle.map_client.proofs.checking.checked_pages.Goals as goal

pub returns-in_err-level-clause-bad : goal.returns-in_err-level-clause-bad
returns-in_err-level-clause-bad g c = λ p commands holds.
    let s = state_of p commands in
    let range = c.args.map.now in
    let fits = ap (λ (q : Params). q.objects) (g.S.Store.view.numbers p (g.M.Machine.disk c.args.machine.now) c.args.store.now commands holds) in
    let below : range.lo < p.objects = omega (arith, c.last-last.ensures.value, c.last-last.ensures.order, c.requires.there, fits) in
    refused_passed c.from_residual.result c.in_err-level.field-0.0 (λ e. ending_of (cause_of e) ≡ Done → told (check range s) ≡ Err e)
    (passed c.from_residual.result c.in_err-level.field-0.0 c.from_residual.ensures.1)
    (λ done. absurd (not_ok c.in_err-level.field-0.0 (level_in (bytes_at range.lo s range.lo)) (c.in_err-level.ensures.answer p commands holds below done)))

-- memory runs out
pub returns-in_err-check-clause-reads : goal.returns-in_err-check-clause-reads
returns-in_err-check-clause-reads g c =
    let r = c.from_residual-in_err-check.result in
    let e = c.in_err-check.field-0.0 in
    makes_err r e (passed r e c.from_residual-in_err-check.ensures.1)
    (reads_then {U = ℕ} g.S.Store.view g.M.Machine.disk c.reads_run_short.ensures c.args.machine.now c.root_told.new.machine c.args.store.now c.root_told.new.store (Err e) c.in_ok-level.ensures.reads c.in_err-check.ensures.memory)

pub returns-in_err-check-clause-bad : goal.returns-in_err-check-clause-bad
returns-in_err-check-clause-bad g c = λ p commands holds.
    refused_passed c.from_residual-in_err-check.result c.in_err-check.field-0.0 (λ e. ending_of (cause_of e) ≡ Done → told (check c.args.map.now (state_of p commands)) ≡ Err e)
    (passed c.from_residual-in_err-check.result c.in_err-check.field-0.0 c.from_residual-in_err-check.ensures.1) (λ done. absurd (memory_is_short c.in_err-check.field-0.0 c.in_err-check.ensures.memory done))

-- a page is bad
pub returns-in_err-meet_all-clause-reads : goal.returns-in_err-meet_all-clause-reads
returns-in_err-meet_all-clause-reads g c =
    let r = c.from_residual-in_err-meet_all.result in
    let e = c.in_err-meet_all.field-0.0 in
    makes_err r e (passed r e c.from_residual-in_err-meet_all.ensures.1)
    (c.reads_go_on.ensures.behind c.args.machine.now c.root_told.new.machine c.meet_all.new.machine c.args.store.now c.root_told.new.store c.meet_all.new.store (λ p commands. []) _ c.in_ok-level.ensures.reads c.in_err-meet_all.ensures.reads)

pub returns-in_err-meet_all-clause-bad : goal.returns-in_err-meet_all-clause-bad
returns-in_err-meet_all-clause-bad g c = λ p commands holds.
    let s = state_of p commands in
    let range = c.args.map.now in
    let r = c.from_residual-in_err-meet_all.result in
    let e = c.in_err-meet_all.field-0.0 in
    let fits = ap (λ (q : Params). q.objects) (g.S.Store.view.numbers p (g.M.Machine.disk c.args.machine.now) c.args.store.now commands holds) in
    let below : range.lo < p.objects = omega (arith, c.last-last.ensures.value, c.last-last.ensures.order, c.requires.there, fits) in
    let level : c.in_ok-level.level ≡ level_in (bytes_at range.lo s range.lo) = level_told c.in_ok-level.level (level_in (bytes_at range.lo s range.lo)) (c.in_ok-level.ensures.answer p commands holds below refl) in
    let there = c.reads_go_on.ensures.holds p c.args.machine.now c.root_told.new.machine c.args.store.now c.root_told.new.store commands c.in_ok-level.ensures.reads holds in
    refused_passed r e (λ e. ending_of (cause_of e) ≡ Done → told (check range s) ≡ Err e) (passed r e c.from_residual-in_err-meet_all.ensures.1)
    (λ done. (λ k. told (check_from s (begun range (sym level k)))) ∙ ap (λ (x : Checking). told (check_from s x)) (sym c.in_ok-check.ensures.check) ∙ c.in_err-meet_all.ensures.bad p commands there done)

pub returns-clause-reads : goal.returns-clause-reads
returns-clause-reads g c =
    c.reads_go_on.ensures.behind c.args.machine.now c.root_told.new.machine c.meet_all.new.machine c.args.store.now c.root_told.new.store c.meet_all.new.store (λ p commands. []) None c.in_ok-level.ensures.reads c.in_ok-meet_all.ensures.reads

pub returns-clause-met : goal.returns-clause-met
returns-clause-met g c = λ p commands holds.
    let s = state_of p commands in
    let range = c.args.map.now in
    let fits = ap (λ (q : Params). q.objects) (g.S.Store.view.numbers p (g.M.Machine.disk c.args.machine.now) c.args.store.now commands holds) in
    let below : range.lo < p.objects = omega (arith, c.last-last.ensures.value, c.last-last.ensures.order, c.requires.there, fits) in
    let level : c.in_ok-level.level ≡ level_in (bytes_at range.lo s range.lo) = level_told c.in_ok-level.level (level_in (bytes_at range.lo s range.lo)) (c.in_ok-level.ensures.answer p commands holds below refl) in
    let there = c.reads_go_on.ensures.holds p c.args.machine.now c.root_told.new.machine c.args.store.now c.root_told.new.store commands c.in_ok-level.ensures.reads holds in
    (λ k. check_from s (begun range (sym level k))) ∙ ap (check_from s) (sym c.in_ok-check.ensures.check) ∙ c.in_ok-meet_all.ensures.met p commands there
