use Rattle.std.proofs.Common.{sym, ap, ◌∙◌, Some}
use Rattle.formats.specs.Objects.{bounds_of}
use Rattle.call_plans.specs.Plan.{Plan}
use Rattle.range_calls.specs.ComesLaws.{adds_of, comes_as}
use Rattle.range_calls.specs.ReadLaws.{adds_passed, calls_passed, passed, refuses_passed}
use Rattle.range_calls.specs.Store.{Command}
use Rattle.map_client.specs.Answers.{MapErr}
use Rattle.map_client.specs.Changing.{tidy_comes, tidy_made}
use Rattle.map_client.proofs.OpenLemmas.{closed_adds, closed_calls, closed_in, closed_is, open_in, open_is}
use Rattle.map_client.proofs.UpkeepLemmas.{closed_tidy, open_tidy}
use Rattle.map_client.proofs.upkeep.tidy.Goals as goal

pub returns-in_err-require_open-clause-calls : goal.returns-in_err-require_open-clause-calls
returns-in_err-require_open-clause-calls g c =
    let e = c.in_err-require_open.field-0.0 in
    calls_passed g.S.Store.view c.from_residual.result e (passed c.from_residual.result e c.from_residual.ensures.1)
    (closed_calls g.S.Store.view (g.M.Machine.disk c.args.machine.now) c.args.store.now (closed_is (bounds_of (g.S.Store.view.params c.args.store.now)) c.args.map.now.hi e c.in_err-require_open.ensures) (c.nothing_is_made.ensures.calls c.requires.unbroken))

pub returns-in_err-require_open-clause-adds : goal.returns-in_err-require_open-clause-adds
returns-in_err-require_open-clause-adds g c = λ p commands holds.
    let lo = c.args.map.now.lo in
    let hi = c.args.map.now.hi in
    let e = c.in_err-require_open.field-0.0 in
    let closed = closed_in (g.S.Store.view.numbers p (g.M.Machine.disk c.args.machine.now) c.args.store.now commands holds) hi e c.in_err-require_open.ensures in
    adds_passed g.S.Store.view c.from_residual.result e (passed c.from_residual.result e c.from_residual.ensures.1)
    (closed_adds g.S.Store.view (g.M.Machine.disk c.args.machine.now) c.args.store.now p commands closed (tidy_comes lo hi c.args.key.now p commands).commands
    (ap (λ (q : Plan Command MapErr). q.commands) (closed_tidy lo hi c.args.key.now p commands closed.refusal closed.is)) (c.nothing_is_made.ensures.front p commands holds))

pub returns-in_err-require_open-clause-answer : goal.returns-in_err-require_open-clause-answer
returns-in_err-require_open-clause-answer g c = λ p commands holds.
    let lo = c.args.map.now.lo in
    let hi = c.args.map.now.hi in
    let e = c.in_err-require_open.field-0.0 in
    let closed = closed_in (g.S.Store.view.numbers p (g.M.Machine.disk c.args.machine.now) c.args.store.now commands holds) hi e c.in_err-require_open.ensures in
    refuses_passed c.from_residual.result e (tidy_comes lo hi c.args.key.now p commands).refusal (passed c.from_residual.result e c.from_residual.ensures.1)
    (λ done. ap (λ (x : MapErr). Some x) (sym closed.error) ∙ sym (ap (λ (q : Plan Command MapErr). q.refusal) (closed_tidy lo hi c.args.key.now p commands closed.refusal closed.is)))

pub tidy-requires-clause-there : goal.tidy-requires-clause-there
tidy-requires-clause-there g c = (open_is (bounds_of (g.S.Store.view.params c.args.store.now)) c.args.map.now.hi c.in_ok-require_open.ensures).there

pub returns-clause-calls : goal.returns-clause-calls
returns-clause-calls g c = c.tidy.ensures.makes.calls

pub returns-clause-adds : goal.returns-clause-adds
returns-clause-adds g c =
    let lo = c.args.map.now.lo in
    let hi = c.args.map.now.hi in
    adds_of g.S.Store.view (tidy_comes lo hi c.args.key.now) c.tidy.result
    (comes_as g.S.Store.view (tidy_made lo hi c.args.key.now) (tidy_comes lo hi c.args.key.now) c.tidy.result
    (λ p commands holds.
    sym (open_tidy lo hi c.args.key.now p commands (open_in (g.S.Store.view.numbers p (g.M.Machine.disk c.args.machine.now) c.args.store.now commands holds) hi c.in_ok-require_open.ensures).open_for_all)) c.tidy.ensures)

pub returns-clause-answer : goal.returns-clause-answer
returns-clause-answer g c =
    let lo = c.args.map.now.lo in
    let hi = c.args.map.now.hi in
    (comes_as g.S.Store.view (tidy_made lo hi c.args.key.now) (tidy_comes lo hi c.args.key.now) c.tidy.result
    (λ p commands holds.
    sym (open_tidy lo hi c.args.key.now p commands (open_in (g.S.Store.view.numbers p (g.M.Machine.disk c.args.machine.now) c.args.store.now commands holds) hi c.in_ok-require_open.ensures).open_for_all)) c.tidy.ensures).answer
