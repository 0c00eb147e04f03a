use Rattle.std.proofs.Common.{refl, sym, ap, ◌∙◌, Some}
use Rattle.formats.specs.Objects.{bounds_of}
use Rattle.call_plans.specs.Plan.{Plan, refused_by}
use Rattle.range_calls.specs.ComesLaws.{adds_of, comes_as, comes_refused}
use Rattle.range_calls.specs.JoinLaws.{nothing_reads}
use Rattle.range_calls.specs.ReadLaws.{adds_passed, calls_passed, passed, refuses_passed}
use Rattle.range_calls.specs.Store.{Command}
use Rattle.map_client.specs.Answers.{MapErr}
use Rattle.map_client.specs.Changing.{delete_comes, delete_made}
use Rattle.map_client.proofs.OpenLemmas.{closed_adds, closed_calls, closed_in, closed_is, closed_reads, open_in, open_is}
use Rattle.map_client.proofs.TidyLemmas.{closed_comes, open_comes}
use Rattle.map_client.proofs.deleting.delete.Goals as goal

pub returns-in_err-require_open-clause-comes : goal.returns-in_err-require_open-clause-comes
returns-in_err-require_open-clause-comes g c =
    let lo = c.args.map.now.lo in
    let hi = c.args.map.now.hi in
    let e = c.in_err-require_open.field-0.0 in
    let d = g.M.Machine.disk c.args.machine.now in
    comes_refused g.S.Store.view (delete_comes lo hi c.args.key.now) c.from_residual.result e (passed c.from_residual.result e c.from_residual.ensures.1)
    (closed_reads g.S.Store.view d c.args.store.now (closed_is (bounds_of (g.S.Store.view.params c.args.store.now)) hi e c.in_err-require_open.ensures)
    (nothing_reads g.S.Store.view d c.args.store.now c.nothing_is_made.ensures.front (c.nothing_is_made.ensures.calls c.requires.unbroken)))
    (λ p commands holds done.
    let closed = closed_in (g.S.Store.view.numbers p d c.args.store.now commands holds) hi e c.in_err-require_open.ensures in
    closed_comes lo hi c.args.key.now p commands closed.refusal closed.is ∙ ap (λ (x : MapErr). (let q : Plan Command MapErr = refused_by x in q)) closed.error)

pub returns-in_err-require_open-clause-calls : goal.returns-in_err-require_open-clause-calls
returns-in_err-require_open-clause-calls g c =
    let e = c.in_err-require_open.field-0.0 in
    calls_passed g.S.Store.view c.from_residual.result e (passed c.from_residual.result e c.from_residual.ensures.1)
    (closed_calls g.S.Store.view (g.M.Machine.disk c.args.machine.now) c.args.store.now (closed_is (bounds_of (g.S.Store.view.params c.args.store.now)) c.args.map.now.hi e c.in_err-require_open.ensures) (c.nothing_is_made.ensures.calls c.requires.unbroken))

pub returns-in_err-require_open-clause-adds : goal.returns-in_err-require_open-clause-adds
returns-in_err-require_open-clause-adds g c = λ p commands holds.
    let lo = c.args.map.now.lo in
    let hi = c.args.map.now.hi in
    let e = c.in_err-require_open.field-0.0 in
    let closed = closed_in (g.S.Store.view.numbers p (g.M.Machine.disk c.args.machine.now) c.args.store.now commands holds) hi e c.in_err-require_open.ensures in
    adds_passed g.S.Store.view c.from_residual.result e (passed c.from_residual.result e c.from_residual.ensures.1)
    (closed_adds g.S.Store.view (g.M.Machine.disk c.args.machine.now) c.args.store.now p commands closed (delete_comes lo hi c.args.key.now p commands).commands
    (ap (λ (q : Plan Command MapErr). q.commands) (closed_comes lo hi c.args.key.now p commands closed.refusal closed.is)) (c.nothing_is_made.ensures.front p commands holds))

pub returns-in_err-require_open-clause-answer : goal.returns-in_err-require_open-clause-answer
returns-in_err-require_open-clause-answer g c = λ p commands holds.
    let lo = c.args.map.now.lo in
    let hi = c.args.map.now.hi in
    let e = c.in_err-require_open.field-0.0 in
    let closed = closed_in (g.S.Store.view.numbers p (g.M.Machine.disk c.args.machine.now) c.args.store.now commands holds) hi e c.in_err-require_open.ensures in
    refuses_passed c.from_residual.result e (delete_comes lo hi c.args.key.now p commands).refusal (passed c.from_residual.result e c.from_residual.ensures.1)
    (λ done. ap (λ (x : MapErr). Some x) (sym closed.error) ∙ sym (ap (λ (q : Plan Command MapErr). q.refusal) (closed_comes lo hi c.args.key.now p commands closed.refusal closed.is)))

pub delete_and_tidy-requires-clause-there : goal.delete_and_tidy-requires-clause-there
delete_and_tidy-requires-clause-there g c = (open_is (bounds_of (g.S.Store.view.params c.args.store.now)) c.args.map.now.hi c.in_ok-require_open.ensures).there

pub returns-clause-comes : goal.returns-clause-comes
returns-clause-comes g c =
    let lo = c.args.map.now.lo in
    let hi = c.args.map.now.hi in
    comes_as g.S.Store.view (delete_made lo hi c.args.key.now) (delete_comes lo hi c.args.key.now) c.delete_and_tidy.result
    (λ p commands holds.
    sym (open_comes lo hi c.args.key.now p commands (open_in (g.S.Store.view.numbers p (g.M.Machine.disk c.args.machine.now) c.args.store.now commands holds) hi c.in_ok-require_open.ensures).open_for_all)) c.delete_and_tidy.ensures

pub returns-clause-calls : goal.returns-clause-calls
returns-clause-calls g c = c.delete_and_tidy.ensures.makes.calls

pub returns-clause-adds : goal.returns-clause-adds
returns-clause-adds g c =
    let lo = c.args.map.now.lo in
    let hi = c.args.map.now.hi in
    adds_of g.S.Store.view (delete_comes lo hi c.args.key.now) c.delete_and_tidy.result
    (comes_as g.S.Store.view (delete_made lo hi c.args.key.now) (delete_comes lo hi c.args.key.now) c.delete_and_tidy.result
    (λ p commands holds.
    sym (open_comes lo hi c.args.key.now p commands (open_in (g.S.Store.view.numbers p (g.M.Machine.disk c.args.machine.now) c.args.store.now commands holds) hi c.in_ok-require_open.ensures).open_for_all)) c.delete_and_tidy.ensures)

pub returns-clause-answer : goal.returns-clause-answer
returns-clause-answer g c =
    let lo = c.args.map.now.lo in
    let hi = c.args.map.now.hi in
    (comes_as g.S.Store.view (delete_made lo hi c.args.key.now) (delete_comes lo hi c.args.key.now) c.delete_and_tidy.result
    (λ p commands holds.
    sym (open_comes lo hi c.args.key.now p commands (open_in (g.S.Store.view.numbers p (g.M.Machine.disk c.args.machine.now) c.args.store.now commands holds) hi c.in_ok-require_open.ensures).open_for_all)) c.delete_and_tidy.ensures).answer
