use Rattle.std.proofs.Common.{refl, sym, ap, ◌∙◌, subst, Some, Result, Err, List, true, false}
use Rattle.formats.specs.Objects.{bounds_of}
use Rattle.formats.specs.declared.params.Params.{Params}
use Rattle.running_store.specs.Taking.Ending.{Done}
use Rattle.call_plans.specs.Plan.{Plan, refused_by}
use Rattle.page_map.specs.Sets.{is_pair, room_of}
use Rattle.range_calls.specs.ComesLaws.{adds_of, comes_as, comes_refused}
use Rattle.range_calls.specs.JoinLaws.{nothing_reads}
use Rattle.range_calls.specs.ReadLaws.{adds_passed, calls_passed, passed, refuses_passed}
use Rattle.range_calls.specs.Store.{Command}
use Rattle.range_calls.specs.declared.call_err.CallErr.TheVariants.{Refused}
use Rattle.page_map.specs.declared.refusal.MapRefusal.TheVariants.{TooLong}
use Rattle.map_client.specs.Answers.{MapErr}
use Rattle.map_client.specs.declared.call_refusal.CallRefusal.TheVariants.{Map}
use Rattle.map_client.specs.Changing.{set_comes, set_made}
use Rattle.map_client.proofs.OpenLemmas.{closed_adds, closed_calls, closed_in, closed_is, closed_reads, open_in, open_is}
use Rattle.map_client.proofs.SetLemmas.{closed_comes, long_comes, open_comes}
use Rattle.map_client.proofs.setting.set.Goals as goal

pub returns-in_err-require_open-clause-comes : goal.returns-in_err-require_open-clause-comes
returns-in_err-require_open-clause-comes g c =
    let lo = c.args.map.now.lo in
    let hi = c.args.map.now.hi in
    let e = c.in_err-require_open.field-0.0 in
    let d = g.M.Machine.disk c.args.machine.now in
    comes_refused g.S.Store.view (set_comes lo hi c.args.key c.args.value) c.from_residual.result e (passed c.from_residual.result e c.from_residual.ensures.1)
    (closed_reads g.S.Store.view d c.args.store.now (closed_is (bounds_of (g.S.Store.view.params c.args.store.now)) hi e c.in_err-require_open.ensures)
    (nothing_reads g.S.Store.view d c.args.store.now c.nothing_is_made.ensures.front (c.nothing_is_made.ensures.calls c.requires.unbroken)))
    (λ p commands holds done.
    let closed = closed_in (g.S.Store.view.numbers p d c.args.store.now commands holds) hi e c.in_err-require_open.ensures in
    closed_comes lo hi c.args.key c.args.value p commands closed.refusal closed.is ∙ ap (λ (x : MapErr). (let q : Plan Command MapErr = refused_by x in q)) closed.error)

pub returns-in_err-require_open-clause-calls : goal.returns-in_err-require_open-clause-calls
returns-in_err-require_open-clause-calls g c =
    let e = c.in_err-require_open.field-0.0 in
    calls_passed g.S.Store.view c.from_residual.result e (passed c.from_residual.result e c.from_residual.ensures.1)
    (closed_calls g.S.Store.view (g.M.Machine.disk c.args.machine.now) c.args.store.now (closed_is (bounds_of (g.S.Store.view.params c.args.store.now)) c.args.map.now.hi e c.in_err-require_open.ensures) (c.nothing_is_made.ensures.calls c.requires.unbroken))

pub returns-in_err-require_open-clause-adds : goal.returns-in_err-require_open-clause-adds
returns-in_err-require_open-clause-adds g c = λ p commands holds.
    let lo = c.args.map.now.lo in
    let hi = c.args.map.now.hi in
    let e = c.in_err-require_open.field-0.0 in
    let closed = closed_in (g.S.Store.view.numbers p (g.M.Machine.disk c.args.machine.now) c.args.store.now commands holds) hi e c.in_err-require_open.ensures in
    adds_passed g.S.Store.view c.from_residual.result e (passed c.from_residual.result e c.from_residual.ensures.1)
    (closed_adds g.S.Store.view (g.M.Machine.disk c.args.machine.now) c.args.store.now p commands closed (set_comes lo hi c.args.key c.args.value p commands).commands
    (ap (λ (q : Plan Command MapErr). q.commands) (closed_comes lo hi c.args.key c.args.value p commands closed.refusal closed.is)) (c.nothing_is_made.ensures.front p commands holds))

pub returns-in_err-require_open-clause-answer : goal.returns-in_err-require_open-clause-answer
returns-in_err-require_open-clause-answer g c = λ p commands holds.
    let lo = c.args.map.now.lo in
    let hi = c.args.map.now.hi in
    let e = c.in_err-require_open.field-0.0 in
    let closed = closed_in (g.S.Store.view.numbers p (g.M.Machine.disk c.args.machine.now) c.args.store.now commands holds) hi e c.in_err-require_open.ensures in
    refuses_passed c.from_residual.result e (set_comes lo hi c.args.key c.args.value p commands).refusal (passed c.from_residual.result e c.from_residual.ensures.1)
    (λ done. ap (λ (x : MapErr). Some x) (sym closed.error) ∙ sym (ap (λ (q : Plan Command MapErr). q.refusal) (closed_comes lo hi c.args.key c.args.value p commands closed.refusal closed.is)))

-- the pair is too long
pub returns-then-not-is_pair-clause-comes : goal.returns-then-not-is_pair-clause-comes
returns-then-not-is_pair-clause-comes g c =
    let lo = c.args.map.now.lo in
    let hi = c.args.map.now.hi in
    let long : MapErr = Refused (Map TooLong) in
    let answer : Result (Unit {0}) MapErr = Err long in
    comes_refused g.S.Store.view (set_comes lo hi c.args.key c.args.value) answer long refl
    (nothing_reads g.S.Store.view (g.M.Machine.disk c.args.machine.now) c.args.store.now c.nothing_is_made.ensures.front (c.nothing_is_made.ensures.calls c.requires.unbroken))
    (λ p commands holds done.
    let open_to = open_in (g.S.Store.view.numbers p (g.M.Machine.disk c.args.machine.now) c.args.store.now commands holds) hi c.in_ok-require_open.ensures in
    let pair = ap (λ (q : Params). is_pair (room_of q.cap) (c.args.key, c.args.value)) (sym (c.params.ensures.value ∙ (g.S.Store.view.numbers p (g.M.Machine.disk c.args.machine.now) c.args.store.now commands holds)))
    ∙ sym (ap (λ n. is_pair n (c.args.key, c.args.value)) c.room_of-room.ensures.value) ∙ sym c.is_pair.ensures ∙ c.if-not-is_pair.true in
    long_comes lo hi c.args.key c.args.value p commands open_to.open_for_all pair)

pub returns-then-not-is_pair-clause-adds : goal.returns-then-not-is_pair-clause-adds
returns-then-not-is_pair-clause-adds g c = λ p commands holds.
    let lo = c.args.map.now.lo in
    let hi = c.args.map.now.hi in
    let open_to = open_in (g.S.Store.view.numbers p (g.M.Machine.disk c.args.machine.now) c.args.store.now commands holds) hi c.in_ok-require_open.ensures in
    let pair = ap (λ (q : Params). is_pair (room_of q.cap) (c.args.key, c.args.value)) (sym (c.params.ensures.value ∙ (g.S.Store.view.numbers p (g.M.Machine.disk c.args.machine.now) c.args.store.now commands holds)))
    ∙ sym (ap (λ n. is_pair n (c.args.key, c.args.value)) c.room_of-room.ensures.value) ∙ sym c.is_pair.ensures ∙ c.if-not-is_pair.true in
    subst (λ (l : List Command). g.S.Store.view.adds p (g.M.Machine.disk c.args.machine.now) (g.M.Machine.disk c.args.machine.now) c.args.store.now c.args.store.now commands l Done)
    (sym (ap (λ (q : Plan Command MapErr). q.commands) (long_comes lo hi c.args.key c.args.value p commands open_to.open_for_all pair))) (c.nothing_is_made.ensures.front p commands holds)

pub returns-then-not-is_pair-clause-answer : goal.returns-then-not-is_pair-clause-answer
returns-then-not-is_pair-clause-answer g c = λ p commands holds done.
    let lo = c.args.map.now.lo in
    let hi = c.args.map.now.hi in
    let open_to = open_in (g.S.Store.view.numbers p (g.M.Machine.disk c.args.machine.now) c.args.store.now commands holds) hi c.in_ok-require_open.ensures in
    let pair = ap (λ (q : Params). is_pair (room_of q.cap) (c.args.key, c.args.value)) (sym (c.params.ensures.value ∙ (g.S.Store.view.numbers p (g.M.Machine.disk c.args.machine.now) c.args.store.now commands holds)))
    ∙ sym (ap (λ n. is_pair n (c.args.key, c.args.value)) c.room_of-room.ensures.value) ∙ sym c.is_pair.ensures ∙ c.if-not-is_pair.true in
    sym (ap (λ (q : Plan Command MapErr). q.refusal) (long_comes lo hi c.args.key c.args.value p commands open_to.open_for_all pair))

pub set_rounds-requires-clause-ready : goal.set_rounds-requires-clause-ready
set_rounds-requires-clause-ready g c = record {
  there = (open_is (bounds_of (g.S.Store.view.params c.args.store.now)) c.args.map.now.hi c.in_ok-require_open.ensures).there;
  room_is = c.room_of-room.ensures.value ∙ ap (λ (q : Params). room_of q.cap) c.params.ensures.value;
  pair = sym c.is_pair.ensures ∙ c.if-not-is_pair.false;
}

pub returns-clause-comes : goal.returns-clause-comes
returns-clause-comes g c =
    let lo = c.args.map.now.lo in
    let hi = c.args.map.now.hi in
    comes_as g.S.Store.view (set_made lo hi c.args.key c.args.value) (set_comes lo hi c.args.key c.args.value) c.set_rounds.result
    (λ p commands holds.
    sym (open_comes lo hi c.args.key c.args.value p commands (open_in (g.S.Store.view.numbers p (g.M.Machine.disk c.args.machine.now) c.args.store.now commands holds) hi c.in_ok-require_open.ensures).open_for_all)) c.set_rounds.ensures

pub returns-clause-calls : goal.returns-clause-calls
returns-clause-calls g c = c.set_rounds.ensures.makes.calls

pub returns-clause-adds : goal.returns-clause-adds
returns-clause-adds g c =
    let lo = c.args.map.now.lo in
    let hi = c.args.map.now.hi in
    adds_of g.S.Store.view (set_comes lo hi c.args.key c.args.value) c.set_rounds.result
    (comes_as g.S.Store.view (set_made lo hi c.args.key c.args.value) (set_comes lo hi c.args.key c.args.value) c.set_rounds.result
    (λ p commands holds.
    sym (open_comes lo hi c.args.key c.args.value p commands (open_in (g.S.Store.view.numbers p (g.M.Machine.disk c.args.machine.now) c.args.store.now commands holds) hi c.in_ok-require_open.ensures).open_for_all)) c.set_rounds.ensures)

pub returns-clause-answer : goal.returns-clause-answer
returns-clause-answer g c =
    let lo = c.args.map.now.lo in
    let hi = c.args.map.now.hi in
    (comes_as g.S.Store.view (set_made lo hi c.args.key c.args.value) (set_comes lo hi c.args.key c.args.value) c.set_rounds.result
    (λ p commands holds.
    sym (open_comes lo hi c.args.key c.args.value p commands (open_in (g.S.Store.view.numbers p (g.M.Machine.disk c.args.machine.now) c.args.store.now commands holds) hi c.in_ok-require_open.ensures).open_for_all)) c.set_rounds.ensures).answer
