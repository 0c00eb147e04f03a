use Rattle.std.proofs.Common.{◌≡◌, ◌∙◌, Err}
use Rattle.formats.specs.Objects.{bounds_of}
use Rattle.range_calls.specs.ReadLaws.{nothing_passed, passed}
use Rattle.range_calls.specs.Rounds.{is_last_round}
use Rattle.range_calls.specs.Store.{state_of}
use Rattle.range_calls.specs.ComesLaws.{comes_ok, comes_passed}
use Rattle.range_calls.proofs.RoundLemmas.{found_last, found_ran, none_found}
use Rattle.range_calls.proofs.taking.take_round.Goals as goal

pub returns-in_err-round-clause-comes : goal.returns-in_err-round-clause-comes
returns-in_err-round-clause-comes g c =
    let e = c.in_err-round.field-0.0 in
    none_found g.S.Store.view g.M.Machine.disk (g.C.Rounds.next c.args.call.now) c.args.machine.now c.next_round.new.machine c.args.store.now c.next_round.new.store
    c.from_residual.result e (passed c.from_residual.result e c.from_residual.ensures.1) c.in_err-round.ensures.reads c.in_err-round.ensures.answer

pub returns-in_err-round-clause-last : goal.returns-in_err-round-clause-last
returns-in_err-round-clause-last g c = λ p commands holds.
    let e = c.in_err-round.field-0.0 in
    nothing_passed c.from_residual.result e (λ last. last ≡ is_last_round (g.C.Rounds.next c.args.call.now (bounds_of p) (state_of p commands))) (passed c.from_residual.result e c.from_residual.ensures.1)

pub returns-in_err-run_all-clause-comes : goal.returns-in_err-run_all-clause-comes
returns-in_err-run_all-clause-comes g c =
    let e = c.in_err-run_all.field-0.0 in
    let r = c.from_residual-in_err-run_all.result in
    comes_passed g.S.Store.view r e (passed r e c.from_residual-in_err-run_all.ensures.1)
    (found_ran g.S.Store.view g.M.Machine.disk (g.C.Rounds.next c.args.call.now) c.args.machine.now c.next_round.new.machine c.args.store.now c.next_round.new.store
    c.calls_go_on.ensures c.run_all.new.machine c.run_all.new.store c.in_ok-round.round (Err e) c.in_ok-round.ensures.reads c.in_ok-round.ensures.answer c.in_err-run_all.ensures)

pub returns-in_err-run_all-clause-last : goal.returns-in_err-run_all-clause-last
returns-in_err-run_all-clause-last g c = λ p commands holds.
    let e = c.in_err-run_all.field-0.0 in
    let r = c.from_residual-in_err-run_all.result in
    nothing_passed r e (λ last. last ≡ is_last_round (g.C.Rounds.next c.args.call.now (bounds_of p) (state_of p commands))) (passed r e c.from_residual-in_err-run_all.ensures.1)

pub returns-clause-comes : goal.returns-clause-comes
returns-clause-comes g c =
    comes_ok g.S.Store.view c.is_end-last.result
    (found_ran g.S.Store.view g.M.Machine.disk (g.C.Rounds.next c.args.call.now) c.args.machine.now c.next_round.new.machine c.args.store.now c.next_round.new.store
    c.calls_go_on.ensures c.run_all.new.machine c.run_all.new.store c.in_ok-round.round _ c.in_ok-round.ensures.reads c.in_ok-round.ensures.answer c.in_ok-run_all.ensures)

pub returns-clause-last : goal.returns-clause-last
returns-clause-last g c = λ p commands holds.
    c.is_end-last.ensures
    ∙ found_last g.S.Store.view g.M.Machine.disk (g.C.Rounds.next c.args.call.now) c.args.machine.now c.next_round.new.machine c.args.store.now c.next_round.new.store c.in_ok-round.round c.in_ok-round.ensures.answer p commands holds
