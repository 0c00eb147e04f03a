use Rattle.std.proofs.Common.{◌++◌, List, subst}
use Rattle.range_calls.specs.Few.{if_any}
use Rattle.range_calls.specs.ReadLaws.{passed}
use Rattle.range_calls.specs.Rounds.{Comes}
use Rattle.range_calls.specs.Store.{Command}
use Rattle.range_calls.specs.ComesLaws.{comes_passed, ran, ran_on, ran_short}
use Rattle.range_calls.proofs.running.run_all.Goals as goal

pub returns-in_err-run_any : goal.returns-in_err-run_any
returns-in_err-run_any g c =
    let e = c.in_err-run_any.field-0.0 in
    let parts = c.into_parts-first.result in
    subst (λ (ops : List Command). Comes g.S.Store.view (g.M.Machine.disk c.args.machine.now) (g.M.Machine.disk c.run_any.new.machine) c.args.store.now c.run_any.new.store (ran ops) c.from_residual.result) c.into_parts-first.ensures
    (comes_passed g.S.Store.view c.from_residual.result e (passed c.from_residual.result e c.from_residual.ensures.1)
    (ran_short g.S.Store.view (if_any parts.0) (if_any parts.1 ++ if_any parts.2) e c.in_err-run_any.ensures))

pub returns-in_err-run_any-2 : goal.returns-in_err-run_any-2
returns-in_err-run_any-2 g c =
    let e = c.in_err-run_any-2.field-0.0 in
    let r = c.from_residual-in_err-run_any-2.result in
    let parts = c.into_parts-first.result in
    subst (λ (ops : List Command). Comes g.S.Store.view (g.M.Machine.disk c.args.machine.now) (g.M.Machine.disk c.run_any-2.new.machine) c.args.store.now c.run_any-2.new.store (ran ops) r) c.into_parts-first.ensures
    (comes_passed g.S.Store.view r e (passed r e c.from_residual-in_err-run_any-2.ensures.1)
    (ran_on g.S.Store.view g.M.Machine.disk c.calls_go_on.ensures c.args.machine.now c.run_any.new.machine c.run_any-2.new.machine c.args.store.now c.run_any.new.store c.run_any-2.new.store
    (if_any parts.0) (if_any parts.1 ++ if_any parts.2) _ _ c.in_ok-run_any.ensures (ran_short g.S.Store.view (if_any parts.1) (if_any parts.2) e c.in_err-run_any-2.ensures)))

pub returns : goal.returns
returns g c =
    let parts = c.into_parts-first.result in
    subst (λ (ops : List Command). Comes g.S.Store.view (g.M.Machine.disk c.args.machine.now) (g.M.Machine.disk c.run_any-3.new.machine) c.args.store.now c.run_any-3.new.store (ran ops) c.run_any-3.result) c.into_parts-first.ensures
    (ran_on g.S.Store.view g.M.Machine.disk c.calls_go_on.ensures c.args.machine.now c.run_any.new.machine c.run_any-3.new.machine c.args.store.now c.run_any.new.store c.run_any-3.new.store
    (if_any parts.0) (if_any parts.1 ++ if_any parts.2) _ c.run_any-3.result c.in_ok-run_any.ensures
    (ran_on g.S.Store.view g.M.Machine.disk c.calls_go_on.ensures c.run_any.new.machine c.run_any-2.new.machine c.run_any-3.new.machine c.run_any.new.store c.run_any-2.new.store c.run_any-3.new.store
    (if_any parts.1) (if_any parts.2) _ c.run_any-3.result c.in_ok-run_any-2.ensures c.run_any-3.ensures))
