use Rattle.std.proofs.Common.{sym, ap, subst, ℕ, [], ◌∷◌, ◌++◌, Result, Err}
use Rattle.call_plans.specs.Plan.{Plan}
use Rattle.store_calls.specs.Making.{Reads}
use Rattle.range_calls.specs.ComesLaws.{comes_ended, comes_on, comes_passed, comes_refused, ran}
use Rattle.range_calls.specs.JoinLaws.{memory_is_short, nothing_reads, reads_then}
use Rattle.range_calls.specs.ReadLaws.{passed}
use Rattle.range_calls.specs.Store.{Command}
use Rattle.map_client.specs.Answers.{MapErr, cause_of}
use Rattle.map_client.specs.Changing.{set_comes}
use Rattle.named_objects.specs.Giving.{given_comes, new_comes}
use Rattle.named_objects.proofs.Coming.{given_is, too_long}
use Rattle.named_objects.proofs.putting.put_new.Goals as goal

pub returns-in_err-number : goal.returns-in_err-number
returns-in_err-number g c =
    let e = c.in_err-number.field-0.0 in
    let failed : Result ℕ MapErr = Err e in
    comes_refused g.S.Store.view (new_comes c.args.map.now.lo c.args.map.now.hi c.args.key.items c.args.given c.args.spare) c.from_residual.result e
    (passed c.from_residual.result e c.from_residual.ensures.1)
    (reads_then g.S.Store.view g.M.Machine.disk c.reads_run_short.ensures c.args.machine.now c.args.machine.now c.args.store.now c.args.store.now failed
    (nothing_reads g.S.Store.view (g.M.Machine.disk c.args.machine.now) c.args.store.now c.nothing_is_made.ensures.front (c.nothing_is_made.ensures.calls c.requires.unbroken)) c.in_err-number.ensures.memory)
    (λ p commands holds done. absurd (memory_is_short e c.in_err-number.ensures.memory done))

pub returns-in_err-text : goal.returns-in_err-text
returns-in_err-text g c =
    let e = c.in_err-text.field-0.0 in
    let r = c.from_residual-in_err-text.result in
    let d = g.M.Machine.disk c.args.machine.now in
    comes_refused g.S.Store.view (new_comes c.args.map.now.lo c.args.map.now.hi c.args.key.items c.args.given c.args.spare) r e (passed r e c.from_residual-in_err-text.ensures.1)
    (subst (λ (x : MapErr). Reads g.S.Store.view d d c.args.store.now c.args.store.now (cause_of x)) (too_long c.args.key.items e c.in_err-text.ensures)
    (nothing_reads g.S.Store.view d c.args.store.now c.nothing_is_made.ensures.front (c.nothing_is_made.ensures.calls c.requires.unbroken)))
    (λ p commands holds done. ap (given_comes c.args.map.now.lo c.args.map.now.hi c.args.given c.args.spare p commands) (sym c.in_err-text.ensures))

pub returns-in_err-run : goal.returns-in_err-run
returns-in_err-run g c =
    let lo = c.args.map.now.lo in
    let hi = c.args.map.now.hi in
    let e = c.in_err-run.field-0.0 in
    let r = c.from_residual-in_err-run.result in
    let op = c.fresh.result in
    comes_passed g.S.Store.view {V = Unit {0}} r e (passed r e c.from_residual-in_err-run.ensures.1)
    (comes_ended g.S.Store.view (ran (op ∷ [])) (new_comes lo hi c.args.key.items c.args.given c.args.spare) e
    (λ p commands. let q : Plan Command MapErr = ran (op ∷ []) p commands in set_comes lo hi c.in_ok-text.text c.in_ok-number.number p (commands ++ q.commands))
    (λ p commands holds. given_is lo hi c.args.key.items c.in_ok-text.text c.in_ok-number.number c.args.given c.args.spare op c.fresh.ensures c.in_ok-text.ensures c.in_ok-number.ensures.value p commands)
    c.in_err-run.ensures)

pub returns : goal.returns
returns g c =
    let lo = c.args.map.now.lo in
    let hi = c.args.map.now.hi in
    let op = c.fresh.result in
    comes_on g.S.Store.view g.M.Machine.disk c.calls_go_on.ensures c.args.machine.now c.run.new.machine c.set.new.machine c.args.store.now c.run.new.store c.set.new.store
    (ran (op ∷ [])) (set_comes lo hi c.in_ok-text.text c.in_ok-number.number) (new_comes lo hi c.args.key.items c.args.given c.args.spare) _ c.set.result
    (λ p commands holds. given_is lo hi c.args.key.items c.in_ok-text.text c.in_ok-number.number c.args.given c.args.spare op c.fresh.ensures c.in_ok-text.ensures c.in_ok-number.ensures.value p commands)
    c.in_ok-run.ensures c.set.ensures.comes
