use Rattle.std.proofs.Common.{◌<◌, sym, ap, ◌∙◌, subst, ◌++◌}
use Rattle.std.specs.Prelude.{⊤}
use Rattle.oper_core.specs.State.{State}
use Rattle.formats.specs.declared.params.Params.{Params}
use Rattle.page_map.specs.Plan.{delete_command}
use Rattle.range_calls.specs.ComesLaws.{comes_ended, comes_on, comes_passed, state_behind}
use Rattle.range_calls.specs.ReadLaws.{passed}
use Rattle.range_calls.specs.RoundLaws.{and_then}
use Rattle.range_calls.specs.Store.{state_of}
use Rattle.map_client.specs.Changing.{delete_made, out_made, tidy_made}
use Rattle.map_client.proofs.TidyLemmas.{rest, then_tidied}
use Rattle.map_client.proofs.deleting.delete_and_tidy.Goals as goal

-- the key stays
pub returns-in_err-take_out : goal.returns-in_err-take_out
returns-in_err-take_out g c =
    let way = c.args.way.now in
    let lo = way.map.now.lo in
    let hi = way.map.now.hi in
    let e = c.in_err-take_out.field-0.0 in
    comes_passed g.S.Store.view {V = ⊤} c.from_residual.result e (passed c.from_residual.result e c.from_residual.ensures.1)
    (comes_ended g.S.Store.view (out_made lo hi way.key.now) (delete_made lo hi way.key.now) e (λ p commands. tidy_made lo hi way.key.now p (commands ++ (out_made lo hi way.key.now p commands).commands))
    (λ p commands holds.
    let s = state_of p commands in
    let q = out_made lo hi way.key.now p commands in
    ap (λ (t : State). and_then q (rest lo hi way.key.now p s t)) (state_behind p commands q.commands) ∙ then_tidied lo hi way.key.now p s (delete_command lo hi s way.key.now))
    c.in_err-take_out.ensures)

pub tidy-requires-clause-there : goal.tidy-requires-clause-there
tidy-requires-clause-there g c = subst (λ (q : Params). c.args.way.now.map.now.hi < q.objects) (sym (c.in_ok-take_out.ensures.makes.calls.params)) c.requires.there

pub returns : goal.returns
returns g c =
    let way = c.args.way.now in
    let lo = way.map.now.lo in
    let hi = way.map.now.hi in
    comes_on g.S.Store.view g.M.Machine.disk c.calls_go_on.ensures c.args.machine.now c.take_out.new.machine c.tidy.new.machine c.args.store.now c.take_out.new.store c.tidy.new.store
    (out_made lo hi way.key.now) (tidy_made lo hi way.key.now) (delete_made lo hi way.key.now) _ c.tidy.result
    (λ p commands holds.
    let s = state_of p commands in
    let q = out_made lo hi way.key.now p commands in
    ap (λ (t : State). and_then q (rest lo hi way.key.now p s t)) (state_behind p commands q.commands) ∙ then_tidied lo hi way.key.now p s (delete_command lo hi s way.key.now))
    c.in_ok-take_out.ensures c.tidy.ensures
