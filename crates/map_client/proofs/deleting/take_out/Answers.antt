use Rattle.std.proofs.Common.{refl, sym, ap, ◌∙◌, None, [], ◌∷◌}
use Rattle.call_plans.specs.Plan.{Plan, refused_by}
use Rattle.page_map.specs.Plan.{delete_command}
use Rattle.range_calls.specs.ComesLaws.{comes_read, comes_refused, ran}
use Rattle.range_calls.specs.ReadLaws.{passed}
use Rattle.range_calls.specs.Rounds.{tried, tried_all}
use Rattle.range_calls.specs.Store.{Command, state_of}
use Rattle.map_client.specs.Answers.{MapErr}
use Rattle.map_client.specs.Changing.{Due, delete_of, out_made, out_plan}
use Rattle.map_client.proofs.OpenLemmas.{found_is, refused_is}
use Rattle.map_client.proofs.deleting.take_out.Goals as goal

-- no command is found
pub returns-in_err-op : goal.returns-in_err-op
returns-in_err-op g c =
    let way = c.args.way.now in
    let lo = way.map.now.lo in
    let hi = way.map.now.hi in
    let e = c.in_err-op.field-0.0 in
    comes_refused g.S.Store.view (out_made lo hi way.key.now) c.from_residual.result e (passed c.from_residual.result e c.from_residual.ensures.1) c.in_err-op.ensures.reads
    (λ p commands holds done.
    let s = state_of p commands in
    let due : Due = delete_of (delete_command lo hi s way.key.now) in
    let none = refused_is due e (c.in_err-op.ensures.answer p commands holds done) in
    ap (λ (d : Due). tried p s (out_plan d)) none.is ∙ ap (λ (x : MapErr). (let q : Plan Command MapErr = refused_by x in q)) (sym none.error))

-- the one command
pub returns : goal.returns
returns g c =
    let way = c.args.way.now in
    let lo = way.map.now.lo in
    let hi = way.map.now.hi in
    let op = c.in_ok-op.op in
    comes_read g.S.Store.view g.M.Machine.disk c.calls_go_on.ensures c.args.machine.now c.deletion.new.machine c.run.new.machine c.args.store.now c.deletion.new.store c.run.new.store
    (ran (op ∷ [])) (out_made lo hi way.key.now) c.run.result c.in_ok-op.ensures.reads
    (λ p commands holds.
    let s = state_of p commands in
    let due : Due = delete_of (delete_command lo hi s way.key.now) in
    let it = found_is due op (c.in_ok-op.ensures.answer p commands holds refl) in
    ap (λ (o : Command). (let q : Plan Command MapErr = tried_all p s (o ∷ []) None in q)) (sym it.command_is) ∙ sym (ap (λ (d : Due). tried p s (out_plan d)) it.is))
    c.run.ensures
