use Rattle.std.proofs.Common.{map}
use Rattle.op_codec.specs.AllOps.{page}
use Rattle.page_ops.specs.declared.page_op.PageOp.TheVariants.{Free}
use Rattle.range_calls.specs.ComesLaws.{comes_read, comes_refused, ran}
use Rattle.range_calls.specs.ReadLaws.{passed}
use Rattle.map_client.specs.Changing.{sweep_made}
use Rattle.map_client.proofs.UpkeepLemmas.{bad_plan, swept_made}
use Rattle.map_client.proofs.upkeep.sweep_objects.Goals as goal

pub returns-in_err-left : goal.returns-in_err-left
returns-in_err-left g c =
    let range = c.args.map.now in
    let e = c.in_err-left.field-0.0 in
    comes_refused g.S.Store.view (sweep_made range.lo range.hi) c.from_residual.result e (passed c.from_residual.result e c.from_residual.ensures.1) c.in_err-left.ensures.reads
    (λ p commands holds done. bad_plan p range commands e (c.in_err-left.ensures.bad p commands holds done))

pub returns : goal.returns
returns g c =
    let range = c.args.map.now in
    comes_read g.S.Store.view g.M.Machine.disk c.calls_go_on.ensures c.args.machine.now c.swept.new.machine c.free_all.new.machine c.args.store.now c.swept.new.store c.free_all.new.store
    (ran (map (λ x. page (Free x)) c.as_slice.result.now)) (sweep_made range.lo range.hi) c.free_all.result c.in_ok-left.ensures.reads
    (λ p commands holds. swept_made p range commands c.in_ok-left.left.items c.as_slice.result.now c.as_slice.ensures.value (c.in_ok-left.ensures.found p commands holds)) c.free_all.ensures
