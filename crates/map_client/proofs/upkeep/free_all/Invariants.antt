use Rattle.std.proofs.Common.{None, drop, map}
use Rattle.op_codec.specs.AllOps.{page}
use Rattle.page_ops.specs.declared.page_op.PageOp.TheVariants.{Free}
use Rattle.store_calls.specs.Making.{Calls}
use Rattle.range_calls.specs.ComesLaws.{ran}
use Rattle.range_calls.specs.Rounds.{Comes}
use Rattle.map_client.proofs.SweepLemmas.{LeadsOn}
use Rattle.map_client.proofs.upkeep.free_all.Given as goal

abbrev pub invariant-loop-object : goal.invariant-loop-object
invariant-loop-object g l = record {
  calls : Calls g.S.Store.view (g.M.Machine.disk l.fn.machine) (g.M.Machine.disk l.machine) l.fn.store l.store None;
  whole : LeadsOn g.S.Store.view g.M.Machine.disk l.fn.machine l.machine l.fn.store l.store l.objects (drop l.object-index l.objects);
}
