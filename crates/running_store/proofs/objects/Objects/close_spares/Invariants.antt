use Rattle.std.proofs.Common.{take}
use Rattle.running_store.proofs.PrepareLemmas.{HaveClosed}
use Rattle.running_store.proofs.objects.Objects.close_spares.Given as goal

abbrev pub invariant-loop-object : goal.invariant-loop-object
invariant-loop-object g l = HaveClosed (g.M.Machine.disk l.fn.machine) (g.M.Machine.disk l.machine) l.fn.self l.self l.written (take l.object-index l.objects)
