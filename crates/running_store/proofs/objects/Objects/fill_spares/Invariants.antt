use Rattle.std.proofs.Common.{take}
use Rattle.running_store.proofs.OfRounds.Fills.{HaveFilled}
use Rattle.running_store.proofs.objects.Objects.fill_spares.Given as goal

abbrev pub invariant-loop-object : goal.invariant-loop-object
invariant-loop-object g l = HaveFilled (g.M.Machine.disk l.fn.machine) (g.M.Machine.disk l.machine) l.self (take l.object-index l.objects)
