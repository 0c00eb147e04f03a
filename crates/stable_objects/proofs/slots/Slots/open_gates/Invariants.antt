use Rattle.std.proofs.Common.{take}
use Rattle.stable_objects.proofs.GatesOpened.{HaveOpened}
use Rattle.stable_objects.proofs.slots.Slots.open_gates.Given as goal

abbrev pub invariant-loop-object : goal.invariant-loop-object
invariant-loop-object g l = HaveOpened l.self l.objects (take l.object-index l.objects) (g.M.Machine.disk l.fn.machine) (g.M.Machine.disk l.machine)
