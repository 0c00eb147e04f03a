use Rattle.std.proofs.Common.{take}
use Rattle.running_store.proofs.OfRounds.Holds.{HaveHeld}
use Rattle.running_store.proofs.objects.Objects.hold_all.Given as goal

abbrev pub invariant-loop-object : goal.invariant-loop-object
invariant-loop-object l = HaveHeld l.fn.self l.self (take l.object-index l.objects)
