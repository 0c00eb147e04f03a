use Rattle.stable_objects.specs.SlotsView.{length_in}
use Rattle.running_store.specs.Laid.Lengths.{AreEmpties}
use Rattle.running_store.proofs.empties.empty_objects.Given as goal

abbrev pub invariant-loop-object : goal.invariant-loop-object
invariant-loop-object l = AreEmpties l.object (length_in l.slots) l.empties.marks
