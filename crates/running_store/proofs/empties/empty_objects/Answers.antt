use Rattle.std.proofs.Common.{◌∙◌, ◌+◌, ◌==◌, ap, Bool, List, ℕ, length}
use Rattle.std.specs.Prelude.{slice_set}
use Rattle.number_lists.specs.Marks.{mark_at}
use Rattle.stable_objects.specs.SlotsView.{length_in}
use Rattle.running_store.proofs.LaidLemmas.{more_marks}
use Rattle.running_store.proofs.empties.empty_objects.Goals as goal

pub loop-object-preserved : goal.loop-object-preserved
loop-object-preserved c =
    let more = c.add_number.new.self.marks in
    more_marks c.loop-object.object (length_in c.args.slots.now) c.loop-object.empties.marks more c.set.new.self.marks c.loop-object.invariant
    (c.add_number.ensures.end ∙ ap (λ (l : List Bool). length l + 1) c.make_room.ensures.marks) (λ n. c.add_number.ensures.marks n ∙ ap (λ (l : List Bool). mark_at l n) c.make_room.ensures.marks)
    (c.set.ensures.marks ∙ ap (λ (n : ℕ). slice_set more c.loop-object.object (n == 0)) c.length.ensures)
