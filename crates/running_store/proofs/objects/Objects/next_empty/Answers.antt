use Rattle.std.proofs.Common.{subst}
use Rattle.running_store.specs.Laid.{Laid}
use Rattle.running_store.specs.Laid.Lengths.{IsNextEmpty, length_at}
use Rattle.running_store.specs.Laid.LengthLaws.{next_marked}
use Rattle.running_store.proofs.objects.Objects.next_empty.Goals as goal

pub returns : goal.returns
returns c =
    subst (λ (l : Laid). IsNextEmpty l.slots.params.objects (length_at l) c.args.from c.next.result) c.self.view_is
    (next_marked c.self.inside.slots.params.objects (length_at (record { slots = c.self.inside.slots; cache = c.self.inside.cache })) c.self.inside.empties.marks c.self.invariant.empties c.args.from c.next.result c.next.ensures)
