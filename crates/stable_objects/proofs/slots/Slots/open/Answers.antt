use Rattle.stable_objects.proofs.Bytes.{held_first}
use Rattle.stable_objects.proofs.slots.Slots.open.Goals as goal

pub returns-clause-opened : goal.returns-clause-opened
returns-clause-opened g c told = held_first 1 _ _ (c.in_ok-write_through.ensures.written told).changed
