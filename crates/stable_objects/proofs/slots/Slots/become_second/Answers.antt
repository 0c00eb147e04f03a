use Rattle.stable_objects.proofs.slots.Slots.become_second.Goals as goal

pub returns-clause-written : goal.returns-clause-written
returns-clause-written g c told = (c.in_ok-write_through.ensures.written told).changed
