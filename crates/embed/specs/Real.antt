-- Calls since the queue was last taken.
use Rattle.std.specs.Prelude.{◌≡◌, []}
use Rattle.write_queue.specs.Memory.{taken_from, waiting_in}
use Rattle.write_queue.specs.declared.queue_mem.QueueMem.{QueueMem}

-- the queue of the one was empty, and nothing was taken from the other since
pub record IsSinceTaken (old new : QueueMem) : Type 0 where
  pub emptied : waiting_in old ≡ []
  pub untaken : taken_from new ≡ taken_from old
