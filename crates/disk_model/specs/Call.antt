-- What a machine is asked to do.
use Rattle.std.specs.Prelude.{ℕ, List}
use Rattle.disk_model.specs.declared.machine.FileNo.{FileNo}

-- a call that succeeded and is no read
pub data Call : Type 0 where
  Write : FileNo → ℕ → List ℕ → Call
  Sync : FileNo → Call
  Say : List ℕ → Call
