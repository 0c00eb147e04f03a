-- What is held of one object.
use Rattle.std.specs.Prelude.{ℕ, List}

-- the number of the record that wrote it last, and its bytes
pub record Cell : Type 0 where
  pub lsn : ℕ
  pub value : List ℕ
