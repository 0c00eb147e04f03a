-- Bytes that begin with a record.
use Rattle.std.specs.Prelude.{◌≡◌, ◌<◌, ◌≤◌, ◌^◌, All, IsTrue, List, ℕ, ◌++◌, length}
use Rattle.oper_core.specs.Meaning.{Meaning}
use Rattle.oper_core.specs.declared.bounds.Bounds.{Bounds}
use Rattle.formats.specs.Records.{IsRecord, record_code}
use Rattle.formats.specs.declared.record.Record.{Record}
use Rattle.formats.specs.declared.record.Record.TheVariants.{Command, Identity, Checkpoint}

-- the bytes begin with its code, and it is in the grammar
pub record StartsWithRecord {O : Type 0} (m : Meaning O) (bytes : List ℕ) (it : Record O) : Type 0 where
  pub rest : List ℕ
  pub split : bytes ≡ record_code m it ++ rest
  pub in_grammar : IsRecord m it

-- it has a code, whatever the bounds: each list in it has a length of four bytes
abbrev pub IsEncodable : {O : Type 0} → (Bounds → Meaning O) → Record O → Type 0
IsEncodable meaning (Command lsn op) = (b : Bounds) × IsTrue ((meaning b).is_encodable op)
IsEncodable meaning (Identity lsn x value) = length value < 2 ^ 32
IsEncodable meaning (Checkpoint table) = length table.starts < 2 ^ 32

-- each record's code goes into a block
abbrev pub AreShort : {O : Type 0} → Meaning O → List (Record O) → Type 0
AreShort m records = All (λ r. length (record_code m r) ≤ 2 ^ 30) records
