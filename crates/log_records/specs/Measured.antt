-- What is measured of a log that is to be rewritten.
use Rattle.std.proofs.Common.{◌≡◌, ◌≤◌, ◌^◌, ℕ, List, [], ◌++◌, length}
use Rattle.oper_core.specs.Meaning.{Meaning}
use Rattle.formats.specs.Records.{commands_of}
use Rattle.formats.specs.declared.record.Record.{Record}
use Rattle.log_records.specs.Measuring.{block_lengths}
use Rattle.log_records.specs.Rewriting.{code_lengths, left_out, from_lsn}
use Rattle.log_records.specs.declared.measured.Measured.{Measured}

-- The records of a log from this base on, with any others after them, stand in blocks of these lengths, and so many commands
-- stand before the base.
pub record IsMeasured {O : Type 0} (m : Meaning O) (base : ℕ) (records : List (Record O)) (it : Measured) : Type 0 where
  pub before : it.commands ≡ length (commands_of (left_out base records))
  pub short : it.filled ≤ 2 ^ 30
  -- there are none where the block in hand has no byte
  pub none : it.filled ≡ 0 → from_lsn base records ≡ []
  pub blocks : (rest : List ℕ) → block_lengths 0 (code_lengths m (from_lsn base records) ++ rest) ≡ it.full.items ++ block_lengths it.filled rest
