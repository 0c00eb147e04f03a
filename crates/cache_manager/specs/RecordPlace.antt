-- Whether the record of an identity write has a place in the log.
use Rattle.std.proofs.Common.{◌≡◌, ◌+◌, ◌<◌, ◌≤◌, ℕ, List, [], ◌∷◌, arith}
use Rattle.std.specs.Prelude.{◌^◌}
use Rattle.log_blocks.specs.LogView.{used_of, growth_of}
use Rattle.log_records.specs.RecordLog.{RecordLogView}
use Rattle.formats.specs.Limits.{log_limit}
use Rattle.cache_manager.specs.declared.install_err.InstallErr.{InstallErr}
use Rattle.cache_manager.specs.declared.install_err.InstallErr.TheVariants.{LogFull, LsnEnd, DiskFault, Memory}

-- a record of n bytes fits into the log, and an LSN is left for it
pub record HasRecordPlace (log : RecordLogView) (n : ℕ) : Type 0 where
  pub fits : used_of log.log + growth_of log.log.pending n ≤ log_limit
  pub lsn : log.next < 2 ^ 62

-- why it has no place
abbrev pub LacksRecordPlace : RecordLogView → ℕ → InstallErr → Type 0
LacksRecordPlace log n (LogFull used need limit) = (log_limit < used_of log.log + growth_of log.log.pending n) × (used ≡ used_of log.log) × (need ≡ n + 5) × (limit ≡ log_limit)
LacksRecordPlace log n (LsnEnd lsn) = (used_of log.log + growth_of log.log.pending n ≤ log_limit) × (2 ^ 62 ≤ log.next) × (lsn ≡ log.next)
LacksRecordPlace log n DiskFault = ⊥
LacksRecordPlace log n Memory = ⊥

-- a record makes the log longer by its bytes and a block's head at most
pub growth_low : (pending : List ℕ) (n : ℕ) → growth_of pending n ≤ n + 5
growth_low [] n = omega arith
growth_low (byte ∷ bytes) n = omega arith
