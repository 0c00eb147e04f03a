-- What an identity write needs, and what a refusal out of memory leaves.
use Rattle.std.specs.Prelude.{◌≡◌, ◌+◌, ◌<◌, ◌≤◌, ◌^◌, ℕ, length}
use Rattle.log_blocks.specs.LogView.{LogView, used_of}
use Rattle.log_records.specs.RecordLog.{RecordLogView}
use Rattle.running_store.specs.Parts.{Parts}

-- a record of n bytes fits into the block that waits, and this into the file
pub record HasPlace (log : LogView) (n : ℕ) : Type 0 where
  pub block : length log.pending + n ≤ 2 ^ 30
  pub file : log.end + 5 + length log.pending + n < 2 ^ 49

-- the same parts, but for the room of the log's buffer
abbrev pub IsRoomed : Parts → Parts → Type 0
IsRoomed before after = after ≡ record before { log = record before.log { log = record before.log.log { room = after.log.log.room } } }

-- a log of the same length, perhaps forced
pub record IsAsLong (before after : RecordLogView) : Type 0 where
  pub bounds : after.bounds ≡ before.bounds
  pub next : after.next ≡ before.next
  pub used : used_of after.log ≡ used_of before.log
