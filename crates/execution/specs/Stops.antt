-- Why a command is stopped, by the log that it leaves.
use Rattle.std.specs.Prelude.{◌≡◌, ◌+◌, ◌<◌, ◌^◌, ℕ, Bool, true, false}
use Rattle.log_blocks.specs.LogView.{used_of}
use Rattle.log_records.specs.RecordLog.{RecordLogView}
use Rattle.running_store.specs.Courses.{Stop}
use Rattle.running_store.specs.Courses.Stop.{Through, Full, At_end, Worn}
use Rattle.running_store.specs.Kept.{StopsAt}

-- within a group a record has no room behind what waits, in a log of so many bytes at most, or no LSN is left for it
abbrev pub StopsWithin : ℕ → RecordLogView → Stop → Type 0
StopsWithin most log Through = ⊥
StopsWithin most log (Full used need limit) = (used ≡ used_of log.log) × (limit < used + need) × (limit ≡ most)
StopsWithin most log (At_end lsn) = (lsn ≡ log.next) × (lsn ≡ 2 ^ 62)
StopsWithin most log (Worn epoch) = ⊥

-- outside one nothing waits any more, as where any call is stopped
abbrev pub StopsCommand : Bool → ℕ → RecordLogView → Stop → Type 0
StopsCommand true most log stop = StopsWithin most log stop
StopsCommand false most log stop = StopsAt most log stop
