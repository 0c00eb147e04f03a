-- When upkeep is due: a function of the pace that a caller keeps, of the length of the log, and of what is dirty and not installed.
use Rattle.std.specs.Prelude.{ℕ, ◌+◌, ◌-◌, ◌/◌, ◌^◌, ◌==◌, ◌&&◌, ◌||◌, not, nat_le, nat_lt, max, min, if◌then◌else◌, Bool, Option, None, Some, Result, Ok, Err}
use Rattle.oper_core.specs.Meaning.{Meaning}
use Rattle.formats.specs.declared.params.Params.{Params}
use Rattle.formats.specs.declared.read_err.ReadErr.{ReadErr}
use Rattle.explain_core.specs.Turns.{dirty_in, waiting_in}
use Rattle.explain_core.specs.World.{World}
use Rattle.running_store.specs.Laid.Limits.{objects_within}
use Rattle.checkpointing.specs.declared.due.Due.{Due}
use Rattle.checkpointing.specs.declared.task_outcome.TaskOutcome.{TaskOutcome}
use Rattle.checkpointing.specs.declared.task_outcome.TaskOutcome.TheVariants.{NotDue, Done}
use Rattle.checkpointing.specs.declared.upkeep_report.UpkeepReport.{UpkeepReport}
use Rattle.store_engine.specs.declared.load.Load.{Load}
use Rattle.store_engine.specs.declared.pace.Pace.{Pace}

-- a full round installs so many nodes
abbrev pub full_round : Params → ℕ
full_round p = objects_within 64 (2 ^ 20) p

-- so many objects may be dirty before a turn is due: as many as have half as many bytes together as the log may have, 2^20 at least and
-- 2^25 at most
abbrev pub most_dirty : Params → ℕ
most_dirty p = objects_within 64 (max (2 ^ 20) (min (2 ^ 25) (p.limit / 2))) p

-- A log of this length counts so: while the slots are copied as empty, for it is not cut then.
abbrev pub charged : Option ℕ → ℕ → ℕ
charged None used = used
charged (Some copied) used = 0

-- what of a world, and of a log of this length, makes upkeep due
abbrev pub load_of : {O : Type 0} → Meaning O → Params → Option ℕ → World O → ℕ → Load
load_of m p copied w used = record { used = charged copied used; limit = p.limit; dirty = dirty_in m w; allowed = most_dirty p; round = full_round p; uninstalled = waiting_in w }

-- the log has more than a third of its limit
abbrev pub is_long : Load → Bool
is_long at = nat_lt (at.limit / 3) at.used

-- it has more than two thirds, or twice as many objects are dirty as may be
abbrev pub is_urgent : Load → Bool
is_urgent at = nat_lt (at.limit / 3) (at.used / 2) || nat_lt at.allowed (at.dirty / 2)

-- more objects are dirty than may be, or more than 2^17 records are not installed
abbrev pub is_heavy : Load → Bool
is_heavy at = nat_lt at.allowed at.dirty || nat_lt (2 ^ 17) at.uninstalled

-- A turn is due where something is not installed, and it is urgent, or no call of rest is left and the log is long, or the load
-- heavy.
abbrev pub wants_turn : Pace → Load → Bool
wants_turn pace at = nat_lt 0 at.uninstalled && (is_urgent at || ((pace.rest == 0) && (is_long at || is_heavy at)))

-- A trim is due of a long log that has as many bytes as the pace waits for, or of which all is installed; and, unless it is
-- urgent, only where a round at most is dirty and no turn is due.
abbrev pub wants_trim : Pace → Load → Bool
wants_trim pace at = is_long at && ((nat_le pace.from at.used || (at.uninstalled == 0)) && (is_urgent at || (nat_le at.dirty at.round && not (wants_turn pace at))))

-- What is due: a trim to 2^20 bytes and to half of what the log has, and a turn of a full round.
abbrev pub due_at : Pace → Load → Due
due_at pace at = record { trim = if wants_trim pace at then Some (min (2 ^ 20) (at.used / 2)) else None; turn = if wants_turn pace at then Some at.round else None }

-- the pace of a store of which no upkeep was made yet
abbrev pub first_pace : Pace
first_pace = record { from = 0; rest = 0 }

-- After a turn 16 calls take none; each call that takes none is one of them.
abbrev pub rest_after : ℕ → TaskOutcome → ℕ
rest_after rest NotDue = rest - 1
rest_after rest outcome = 16

-- After a trim the next one waits for a log twice as long as this one, which it left; after one that was stopped for a quarter of
-- the room that is left.
abbrev pub from_after : ℕ → ℕ → ℕ → TaskOutcome → ℕ
from_after from used limit NotDue = from
from_after from used limit Done = min (used + used) (2 ^ 64 - 1)
from_after from used limit outcome = min (used + (limit - used) / 4) (2 ^ 64 - 1)

-- the pace after upkeep that came to this
abbrev pub pace_after : Pace → Result UpkeepReport ReadErr → ℕ → ℕ → Pace
pace_after pace (Err cause) used limit = pace
pace_after pace (Ok it) used limit = record { from = from_after pace.from used limit it.trim; rest = rest_after pace.rest it.turn }
