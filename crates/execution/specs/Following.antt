-- What a record of another log does, as a function of the world and of the log's length, and which answer it gets.
use Rattle.std.specs.Prelude.{◌≡◌, ◌+◌, ◌<◌, ◌≤◌, ⊤, ℕ, nat_lt, Bool, IsTrue, true, false, if◌then◌else◌, List, [], ◌∷◌, ◌++◌, length, Some, Result, Ok, Err}
use Rattle.disk_model.specs.Disk.{Disk, Rises, Stays}
use Rattle.oper_core.specs.Meaning.{Meaning}
use Rattle.formats.specs.Limits.{block_limit, log_limit, lsn_end}
use Rattle.formats.specs.Records.{IsRecord, lsn_of, record_code}
use Rattle.formats.specs.declared.record.Record.{Record}
use Rattle.formats.specs.declared.record.Record.TheVariants.{Command as Logged_command, Identity as Logged_identity, Checkpoint as Logged_checkpoint}
use Rattle.log_blocks.specs.LogView.{used_of}
use Rattle.log_records.specs.RecordLog.{RecordLogView}
use Rattle.explain_core.specs.History.{Member}
use Rattle.explain_core.specs.World.{World, Step, end_of}
use Rattle.explain_core.specs.World.Step.{Append}
use Rattle.running_store.specs.Courses.{Course, buffered, course, record_length, room_steps}
use Rattle.running_store.specs.Courses.Stop.{Through, Full}
use Rattle.running_store.specs.Laid.{Laid}
use Rattle.running_store.specs.Laid.LongSlot.{HasLongSlot}
use Rattle.running_store.specs.Taking.{Ending}
use Rattle.running_store.specs.Taking.Ending.{Done, Stopped, Short, Failed}
use Rattle.execution.specs.Courses.{needed}
use Rattle.execution.specs.Judged.{Judged, judge, may_follow}
use Rattle.execution.specs.Judged.Judged.{Passed, Taken, Gap, Differs}
use Rattle.execution.specs.declared.record_err.RecordErr.{RecordErr}
use Rattle.execution.specs.declared.record_err.RecordErr.TheVariants as of_record

-- a record has an LSN that a store may give: it is no checkpoint
abbrev pub HasLsn : {O : Type 0} → Record O → Type 0
HasLsn (Logged_command lsn op) = lsn < lsn_end
HasLsn (Logged_identity lsn x value) = lsn < lsn_end
HasLsn (Logged_checkpoint table) = ⊥

-- it has such an LSN, it is in its grammar, and a block has room for it
pub record IsFollowable {O : Type 0} (m : Meaning O) (r : Record O) : Type 0 where
  pub with_lsn : HasLsn r
  pub grammar : IsRecord m r
  pub short : length (record_code m r) ≤ block_limit

-- the objects whose values it is judged on
abbrev pub judged_on : {O : Type 0} → Meaning O → Record O → List ℕ
judged_on m (Logged_command lsn op) = m.reads op
judged_on m (Logged_identity lsn x value) = x ∷ []
judged_on m (Logged_checkpoint table) = []

-- so many identity writes are logged where it is taken, and where it is answered so
abbrev pub identities_in : {O : Type 0} → Record O → ℕ
identities_in (Logged_command lsn op) = 0
identities_in (Logged_identity lsn x value) = 1
identities_in (Logged_checkpoint table) = 0

abbrev pub identities_logged : {O : Type 0} → Record O → Result Bool RecordErr → ℕ
identities_logged r (Ok taken) = if taken then identities_in r else 0
identities_logged r (Err e) = 0

-- How it ended, in the terms of its course: one that leaves a gap or differs has taken all of its course, which is none.
abbrev pub ending_of_record_error : RecordErr → Ending
ending_of_record_error (of_record.Gap expected got) = Done
ending_of_record_error (of_record.Differs lsn) = Done
ending_of_record_error (of_record.LogFull used need limit) = Stopped (Full used need limit)
ending_of_record_error of_record.DiskFault = Failed
ending_of_record_error (of_record.Damaged file place) = Short
ending_of_record_error of_record.Memory = Short

abbrev pub ending_of_follow : {T : Type 0} → Result T RecordErr → Ending
ending_of_follow (Ok value) = Done
ending_of_follow (Err e) = ending_of_record_error e

module _ {O : Type 0} (m : Meaning O) where
  -- so many bytes longer does a record of n bytes make the log: the head of a block too, where nothing waits, and where the block
  -- that waits has no room for it, so that this is forced before
  abbrev pub grown_by : World O → ℕ → ℕ
  grown_by w n = if nat_lt block_limit (buffered m w + n) then n + 5 else needed m true w n

  -- Room is made for a record of n bytes in the block that waits, where the log, which may have 2^48 bytes, has room for it; else
  -- nothing is done, and nothing is forced. Then the log has these steps more, and is so long.
  abbrev pub roomed_course : ℕ → List (Step O) → ℕ → World O → ℕ → Course O
  roomed_course n steps long w used =
      if nat_lt log_limit (used + grown_by w n) then course [] used (Full used (grown_by w n) log_limit) else course (room_steps m w n ++ steps) (used + long) Through

  abbrev pub room_course : ℕ → World O → ℕ → Course O
  room_course n w used = roomed_course n [] 0 w used

  -- a member is appended behind it
  abbrev pub taken_course : Member O → World O → ℕ → Course O
  taken_course member w used = let n = record_length m member in roomed_course n (Append member ∷ []) (grown_by w n) w used

  abbrev pub judged_course : Judged O → World O → ℕ → Course O
  judged_course Passed w used = course [] used Through
  judged_course (Taken member) w used = taken_course member w used
  judged_course (Gap expected got) w used = course [] used Through
  judged_course (Differs lsn) w used = course [] used Through

  -- a member with the next LSN
  abbrev pub member_course : Member O → World O → ℕ → Course O
  member_course member w used = if may_follow m (λ x. (w.cache x).value) member then taken_course member w used else course [] used Through

  -- what is made of a record on the values that the world's objects have
  abbrev pub judge_in : World O → Record O → Judged O
  judge_in w r = judge m (λ x. (w.cache x).value) (end_of w) r

  abbrev pub follow_course : Record O → World O → ℕ → Course O
  follow_course r w used = judged_course (judge_in w r) w used

  -- why one gets its answer
  abbrev pub HasMemberCause : World O → ℕ → Member O → Result (Unit {0}) RecordErr → Type 0
  HasMemberCause w used member (Ok done) = IsTrue (may_follow m (λ x. (w.cache x).value) member) × (used + grown_by w (record_length m member) ≤ log_limit)
  HasMemberCause w used member (Err (of_record.Gap expected got)) = ⊥
  HasMemberCause w used member (Err (of_record.Differs lsn)) = (may_follow m (λ x. (w.cache x).value) member ≡ false) × (lsn ≡ end_of w)
  HasMemberCause w used member (Err (of_record.LogFull held need limit)) = IsTrue (may_follow m (λ x. (w.cache x).value) member) × (log_limit < used + need) × (need ≡ grown_by w (record_length m member)) × (held ≡ used) × (limit ≡ log_limit)
  HasMemberCause w used member (Err of_record.DiskFault) = ⊤
  HasMemberCause w used member (Err (of_record.Damaged file place)) = ⊥
  HasMemberCause w used member (Err of_record.Memory) = ⊤

  module _ (w : World O) (used : ℕ) (r : Record O) where
    -- it has the next LSN
    abbrev pub IsDue : Type 0
    IsDue = lsn_of r ≡ Some (end_of w)

    -- it is this member, which comes next, and is so long
    abbrev pub ComesNext : Member O → ℕ → Type 0
    ComesNext member n = (judge_in w r ≡ Taken member) × (n ≡ grown_by w (record_length m member))

    -- Why a record gets its answer in this world, with a log of this length. No two of the first five hold at once, so each of
    -- these answers comes exactly where its cause holds, but that for a record with the next LSN a fault or want of memory
    -- may stand in its place. No file is damaged.
    abbrev pub HasFollowCause : Result Bool RecordErr → Type 0
    HasFollowCause (Ok false) = judge_in w r ≡ Passed
    HasFollowCause (Ok true) = (member : Member O) × (n : ℕ) × ComesNext member n × (used + n ≤ log_limit)
    HasFollowCause (Err (of_record.Gap expected got)) = judge_in w r ≡ Gap expected got
    HasFollowCause (Err (of_record.Differs lsn)) = judge_in w r ≡ Differs lsn
    HasFollowCause (Err (of_record.LogFull held need limit)) = (member : Member O) × ComesNext member need × (log_limit < used + need) × (held ≡ used) × (limit ≡ log_limit)
    HasFollowCause (Err of_record.DiskFault) = IsDue
    HasFollowCause (Err (of_record.Damaged file place)) = ⊥
    HasFollowCause (Err of_record.Memory) = IsDue

-- Why a record is not taken, on every machine, where the next LSN is this one: its LSN; that the disk fails, and counts
-- that; or that the slot of an object that it is judged on has a value that is too long.
abbrev pub IsFollowFailure : {O : Type 0} → Meaning O → Record O → ℕ → Disk → Disk → Laid → RecordErr → Type 0
IsFollowFailure m r next old new objects (of_record.Gap expected got) = (lsn_of r ≡ Some got) × (expected ≡ next) × (next < got)
IsFollowFailure m r next old new objects (of_record.Differs lsn) = (lsn_of r ≡ Some lsn) × (lsn ≡ next)
IsFollowFailure m r next old new objects (of_record.LogFull used need limit) = (lsn_of r ≡ Some next) × (limit ≡ log_limit) × (log_limit < used + need)
IsFollowFailure m r next old new objects of_record.DiskFault = (lsn_of r ≡ Some next) × Rises old.disk_faults new.disk_faults
IsFollowFailure m r next old new objects (of_record.Damaged file place) = (lsn_of r ≡ Some next) × HasLongSlot new objects.slots (judged_on m r) file place
IsFollowFailure m r next old new objects of_record.Memory = lsn_of r ≡ Some next

-- why a record of n bytes gets no room: the log has none, or the disk fails in the force that makes room in the block
abbrev pub LacksRoom : RecordLogView → ℕ → Type 0 → RecordErr → Type 0
LacksRoom log n rises (of_record.LogFull used need limit) = (used ≡ used_of log.log) × (limit ≡ log_limit) × (log_limit < used + need)
LacksRoom log n rises of_record.DiskFault = (block_limit < length log.log.pending + n) × rises
LacksRoom log n rises (of_record.Gap expected got) = ⊥
LacksRoom log n rises (of_record.Differs lsn) = ⊥
LacksRoom log n rises (of_record.Damaged file place) = ⊥
LacksRoom log n rises of_record.Memory = ⊥

-- a record for which the block that waits has room, behind so many bytes, forces nothing
abbrev pub ForcesNone : {O : Type 0} → Meaning O → ℕ → Record O → Disk → Disk → Type 0
ForcesNone m waiting r old new = waiting + length (record_code m r) ≤ block_limit → Stays old new
