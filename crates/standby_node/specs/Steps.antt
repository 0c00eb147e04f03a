-- What the steps of a piece make of a standby: a record, a frame, its end, and all whole frames.
use Rattle.std.specs.Prelude.{◌≡◌, ◌⊎◌, ◌↔◌, ◌<◌, ◌≤◌, ◌+◌, ◌-◌, ⊤, ℕ, true, false, List, [], drop, take, length, Option, None, Some, Result, Ok, Err, IsErrOf, OnOk}
use Rattle.disk_model.specs.Disk.{Disk, LeavesOnly, Passes, Rises}
use Rattle.disk_model.specs.declared.machine.FileNo.{FileNo}
use Rattle.oper_core.specs.Meaning.{Meaning}
use Rattle.oper_core.specs.declared.bounds.Bounds.{Bounds}
use Rattle.formats.specs.Records.{record_code}
use Rattle.formats.specs.declared.params.Params.{Params}
use Rattle.formats.specs.declared.record.Record.{Record}
use Rattle.frame_stream.specs.Frames.{HasBadLength}
use Rattle.frame_stream.specs.FrameBuffer.{BeginsWith, taken_by}
use Rattle.log_records.specs.Codec.{StartsWithRecord}
use Rattle.explain_core.specs.History.{Member}
use Rattle.explain_core.specs.World.{World}
use Rattle.execution.specs.Following.{HasLsn}
use Rattle.store_engine.specs.Engine.{IsAttached, forced_in, params_of}
use Rattle.store_engine.specs.Store.{meaning_in}
use Rattle.standby_node.specs.Feeding.{BeginsNoRecord, FeedsThrough, HasRefusedIn, IsAtFrameEnd, must_relieve}
use Rattle.standby_node.specs.Standby.{IsFollowing, StandbyView}
use Rattle.standby_node.specs.declared.follow_err.FollowErr.{FollowErr}
use Rattle.standby_node.specs.declared.follow_err.FollowErr.TheVariants.{BadFrame, DiskFault, Damaged, Memory}

-- what is found where a frame may begin
abbrev pub IsReading : StandbyView → Result (Option ℕ) FollowErr → Type 0
IsReading s (Ok found) = BeginsWith s.frames.kept (Ok found)
IsReading s (Err (BadFrame place)) = HasBadLength s.frames.kept × (place ≡ s.frames.passed)
IsReading s (Err e) = ⊥

-- the frame in hand is whole, and its payload has so many bytes
abbrev pub HasWholeFrame : StandbyView → ℕ → Type 0
HasWholeFrame s size = BeginsWith s.frames.kept (Ok (Some size))

-- the bytes of a payload of so many bytes that were not followed
abbrev pub left_of : StandbyView → ℕ → List ℕ
left_of s size = take (size - s.done) (drop (4 + s.done) s.frames.kept)

-- and where a record may begin in it
abbrev pub IsReadingOf : {O : Type 0} → Meaning O → StandbyView → ℕ → Result (Record O × ℕ) FollowErr → Type 0
IsReadingOf m s size (Ok pair) = StartsWithRecord m (left_of s size) pair.0 × HasLsn pair.0 × (pair.1 ≡ length (record_code m pair.0))
IsReadingOf m s size (Err (BadFrame place)) = BeginsNoRecord m (left_of s size) × (place ≡ s.frames.passed + (4 + s.done))
IsReadingOf m s size (Err Memory) = ⊤
IsReadingOf m s size (Err e) = ⊥

-- any world may be left
abbrev pub AnyWorld : {O : Type 0} → Meaning O → World O → Type 0
AnyWorld m w = ⊤

module _ {O : Type 0} (meaning : Bounds → Meaning O) where
  -- what a step leaves of a standby that follows, by its answer; where it is done the world is left so
  abbrev pub FollowsStep : (Meaning O → World O → Type 0) → Params → List (Member O) → List ℕ → Disk → StandbyView → Result (Unit {0}) FollowErr → Type 0
  FollowsStep LeftSo p first bytes d s (Ok done) = (following : IsFollowing meaning p first bytes d s) × LeftSo (meaning_in meaning p) following.world
  FollowsStep LeftSo p first bytes d s (Err DiskFault) = ⊤
  FollowsStep LeftSo p first bytes d s (Err Memory) = IsFollowing meaning p first bytes d s
  FollowsStep LeftSo p first bytes d s (Err e) = HasRefusedIn meaning p first bytes d s e

  -- A step, which reached this where it is done.
  pub record GoesOn (old new : Disk) (before after : StandbyView) (reached : Type 0) (LeftSo : Meaning O → World O → Type 0) (result : Result (Unit {0}) FollowErr) : Type 0 where
    pub time : Passes old new
    pub quiet : old.tells_files → new.said ≡ old.said
    pub params : params_of after.engine ≡ params_of before.engine
    pub attached : IsErrOf result DiskFault ⊎ (IsAttached meaning old before.engine → IsAttached meaning new after.engine)
    pub broken : (after.engine.broken ≡ true) ↔ IsErrOf result DiskFault
    pub fault : IsErrOf result DiskFault → Rises old.disk_faults new.disk_faults
    pub stopped : after.stopped ≡ before.stopped
    pub taken : taken_by after.frames ≡ taken_by before.frames
    pub done : OnOk result reached
    -- no fewer commands are stable
    pub rising : (p : Params) (first : List (Member O)) (bytes : List ℕ) → IsFollowing meaning p first bytes old before → IsErrOf result DiskFault ⊎ (forced_in before.engine ≤ forced_in after.engine)
    pub follows_it : (p : Params) (first : List (Member O)) (bytes : List ℕ) → IsFollowing meaning p first bytes old before → FollowsStep LeftSo p first bytes new after result
    pub leads : FeedsThrough meaning old new before.engine after.engine result
    pub images : old.tells_moments → (p : Params) (first : List (Member O)) (bytes : List ℕ) → IsFollowing meaning p first bytes old before
        → LeavesOnly old new (IsAtFrameEnd meaning p old (forced_in before.engine) first bytes)
    pub undamaged : old.tells_files → IsAttached meaning old before.engine → (file : FileNo) (place : ℕ) → IsErrOf result (Damaged file place) → ⊥

  module _ (old new : Disk) (before after : StandbyView) where
    -- a record was followed, of a frame whose payload has so many bytes
    abbrev pub IsRecordFollowed : ℕ → Result (Unit {0}) FollowErr → Type 0
    IsRecordFollowed size = GoesOn old new before after ((after.frames ≡ before.frames) × (before.done < after.done) × (after.done ≤ size)) AnyWorld

    -- all of them
    abbrev pub IsFrameFollowed : ℕ → Result (Unit {0}) FollowErr → Type 0
    IsFrameFollowed size = GoesOn old new before after ((after.frames ≡ before.frames) × (after.done ≡ size)) AnyWorld

    -- its end was forced, and thin nodes were installed while they had to be
    abbrev pub IsRelieved : Result (Unit {0}) FollowErr → Type 0
    IsRelieved = GoesOn old new before after ((after.frames ≡ before.frames) × (after.done ≡ before.done) × (after.engine.parts.log.log.pending ≡ [])) (λ m w. must_relieve m w ≡ false)

    -- the frame was passed
    pub record HasPassedFrame (size : ℕ) : Type 0 where
      pub passed : after.frames.passed ≡ before.frames.passed + (4 + size)
      pub kept : after.frames.kept ≡ drop (4 + size) before.frames.kept
      pub none_done : after.done ≡ 0
      pub none_waits : after.engine.parts.log.log.pending ≡ []

    -- and no thin node is left that must be installed
    abbrev pub IsFrameEnded : ℕ → Result (Unit {0}) FollowErr → Type 0
    IsFrameEnded size = GoesOn old new before after (HasPassedFrame size) (λ m w. must_relieve m w ≡ false)

    -- all whole frames were
    abbrev pub AreFramesFollowed : Result (Unit {0}) FollowErr → Type 0
    AreFramesFollowed =
        GoesOn old new before after (BeginsWith after.frames.kept (Ok None) × (after.done ≡ 0)) (λ m w. (after.frames.passed ≡ before.frames.passed) ⊎ (must_relieve m w ≡ false))
