-- What a piece of a stream makes of a standby.
use Rattle.std.specs.Prelude.{◌≡◌, ◌⊎◌, ◌↔◌, ◌<◌, ◌≤◌, ◌+◌, ⊤, ℕ, Bool, true, false, ◌&&◌, ◌||◌, nat_lt, List, ◌++◌, drop, length, Option, None, Some, Result, Ok, Err, IsErrOf, OnOk}
use Rattle.std.specs.List.{AllByRecursion}
use Rattle.disk_model.specs.Disk.{Disk, Files, LeavesOnly, Passes, Rises}
use Rattle.disk_model.specs.declared.machine.FileNo.{FileNo}
use Rattle.oper_core.specs.Meaning.{Meaning}
use Rattle.oper_core.specs.declared.bounds.Bounds.{Bounds}
use Rattle.formats.specs.Limits.{log_limit}
use Rattle.formats.specs.Log.{IsPayload}
use Rattle.formats.specs.Records.{records_of}
use Rattle.formats.specs.declared.params.Params.{Params}
use Rattle.formats.specs.declared.record.Record.{Record}
use Rattle.frame_stream.specs.Frames.{frame, frames, HasBadLength}
use Rattle.frame_stream.specs.FrameBuffer.{taken_by}
use Rattle.log_blocks.specs.LogView.{growth_of}
use Rattle.log_records.specs.Codec.{StartsWithRecord}
use Rattle.explain_core.specs.History.{Member, commands_of}
use Rattle.explain_core.specs.Turns.{count_below, dirty_in, has_thin, thin_turn}
use Rattle.explain_core.specs.World.{World, end_of, run}
use Rattle.execution.specs.Following.{HasLsn, follow_course}
use Rattle.execution.specs.Judged.{Judged, first_refused, follows, judge_behind}
use Rattle.execution.specs.Judged.Judged.{Taken, Gap as Leaves_gap, Differs as Is_different}
use Rattle.running_store.specs.Courses.{force_steps, record_length}
use Rattle.store_engine.specs.Engine.{EngineView, IsAttached, ShowsIn, accepted_in, forced_in, params_of, used_in}
use Rattle.store_engine.specs.Store.{Stands, meaning_in}
use Rattle.standby_node.specs.Standby.{AreFramesOf, IsBetweenPieces, IsFollowing, StandbyView}
use Rattle.standby_node.specs.declared.follow_err.FollowErr.{FollowErr}
use Rattle.standby_node.specs.declared.follow_err.FollowErr.TheVariants.{BadFrame, Gap, Differs, LogFull, DiskFault, Damaged, Memory, Stopped}

-- at a frame's end no more objects are left dirty than so many, unless each node has two or more to flush; and as many nodes at
-- most are installed together
abbrev pub dirty_limit : ℕ
dirty_limit = 64

-- nor are more records left that wait for their install
abbrev pub waiting_limit : ℕ
waiting_limit = 16384

-- where no more wait than so many, none is installed for their number
abbrev pub low_mark : ℕ
low_mark = 1024

-- so many dirty objects are too many, or more records wait than may
abbrev pub is_above : ℕ → ℕ → ℕ → Bool
is_above most dirty waiting = nat_lt dirty_limit dirty || nat_lt most waiting

-- in this world they are
abbrev pub is_over : {O : Type 0} → Meaning O → ℕ → World O → Bool
is_over m most w = is_above most (dirty_in m w) (count_below (end_of w) w.graph)

-- a node is thin, and must be installed before the frame ends
abbrev pub must_relieve : {O : Type 0} → Meaning O → World O → Bool
must_relieve m w = is_over m waiting_limit w && has_thin m w

-- one is thin, and may be installed
abbrev pub may_relieve : {O : Type 0} → Meaning O → World O → Bool
may_relieve m w = is_over m low_mark w && has_thin m w

-- The worlds that a standby may come to from this one: a record of a stream is followed, what waits is forced, and a turn is taken
-- for which nothing is logged, where a thin node may be installed. No checkpoint is taken, and no log is trimmed.
pub data FeedsTo {O : Type 0} (m : Meaning O) (w : World O) : World O → Type 0 where
  Nothing : FeedsTo m w w
  Followed : (v : World O) (r : Record O) (used : ℕ) → FeedsTo m w v → FeedsTo m w (run m v (follow_course m r v used).steps)
  Forced : (v : World O) → FeedsTo m w v → FeedsTo m w (run m v (force_steps m v))
  Relieved : (v : World O) → may_relieve m v ≡ true → FeedsTo m w v → FeedsTo m w (run m v (thin_turn m dirty_limit v))

-- a world leads on to where one leads to which it leads
pub feeds_on : {O : Type 0} (m : Meaning O) (u v w : World O) → FeedsTo m u v → FeedsTo m v w → FeedsTo m u w
feeds_on m u v w first Nothing = first
feeds_on m u v w first (Followed x r used more) = Followed x r used (feeds_on m u v x first more)
feeds_on m u v w first (Forced x more) = Forced x (feeds_on m u v x first more)
feeds_on m u v w first (Relieved x must more) = Relieved x must (feeds_on m u v x first more)

-- the place of the frame in which a refusal came, where this is the answer
abbrev pub stopped_by : {T : Type 0} → ℕ → Result T FollowErr → Option ℕ
stopped_by passed (Ok value) = None
stopped_by passed (Err Memory) = None
stopped_by passed (Err e) = Some passed

-- the bytes of a whole frame's payload that come next, of which there are some
pub record ComeNext (s : StandbyView) (rest : List ℕ) : Type 0 where
  pub payload : List ℕ
  pub later : List ℕ
  pub is_payload : IsPayload payload
  pub stands : s.frames.kept ≡ frame payload ++ later
  pub left : s.done < length payload
  pub rest_is : rest ≡ drop s.done payload

-- no record of a frame begins the bytes: they break the grammar, run past their frame, or are a checkpoint
abbrev pub BeginsNoRecord : {O : Type 0} → Meaning O → List ℕ → Type 0
BeginsNoRecord {O} m bytes = (r : Record O) → StartsWithRecord m bytes r → HasLsn r → ⊥

-- it is the stream that is refused
abbrev pub IsOfStream : FollowErr → Type 0
IsOfStream (BadFrame place) = ⊤
IsOfStream (Gap expected got) = ⊤
IsOfStream (Differs lsn) = ⊤
IsOfStream (LogFull used need limit) = ⊥
IsOfStream DiskFault = ⊥
IsOfStream (Damaged file place) = ⊥
IsOfStream Memory = ⊥
IsOfStream (Stopped place) = ⊥

module _ {O : Type 0} (m : Meaning O) (h : List (Member O)) (s : StandbyView) where
  -- this record comes next, and is judged so behind the history
  pub record IsJudgedNext (judged : Judged O) : Type 0 where
    pub rest : List ℕ
    pub next : ComeNext s rest
    pub logged : Record O
    pub starts : StartsWithRecord m rest logged
    pub with_lsn : HasLsn logged
    pub judged_so : judge_behind m h logged ≡ judged

  -- it is taken, but for want of room: so many bytes are needed behind those that wait
  pub record LacksLogRoom (used need limit : ℕ) : Type 0 where
    pub member : Member O
    pub next : IsJudgedNext (Taken member)
    pub used_is : used ≡ used_in s.engine
    pub need_is : need ≡ growth_of s.engine.parts.log.log.pending (record_length m member)
    pub limit_is : limit ≡ log_limit
    pub over : limit < used + need

  -- Why the standby, which was left so behind this history, refuses the stream: what comes next is of no frame, or no record, or is
  -- judged so. Of one stream each standby that began with one history has one such answer, in whatever pieces it came, and however
  -- much came behind (`a_stream_is_refused_in_one_way`). Where the log has no room that goes by its length.
  abbrev pub HasRefused : FollowErr → Type 0
  HasRefused (BadFrame place) = (HasBadLength s.frames.kept × (place ≡ s.frames.passed))
      ⊎ ((rest : List ℕ) × ComeNext s rest × BeginsNoRecord m rest × (place ≡ s.frames.passed + (4 + s.done)))
  HasRefused (Gap expected got) = IsJudgedNext (Leaves_gap expected got)
  HasRefused (Differs lsn) = IsJudgedNext (Is_different lsn)
  HasRefused (LogFull used need limit) = LacksLogRoom used need limit
  HasRefused DiskFault = ⊤
  HasRefused (Damaged file place) = ⊥
  HasRefused Memory = ⊤
  HasRefused (Stopped place) = ⊥

module _ {O : Type 0} (meaning : Bounds → Meaning O) where
  -- what the bytes leave that came, where this is the answer, or a fault of the disk
  pub record HasRefusedIn (p : Params) (first : List (Member O)) (bytes : List ℕ) (d : Disk) (s : StandbyView) (e : FollowErr) : Type 0 where
    pub following : IsFollowing meaning p first bytes d s
    pub refused : HasRefused (meaning_in meaning p) following.world.history s e

  -- after a piece that was followed: no whole frame is left, all is stable, and so many commands were accepted; where a frame
  -- ended no thin node is left that must be installed
  pub record HasFollowedPiece (p : Params) (first : List (Member O)) (bytes : List ℕ) (d : Disk) (before s : StandbyView) (n : ℕ) : Type 0 where
    pub following : IsFollowing meaning p first bytes d s
    pub between : IsBetweenPieces s
    pub stable : forced_in s.engine ≡ accepted_in s.engine
    pub count : n ≡ length (commands_of following.world.history)
    pub limited : (s.frames.passed ≡ before.frames.passed) ⊎ (must_relieve (meaning_in meaning p) following.world ≡ false)

  -- What a piece makes of a standby that follows, by its answer: it is followed, it was refused at its first refusal, or
  -- memory ran out: before any of it was taken, or later, and then it is kept.
  abbrev pub FollowsPiece : Params → List (Member O) → List ℕ → List ℕ → Disk → StandbyView → StandbyView → Result ℕ FollowErr → Type 0
  FollowsPiece p first bytes piece new before after (Ok n) = HasFollowedPiece p first (bytes ++ piece) new before after n
  FollowsPiece p first bytes piece new before after (Err DiskFault) = ⊤
  FollowsPiece p first bytes piece new before after (Err Memory) = ((after ≡ before) × IsFollowing meaning p first bytes new after) ⊎ IsFollowing meaning p first (bytes ++ piece) new after
  FollowsPiece p first bytes piece new before after (Err e) = HasRefusedIn p first (bytes ++ piece) new after e

  -- engine and files show a world to which this one leads
  abbrev pub IsLedTo : Params → Disk → EngineView → World O → Type 0
  IsLedTo p d engine w = (v : World O) × ShowsIn meaning p d engine v × FeedsTo (meaning_in meaning p) w v

  -- where it is done, the world that was shown leads to one that is
  abbrev pub FeedsThrough : {T : Type 0} → Disk → Disk → EngineView → EngineView → Result T FollowErr → Type 0
  FeedsThrough old new before after result = (p : Params) (w : World O) → ShowsIn meaning p old before w → OnOk result (IsLedTo p new after w)

  -- An image at a moment of a piece: nothing more is said, and it stands for what some first whole frames make of the first list,
  -- at least those that were stable as the piece came.
  pub record IsAtFrameEnd (p : Params) (old : Disk) (least : ℕ) (first : List (Member O)) (bytes : List ℕ) (files : Files) (said : List ℕ) : Type 0 where
    pub quiet : said ≡ old.said
    pub payloads : List (List ℕ)
    pub groups : List (List (Record O))
    pub rest : List ℕ
    pub split : bytes ≡ frames payloads ++ rest
    pub whole : AllByRecursion IsPayload payloads
    pub frames_are : AreFramesOf (meaning_in meaning p) payloads groups
    pub fine : first_refused (meaning_in meaning p) first (records_of groups) ≡ None
    pub enough : least ≤ length (commands_of (follows (meaning_in meaning p) first (records_of groups)))
    pub stands : Stands meaning p files (commands_of (follows (meaning_in meaning p) first (records_of groups)))

  -- What a piece makes of a standby that was not stopped.
  pub record IsFed (old new : Disk) (before after : StandbyView) (piece : List ℕ) (result : Result ℕ FollowErr) : Type 0 where
    pub time : Passes old new
    pub quiet : old.tells_files → new.said ≡ old.said
    pub params : params_of after.engine ≡ params_of before.engine
    pub attached : IsErrOf result DiskFault ⊎ (IsAttached meaning old before.engine → IsAttached meaning new after.engine)
    pub broken : (after.engine.broken ≡ true) ↔ IsErrOf result DiskFault
    pub fault : IsErrOf result DiskFault → Rises old.disk_faults new.disk_faults
    pub stopped : after.stopped ≡ stopped_by after.frames.passed result
    -- the piece is kept, but where memory ran out before any of it was taken
    pub taken : ((after ≡ before) × IsErrOf result Memory) ⊎ (taken_by after.frames ≡ taken_by before.frames + length piece)
    pub follows_it : (p : Params) (first : List (Member O)) (bytes : List ℕ) → IsFollowing meaning p first bytes old before → FollowsPiece p first bytes piece new before after result
    pub leads : FeedsThrough old new before.engine after.engine result
    pub images : old.tells_moments → (p : Params) (first : List (Member O)) (bytes : List ℕ) → IsFollowing meaning p first bytes old before
        → LeavesOnly old new (IsAtFrameEnd p old (forced_in before.engine) first (bytes ++ piece))
    pub undamaged : old.tells_files → IsAttached meaning old before.engine → (file : FileNo) (place : ℕ) → IsErrOf result (Damaged file place) → ⊥
