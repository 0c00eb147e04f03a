-- How far a standby has followed a stream.
use Rattle.std.specs.Prelude.{◌≡◌, ◌⊎◌, ◌<◌, ◌≤◌, ⊤, ℕ, false, List, [], ◌∷◌, ◌++◌, length, Option, None}
use Rattle.std.specs.List.{AllByRecursion}
use Rattle.disk_model.specs.Disk.{Disk}
use Rattle.oper_core.specs.Meaning.{Meaning}
use Rattle.oper_core.specs.declared.bounds.Bounds.{Bounds}
use Rattle.formats.specs.Log.{IsPayload}
use Rattle.formats.specs.Records.{IsRecord, payload_of, records_of}
use Rattle.formats.specs.declared.params.Params.{Params}
use Rattle.formats.specs.declared.record.Record.{Record}
use Rattle.frame_stream.specs.Frames.{frame, IsUnfinished, HasBadLength}
use Rattle.frame_stream.specs.FrameBuffer.{FrameBufferView, HasPassed}
use Rattle.explain_core.specs.History.{Member}
use Rattle.explain_core.specs.World.{World}
use Rattle.execution.specs.Following.{HasLsn}
use Rattle.execution.specs.Judged.{first_refused, follows}
use Rattle.store_engine.specs.Engine.{EngineView, ShowsIn}
use Rattle.store_engine.specs.Store.{meaning_in}

-- a standby, as contracts see it
pub record StandbyView : Type 0 where
  pub engine : EngineView
  pub frames : FrameBufferView
  -- of the payload of the frame in hand so many bytes were followed
  pub done : ℕ
  -- the place of the frame in which a refusal came
  pub stopped : Option ℕ

-- bytes are kept of which none begins to be followed, or a whole frame, of whose payload so many bytes were followed
abbrev pub IsWithinFrame : List ℕ → ℕ → Type 0
IsWithinFrame kept done = (done ≡ 0) ⊎ ((payload : List ℕ) × (later : List ℕ) × IsPayload payload × (kept ≡ frame payload ++ later) × (done ≤ length payload))

-- no group is open, and no backup is made
pub record IsAlone (engine : EngineView) : Type 0 where
  pub group : engine.group ≡ None
  pub copied : engine.copied ≡ None

-- no whole frame is left, and no frame is refused for its length
pub record IsBetweenPieces (s : StandbyView) : Type 0 where
  pub unfinished : IsUnfinished s.frames.kept
  pub fine : HasBadLength s.frames.kept → ⊥
  pub none_done : s.done ≡ 0
  pub none_waits : s.engine.parts.log.log.pending ≡ []

-- the standby may be kept up: it stands between two frames, and refused nothing
pub record MayBeKeptUp (s : StandbyView) : Type 0 where
  pub unbroken : s.engine.broken ≡ false
  pub between : s.frames.kept ≡ []
  pub fine : s.stopped ≡ None

module _ {O : Type 0} (m : Meaning O) where
  -- a record may stand in a frame: it is in its grammar, and no checkpoint
  abbrev pub MayBeShipped : Record O → Type 0
  MayBeShipped r = IsRecord m r × HasLsn r

  -- the payload has these records
  pub record IsFrameOf (payload : List ℕ) (records : List (Record O)) : Type 0 where
    pub is : payload ≡ payload_of m records
    pub shipped : AllByRecursion MayBeShipped records

  -- each payload has the records of its group
  abbrev pub AreFramesOf : List (List ℕ) → List (List (Record O)) → Type 0
  AreFramesOf [] [] = ⊤
  AreFramesOf (payload ∷ payloads) (records ∷ groups) = IsFrameOf payload records × AreFramesOf payloads groups
  AreFramesOf payloads groups = ⊥

  -- the kept bytes begin with the frame of these records
  abbrev pub BeginsWithFrameOf : List ℕ → List (Record O) → Type 0
  BeginsWithFrameOf kept records = (later : List ℕ) × IsPayload (payload_of m records) × (kept ≡ frame (payload_of m records) ++ later)

  -- of the kept bytes these records were followed, which the payload of a whole frame begins with
  pub record HasBegun (kept : List ℕ) (done : ℕ) (begun : List (Record O)) : Type 0 where
    pub count : done ≡ length (payload_of m begun)
    pub within : IsWithinFrame kept done
    pub front : 0 < done → (rest : List ℕ) × (later : List ℕ) × IsPayload (payload_of m begun ++ rest) × (kept ≡ frame (payload_of m begun ++ rest) ++ later)
    pub shipped : AllByRecursion MayBeShipped begun

module _ {O : Type 0} (meaning : Bounds → Meaning O) where
  -- A standby whose history was `first` as these bytes began to come: it shows a world whose history is what the records of the
  -- passed frames make of that, with those of the frame in hand that were followed, none of which is refused. What the passed
  -- frames make of it is stable, and nothing more, or, where the frame in hand was followed to its end, all of it.
  pub record IsFollowing (p : Params) (first : List (Member O)) (bytes : List ℕ) (d : Disk) (s : StandbyView) : Type 0 where
    pub payloads : List (List ℕ)
    pub groups : List (List (Record O))
    pub begun : List (Record O)
    pub passed : HasPassed bytes payloads s.frames
    pub frames_are : AreFramesOf (meaning_in meaning p) payloads groups
    pub in_hand : HasBegun (meaning_in meaning p) s.frames.kept s.done begun
    pub world : World O
    pub shows : ShowsIn meaning p d s.engine world
    pub fine : first_refused (meaning_in meaning p) first (records_of groups ++ begun) ≡ None
    pub members : world.history ≡ follows (meaning_in meaning p) first (records_of groups ++ begun)
    pub no_checkpoint : world.pending ≡ []
    pub forced : (world.forced ≡ length (follows (meaning_in meaning p) first (records_of groups)))
        ⊎ (BeginsWithFrameOf (meaning_in meaning p) s.frames.kept begun × (world.forced ≡ length world.history))

  -- a standby that follows goes on so, unless this holds
  abbrev pub StillFollows : Disk → Disk → StandbyView → StandbyView → Type 0 → Type 0
  StillFollows old new before after unless = (p : Params) (first : List (Member O)) (bytes : List ℕ) → IsFollowing p first bytes old before → unless ⊎ IsFollowing p first bytes new after
