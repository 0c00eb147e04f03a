-- The records of a stream, compared with those that a store has already.
use Rattle.std.specs.Prelude.{◌≡◌, ◌≢◌, ◌<◌, ◌≤◌, ◌+◌, ◌-◌, ⊤, ℕ, Bool, true, false, nat_eq, if◌then◌else◌, List, [], ◌∷◌, ◌++◌, drop, length, map, slice_index_or, Result, Ok, Err}
use Rattle.std.specs.List.{AllByRecursion}
use Rattle.oper_core.specs.Meaning.{Meaning}
use Rattle.oper_core.specs.declared.bounds.Bounds.{Bounds}
use Rattle.formats.specs.Log.{IsPayload}
use Rattle.formats.specs.Objects.{bounds_of}
use Rattle.formats.specs.Records.{AreRecords, payload_of, record_code, records_of}
use Rattle.formats.specs.declared.params.Params.{Params}
use Rattle.formats.specs.declared.record.Record.{Record}
use Rattle.formats.specs.declared.record.Record.TheVariants.{Command, Identity, Checkpoint}
use Rattle.frame_stream.specs.Frames.{frame, frames}
use Rattle.frame_stream.specs.FrameBuffer.{FrameBufferView, HasPassed}
use Rattle.explain_core.specs.World.{World}
use Rattle.execution.specs.Following.{HasLsn}
use Rattle.standing.specs.Members.{members_of}
use Rattle.standby_node.specs.OnePrimary.{stable_in}
use Rattle.standby_node.specs.Standby.{AreFramesOf, IsFrameOf, MayBeShipped}
use Rattle.standby_node.specs.declared.compare_err.CompareErr.{CompareErr}
use Rattle.standby_node.specs.declared.compare_err.CompareErr.TheVariants.{Differs, Unknown, Memory}

-- why a record of a stream is not passed over: the store has another one with its LSN, or its log begins behind it
pub data Unlike : Type 0 where
  other : (lsn : ℕ) → Unlike
  gone : (lsn : ℕ) → Unlike

-- the LSN of a record that has one
abbrev pub lsn_in : {O : Type 0} → Record O → ℕ
lsn_in (Command lsn op) = lsn
lsn_in (Identity lsn x value) = lsn
lsn_in (Checkpoint table) = 0

-- A store has the records with these codes, from the LSN `base` on, one after the other.
module _ (base : ℕ) where
  -- A record with this LSN and this code is no other one than the store's: it comes later, or it is there.
  pub record IsSame (codes : List (List ℕ)) (lsn : ℕ) (code : List ℕ) : Type 0 where
    pub reached : base ≤ lsn
    pub there : lsn < base + length codes → slice_index_or codes (lsn - base) [] ≡ code

  -- it is another one, or its place is no longer in the log
  abbrev pub IsUnlike : List (List ℕ) → ℕ → List ℕ → Unlike → Type 0
  IsUnlike codes lsn code (other n) = (n ≡ lsn) × (base ≤ lsn) × (lsn < base + length codes) × (slice_index_or codes (lsn - base) [] ≢ code)
  IsUnlike codes lsn code (gone n) = (n ≡ lsn) × (lsn < base)

  -- the codes behind it: it is taken where it comes next
  abbrev pub with_code : List (List ℕ) → ℕ → List ℕ → List (List ℕ)
  with_code codes lsn code = if nat_eq lsn (base + length codes) then codes ++ code ∷ [] else codes

  -- what the comparison of one answers
  abbrev pub IsCompared : List (List ℕ) → List (List ℕ) → ℕ → List ℕ → Result (Unit {0}) CompareErr → Type 0
  IsCompared old new lsn code (Ok done) = IsSame old lsn code × (new ≡ with_code old lsn code)
  IsCompared old new lsn code (Err (Differs n)) = IsUnlike old lsn code (other n)
  IsCompared old new lsn code (Err (Unknown n)) = IsUnlike old lsn code (gone n)
  IsCompared old new lsn code (Err Memory) = ⊤

  module _ {O : Type 0} (m : Meaning O) where
    -- the codes behind records
    abbrev pub with_all : List (List ℕ) → List (Record O) → List (List ℕ)
    with_all codes [] = codes
    with_all codes (r ∷ records) = with_all (with_code codes (lsn_in r) (record_code m r)) records

    -- Each of these records is the store's own where the store has one with its LSN, one of these before it among them.
    abbrev pub AreSame : List (List ℕ) → List (Record O) → Type 0
    AreSame codes [] = ⊤
    AreSame codes (r ∷ records) = IsSame codes (lsn_in r) (record_code m r) × AreSame (with_code codes (lsn_in r) (record_code m r)) records

    -- so are those of all whole frames of records with which these bytes begin
    abbrev pub AreAllSame : List (List ℕ) → List ℕ → Type 0
    AreAllSame codes bytes = (payloads : List (List ℕ)) (groups : List (List (Record O))) (rest : List ℕ) → AllByRecursion IsPayload payloads → AreFramesOf m payloads groups → bytes ≡ frames payloads ++ rest → AreSame codes (records_of groups)

    -- some first records of a payload are the same, and the next one is not
    pub record IsUnlikeWithin (codes : List (List ℕ)) (payload : List ℕ) (why : Unlike) : Type 0 where
      pub begun : List (Record O)
      pub next : Record O
      pub rest : List ℕ
      pub shipped : AllByRecursion (MayBeShipped m) begun
      pub next_shipped : MayBeShipped m next
      pub split : payload ≡ payload_of m begun ++ (record_code m next ++ rest)
      pub same : AreSame codes begun
      pub unlike : IsUnlike (with_all codes begun) (lsn_in next) (record_code m next) why

    -- what the comparison of a payload answers: whether it has records only
    abbrev pub IsPayloadCompared : List (List ℕ) → List (List ℕ) → List ℕ → Result Bool CompareErr → Type 0
    IsPayloadCompared old new payload (Ok true) = (records : List (Record O)) × IsFrameOf m payload records × AreSame old records × (new ≡ with_all old records)
    IsPayloadCompared old new payload (Ok false) = (new ≡ old) × ((records : List (Record O)) → IsFrameOf m payload records → ⊥)
    IsPayloadCompared old new payload (Err (Differs n)) = IsUnlikeWithin old payload (other n)
    IsPayloadCompared old new payload (Err (Unknown n)) = IsUnlikeWithin old payload (gone n)
    IsPayloadCompared old new payload (Err Memory) = ⊤

    -- Of a stream's bytes some whole frames have records that are the same, and a record of the next one is not.
    pub record IsUnlikeIn (codes : List (List ℕ)) (bytes : List ℕ) (why : Unlike) : Type 0 where
      pub payloads : List (List ℕ)
      pub groups : List (List (Record O))
      pub payload : List ℕ
      pub more : List ℕ
      pub whole : AllByRecursion IsPayload payloads
      pub frames_are : AreFramesOf m payloads groups
      pub is_payload : IsPayload payload
      pub split : bytes ≡ frames payloads ++ (frame payload ++ more)
      pub same : AreSame codes (records_of groups)
      pub unlike : IsUnlikeWithin (with_all codes (records_of groups)) payload why

    -- so many bytes come up to the end of the frame with that record
    abbrev pub ends_at : {codes : List (List ℕ)} {bytes : List ℕ} {why : Unlike} → IsUnlikeIn codes bytes why → ℕ
    ends_at it = length (frames it.payloads ++ frame it.payload)

-- what a stream is compared with, as contracts see it
pub record MirrorView : Type 0 where
  pub bounds : Bounds
  -- the LSN of the first record of the store's log
  pub base : ℕ
  -- the codes of its records, and of those that the stream brought behind them
  pub codes : List (List ℕ)
  pub frames : FrameBufferView

-- no frame of records begins the bytes
abbrev pub BeginsNoFrame : {O : Type 0} → Meaning O → List ℕ → Type 0
BeginsNoFrame {O} m kept = (payload later : List ℕ) (records : List (Record O)) → IsPayload payload → IsFrameOf m payload records → kept ≡ frame payload ++ later → ⊥

module _ {O : Type 0} (m : Meaning O) where
  -- Of a stream these bytes came, and the records of its first whole frames are the same as those of a store with these codes.
  pub record HasCompared (first : List (List ℕ)) (bytes : List ℕ) (it : MirrorView) : Type 0 where
    pub payloads : List (List ℕ)
    pub groups : List (List (Record O))
    pub passed : HasPassed bytes payloads it.frames
    pub frames_are : AreFramesOf m payloads groups
    pub same : AreSame it.base m first (records_of groups)
    pub codes_are : it.codes ≡ with_all it.base m first (records_of groups)

  -- what the comparison of the next frame answers: its records are the same, or it is none of records, or one of them is not the same
  abbrev pub ComparesFrame : List (List ℕ) → List ℕ → MirrorView → Result Bool CompareErr → Type 0
  ComparesFrame first bytes it (Ok true) = HasCompared first bytes it
  ComparesFrame first bytes it (Ok false) = HasCompared first bytes it × BeginsNoFrame m it.frames.kept
  ComparesFrame first bytes it (Err (Differs n)) = IsUnlikeIn it.base m first bytes (other n)
  ComparesFrame first bytes it (Err (Unknown n)) = IsUnlikeIn it.base m first bytes (gone n)
  ComparesFrame first bytes it (Err Memory) = ⊤

  -- what the comparison of a piece, with which these bytes came, answers: all whole frames of records are the same, or one is not
  abbrev pub ComparesPiece : List (List ℕ) → List ℕ → MirrorView → Result (Unit {0}) CompareErr → Type 0
  ComparesPiece first bytes it (Ok done) = HasCompared first bytes it × BeginsNoFrame m it.frames.kept
  ComparesPiece first bytes it (Err (Differs n)) = IsUnlikeIn it.base m first bytes (other n)
  ComparesPiece first bytes it (Err (Unknown n)) = IsUnlikeIn it.base m first bytes (gone n)
  ComparesPiece first bytes it (Err Memory) = ⊤

  -- These are the codes of the stable records that a store's log has in this world, from its base on: each has an LSN, so none of
  -- them is a checkpoint.
  pub record AreCodesIn (w : World O) (codes : List (List ℕ)) : Type 0 where
    pub records : List (Record O)
    pub placed : AreRecords m w.base w.base records
    pub with_lsns : AllByRecursion HasLsn records
    pub members : members_of records ≡ drop (w.base - 1) (stable_in w)
    pub codes_are : codes ≡ map (record_code m) records

  -- it holds the stable records of the log of a store in this world
  pub record IsMirrorOf (p : Params) (w : World O) (it : MirrorView) : Type 0 where
    pub bounds_are : it.bounds ≡ bounds_of p
    pub base_is : it.base ≡ w.base
    pub codes_are : AreCodesIn w it.codes
