-- What one primary ships, from whichever LSNs and between whichever of its calls, and a standby to which some of that comes.
use Rattle.std.specs.Prelude.{◌≡◌, ◌-◌, ◌+◌, ◌≤◌, ◌++◌, ⊤, ℕ, List, drop, length, take}
use Rattle.std.specs.List.{AllByRecursion, concat}
use Rattle.oper_core.specs.Meaning.{AreWithin, Meaning}
use Rattle.oper_core.specs.declared.bounds.Bounds.{Bounds}
use Rattle.formats.specs.Log.{Header}
use Rattle.formats.specs.Objects.{bounds_of}
use Rattle.formats.specs.Records.{IsRecordLog, records_of}
use Rattle.formats.specs.declared.params.Params.{Params}
use Rattle.formats.specs.declared.record.Record.{Record}
use Rattle.frame_stream.specs.Frames.{frames}
use Rattle.log_records.specs.BlockReader.{payloads_from}
use Rattle.explain_core.specs.History.{Member}
use Rattle.explain_core.specs.Sound.{IsSound}
use Rattle.explain_core.specs.World.{Step, World, run}
use Rattle.standing.specs.Members.{members_of}
use Rattle.store_engine.specs.Store.{meaning_in}
use Rattle.standby_node.specs.declared.follow_err.FollowErr.{FollowErr}
use Rattle.standby_node.specs.declared.follow_err.FollowErr.TheVariants.{Gap}

-- all of a list begins with its front
abbrev pub IsFront : {A : Type 0} → List A → List A → Type 0
IsFront {A} front all = (more : List A) × (all ≡ front ++ more)

-- it is answered that a record's LSN leaves a gap
abbrev pub IsGap : FollowErr → Type 0
IsGap (Gap expected got) = ⊤
IsGap e = ⊥

-- the stable members of a world
abbrev pub stable_in : {O : Type 0} → World O → List (Member O)
stable_in w = take w.forced w.history

module _ {O : Type 0} (m : Meaning O) where
  -- A store in this world ships these bytes from an LSN on: its log, which has the stable members from the world's base on, begins
  -- no later, and they are the frames of what the log's blocks have from there.
  pub record IsShipped (w : World O) (from : ℕ) (bytes : List ℕ) : Type 0 where
    pub file : List ℕ
    pub header : Header
    pub groups : List (List (Record O))
    pub log : IsRecordLog m header groups file
    pub base : header.base ≡ w.base
    pub members : members_of (records_of groups) ≡ drop (w.base - 1) (stable_in w)
    pub reached : w.base ≤ from
    pub frames_are : bytes ≡ frames (payloads_from m from groups)

  -- A store that came to this world has shipped these bytes: in a world from which steps led to this one, trims and crashes among
  -- them.
  pub record WasShipped (last : World O) (bytes : List ℕ) : Type 0 where
    pub world : World O
    pub sound : IsSound m world
    pub steps : List (Step O)
    pub leads : run m world steps ≡ last
    pub from : ℕ
    pub shipped : IsShipped world from bytes

module _ {O : Type 0} (meaning : Bounds → Meaning O) where
  -- A standby with the numbers q, and a primary in this world, whose numbers p are not larger. The standby began with a front of
  -- what is stable of the primary, and these bytes came to it, in order: a front of pieces that the primary has shipped, from
  -- whichever LSNs, some of them twice, in another order, or not at all.
  pub record IsFedBy (p q : Params) (w : World O) (first : List (Member O)) (bytes : List ℕ) : Type 0 where
    pub within : AreWithin (bounds_of p) (bounds_of q)
    pub sound : IsSound (meaning_in meaning p) w
    pub begins : IsFront first (stable_in w)
    pub pieces : List (List ℕ)
    pub shipped : AllByRecursion (WasShipped (meaning_in meaning p) w) pieces
    pub came : IsFront bytes (concat pieces)

  -- The same, where the bytes are what the primary ships now, from an LSN up to the next one of the standby.
  pub record ShipsOnTo (p q : Params) (w : World O) (first : List (Member O)) (bytes : List ℕ) : Type 0 where
    pub within : AreWithin (bounds_of p) (bounds_of q)
    pub sound : IsSound (meaning_in meaning p) w
    pub begins : IsFront first (stable_in w)
    pub from : ℕ
    pub near : from ≤ length first + 1
    pub shipped : IsShipped (meaning_in meaning p) w from bytes
