-- What a call does, as a function of the world and of the log's length: the steps that it takes, the length after them, and
-- what stops them. Nothing in it is chosen.
pub mod Laws
pub mod Buffered
pub mod Growth
use Rattle.std.specs.Prelude.{◌+◌, ◌*◌, ◌^◌, ℕ, nat_lt, nat_le, Bool, true, false, ◌&&◌, ◌||◌, if◌then◌else◌, Option, None, Some, List, [], ◌∷◌, ◌++◌, length, drop}
use Rattle.oper_core.specs.Meaning.{Meaning}
use Rattle.explain_core.specs.History.{Member, with_lsn}
use Rattle.explain_core.specs.History.Member.{Command, Identity}
use Rattle.explain_core.specs.Turns.{count_below}
use Rattle.explain_core.specs.World.{World, Starts, Step, run, end_of}
use Rattle.explain_core.specs.World.Step.{Append, Block_gate, Slot_gate, Removal}

-- why a course ends early: a record or a log has no room, or no LSN is left for a record, or no epoch for a log
pub data Stop : Type 0 where
  Through : Stop
  Full : (used need limit : ℕ) → Stop
  At_end : (lsn : ℕ) → Stop
  Worn : (epoch : ℕ) → Stop

-- nothing stops it
abbrev pub is_through : Stop → Bool
is_through Through = true
is_through (Full used need limit) = false
is_through (At_end lsn) = false
is_through (Worn epoch) = false

pub record Course (O : Type 0) : Type 0 where
  pub steps : List (Step O)
  -- the log's length after them, with what waits
  pub used : ℕ
  pub stop : Stop

abbrev pub course : {O : Type 0} → List (Step O) → ℕ → Stop → Course O
course steps used stop = record { steps = steps; used = used; stop = stop }

-- one course, and after it another unless the first is stopped
abbrev pub behind : {O : Type 0} → Course O → Course O → Stop → Course O
behind first second Through = course (first.steps ++ second.steps) second.used second.stop
behind first second (Full used need limit) = first
behind first second (At_end lsn) = first
behind first second (Worn epoch) = first

-- one course, and after it the one that begins in the world and with the length that the first leaves
abbrev pub and_then : {O : Type 0} → Meaning O → World O → Course O → (World O → ℕ → Course O) → Course O
and_then m w first next = behind first (next (run m w first.steps) first.used) first.stop

-- the member, if there is one, is an identity write
abbrev pub is_identity_some : {O : Type 0} → Option (Member O) → Bool
is_identity_some None = false
is_identity_some (Some (Command op)) = false
is_identity_some (Some (Identity x value)) = true

-- that with the LSN n is one
abbrev pub is_identity_at : {O : Type 0} → List (Member O) → ℕ → Bool
is_identity_at history n = is_identity_some (with_lsn history n)

-- a member's record has so many bytes, an identity write's with a value of n bytes
abbrev pub identity_length : ℕ → ℕ
identity_length n = 17 + n

abbrev pub record_length : {O : Type 0} → Meaning O → Member O → ℕ
record_length m (Command op) = 9 + length (m.code op)
record_length m (Identity x value) = identity_length (length value)

abbrev pub records_length : {O : Type 0} → Meaning O → List (Member O) → ℕ
records_length m [] = 0
records_length m (member ∷ members) = record_length m member + records_length m members

-- a checkpoint's record has so many bytes: one start for each object whose redo begins below the next LSN
abbrev pub table_length : {O : Type 0} → Meaning O → Starts → ℕ
table_length m t = 13 + 12 * count_below m.objects (λ x. nat_lt (t.redo_from x) t.next)

abbrev pub tables_length : {O : Type 0} → Meaning O → List Starts → ℕ
tables_length m [] = 0
tables_length m (t ∷ tables) = table_length m t + tables_length m tables

module _ {O : Type 0} (m : Meaning O) where
  -- something waits for a force
  abbrev pub waits : World O → Bool
  waits w = nat_lt w.forced (length w.history) || nat_lt 0 (length w.pending)

  -- so many bytes wait
  abbrev pub buffered : World O → ℕ
  buffered w = records_length m (drop w.forced w.history) + tables_length m w.pending

  -- the log's length with a record of n bytes more: the first that waits begins a block, whose head has 5 bytes
  abbrev pub grown : World O → ℕ → ℕ → ℕ
  grown w used n = used + (if waits w then n else n + 5)

  -- a force, where something waits
  abbrev pub force_steps : World O → List (Step O)
  force_steps w = if waits w then Block_gate ∷ [] else []

  abbrev pub force_course : World O → ℕ → Course O
  force_course w used = course (force_steps w) used Through

  -- before a record of n bytes: where the block would pass its greatest length, what waits is forced
  abbrev pub room_steps : World O → ℕ → List (Step O)
  room_steps w n = if nat_lt (2 ^ 30) (buffered w + n) then force_steps w else []

  -- a record of n bytes goes in where it has room below the limit, and an LSN where it takes one; else what waits is
  -- forced
  abbrev pub placed : World O → ℕ → ℕ → ℕ → Bool → List (Step O) → Course O
  placed w used limit n with_lsn steps =
      if nat_lt limit (grown w used n) then course (force_steps w) used (Full used (n + 5) limit)
      else (if with_lsn && nat_le (2 ^ 62) (end_of w) then course (force_steps w) used (At_end (end_of w)) else course steps (grown w used n) Through)

  -- so many bytes has the value in the cache
  abbrev pub cached_length : World O → ℕ → ℕ
  cached_length w x = length (w.cache x).value

  -- an identity write of x, with the value in the cache
  abbrev pub identity_steps : ℕ → World O → List (Step O)
  identity_steps x w = Append (Identity x (w.cache x).value) ∷ []

  -- it goes in behind what waits
  abbrev pub written_course : ℕ → World O → ℕ → Course O
  written_course x w used = course (identity_steps x w) (grown w used (identity_length (cached_length w x))) Through

  -- the one object of the work is flushed, if there is one
  abbrev pub flush_steps : (ℕ → Bool) → List ℕ → List (Step O)
  flush_steps node [] = []
  flush_steps node (x ∷ objects) = Slot_gate node x ∷ []

  -- the object is flushed, and the node removed
  abbrev pub removal_steps : (ℕ → Bool) → List ℕ → List (Step O)
  removal_steps node objects = flush_steps node objects ++ Removal node ∷ []
