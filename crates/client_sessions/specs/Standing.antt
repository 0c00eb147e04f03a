-- What proofs know of a store that serves, and what its calls do.
use Rattle.std.specs.Prelude.{◌≡◌, ◌⊎◌, ℕ, Contains, List, OnOk, Result, ◌++◌, map, take}
use Rattle.std.specs.List.{flat_map}
use Rattle.named_words.specs.Effects.{Names, Sizes, after}
use Rattle.named_words.specs.Requests.{NamesAsked}
use Rattle.resp_words.specs.Replies.{Said, reply_bytes}
use Rattle.client_sessions.specs.Answers.{AreReplies, Choice, name_in, outcome_of}

-- At a moment these bytes had come, these had been said, and a crash might have left these names.
pub record Moment : Type 0 where
  pub heard : List ℕ
  pub said : List ℕ
  pub names : Names

pub record Standing : Type 0 where
  pub sizes : Sizes
  -- the names, and their values, after all requests that were done
  pub names : Names
  -- those that a crash leaves now
  pub stable : Names
  -- all bytes that came, and all that were said
  pub heard : List ℕ
  pub said : List ℕ
  -- all moments so far
  pub moments : List Moment

-- this is one of its moments
abbrev pub Had : Standing → List ℕ → List ℕ → Names → Type 0
Had it heard said names = Contains it.moments (record { heard = heard; said = said; names = names })

-- A store as contracts see it. A store on a machine that does not report what it does stands in no way, and nothing is claimed of it.
pub record View (S : Type 0) : Type 1 where
  -- the moment from which it counts its moments
  pub Origin : Type 0
  -- it stands so
  pub stands : S → Origin → Standing → Type 0
  -- whatever a crash at any moment from that one on might have left is one of these moments
  pub counts : S → Origin → List Moment → Type 0

-- What holds of each of them: where it stands it counts its moments, and what a crash leaves now is one of them.
pub record IsView {S : Type 0} (view : View S) : Type 0 where
  pub counts : (store : S) (origin : view.Origin) (it : Standing) → view.stands store origin it → view.counts store origin it.moments
  pub present : (store : S) (origin : view.Origin) (it : Standing) → view.stands store origin it → Had it it.heard it.said it.stable

module _ {S : Type 0} (view : View S) (old new : S) {T E : Type 0} (result : Result T E) where
  -- A call on a store that stood so has led to this. Where it is done the store stands again; where it ends early nothing more is known
  -- of the store than all moments until then.
  pub record Led (To : Standing → Standing → Type 0) (origin : view.Origin) (was : Standing) : Type 0 where
    pub next : Standing
    pub counts : view.counts new origin next.moments
    pub stands : OnOk result (view.stands new origin next)
    pub is : To was next

  -- so from each that may have stood
  abbrev pub Leads : (Standing → Standing → Type 0) → Type 0
  Leads To = (origin : view.Origin) (was : Standing) → view.stands old origin was → Led To origin was

-- no moment is forgotten
abbrev pub Remembers : Standing → Standing → Type 0
Remembers old new = (heard said : List ℕ) (names : Names) → Had old heard said names → Had new heard said names

-- at each moment of a call either what was before, or this
abbrev pub Passes : Standing → Standing → (List ℕ → List ℕ → Names → Type 0) → Type 0
Passes old new P = (heard said : List ℕ) (names : Names) → Had new heard said names → Had old heard said names ⊎ P heard said names

-- Nothing comes, nothing is said, and a crash leaves what it would have left before: so it is within a group.
pub record Keeps (old new : Standing) : Type 0 where
  pub sizes : new.sizes ≡ old.sizes
  pub stable : new.stable ≡ old.stable
  pub heard : new.heard ≡ old.heard
  pub said : new.said ≡ old.said
  pub moments : new.moments ≡ old.moments

-- a request is done: exactly what it means, by some choice; these names were touched, and its replies put behind what was there
pub record Performs (asked : NamesAsked) (old new : Standing) (changed_names : List (List ℕ)) (before behind : List ℕ) : Type 0 where
  pub choice : Choice
  pub names : new.names ≡ after old.names (outcome_of old.sizes choice asked old.names).0
  pub touched : changed_names ≡ map name_in (outcome_of old.sizes choice asked old.names).0
  pub said : behind ≡ before ++ flat_map reply_bytes (outcome_of old.sizes choice asked old.names).1

-- the server tells something of itself, in one reply
pub record Describes (old new : Standing) (before behind : List ℕ) : Type 0 where
  pub told : List Said
  pub one : AreReplies 1 told
  pub names : new.names ≡ old.names
  pub said : behind ≡ before ++ flat_map reply_bytes told

-- a piece more comes, put behind what was there
pub record Hears (old new : Standing) (piece : List ℕ) : Type 0 where
  pub sizes : new.sizes ≡ old.sizes
  pub names : new.names ≡ old.names
  pub heard : new.heard ≡ old.heard ++ piece
  pub said : new.said ≡ old.said
  pub stable : new.stable ≡ old.stable
  pub moments : Passes old new (λ heard said names. (heard ≡ new.heard) × (said ≡ old.said) × (names ≡ old.stable))
  pub remembers : Remembers old new

-- The group of all requests since the last one is made stable: until the call ends a crash leaves what it would have left before,
-- or all of the group; and behind it, where it is done, the group.
pub record Commits (is_done : Type 0) (old new : Standing) : Type 0 where
  pub sizes : new.sizes ≡ old.sizes
  pub names : new.names ≡ old.names
  pub heard : new.heard ≡ old.heard
  pub said : new.said ≡ old.said
  pub stable : is_done → new.stable ≡ new.names
  pub moments : Passes old new (λ heard said names. (heard ≡ old.heard) × (said ≡ old.said) × ((names ≡ old.stable) ⊎ (names ≡ old.names)))
  pub remembers : Remembers old new

-- bytes are said, of which a crash may cut off the last ones
pub record Says (is_done : Type 0) (bytes : List ℕ) (old new : Standing) : Type 0 where
  pub sizes : new.sizes ≡ old.sizes
  pub names : new.names ≡ old.names
  pub heard : new.heard ≡ old.heard
  pub said : is_done → new.said ≡ old.said ++ bytes
  pub stable : new.stable ≡ old.stable
  pub moments : Passes old new (λ heard said names. (heard ≡ old.heard) × ((n : ℕ) × (said ≡ old.said ++ take n bytes)) × (names ≡ old.stable))
  pub remembers : Remembers old new
