-- What contracts see of a cache.
use Rattle.std.specs.Prelude.{◌≡◌, ℕ, Bool, false, List, [], ◌∷◌, Option, None, IsSome, is_some, nat_eq, length, take, ◌⊎◌}
use Rattle.std.specs.Borrow.{Bor}
use Rattle.std.specs.List.{IsDistinct, list_any}
use Rattle.std.specs.Map.{keys_of, lookup, remove_entry}
use Rattle.std.specs.Option.{option_map, option_map_or, option_or}
use Rattle.oper_core.specs.Cell.{Cell}
use Rattle.dirty_cache.specs.declared.entry.Entry.{Entry}
use Rattle.dirty_cache.specs.Places.{entry_at, count_of, with_bytes}

-- what an entry holds of its object
abbrev pub cell_of_entry : Entry → Cell
cell_of_entry e = record { lsn = e.lsn; value = e.bytes }

-- the objects that have a place for a dirty entry, each with the entry, if it is dirty; the clean entries, the one used
-- last in front; and how many clean entries there may be
pub record Contents : Type 0 where
  pub places : List (ℕ × Option Entry)
  pub clean : List (ℕ × Entry)
  pub limit : ℕ

abbrev pub contents : List (ℕ × Option Entry) → List (ℕ × Entry) → ℕ → Contents
contents places clean limit = record { places = places; clean = clean; limit = limit }

-- nothing is cached
abbrev pub empty : ℕ → Contents
empty limit = contents [] [] limit

module _ (c : Contents) where
  -- the entry of x, if it is dirty
  abbrev pub dirty_entry : ℕ → Option Entry
  dirty_entry x = entry_at c.places x

  -- the cache as a map: the entry of x
  abbrev pub held : ℕ → Option Entry
  held x = option_or (dirty_entry x) (lookup (nat_eq x) c.clean)

  abbrev pub is_dirty : ℕ → Bool
  is_dirty x = is_some (dirty_entry x)

  -- how many objects are dirty
  abbrev pub dirty_count : ℕ
  dirty_count = count_of c.places

  -- the objects are the dirty ones, each once
  pub record AreDirty (objects : List ℕ) : Type 0 where
    pub apart : IsDistinct nat_eq objects
    pub exactly : (x : ℕ) → list_any (nat_eq x) objects ≡ is_dirty x

  abbrev pub clean_count : ℕ
  clean_count = length c.clean

  -- the clean entries with that of x in front; the last one leaves where there are too many
  abbrev pub in_front : ℕ → Entry → List (ℕ × Entry)
  in_front x e = take c.limit ((x, e) ∷ remove_entry (nat_eq x) c.clean)

  -- the clean entries with that of x, if there is one, moved to the front
  abbrev pub used : ℕ → List (ℕ × Entry)
  used x = option_map_or (λ e. (x, e) ∷ remove_entry (nat_eq x) c.clean) (lookup (nat_eq x) c.clean) c.clean

  -- there is a place for a dirty entry of x; it may hold one
  abbrev pub HasRoom : ℕ → Type 0
  HasRoom x = IsSome (lookup (nat_eq x) c.places)

module _ (old new : Contents) where
  -- the entry of y is the same, and it is dirty exactly if it was
  pub record IsSame (y : ℕ) : Type 0 where
    pub entry : held new y ≡ held old y
    pub dirty : is_dirty new y ≡ is_dirty old y

  -- the same, but a clean entry may be forgotten
  pub record IsSameOrForgotten (y : ℕ) : Type 0 where
    pub entry : (held new y ≡ held old y) ⊎ ((is_dirty old y ≡ false) × (held new y ≡ None))
    pub dirty : is_dirty new y ≡ is_dirty old y

  -- the entry of each object is the same, and as many are dirty and clean
  pub record IsUnchanged : Type 0 where
    pub each : (y : ℕ) → IsSame y
    pub dirty : dirty_count new ≡ dirty_count old
    pub clean : clean_count new ≡ clean_count old
    pub limit : new.limit ≡ old.limit

  -- all is the same, the order of the clean entries too, but that the entry of x, if there is one, has this value
  pub record IsSwapped (x : ℕ) (bytes : List ℕ) : Type 0 where
    pub entry : held new x ≡ option_map (with_bytes bytes) (held old x)
    pub others : (y : ℕ) → nat_eq x y ≡ false → held new y ≡ held old y
    pub dirty : (y : ℕ) → is_dirty new y ≡ is_dirty old y
    pub count : dirty_count new ≡ dirty_count old
    pub order : keys_of new.clean ≡ keys_of old.clean
    pub limit : new.limit ≡ old.limit

  -- no room is taken away
  abbrev pub KeepsRooms : Type 0
  KeepsRooms = (y : ℕ) → HasRoom old y → HasRoom new y

-- what `view` answers, as an entry
abbrev pub shown : Option (ℕ × Bor (List ℕ)) → Option Entry
shown answer = option_map (λ a. record { lsn = a.0; bytes = a.1.now }) answer
