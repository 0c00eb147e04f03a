-- What a command reads, and values that are lent from the cache.
use Rattle.std.specs.Prelude.{◌≡◌, ℕ, false, List, [], map, Option, None, Some}
use Rattle.std.specs.Option.{option_map}
use Rattle.oper_core.specs.State.{State, is_among}
use Rattle.dirty_cache.specs.Contents.{Contents, held, is_dirty, KeepsRooms}
use Rattle.dirty_cache.specs.Places.{bytes_or}

-- the values that are cached; that of an object that is not cached is empty
abbrev pub cached_values : Contents → State
cached_values cache x = bytes_or (held cache x) []

-- the values of the objects that a command reads: copies, or else what the cache has
abbrev pub inputs_in : Contents → List ℕ → Option (List (List ℕ)) → List (List ℕ)
inputs_in cache objects None = map (cached_values cache) objects
inputs_in cache objects (Some copies) = copies

-- the cache is as it was, with all its room, but for the values of these objects
pub record KeepsOthers (objects : List ℕ) (old new : Contents) : Type 0 where
  pub lsns_kept : (x : ℕ) → option_map (λ e. e.lsn) (held new x) ≡ option_map (λ e. e.lsn) (held old x)
  pub others : (x : ℕ) → is_among x objects ≡ false → held new x ≡ held old x
  pub dirty : (x : ℕ) → is_dirty new x ≡ is_dirty old x
  pub rooms : KeepsRooms old new
