-- How many objects may be in memory at a time.
use Rattle.std.specs.Prelude.{ℕ, ◌/◌, max, min}
use Rattle.formats.specs.declared.params.Params.{Params}

-- so many objects of a store have at most so many bytes together, however long their values are, or `least`, if that is more
abbrev pub objects_within : ℕ → ℕ → Params → ℕ
objects_within least bytes p = max least (bytes / p.cap)

-- the same, where the store has so many
abbrev pub clean_limit : ℕ → ℕ → Params → ℕ
clean_limit least bytes p = min (objects_within least bytes p) p.objects
