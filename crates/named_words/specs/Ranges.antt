-- Parts of values.
use Rattle.std.specs.Prelude.{ℕ, ℤ, suc, pos, negsuc, ◌-◌, Bool, false, nat_lt, List, [], length, take, drop, if◌then◌else◌}

-- a place among so many bytes: a negative one counts from their end, and is not before the first
abbrev pub place_in : ℕ → ℤ → ℕ
place_in long (pos n) = n
place_in long (negsuc n) = long - suc n

-- two places from the end, of which the first is behind the second
abbrev pub are_crossed : ℤ → ℤ → Bool
are_crossed (negsuc m) (negsuc n) = nat_lt m n
are_crossed from to = false

-- The bytes from one place to another, both among them. Of crossed places there are none, even where both are the first byte's.
abbrev pub part_of : List ℕ → ℤ → ℤ → List ℕ
part_of value from to =
    let start = place_in (length value) from in
    if are_crossed from to then [] else take (suc (place_in (length value) to) - start) (drop start value)
