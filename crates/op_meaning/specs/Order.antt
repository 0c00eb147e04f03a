-- The records of a value, and their order.
use Rattle.std.specs.Prelude.{ℕ, ◌*◌, ◌/◌, List, [], ◌∷◌, length, map, take, drop, if◌then◌else◌}
use Rattle.std.specs.Cmp.Lexicographic.{slice_cmp}
use Rattle.std.specs.List.{range_with_len}
use Rattle.std.specs.declared.cmp.Ordering.{Ordering}
use Rattle.std.specs.Ordering.{is_gt, nat_cmp}

-- the record of w bytes at a place, where they are counted from the front
abbrev pub record_at : ℕ → List ℕ → ℕ → List ℕ
record_at w x i = take w (drop (i * w) x)

-- the records of w bytes; a rest that is shorter is none
abbrev pub records : ℕ → List ℕ → List (List ℕ)
records w x = map (record_at w x) (range_with_len 0 (length x / w))

-- the first byte that differs decides
abbrev pub byte_order : List ℕ → List ℕ → Ordering
byte_order = slice_cmp nat_cmp

-- a record after those that come before it
abbrev pub placed : List ℕ → List (List ℕ) → List (List ℕ)
placed r [] = r ∷ []
placed r (s ∷ rs) = if is_gt (byte_order r s) then s ∷ placed r rs else r ∷ s ∷ rs

-- the records in byte order: the one sorted permutation of them
abbrev pub in_order : List (List ℕ) → List (List ℕ)
in_order [] = []
in_order (r ∷ rs) = placed r (in_order rs)
