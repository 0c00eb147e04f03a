-- Short lists of bytes: the keys of nodes, and the values beside them.
use Rattle.std.specs.Prelude.{ℕ, Bool, nat_le, ◌&&◌, if◌then◌else◌, Option, None, Some, List, [], ◌∷◌, length, take}

-- it has 1 to 32 bytes
abbrev pub is_short : List ℕ → Bool
is_short bytes = nat_le 1 (length bytes) && nat_le (length bytes) 32

-- its code is its length, and then its bytes
abbrev pub short_code : List ℕ → List ℕ
short_code bytes = length bytes ∷ bytes

-- the short list whose code bytes begin with
abbrev pub short_in : List ℕ → Option (List ℕ)
short_in [] = None
short_in (n ∷ rest) = if nat_le 1 n && (nat_le n 32 && nat_le n (length rest)) then Some (take n rest) else None
