-- The number of a key, which tells its entry of a directory.
use Rattle.std.specs.Prelude.{ℕ, ◌+◌, ◌*◌, ◌/◌, ◌%◌, ◌^◌, ◌==◌, Bool, List, fold}

-- from 0, for each byte: 31 times the number so far and the byte, modulo 2^32
abbrev pub with_byte : ℕ → ℕ → ℕ
with_byte number byte = (number * 31 + byte) % 2 ^ 32

abbrev pub hash : List ℕ → ℕ
hash key = fold with_byte 0 key

-- the bit of this place, that of the units at place 0
abbrev pub has_bit : ℕ → ℕ → Bool
has_bit place number = number / 2 ^ place % 2 == 1
