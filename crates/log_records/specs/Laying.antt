-- Records are laid in blocks whose lengths are known.
use Rattle.std.proofs.Common.{◌≡◌, ◌+◌, ◌-◌, ◌≤◌, ℕ, zero, suc, List, [], ◌∷◌, ◌++◌, length, map}
use Rattle.byteorder.specs.Endian.{little_bytes}
use Rattle.oper_core.specs.Meaning.{Meaning}
use Rattle.formats.specs.Records.{record_code}
use Rattle.formats.specs.declared.record.Record.{Record}

-- the codes of records
abbrev pub codes_of : {O : Type 0} → Meaning O → List (Record O) → List (List ℕ)
codes_of m records = map (record_code m) records

-- how many bytes blocks of these lengths have, each with its head
abbrev pub room_of : List ℕ → ℕ
room_of [] = 0
room_of (n ∷ lengths) = 5 + n + room_of lengths

-- the bytes that these codes add to a log that gets so many bytes in the block in hand, and then blocks of these lengths: where
-- that block is full the next one begins
abbrev pub laid : ℕ → List ℕ → List (List ℕ) → List ℕ
laid left lengths [] = []
laid zero [] (code ∷ codes) = []
laid zero (n ∷ lengths) (code ∷ codes) = 1 ∷ (little_bytes 4 n ++ (code ++ laid (n - length code) lengths codes))
laid (suc left) lengths (code ∷ codes) = code ++ laid (suc left - length code) lengths codes

-- each of them has room in its block, and after them all blocks are full
abbrev pub Fits : ℕ → List ℕ → List (List ℕ) → Type 0
Fits left lengths [] = (left ≡ 0) × (lengths ≡ [])
Fits zero [] (code ∷ codes) = ⊥
Fits zero (n ∷ lengths) (code ∷ codes) = (length code ≤ n) × Fits (n - length code) lengths codes
Fits (suc left) lengths (code ∷ codes) = (length code ≤ suc left) × Fits (suc left - length code) lengths codes
