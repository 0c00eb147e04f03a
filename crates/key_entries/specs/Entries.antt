-- Entries of nodes: keys, each with what stands beside it.
use Rattle.std.specs.Prelude.{ℕ, zero, suc, ◌^◌, Bool, T, Option, None, Some, List, [], ◌∷◌, ◌++◌, ◌≤◌, All, IsTrue, length, drop, nat_le, nat_lt, if◌then◌else◌, option_map, option_and_then, flat_map}
use Rattle.std.proofs.Common.{Ordering, nat_cmp}
use Rattle.byteorder.specs.Endian.{little_bytes, little_number}
use Rattle.std.specs.Cmp.Lexicographic.{slice_cmp}
use Rattle.std.specs.FinMap.Entries.{is_sorted}
use Rattle.arrayvec.specs.ArrayVec.{ArrayVec}
use Rattle.key_entries.specs.Short.{is_short, short_code, short_in}

-- byte lists in the order of their bytes: the first that differ decide
abbrev pub byte_order : List ℕ → List ℕ → Ordering
byte_order = slice_cmp nat_cmp

-- one kind of field: its code, the field that bytes begin with, and which fields there are
pub record Field (X : Type 0) : Type 0 where
  pub code : X → List ℕ
  pub read : List ℕ → Option X
  pub fits : X → Bool

-- a value
abbrev pub short_field : Field (List ℕ)
short_field = record { code = short_code; read = short_in; fits = is_short }

-- the number of an object, four bytes
abbrev pub child_in : List ℕ → Option ℕ
child_in bytes = if nat_le 4 (length bytes) then Some (little_number 4 bytes) else None

abbrev pub child_field : Field ℕ
child_field = record { code = little_bytes 4; read = child_in; fits = λ x. nat_lt x (2 ^ 32) }

module _ {X : Type 0} (field : Field X) where
  -- a key, and after it what stands beside it
  abbrev pub entry_code : List ℕ × X → List ℕ
  entry_code e = short_code e.0 ++ field.code e.1

  -- one entry after the other
  abbrev pub entries_code : List (List ℕ × X) → List ℕ
  entries_code = flat_map entry_code

  -- the key, and the field that bytes begin with after it
  abbrev pub beside : List ℕ → List ℕ → Option (List ℕ × X)
  beside bytes key = option_map (λ x. (key, x)) (field.read (drop (length (short_code key)) bytes))

  -- the entry that bytes begin with
  abbrev pub entry_in : List ℕ → Option (List ℕ × X)
  entry_in bytes = option_and_then (beside bytes) (short_in bytes)

  -- the bytes as so many entries, where nothing follows them
  abbrev pub entries_in : ℕ → List ℕ → Option (List (List ℕ × X))
  entries_in zero [] = Some []
  entries_in zero (b ∷ bytes) = None
  entries_in (suc n) bytes = option_and_then (λ e. option_map (λ es. e ∷ es) (entries_in n (drop (length (entry_code e)) bytes))) (entry_in bytes)

  -- the entries of a node: at most 7, of short keys, which rise strictly
  pub record AreEntries (es : List (List ℕ × X)) : Type 0 where
    pub few : length es ≤ 7
    pub short : All (λ e. IsTrue (is_short e.0)) es
    pub fit : All (λ e. IsTrue (field.fits e.1)) es
    pub rise : T (is_sorted byte_order es)

-- entries whose keys rise strictly
abbrev pub rising : {X : Type 0} → List (List ℕ × X) → Option (List (List ℕ × X))
rising es = if is_sorted byte_order es then Some es else None

-- entries as a vector has them
abbrev pub listed : {E : Type 0} → List E → ArrayVec E
listed es = record { items = es }
