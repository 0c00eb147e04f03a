-- Codes of operations on lists of pairs: a tag, then the objects, four bytes each, then the key and the value. A reader is given what is made of the fields, so that each family has its own operations.
use Rattle.std.specs.Prelude.{ℕ, Option, List, ◌∷◌, ◌++◌, drop, option_map, option_and_then}
use Rattle.byteorder.specs.Endian.{little_bytes}
use Rattle.key_entries.specs.Short.{short_code, short_in}
use Rattle.key_entries.specs.Entries.{short_field, child_in, entry_in}

-- an object, a key and a value
abbrev pub put_code : ℕ → ℕ → List ℕ → List ℕ → List ℕ
put_code tag object key value = tag ∷ (little_bytes 4 object ++ (short_code key ++ short_code value))

-- an object and a key
abbrev pub delete_code : ℕ → ℕ → List ℕ → List ℕ
delete_code tag object key = tag ∷ (little_bytes 4 object ++ short_code key)

-- objects alone
abbrev pub two_code : ℕ → ℕ → ℕ → List ℕ
two_code tag a b = tag ∷ (little_bytes 4 a ++ little_bytes 4 b)

abbrev pub three_code : ℕ → ℕ → ℕ → ℕ → List ℕ
three_code tag a b c = tag ∷ (little_bytes 4 a ++ (little_bytes 4 b ++ little_bytes 4 c))

-- the fields that bytes behind a tag begin with
abbrev pub put_fields : List ℕ → Option (ℕ × List ℕ × List ℕ)
put_fields body = option_and_then (λ object. option_map (λ pair. (object, pair.0, pair.1)) (entry_in short_field (drop 4 body))) (child_in body)

abbrev pub delete_fields : List ℕ → Option (ℕ × List ℕ)
delete_fields body = option_and_then (λ object. option_map (λ key. (object, key)) (short_in (drop 4 body))) (child_in body)

abbrev pub two_fields : List ℕ → Option (ℕ × ℕ)
two_fields body = option_and_then (λ a. option_map (λ b. (a, b)) (child_in (drop 4 body))) (child_in body)

abbrev pub three_fields : List ℕ → Option (ℕ × ℕ × ℕ)
three_fields body =
    option_and_then (λ a. option_and_then (λ b. option_map (λ c. (a, b, c)) (child_in (drop 8 body))) (child_in (drop 4 body))) (child_in body)

-- what a family makes of them
module _ {O : Type 0} where
  abbrev pub put_in : (ℕ → List ℕ → List ℕ → O) → List ℕ → Option O
  put_in make body = option_map (λ t. make t.0 t.1 t.2) (put_fields body)

  abbrev pub delete_in : (ℕ → List ℕ → O) → List ℕ → Option O
  delete_in make body = option_map (λ t. make t.0 t.1) (delete_fields body)

  abbrev pub two_in : (ℕ → ℕ → O) → List ℕ → Option O
  two_in make body = option_map (λ t. make t.0 t.1) (two_fields body)

  abbrev pub three_in : (ℕ → ℕ → ℕ → O) → List ℕ → Option O
  three_in make body = option_map (λ t. make t.0 t.1 t.2) (three_fields body)
