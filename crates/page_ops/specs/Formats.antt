-- The fields in the codes of operations: numbers, and texts behind their lengths.
use Rattle.std.specs.Prelude.{ℕ, ◌^◌, Bool, ◌&&◌, Option, None, Some, List, [], ◌∷◌, ◌++◌, length, take, drop, nat_le, nat_lt, if◌then◌else◌, option_map, option_and_then}
use Rattle.byteorder.specs.Endian.{little_bytes, little_number}

-- a kind of fields: the bytes of one, the one that bytes begin with and what is behind it, and which have such bytes
pub record Format (X : Type 0) : Type 0 where
  pub code : X → List ℕ
  pub read : List ℕ → Option (X × List ℕ)
  pub fits : X → Bool

-- a number of so many bytes
abbrev pub number : ℕ → Format ℕ
number width = record {
  code = little_bytes width;
  read = λ bytes. if nat_le width (length bytes) then Some (little_number width bytes, drop width bytes) else None;
  fits = λ x. nat_lt x (256 ^ width);
}

-- a byte, which is its own code
abbrev pub byte : Format ℕ
byte = record { code = λ x. x ∷ []; read = (number 1).read; fits = (number 1).fits }

-- what is behind the length of a text
abbrev pub text_behind : ℕ × List ℕ → Option (List ℕ × List ℕ)
text_behind n = if nat_le n.0 (length n.1) then Some (take n.0 n.1, drop n.0 n.1) else None

-- a key or a value behind its length, two bytes
abbrev pub text : Format (List ℕ)
text = record {
  code = λ bytes. little_bytes 2 (length bytes) ++ bytes;
  read = λ bytes. option_and_then text_behind ((number 2).read bytes);
  fits = λ bytes. nat_lt (length bytes) 65536;
}

-- one field behind the other
abbrev pub both : {X Y : Type 0} → Format X → Format Y → Format (X × Y)
both f g = record {
  code = λ p. f.code p.0 ++ g.code p.1;
  read = λ bytes. option_and_then (λ x. option_map (λ y. ((x.0, y.0), y.1)) (g.read x.1)) (f.read bytes);
  fits = λ p. f.fits p.0 && g.fits p.1;
}

abbrev pub object : Format ℕ
object = number 4

abbrev pub place : Format ℕ
place = number 2

-- what stands behind the tag of each operation
abbrev pub put_format : Format (ℕ × (ℕ × (List ℕ × List ℕ)))
put_format = both object (both place (both text text))

abbrev pub set_format : Format (ℕ × (ℕ × List ℕ))
set_format = both object (both place text)

abbrev pub place_format : Format (ℕ × ℕ)
place_format = both object place

abbrev pub part_format : Format (ℕ × (ℕ × (ℕ × ℕ)))
part_format = both object (both object (both place place))

abbrev pub absorb_format : Format (ℕ × (ℕ × ℕ))
absorb_format = both object (both object place)

abbrev pub join_format : Format (ℕ × (ℕ × (ℕ × (ℕ × ℕ))))
join_format = both object (both object (both object (both place place)))

abbrev pub turn_format : Format (ℕ × (ℕ × (ℕ × ℕ)))
turn_format = both object (both place (both place object))

abbrev pub turn_two_format : Format (ℕ × (ℕ × (ℕ × (ℕ × (List ℕ × ℕ)))))
turn_two_format = both object (both place (both place (both object (both text object))))

abbrev pub root_format : Format (ℕ × (ℕ × (ℕ × (List ℕ × ℕ))))
root_format = both object (both byte (both object (both text object)))
