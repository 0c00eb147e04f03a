-- Bytes of a kind that stand side by side.
use Rattle.std.specs.Prelude.{◌≡◌, ⊤, ℕ, Bool, true, false, not, ◌&&◌, ◌||◌, ◌==◌, nat_le, nat_lt, List, [], ◌∷◌, ◌++◌}
use Rattle.resp_words.specs.declared.kind.Kind.{Kind}
use Rattle.resp_words.specs.declared.kind.Kind.TheVariants.{Digit, Blank, Solid, Plain}

abbrev pub is_digit : ℕ → Bool
is_digit byte = nat_le 48 byte && nat_le byte 57

-- a space, a tab or a carriage return
abbrev pub is_blank : ℕ → Bool
is_blank byte = byte == 32 || byte == 9 || byte == 13

-- each other byte
abbrev pub is_solid : ℕ → Bool
is_solid byte = not (is_blank byte)

-- a byte of a line: a blank, or one that is no control byte and no quotation mark
abbrev pub is_plain : ℕ → Bool
is_plain byte = is_blank byte || (nat_lt 32 byte && not (byte == 34) && not (byte == 39))

abbrev pub is_kind : Kind → ℕ → Bool
is_kind Digit = is_digit
is_kind Blank = is_blank
is_kind Solid = is_solid
is_kind Plain = is_plain

-- each byte passes the test
abbrev pub AllPass : (ℕ → Bool) → List ℕ → Type 0
AllPass test [] = ⊤
AllPass test (byte ∷ bytes) = (test byte ≡ true) × AllPass test bytes

-- the first byte does not, if there is one
abbrev pub StopsAt : (ℕ → Bool) → List ℕ → Type 0
StopsAt test [] = ⊤
StopsAt test (byte ∷ bytes) = test byte ≡ false

-- the bytes in front that pass the test, and what follows them
pub record IsCut (test : ℕ → Bool) (bytes run rest : List ℕ) : Type 0 where
  pub is : bytes ≡ run ++ rest
  pub passes : AllPass test run
  pub stops : StopsAt test rest
