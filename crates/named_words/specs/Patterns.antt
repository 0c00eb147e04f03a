-- Patterns, which tell names apart.
use Rattle.std.specs.Prelude.{ℕ, zero, suc, Bool, true, false, not, ◌&&◌, ◌||◌, ◌==◌, nat_le, min, max, List, [], ◌∷◌, length, if◌then◌else◌}
use Rattle.std.specs.List.{list_any}

-- any bytes, or one byte that lies in one of the spans, or in none
pub data Piece : Type 0 where
  star : Piece
  one : Bool → List (ℕ × ℕ) → Piece

-- spans, and what follows them
abbrev pub Class : Type 0
Class = List (ℕ × ℕ) × List ℕ

abbrev pub with_span : ℕ → ℕ → Class → Class
with_span low high class = ((low, high) ∷ class.0, class.1)

-- The spans up to a bracket that closes them, or to the end: `a-c` is those from one to the other, in either order, `\c` is c, and
-- any other byte is itself.
abbrev pub class_at : List ℕ → Class
class_at [] = ([], [])
class_at (a ∷ []) = if a == 93 then ([], []) else with_span a a ([], [])
class_at (a ∷ b ∷ []) =
    if a == 93 then ([], b ∷ [])
    else if a == 92 then with_span b b ([], [])
    else with_span a a (class_at (b ∷ []))
class_at (a ∷ b ∷ c ∷ rest) =
    if a == 93 then ([], b ∷ c ∷ rest)
    else if a == 92 then with_span b b (class_at (c ∷ rest))
    else if b == 45 then with_span (min a c) (max a c) (class_at rest)
    else with_span a a (class_at (b ∷ c ∷ rest))

-- a piece, and what follows it
abbrev pub Cut : Type 0
Cut = Piece × List ℕ

abbrev pub the_byte : ℕ → List ℕ → Cut
the_byte byte rest = (one true ((byte, byte) ∷ []), rest)

-- behind a bracket that opens: a `^` asks for a byte outside
abbrev pub class_piece : List ℕ → Cut
class_piece [] = (one true [], [])
class_piece (c ∷ rest) = if c == 94 then (one false (class_at rest).0, (class_at rest).1) else (one true (class_at (c ∷ rest)).0, (class_at (c ∷ rest)).1)

-- behind a backslash
abbrev pub escaped : List ℕ → Cut
escaped [] = the_byte 92 []
escaped (c ∷ rest) = the_byte c rest

abbrev pub piece_at : ℕ → List ℕ → Cut
piece_at c rest =
    if c == 42 then (star, rest)
    else if c == 63 then (one false [], rest)
    else if c == 91 then class_piece rest
    else if c == 92 then escaped rest
    else the_byte c rest

-- so many pieces at most
abbrev pub pieces_in : ℕ → List ℕ → List Piece
pieces_in zero pattern = []
pieces_in (suc most) [] = []
pieces_in (suc most) (c ∷ rest) = (piece_at c rest).0 ∷ pieces_in most (piece_at c rest).1

abbrev pub pieces_of : List ℕ → List Piece
pieces_of pattern = pieces_in (length pattern) pattern

abbrev pub is_in : List (ℕ × ℕ) → ℕ → Bool
is_in spans byte = list_any (λ span. nat_le span.0 byte && nat_le byte span.1) spans

-- a text or a part of it up to its end
abbrev pub some_end : (List ℕ → Bool) → List ℕ → Bool
some_end test [] = test []
some_end test (byte ∷ text) = test (byte ∷ text) || some_end test text

-- the byte lies in one of the spans, or in none
abbrev pub accepts : Bool → List (ℕ × ℕ) → ℕ → Bool
accepts true spans byte = is_in spans byte
accepts false spans byte = not (is_in spans byte)

abbrev pub fits_pieces : List Piece → List ℕ → Bool
fits_pieces [] [] = true
fits_pieces [] (byte ∷ text) = false
fits_pieces (star ∷ pieces) text = some_end (fits_pieces pieces) text
fits_pieces (one inside spans ∷ pieces) [] = false
fits_pieces (one inside spans ∷ pieces) (byte ∷ text) = accepts inside spans byte && fits_pieces pieces text

-- a name is as a pattern says
abbrev pub matches : List ℕ → List ℕ → Bool
matches pattern name = fits_pieces (pieces_of pattern) name
