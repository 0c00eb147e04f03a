-- What is read of a pattern.
use Rattle.std.specs.Prelude.{◌≡◌, ◌<◌, ◌≤◌, ⊤, ℕ, Bool, true, false, List, [], ◌∷◌, length}
use Rattle.std.specs.Borrow.{Bor}
use Rattle.named_words.specs.Patterns.{Piece, Cut, accepts, class_at, fits_pieces, one, pieces_of, some_end, star}
use Rattle.named_words.specs.declared.token.Token.{Token}
use Rattle.named_words.specs.declared.token.Token.TheVariants.{Star, Any, Byte, Inside, Outside}
use Rattle.named_words.specs.declared.pattern.Front.{Front}
use Rattle.named_words.specs.declared.pattern.Front.TheVariants.{Fits, Fails, Open}

abbrev pub piece_of : Token → Piece
piece_of Star = star
piece_of Any = one false []
piece_of (Byte byte) = one true ((byte, byte) ∷ [])
piece_of (Inside class) = one true (class_at class.now).0
piece_of (Outside class) = one false (class_at class.now).0

abbrev pub cut_of : Token × Bor (List ℕ) → Cut
cut_of found = (piece_of found.0, found.1.now)

abbrev pub is_star : Piece → Bool
is_star star = true
is_star (one inside spans) = false

-- one byte is as a piece says
abbrev pub fits_one : Piece → ℕ → Bool
fits_one star byte = false
fits_one (one inside spans) byte = accepts inside spans byte

-- What is said of a pattern and a text up to a star: they fit; they do not; or it depends on what is behind the star, as it
-- does for the text's ends.
abbrev pub IsFront : List Piece → List ℕ → Front → Type 0
IsFront pieces text Fits = fits_pieces pieces text ≡ true
IsFront pieces text Fails = fits_pieces pieces text ≡ false
IsFront pieces text (Open pattern rest) =
    (fits_pieces pieces text ≡ some_end (fits_pieces (pieces_of pattern.now)) rest.now)
    × (some_end (fits_pieces pieces) text ≡ some_end (fits_pieces (pieces_of pattern.now)) rest.now)

-- a star is behind at least one byte of so many
abbrev pub IsLess : ℕ → ℕ → Front → Type 0
IsLess pattern_long text_long (Open pattern rest) = (length pattern.now < pattern_long) × (length rest.now ≤ text_long)
IsLess pattern_long text_long other = ⊤
