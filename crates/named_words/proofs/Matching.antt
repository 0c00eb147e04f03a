-- A pattern is read piece by piece, and behind a star the first place counts.
use Rattle.std.proofs.Common.{◌≡◌, ◌≢◌, ◌≤◌, ◌⊎◌, inl, inr, refl, ap, sym, ◌∙◌, arith, ℕ, zero, suc, Bool, true, false, ◌&&◌, ◌||◌, ◌==◌, min, max, List, [], ◌∷◌, length, if◌then◌else◌}
use Rattle.named_words.specs.Patterns.{Class, Cut, Piece, accepts, class_at, class_piece, escaped, fits_pieces, one, piece_at, pieces_in, pieces_of, some_end, star, the_byte, with_span}
use Rattle.named_words.specs.Tokens.{fits_one, is_star}

-- what holds of both holds of either
either : {A : Type 0} (P : A → Type 0) (b : Bool) (x y : A) → P x → P y → P (if b then x else y)
either P true x y here there = here
either P false x y here there = there

abbrev ends_in : ℕ → Class → Type 0
ends_in most class = length class.1 ≤ most

class_short : (text : List ℕ) → length (class_at text).1 ≤ length text
class_short [] = omega arith
class_short (a ∷ []) = either (ends_in 1) (a == 93) ([], []) (with_span a a ([], [])) (omega arith) (omega arith)
class_short (a ∷ b ∷ []) =
    either (ends_in 2) (a == 93) ([], b ∷ []) (if a == 92 then with_span b b ([], []) else with_span a a (class_at (b ∷ []))) (omega arith)
    (either (ends_in 2) (a == 92) (with_span b b ([], [])) (with_span a a (class_at (b ∷ []))) (omega arith) (omega (arith, class_short (b ∷ []))))
class_short (a ∷ b ∷ c ∷ rest) =
    either (ends_in (length (a ∷ b ∷ c ∷ rest))) (a == 93) ([], b ∷ c ∷ rest)
    (if a == 92 then with_span b b (class_at (c ∷ rest)) else if b == 45 then with_span (min a c) (max a c) (class_at rest) else with_span a a (class_at (b ∷ c ∷ rest))) (omega arith)
    (either (ends_in (length (a ∷ b ∷ c ∷ rest))) (a == 92) (with_span b b (class_at (c ∷ rest)))
    (if b == 45 then with_span (min a c) (max a c) (class_at rest) else with_span a a (class_at (b ∷ c ∷ rest))) (omega (arith, class_short (c ∷ rest)))
    (either (ends_in (length (a ∷ b ∷ c ∷ rest))) (b == 45) (with_span (min a c) (max a c) (class_at rest)) (with_span a a (class_at (b ∷ c ∷ rest)))
    (omega (arith, class_short rest)) (omega (arith, class_short (b ∷ c ∷ rest)))))

abbrev leaves : ℕ → Cut → Type 0
leaves most cut = length cut.1 ≤ most

class_piece_short : (text : List ℕ) → length (class_piece text).1 ≤ length text
class_piece_short [] = omega arith
class_piece_short (c ∷ rest) =
    either (leaves (length (c ∷ rest))) (c == 94) (one false (class_at rest).0, (class_at rest).1) (one true (class_at (c ∷ rest)).0, (class_at (c ∷ rest)).1)
    (omega (arith, class_short rest)) (class_short (c ∷ rest))

escaped_short : (text : List ℕ) → length (escaped text).1 ≤ length text
escaped_short [] = omega arith
escaped_short (c ∷ rest) = omega arith

piece_short : (c : ℕ) (rest : List ℕ) → length (piece_at c rest).1 ≤ length rest
piece_short c rest =
    let it : Cut → Type 0 = leaves (length rest) in
    let last : it (if c == 92 then escaped rest else the_byte c rest) = either it (c == 92) (escaped rest) (the_byte c rest) (escaped_short rest) (omega arith) in
    let third : it (if c == 91 then class_piece rest else if c == 92 then escaped rest else the_byte c rest) =
    either it (c == 91) (class_piece rest) (if c == 92 then escaped rest else the_byte c rest) (class_piece_short rest) last in
    let second : it (if c == 63 then (one false [], rest) else if c == 91 then class_piece rest else if c == 92 then escaped rest else the_byte c rest) =
    either it (c == 63) (one false [], rest) (if c == 91 then class_piece rest else if c == 92 then escaped rest else the_byte c rest) (omega arith) third in
    either it (c == 42) (star, rest) (if c == 63 then (one false [], rest) else if c == 91 then class_piece rest else if c == 92 then escaped rest else the_byte c rest) (omega arith) second

-- more pieces than bytes are as good as so many
pub pieces_same : (m n : ℕ) (text : List ℕ) → length text ≤ m → length text ≤ n → pieces_in m text ≡ pieces_in n text
pieces_same zero zero text few less = refl
pieces_same zero (suc n) [] few less = refl
pieces_same zero (suc n) (c ∷ rest) few less = absurd (omega (arith, few))
pieces_same (suc m) zero [] few less = refl
pieces_same (suc m) zero (c ∷ rest) few less = absurd (omega (arith, less))
pieces_same (suc m) (suc n) [] few less = refl
pieces_same (suc m) (suc n) (c ∷ rest) few less =
    let short : length (piece_at c rest).1 ≤ length rest = piece_short c rest in
    ap (λ l. (piece_at c rest).0 ∷ l) (pieces_same m n (piece_at c rest).1 (omega (arith, few, short)) (omega (arith, less, short)))

-- the pieces of a pattern are its first and those behind it
pub pieces_step : (c : ℕ) (rest : List ℕ) → pieces_of (c ∷ rest) ≡ (piece_at c rest).0 ∷ pieces_of (piece_at c rest).1
pieces_step c rest = ap (λ l. (piece_at c rest).0 ∷ l) (pieces_same (length rest) (length (piece_at c rest).1) (piece_at c rest).1 (piece_short c rest) (omega arith))

pub one_of : (a b : Bool) → (a || b) ≡ true → (a ≡ true) ⊎ (b ≡ true)
one_of true b is = inl refl
one_of false b is = inr is

second_of : (a b : Bool) → (a && b) ≡ true → b ≡ true
second_of true b is = is
second_of false b is = absurd cc

pub or_second : (a b : Bool) → b ≡ true → (a || b) ≡ true
or_second true b is = refl
or_second false b is = is

same_truth : (a b : Bool) → (a ≡ true → b ≡ true) → (b ≡ true → a ≡ true) → a ≡ b
same_truth true b to from = sym (to refl)
same_truth false true to from = from refl
same_truth false false to from = refl

pub whole_is_end : (test : List ℕ → Bool) (text : List ℕ) → test text ≡ true → some_end test text ≡ true
whole_is_end test [] is = is
whole_is_end test (byte ∷ text) is = ap (λ b. b || some_end test text) is

-- an end of an end is an end
ends_of_ends : (test : List ℕ → Bool) (text : List ℕ) → some_end (some_end test) text ≡ true → some_end test text ≡ true
ends_of_ends test [] is = is
ends_of_ends test (byte ∷ text) is = elim (one_of (some_end test (byte ∷ text)) (some_end (some_end test) text) is) [
  | inl here ↦ here
  | inr later ↦ or_second (test (byte ∷ text)) (some_end test text) (ends_of_ends test text later)
]

module _ (inside : Bool) (spans : List (ℕ × ℕ)) (pieces : List Piece) where
  -- where a piece and others fit an end, the others do
  without_first : (text : List ℕ) → some_end (fits_pieces (one inside spans ∷ pieces)) text ≡ true → some_end (fits_pieces pieces) text ≡ true
  without_first [] is = absurd cc
  without_first (byte ∷ text) is = elim (one_of (accepts inside spans byte && fits_pieces pieces text) (some_end (fits_pieces (one inside spans ∷ pieces)) text) is) [
    | inl here ↦ or_second (fits_pieces pieces (byte ∷ text)) (some_end (fits_pieces pieces) text) (whole_is_end (fits_pieces pieces) text (second_of (accepts inside spans byte) (fits_pieces pieces text) here))
    | inr later ↦ or_second (fits_pieces pieces (byte ∷ text)) (some_end (fits_pieces pieces) text) (without_first text later)
  ]

  -- and an end of what is behind the first byte
  pub behind_first : (byte : ℕ) (text : List ℕ) → some_end (fits_pieces (one inside spans ∷ pieces)) (byte ∷ text) ≡ true → some_end (fits_pieces pieces) text ≡ true
  behind_first byte text is = elim (one_of (accepts inside spans byte && fits_pieces pieces text) (some_end (fits_pieces (one inside spans ∷ pieces)) text) is) [
    | inl here ↦ whole_is_end (fits_pieces pieces) text (second_of (accepts inside spans byte) (fits_pieces pieces text) here)
    | inr later ↦ without_first text later
  ]

-- what a piece and others say of a text, by the first byte
pub none_left : (piece : Piece) (pieces : List Piece) → is_star piece ≡ false → fits_pieces (piece ∷ pieces) [] ≡ false
none_left star pieces plain = absurd cc
none_left (one inside spans) pieces plain = refl

pub byte_fails : (piece : Piece) (pieces : List Piece) (byte : ℕ) (text : List ℕ) → is_star piece ≡ false → fits_one piece byte ≡ false → fits_pieces (piece ∷ pieces) (byte ∷ text) ≡ false
byte_fails star pieces byte text plain fails = absurd cc
byte_fails (one inside spans) pieces byte text plain fails = ap (λ b. b && fits_pieces pieces text) fails

pub byte_fits : (piece : Piece) (pieces : List Piece) (byte : ℕ) (text : List ℕ) → is_star piece ≡ false → fits_one piece byte ≡ true → fits_pieces (piece ∷ pieces) (byte ∷ text) ≡ fits_pieces pieces text
byte_fits star pieces byte text plain here = absurd cc
byte_fits (one inside spans) pieces byte text plain here = ap (λ b. b && fits_pieces pieces text) here

pub ends_behind : (piece : Piece) (pieces : List Piece) (byte : ℕ) (text : List ℕ) → is_star piece ≡ false
    → some_end (fits_pieces (piece ∷ pieces)) (byte ∷ text) ≡ true → some_end (fits_pieces pieces) text ≡ true
ends_behind star pieces byte text plain is = absurd cc
ends_behind (one inside spans) pieces byte text plain is = behind_first inside spans pieces byte text is

module _ (all : List Piece) (whole : List ℕ) (now behind : List Piece) (text : List ℕ) where
  -- at a star all depends on what is behind it
  pub at_star : now ≡ star ∷ behind → fits_pieces all whole ≡ fits_pieces now text → (some_end (fits_pieces all) whole ≡ true → some_end (fits_pieces now) text ≡ true)
      → (fits_pieces all whole ≡ some_end (fits_pieces behind) text) × (some_end (fits_pieces all) whole ≡ some_end (fits_pieces behind) text)
  at_star is same later =
      let here : fits_pieces all whole ≡ some_end (fits_pieces behind) text = same ∙ ap (λ p. fits_pieces p text) is in (
        here,
        same_truth (some_end (fits_pieces all) whole) (some_end (fits_pieces behind) text)
            (λ ends. ends_of_ends (fits_pieces behind) text (ap (λ p. some_end (fits_pieces p) text) (sym is) ∙ later ends))
            (λ ends. whole_is_end (fits_pieces all) whole (here ∙ ends)),
      )

-- the pieces of a pattern are the first that is read, and those of what is left
pub read_first : (pattern rest : List ℕ) (first : ℕ) (cut : Cut) → pattern ≡ first ∷ rest → cut ≡ piece_at first rest → pieces_of pattern ≡ cut.0 ∷ pieces_of cut.1
read_first pattern rest first cut is read = ap pieces_of is ∙ pieces_step first rest ∙ ap (λ (c : Cut). c.0 ∷ pieces_of c.1) (sym read)

-- a text that is read to the end of a pattern
pub both_end : (text : List ℕ) → length text ≡ 0 → fits_pieces [] text ≡ true
both_end [] none = refl
both_end (byte ∷ text) none = absurd (omega (arith, none))

pub text_left : (text : List ℕ) → length text ≢ 0 → fits_pieces [] text ≡ false
text_left [] some = absurd (some refl)
text_left (byte ∷ text) some = refl

pub none_left_in : (piece : Piece) (text : List ℕ) → length text ≡ 0 → is_star piece ≡ false → (pieces : List Piece) → fits_pieces (piece ∷ pieces) text ≡ false
none_left_in piece [] none plain pieces = none_left piece pieces plain
none_left_in piece (byte ∷ text) none plain pieces = absurd (omega (arith, none))

pub the_star : (piece : Piece) → is_star piece ≡ true → piece ≡ star
the_star star is = refl
the_star (one inside spans) is = absurd cc

-- one byte of a text is as a pattern's first piece says, and the rest is left
module _ (all : List Piece) (whole : List ℕ) (now : List Piece) (text : List ℕ) (same : fits_pieces all whole ≡ fits_pieces now text)
    (piece : Piece) (behind : List Piece) (is : now ≡ piece ∷ behind) (plain : is_star piece ≡ false) where
  pub one_fails : fits_pieces (piece ∷ behind) text ≡ false → fits_pieces all whole ≡ false
  one_fails fails = same ∙ ap (λ p. fits_pieces p text) is ∙ fails

  module _ (byte : ℕ) (rest : List ℕ) (text_is : text ≡ byte ∷ rest) (fits : fits_one piece byte ≡ true) where
    pub goes_on : fits_pieces all whole ≡ fits_pieces behind rest
    goes_on = same ∙ ap (λ p. fits_pieces p text) is ∙ ap (λ (l : List ℕ). fits_pieces (piece ∷ behind) l) text_is ∙ byte_fits piece behind byte rest plain fits

    pub ends_go_on : (some_end (fits_pieces all) whole ≡ true → some_end (fits_pieces now) text ≡ true) → some_end (fits_pieces all) whole ≡ true → some_end (fits_pieces behind) rest ≡ true
    ends_go_on later ends =
        let here : some_end (fits_pieces (piece ∷ behind)) (byte ∷ rest) ≡ true =
        sym (ap (λ p. some_end (fits_pieces p) text) is ∙ ap (λ (l : List ℕ). some_end (fits_pieces (piece ∷ behind)) l) text_is) ∙ later ends in
        ends_behind piece behind byte rest plain here

-- a text of which no end is left, and one that is no such end itself
pub no_end : (test : List ℕ → Bool) (text : List ℕ) → length text ≡ 0 → test text ≡ false → some_end test text ≡ false
no_end test [] none fails = fails
no_end test (byte ∷ text) none fails = absurd (omega (arith, none))

pub later_ends : (test : List ℕ → Bool) (text rest : List ℕ) (byte : ℕ) → text ≡ byte ∷ rest → test text ≡ false → some_end test rest ≡ some_end test text
later_ends test text rest byte is fails =
    sym (ap (some_end test) is ∙ ap (λ b. b || some_end test rest) (ap test (sym is) ∙ fails))
