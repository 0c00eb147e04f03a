-- The words of a line.
use Rattle.std.specs.Prelude.{◌≡◌, ◌<◌, ◌≤◌, ℕ, List, [], ◌∷◌, ◌++◌, length}
use Rattle.resp_words.specs.Runs.{AllPass, StopsAt, is_blank, is_plain, is_solid}

-- blanks, a word up to a blank or the end, and what follows
pub record IsFirstWord (line word rest : List ℕ) : Type 0 where
  pub gap : List ℕ
  pub is : line ≡ gap ++ (word ++ rest)
  pub blank : AllPass is_blank gap
  pub some : 0 < length word
  pub solid : AllPass is_solid word
  pub stops : StopsAt is_solid rest

-- the words that blanks part
abbrev pub AreWords : List ℕ → List (List ℕ) → Type 0
AreWords line [] = AllPass is_blank line
AreWords line (word ∷ words) = (rest : List ℕ) × IsFirstWord line word rest × AreWords rest words

-- a line of at most so many bytes with its end
pub record IsPlainLine (most : ℕ) (text line : List ℕ) : Type 0 where
  pub is : text ≡ line ++ 10 ∷ []
  pub plain : AllPass is_plain line
  pub short : length text ≤ most
