-- An option of SCAN and what it is given, in front of others.
use Rattle.std.proofs.Common.{◌≡◌, ◌∙◌, ◌≤◌, ap, arith, refl, ℕ, Option, Ok, Err, List, [], ◌∷◌, Bor, drop, get_or, length}
use Rattle.named_words.specs.Forms.{Given, ◌>>=◌, texts}
use Rattle.named_words.specs.Reading.{scan_asked, scan_option}
use Rattle.named_words.specs.Requests.{NamesAsked}
use Rattle.named_words.specs.declared.refusal.Refusal.{Refusal}

module _ (cursor : ℕ) (pattern : Option (List ℕ)) (count : ℕ) (word given : List ℕ) (words : List (List ℕ)) (whole : Given NamesAsked) where
  -- where it is taken, those behind it say the rest
  pub scan_step : (next : Option (List ℕ)) (more : ℕ) → Ok (next, more) ≡ scan_option pattern count word given
      → scan_asked cursor pattern count (word ∷ given ∷ words) ≡ whole → scan_asked cursor next more words ≡ whole
  scan_step next more is asked = ap (λ (r : Given (Option (List ℕ) × ℕ)). r >>= λ found. scan_asked cursor found.0 found.1 words) is ∙ asked

  -- where it is refused, all are
  pub scan_refused : (refusal : Refusal) → Err refusal ≡ scan_option pattern count word given
      → scan_asked cursor pattern count (word ∷ given ∷ words) ≡ whole → Err refusal ≡ whole
  scan_refused refusal is asked = ap (λ (r : Given (Option (List ℕ) × ℕ)). r >>= λ found. scan_asked cursor found.0 found.1 words) is ∙ asked

-- two words or more are these two and the others
pub two_in_front : (a b : Bor (List ℕ)) (words : List (Bor (List ℕ))) → 2 ≤ length words → texts words ≡ (get_or words 0 a).now ∷ (get_or words 1 b).now ∷ texts (drop 2 words)
two_in_front a b [] two = absurd (omega arith)
two_in_front a b (x ∷ []) two = absurd (omega arith)
two_in_front a b (x ∷ y ∷ words) two = refl
