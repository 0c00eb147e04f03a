-- What is appended piece by piece.
use Rattle.std.proofs.Common.{◌≡◌, ℕ, List, [], ◌∷◌, ◌++◌, ap, ◌∙◌, append_assoc}

-- one piece more
pub next : (old so_far before after piece bytes : List ℕ) → before ≡ old ++ so_far → after ≡ before ++ piece → piece ≡ bytes → after ≡ old ++ (so_far ++ bytes)
next old so_far before after piece bytes is more same =
    more ∙ (λ i. is i ++ same i) ∙ append_assoc old so_far bytes

-- the tag, where there is room
pub tagged : (old room after : List ℕ) (tag : ℕ) → room ≡ old → after ≡ room ++ tag ∷ [] → after ≡ old ++ tag ∷ []
tagged old room after tag same more = more ∙ ap (λ (l : List ℕ). l ++ tag ∷ []) same
