-- The end of the keys that begin with some bytes.
use Rattle.std.proofs.Common.{◌≡◌, ◌<◌, ◌≤◌, ◌-◌, sym, ap, ◌∙◌, arith, false, ℕ, suc, ◌==◌, None, Some, List, [], ◌∷◌, ◌++◌, length, ne_eqb, get_or, take, drop, take-append-drop, drop-cons}
use Rattle.std.proofs.lemmas.Bool.{cond-false}
use Rattle.page_map.specs.Reads.{prefix_end, raised}

-- behind others
behind_front : (front rest end : List ℕ) → prefix_end rest ≡ Some end → prefix_end (front ++ rest) ≡ Some (front ++ end)
behind_front [] rest end is = is
behind_front (b ∷ front) rest end is = ap (raised b) (behind_front front rest end is)

-- a lesser number is not the same
below_is_not : (a b : ℕ) → a < b → (a == b) ≡ false
below_is_not a b below = ne_eqb a b (λ same. absurd (impossible same))
  where
    impossible : a ≡ b → ⊥
    impossible same = omega (arith, below, same)

module _ (bytes : List ℕ) (count : ℕ) (some : 0 < count) (within : count ≤ length bytes) (none : prefix_end (drop count bytes) ≡ None) where
  abbrev last : ℕ
  last = get_or bytes (count - 1) 0

  one_more : drop (count - 1) bytes ≡ last ∷ drop count bytes
  one_more =
      let below : count - 1 < length bytes = omega (arith, some, within) in
      let next : suc (count - 1) ≡ count = omega (arith, some) in
      drop-cons bytes (count - 1) 0 below ∙ ap (λ (n : ℕ). last ∷ drop n bytes) next

  -- the byte before them is raised
  pub raised_here : last < 255 → prefix_end bytes ≡ Some (take (count - 1) bytes ++ suc last ∷ [])
  raised_here small =
      ap prefix_end (sym (take-append-drop (count - 1) bytes))
      ∙ behind_front (take (count - 1) bytes) (drop (count - 1) bytes) (suc last ∷ [])
      (ap prefix_end one_more ∙ ap (raised last) none ∙ cond-false (last == 255) None (Some (suc last ∷ [])) (below_is_not last 255 small))
