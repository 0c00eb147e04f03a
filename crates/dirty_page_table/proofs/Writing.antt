-- One pair more is written.
use Rattle.std.proofs.Common.{◌≡◌, ℕ, ◌<◌, ◌+◌, List, ◌++◌, length, get_or, take, subst, sym, ap, ◌∙◌, append_assoc}
use Rattle.std.specs.Prelude.{All}
use Rattle.std.specs.List.{flat_map}
use Rattle.std.proofs.lemmas.List.{flat_map_more, take_more}
use Rattle.std.proofs.lemmas.List.Elements.{All-push}
use Rattle.dirty_page_table.specs.Codec.{start_code, FitsStart}

pub written_more : (old head out out' : List ℕ) (starts : List (ℕ × ℕ)) (i : ℕ) (d : ℕ × ℕ) → i < length starts
    → out ≡ old ++ (head ++ flat_map start_code (take i starts)) → out' ≡ out ++ start_code (get_or starts i d)
    → out' ≡ old ++ (head ++ flat_map start_code (take (i + 1) starts))
written_more old head out out' starts i d within so_far more =
    let s : ℕ × ℕ = get_or starts i d in
    more ∙ ap (λ (xs : List ℕ). xs ++ start_code s) so_far ∙ append_assoc old (head ++ flat_map start_code (take i starts)) (start_code s)
    ∙ ap (λ (xs : List ℕ). old ++ xs)
    (flat_map_more start_code head (take i starts) s ∙ ap (λ (xs : List (ℕ × ℕ)). head ++ flat_map start_code xs) (sym (take_more starts i d within)))

pub fits_more : (starts : List (ℕ × ℕ)) (i : ℕ) (d : ℕ × ℕ) → i < length starts → All FitsStart (take i starts) → FitsStart (get_or starts i d)
    → All FitsStart (take (i + 1) starts)
fits_more starts i d within so_far fits =
    subst (All FitsStart) (sym (take_more starts i d within)) (All-push FitsStart (take i starts) (get_or starts i d) so_far fits)
