-- What is left of a text that is made one piece after the other.
use Rattle.std.proofs.Common.{◌≡◌, ap, ◌∙◌, ℕ, suc, ◌+◌, ◌-◌, ◌<◌, ◌≤◌, List, ◌∷◌, ◌++◌, append_assoc, arith}
use Rattle.std.specs.List.{range_with_len}
use Rattle.script_lines.specs.Draws.{next, draw, after_draws, bytes_from}
use Rattle.script_lines.specs.DemoScript.{lines_from, line_at, behind}

-- a piece goes from what is left to what is done
pub one_more : (done piece rest all new : List ℕ) → new ≡ done ++ piece → done ++ (piece ++ rest) ≡ all → new ++ rest ≡ all
one_more done piece rest all new is whole =
    ap (λ (text : List ℕ). text ++ rest) is ∙ append_assoc done piece rest ∙ whole

left : (n i : ℕ) → i < n → n - i ≡ suc (n - (i + 1))
left n i h = omega arith

pub none_left : (n i : ℕ) → n ≤ i → n - i ≡ 0
none_left n i h = omega arith

pub draws_left : (n i g : ℕ) → i < n → after_draws (n - i) g ≡ after_draws (n - (i + 1)) (next g)
draws_left n i g h = ap (λ (k : ℕ). after_draws k g) (left n i h)

pub bytes_left : (n i g : ℕ) → i < n → bytes_from (n - i) g ≡ draw 256 g ∷ bytes_from (n - (i + 1)) (next g)
bytes_left n i g h = ap (λ (k : ℕ). bytes_from k g) (left n i h)

pub lines_left : (n i g : ℕ) → i < n → lines_from (n - i) g ≡ line_at g ∷ lines_from (n - (i + 1)) (behind g)
lines_left n i g h = ap (λ (k : ℕ). lines_from k g) (left n i h)

pub range_left : (n i : ℕ) → i < n → range_with_len i (n - i) ≡ i ∷ range_with_len (i + 1) (n - (i + 1))
range_left n i h = ap (λ (k : ℕ). range_with_len i k) (left n i h)
