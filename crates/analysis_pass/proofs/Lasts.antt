-- The least start of a list that grows at its end.
use Rattle.std.proofs.Common.{◌≡◌, ◌∙◌, ap, ℕ, List, [], ◌∷◌, ◌++◌, arith}
use Rattle.std.specs.Prelude.{min}
use Rattle.analysis_pass.specs.Analysis.{least_start}

-- the least with one start more
pub least_start-push : (next : ℕ) (xs : List (ℕ × ℕ)) (s : ℕ × ℕ) → least_start next (xs ++ s ∷ []) ≡ min (least_start next xs) s.1
least_start-push next [] s = grind arith
least_start-push next (x ∷ xs) s = let e = least_start-push next xs s in ap (min x.1) e ∙ grind arith
