-- The free objects of a range.
use Rattle.std.specs.Prelude.{ℕ, zero, suc, Bool, true, false, List, [], ◌∷◌, filter}
use Rattle.oper_core.specs.State.{State}

abbrev pub is_empty : List ℕ → Bool
is_empty [] = true
is_empty (b ∷ bytes) = false

-- n objects from x on
abbrev pub objects_from : ℕ → ℕ → List ℕ
objects_from x zero = []
objects_from x (suc n) = x ∷ objects_from (suc x) n

-- those of them that are free: their value is empty
abbrev pub free_from : State → ℕ → ℕ → List ℕ
free_from s x n = filter (λ y. is_empty (s y)) (objects_from x n)
