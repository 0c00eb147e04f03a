-- The free objects from one to another.
use Rattle.std.specs.Prelude.{◌≡◌, ℕ, suc, ◌-◌, Option, None, Some, List, [], ◌∷◌}
use Rattle.oper_core.specs.State.{State}
use Rattle.call_plans.specs.Free.{free_from}

-- they rise
abbrev pub free_between : State → ℕ → ℕ → List ℕ
free_between s from last = free_from s from (suc last - from)

-- the least of them, if there is one, and after it the others
abbrev pub IsLeastFree : State → ℕ → ℕ → Option ℕ → Type 0
IsLeastFree s from last None = free_between s from last ≡ []
IsLeastFree s from last (Some x) = free_between s from last ≡ x ∷ free_between s (suc x) last
