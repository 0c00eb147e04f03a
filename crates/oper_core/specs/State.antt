-- The values of the objects.
use Rattle.std.specs.Prelude.{slice_index_or, ℕ, ◌==◌, Bool, List, [], ◌∷◌, if◌then◌else◌}
use Rattle.std.specs.List.{list_any}

-- the bytes of each object, by its number
abbrev pub State : Type 0
State = ℕ → List ℕ

-- in a new store each object is empty
abbrev pub start : State
start x = []

-- x is one of the objects
abbrev pub is_among : ℕ → List ℕ → Bool
is_among x objects = list_any (λ y. x == y) objects

-- the value beside x, where the objects and the values stand side by side
abbrev pub value_for : ℕ → List ℕ → List (List ℕ) → List ℕ
value_for x [] values = []
value_for x (y ∷ objects) [] = []
value_for x (y ∷ objects) (v ∷ values) = if x == y then v else value_for x objects values

-- the state with these values at these objects
abbrev pub with_values : State → List ℕ → List (List ℕ) → State
with_values s objects values x = if is_among x objects then value_for x objects values else s x

-- the state that a list of values gives: an object past its end is empty
abbrev pub listed : List (List ℕ) → State
listed values x = slice_index_or values x []
