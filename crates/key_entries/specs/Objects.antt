-- The objects that an operation names, and the first refusal that needs no value.
use Rattle.std.specs.Prelude.{ℕ, Bool, true, not, ◌&&◌, Option, List, [], ◌∷◌, nat_le, nat_lt, Result, Ok, Err, map, if◌then◌else◌}
use Rattle.std.specs.List.{list_all}
use Rattle.oper_core.specs.State.{is_among}
use Rattle.oper_core.specs.Meaning.{or_else, unless}
use Rattle.oper_core.specs.declared.refusal.Refusal.{Refusal}
use Rattle.oper_core.specs.declared.refusal.Refusal.TheVariants.{NoObject, Same, TooLarge}

-- none stands twice
abbrev pub are_apart : List ℕ → Bool
are_apart [] = true
are_apart (x ∷ xs) = not (is_among x xs) && are_apart xs

-- The objects are there, no two are one, and the key and the value are short. (The last the type of keys and values says of each in a program.)
abbrev pub named : ℕ → List ℕ → Bool → Option Refusal
named most objects short =
    or_else (unless (list_all (λ x. nat_lt x most) objects) NoObject) (or_else (unless (are_apart objects) Same) (unless short TooLarge))

-- nothing is made where values are so short that some node or bucket would not fit
abbrev pub where_roomy : {M : Type 0} → ℕ → Result M Refusal → Result M Refusal
where_roomy cap (Err r) = Err r
where_roomy cap (Ok made) = if nat_le 1024 cap then Ok made else Err TooLarge

-- the new value of each object that is written: the bytes that are made, or where nothing is made none
abbrev pub values_of : {M : Type 0} → (M → List (List ℕ)) → List ℕ → Result M Refusal → List (List ℕ)
values_of bytes_of objects (Ok made) = bytes_of made
values_of bytes_of objects (Err r) = map (λ x. []) objects
