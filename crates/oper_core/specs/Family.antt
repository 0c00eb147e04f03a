-- What tells the codes of a family.
use Rattle.std.specs.Prelude.{◌≡◌, ℕ, Bool, true, false, List, [], ◌∷◌}
use Rattle.oper_core.specs.Meaning.{Meaning}

-- the first byte is a tag of the family
abbrev pub begins_with : (ℕ → Bool) → List ℕ → Bool
begins_with has_tag [] = false
begins_with has_tag (tag ∷ bytes) = has_tag tag

-- each code begins with a tag of the family
abbrev pub IsTagged : {O : Type 0} → (ℕ → Bool) → Meaning O → Type 0
IsTagged {O} has_tag m = (op : O) → begins_with has_tag (m.code op) ≡ true
