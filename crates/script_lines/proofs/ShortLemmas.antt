-- The digits of a key or a value.
use Rattle.std.proofs.Common.{◌≡◌, ◌*◌, ◌<◌, ◌≤◌, List, ℕ, [], Option, Some, None, length, refl, sym, ◌∙◌, ap, subst, arith, Bool, true, false, if◌then◌else◌, IsTrue, inr, ⊎_elim, codes}
use Rattle.std.specs.Option.{IfSome, IfNone}
use Rattle.std.proofs.lemmas.Bool.Decides.{nat_tests}
use Rattle.key_entries.specs.Short.{is_short}
use Rattle.script_lines.specs.Grammar.{IsHexOf, none, byte, SaysShort}
use Rattle.script_lines.proofs.HexLemmas.{hex_of_one}

hex_size : {text bytes : List ℕ} → IsHexOf text bytes → length text ≡ 2 * length bytes
hex_size none = refl
hex_size (byte is rest) = omega (arith, hex_size rest)

some_bytes : (bytes : List ℕ) → IsTrue (is_short bytes) → 1 ≤ length bytes
some_bytes bytes is = grind (arith, nat_tests)

few_bytes : (bytes : List ℕ) → IsTrue (is_short bytes) → length bytes ≤ 32
few_bytes bytes is = grind (arith, nat_tests)

-- they are no `-`
digits_of : (text bytes : List ℕ) → SaysShort bytes text → IsHexOf text bytes
digits_of text bytes says =
    ⊎_elim (λ (d : (text ≡ codes "-") × (bytes ≡ [])). absurd (omega (arith, some_bytes bytes says.1, ap length d.1))) (λ (h : (0 < length text) × IsHexOf text bytes). h.1) says.0

pub too_long : (text : List ℕ) → 64 < length text → (bytes : List ℕ) → SaysShort bytes text → ⊥
too_long text long bytes says = omega (arith, long, hex_size (digits_of text bytes says), few_bytes bytes says.1)

pub no_digits : (text : List ℕ) → ((bytes : List ℕ) → IsHexOf text bytes → ⊥) → (bytes : List ℕ) → SaysShort bytes text → ⊥
no_digits text other bytes says = other bytes (digits_of text bytes says)

-- what is made of all digits
abbrev made : Bool → List ℕ → Option (List ℕ)
made t bytes = if t then Some bytes else None

some_by : (text bytes : List ℕ) (t : Bool) → IsHexOf text bytes → is_short bytes ≡ t → IfSome (made t bytes) (λ s. SaysShort s text)
some_by text bytes true digits is =
    let fits : IsTrue (is_short bytes) = subst IsTrue (sym is) refl in
    (inr (omega (arith, hex_size digits, some_bytes bytes fits), digits), fits)
some_by text bytes false digits is = tt

none_by : (text bytes : List ℕ) (t : Bool) → IsHexOf text bytes → is_short bytes ≡ t → IfNone (made t bytes) ((other : List ℕ) → SaysShort other text → ⊥)
none_by text bytes true digits is = tt
none_by text bytes false digits is = λ other says.
    let same = hex_of_one text other bytes (digits_of text other says) digits in
    let wrong : false ≡ true = subst IsTrue (ap is_short same ∙ is) says.1 in
    cc

pub some_made : (text bytes slice : List ℕ) (result : Option (List ℕ)) → IsHexOf text bytes → slice ≡ bytes → result ≡ made (is_short slice) slice → IfSome result (λ s. SaysShort s text)
some_made text bytes slice result digits same is =
    subst (λ (r : Option (List ℕ)). IfSome r (λ s. SaysShort s text)) (sym (is ∙ ap (λ (l : List ℕ). made (is_short l) l) same)) (some_by text bytes (is_short bytes) digits refl)

pub none_made : (text bytes slice : List ℕ) (result : Option (List ℕ)) → IsHexOf text bytes → slice ≡ bytes → result ≡ made (is_short slice) slice
    → IfNone result ((other : List ℕ) → SaysShort other text → ⊥)
none_made text bytes slice result digits same is =
    subst (λ (r : Option (List ℕ)). IfNone r ((other : List ℕ) → SaysShort other text → ⊥)) (sym (is ∙ ap (λ (l : List ℕ). made (is_short l) l) same)) (none_by text bytes (is_short bytes) digits refl)
