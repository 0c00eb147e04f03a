-- Hexadecimal digits.
use Rattle.std.proofs.Common.{◌≡◌, List, ℕ, [], ◌∷◌, Option, Some, None, refl, sym, ◌∙◌, append_assoc, ◌++◌, length, get_or, drop, ◌≤◌, subst, ◌<◌, ⊎_elim, codes, arith}
use Rattle.std.proofs.lemmas.List.{append-nil}
use Rattle.script_lines.specs.Grammar.{IsHexOf, IsHex, none, byte, hex_byte, hex_digit}

pub one_left : {x : ℕ} {bytes : List ℕ} → IsHexOf (x ∷ []) bytes → ⊥
one_left h = elim h [ ]

no_bytes : {bytes : List ℕ} → IsHexOf [] bytes → bytes ≡ []
no_bytes none = refl

-- the first byte of digits, and the others
record Front (high low : ℕ) (text bytes : List ℕ) : Type 0 where
  pub b : ℕ
  pub more : List ℕ
  pub is : hex_byte (hex_digit high) (hex_digit low) ≡ Some b
  pub rest : IsHexOf text more
  pub all : bytes ≡ b ∷ more

front_of : {high low : ℕ} {text bytes : List ℕ} → IsHexOf (high ∷ low ∷ text) bytes → Front high low text bytes
front_of (byte {b = b} {bytes = more} is rest) = record { b = b; more = more; is = is; rest = rest; all = refl }

-- digits stand for one list of bytes
pub hex_of_one : (text x y : List ℕ) → IsHexOf text x → IsHexOf text y → x ≡ y
hex_of_one [] x y p q = no_bytes p ∙ sym (no_bytes q)
hex_of_one (high ∷ []) x y p q = absurd (one_left p)
hex_of_one (high ∷ low ∷ text) x y p q =
    let f = front_of p in
    let g = front_of q in
    let b_same : f.b ≡ g.b = cc (f.is, g.is) in
    let same = hex_of_one text f.more g.more f.rest g.rest in
    cc (f.all, g.all, b_same, same)

dash_is_none : (text bytes : List ℕ) → text ≡ codes "-" → IsHexOf text bytes → ⊥
dash_is_none text bytes is h = one_left (subst (λ (t : List ℕ). IsHexOf t bytes) is h)

pub hex_one : (text x y : List ℕ) → IsHex text x → IsHex text y → x ≡ y
hex_one text x y p q =
    ⊎_elim
    (λ (d : (text ≡ codes "-") × (x ≡ [])). ⊎_elim (λ (e : (text ≡ codes "-") × (y ≡ [])). d.1 ∙ sym e.1) (λ (h : (0 < length text) × IsHexOf text y). absurd (dash_is_none text y d.0 h.1)) q)
    (λ (h : (0 < length text) × IsHexOf text x). ⊎_elim (λ (e : (text ≡ codes "-") × (y ≡ [])). absurd (dash_is_none text x e.0 h.1)) (λ (k : (0 < length text) × IsHexOf text y). hex_of_one text x y h.1 k.1) q)
    p

-- these bytes are made, and rest is still to be read
pub record Decoded (text rest made : List ℕ) : Type 0 where
  pub back : (more : List ℕ) → IsHexOf rest more → IsHexOf text (made ++ more)
  pub on : (bytes : List ℕ) → IsHexOf text bytes → (more : List ℕ) × IsHexOf rest more

pub decoded_step : (new text : List ℕ) (high low : ℕ) (tail made made_new : List ℕ) (found : Option ℕ) (b : ℕ) → new ≡ tail → Decoded text (high ∷ low ∷ tail) made
    → found ≡ hex_byte (hex_digit high) (hex_digit low) → found ≡ Some b → made_new ≡ made ++ b ∷ [] → Decoded text new made_new
decoded_step new text high low tail made made_new found b same d is some pushed =
    let P : List ℕ → Type 0 = λ t. Decoded text t made_new in
    subst P (sym same) (record {
      back = λ more rest. subst (λ (m : List ℕ). IsHexOf text (m ++ more)) (sym pushed)
          (subst (λ (m : List ℕ). IsHexOf text m) (sym (append_assoc made (b ∷ []) more)) (d.back (b ∷ more) (byte (sym is ∙ some) rest)));
      on = λ bytes whole. let f = front_of (d.on bytes whole).1 in (f.more, f.rest);
    })

-- what is no byte stands for none, nor does the whole text
pub not_decoded : (text : List ℕ) (high low : ℕ) (tail made : List ℕ) (found : Option ℕ) → Decoded text (high ∷ low ∷ tail) made → found ≡ hex_byte (hex_digit high) (hex_digit low) → found ≡ None
    → (bytes : List ℕ) → IsHexOf text bytes → ⊥
not_decoded text high low tail made found d is other bytes whole =
    let f = front_of (d.on bytes whole).1 in
    let same : None ≡ Some f.b = sym (sym is ∙ other) ∙ f.is in
    absurd cc

pub decoded_all : (text rest made : List ℕ) → Decoded text rest made → length rest ≡ 0 → IsHexOf text made
decoded_all text [] made d empty = subst (λ (m : List ℕ). IsHexOf text m) (append-nil made) (d.back [] none)
decoded_all text (x ∷ rest) made d empty = absurd (omega arith)

pub decoded_odd : (text rest made : List ℕ) → Decoded text rest made → length rest < 2 → (length rest ≡ 0 → ⊥) → (bytes : List ℕ) → IsHexOf text bytes → ⊥
decoded_odd text [] made d short some bytes whole = some refl
decoded_odd text (x ∷ []) made d short some bytes whole = one_left (d.on bytes whole).1
decoded_odd text (x ∷ y ∷ rest) made d short some bytes whole = absurd (omega arith)

pub split_decoded : (text rest made : List ℕ) → 2 ≤ length rest → Decoded text rest made → Decoded text (get_or rest 0 0 ∷ get_or rest 1 0 ∷ drop 2 rest) made
split_decoded text [] made two d = absurd (omega arith)
split_decoded text (x ∷ []) made two d = absurd (omega arith)
split_decoded text (x ∷ y ∷ rest) made two d = d
