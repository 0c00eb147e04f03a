-- The fields of a text.
use Rattle.std.proofs.Common.{◌≡◌, ◌≢◌, ◌≤◌, ◌<◌, List, ℕ, [], ◌∷◌, zero, suc, length, take, drop, get_or, refl, sym, ◌∙◌, ap, subst, arith, Bool, true, false, not, inl, inr, ◌==◌, cond, Option, Some, None, position, unwrap_or, nat_lt}
use Rattle.std.proofs.lemmas.Bool.Decides.{nat_tests}
use Rattle.std.proofs.lemmas.Bool.{cases_eq}
use Rattle.std.proofs.lemmas.List.{drop_all}
use Rattle.std.specs.List.{position_or_len}
use Rattle.script_lines.specs.Grammar.{pieces_of, before_first, filled, fields_of, without_return}
use Rattle.script_lines.proofs.PlaceLemmas.{place_of, is_here, not_here, split_some, split_none}

-- a space begins an empty piece, another byte goes on with the first piece
space_cuts : (b : ℕ) (text : List ℕ) → b ≡ 32 → pieces_of (b ∷ text) ≡ [] ∷ pieces_of text
space_cuts b text is = subst (λ (x : ℕ). pieces_of (x ∷ text) ≡ [] ∷ pieces_of text) (sym is) refl

byte_goes_on : (b : ℕ) (text : List ℕ) → (b == 32) ≡ false → pieces_of (b ∷ text) ≡ before_first b (pieces_of text)
byte_goes_on b text other = ap (λ (t : Bool). cond t ([] ∷ pieces_of text) (before_first b (pieces_of text))) other

-- the first piece, and the pieces after it
record FirstPiece (text : List ℕ) (end : ℕ) : Type 0 where
  pub more : List (List ℕ)
  pub whole : pieces_of text ≡ take end text ∷ more
  pub behind : pieces_of (drop end text) ≡ [] ∷ more

first_piece : (text : List ℕ) → FirstPiece text (place_of 32 text)
first_piece [] = record { more = []; whole = refl; behind = refl }
first_piece (b ∷ text) = elim (cases_eq b 32) [
  | inl here ↦
      let P : ℕ → Type 0 = λ k. FirstPiece (b ∷ text) k in
      subst P (sym (is_here 32 b text (grind (arith, nat_tests, here))))
      (record { more = pieces_of text; whole = space_cuts b text here; behind = space_cuts b text here })
  | inr other ↦
      let differs : (b == 32) ≡ false = grind (arith, nat_tests, other) in
      let rest = first_piece text in
      let P : ℕ → Type 0 = λ k. FirstPiece (b ∷ text) k in
      subst P (sym (not_here 32 b text differs))
      (record { more = rest.more; whole = byte_goes_on b text differs ∙ ap (λ (p : List (List ℕ)). before_first b p) rest.whole; behind = rest.behind })
]

-- a text that begins with no space begins with a field, up to its first space
field_first : (text : List ℕ) → 0 < length text → get_or text 0 32 ≢ 32 → fields_of text ≡ take (place_of 32 text) text ∷ fields_of (drop (place_of 32 text) text)
field_first [] some other = absurd (omega arith)
field_first (b ∷ text) some other =
    let first = first_piece (b ∷ text) in
    let place : place_of 32 (b ∷ text) ≡ suc (place_of 32 text) = not_here 32 b text (grind (arith, nat_tests, other)) in
    let P : ℕ → Type 0 = λ k. filled (take k (b ∷ text) ∷ first.more) ≡ take k (b ∷ text) ∷ filled first.more in
    ap filled first.whole ∙ subst P (sym place) refl ∙ ap (λ (f : List (List ℕ)). take (place_of 32 (b ∷ text)) (b ∷ text) ∷ f) (sym (ap filled first.behind))

-- how many spaces a text begins with
abbrev pub spaces_of : List ℕ → ℕ
spaces_of text = position_or_len (λ b. not (b == 32)) text

spaces_on : (b : ℕ) (text : List ℕ) → (b == 32) ≡ true → spaces_of (b ∷ text) ≡ suc (spaces_of text)
spaces_on b text is = grind (arith, nat_tests, is)

spaces_end : (b : ℕ) (text : List ℕ) → (b == 32) ≡ false → spaces_of (b ∷ text) ≡ 0
spaces_end b text is = grind (arith, nat_tests, is)

-- spaces in front of a text change no field
fields_behind : (text : List ℕ) → fields_of text ≡ fields_of (drop (spaces_of text) text)
fields_behind [] = refl
fields_behind (b ∷ text) = elim (cases_eq b 32) [
  | inl here ↦
      ap filled (space_cuts b text here) ∙ fields_behind text
      ∙ ap (λ (k : ℕ). fields_of (drop k (b ∷ text))) (sym (spaces_on b text (grind (arith, nat_tests, here))))
  | inr other ↦ ap (λ (k : ℕ). fields_of (drop k (b ∷ text))) (sym (spaces_end b text (grind (arith, nat_tests, other))))
]

-- after them stands another byte
other_behind : (text : List ℕ) → spaces_of text < length text → (0 < length (drop (spaces_of text) text)) × (get_or (drop (spaces_of text) text) 0 32 ≢ 32)
other_behind [] within = absurd (omega arith)
other_behind (b ∷ text) within = elim (cases_eq b 32) [
  | inl here ↦
      let on = spaces_on b text (grind (arith, nat_tests, here)) in
      let P : ℕ → Type 0 = λ k. (0 < length (drop k (b ∷ text))) × (get_or (drop k (b ∷ text)) 0 32 ≢ 32) in
      subst P (sym on) (other_behind text (omega (arith, on, within)))
  | inr other ↦
      let P : ℕ → Type 0 = λ k. (0 < length (drop k (b ∷ text))) × (get_or (drop k (b ∷ text)) 0 32 ≢ 32) in
      subst P (sym (spaces_end b text (grind (arith, nat_tests, other)))) (omega arith, other)
]

-- a text of spaces alone has no field
pub no_field : (text : List ℕ) → length text ≤ spaces_of text → fields_of text ≡ []
no_field text all = fields_behind text ∙ ap fields_of (drop_all (spaces_of text) text all)

-- the first field follows the spaces, and reaches to the next one
pub field_behind : (text rest : List ℕ) (end : ℕ) → spaces_of text < length text → rest ≡ drop (spaces_of text) text → end ≡ place_of 32 rest → fields_of text ≡ take end rest ∷ fields_of (drop end rest)
field_behind text rest end within is place =
    let P : List ℕ → Type 0 = λ r. fields_of text ≡ take (place_of 32 r) r ∷ fields_of (drop (place_of 32 r) r) in
    let there : P rest = subst P (sym is) (fields_behind text ∙ field_first (drop (spaces_of text) text) (other_behind text within).0 (other_behind text within).1) in
    subst (λ (k : ℕ). fields_of text ≡ take k rest ∷ fields_of (drop k rest)) (sym place) there

-- where a field begins
pub found_field : (text : List ℕ) (i : ℕ) → Some i ≡ position (λ b. not (b == 32)) text → (spaces_of text ≡ i) × (spaces_of text < length text)
found_field text i is = let both = split_some _ _ _ (sym is) in (both.0, grind (arith, nat_tests, both.1))

pub found_none : (text : List ℕ) → None ≡ position (λ b. not (b == 32)) text → fields_of text ≡ []
found_none text is = let none = split_none _ _ (sym is) in no_field text (grind (arith, nat_tests, none))

place_within : (text : List ℕ) → place_of 32 text ≤ length text
place_within [] = omega arith
place_within (b ∷ text) = elim (cases_eq b 32) [
  | inl here ↦ omega (arith, is_here 32 b text (grind (arith, nat_tests, here)))
  | inr other ↦ omega (arith, not_here 32 b text (grind (arith, nat_tests, other)), place_within text)
]

end_by : (t : Bool) (place all : ℕ) → (t ≡ false → place ≡ all) → unwrap_or (cond t (Some place) None) all ≡ place
end_by true place all same = refl
end_by false place all same = sym (same refl)

-- where it ends
pub found_end : (text : List ℕ) (space : Option ℕ) → space ≡ position (λ b. b == 32) text → unwrap_or space (length text) ≡ place_of 32 text
found_end text space is =
    ap (λ (o : Option ℕ). unwrap_or o (length text)) is
    ∙ end_by (nat_lt (place_of 32 text) (length text)) (place_of 32 text) (length text) (λ past. let within = place_within text in grind (arith, nat_tests, past, within))

-- a byte 13 at the end is dropped, and another byte stays
pub return_dropped : (line : List ℕ) (k : ℕ) → suc k ≡ length line → get_or line k 0 ≡ 13 → take k line ≡ without_return line
return_dropped [] k last is = absurd (omega (arith, last))
return_dropped (b ∷ []) zero last is = let here : (b == 13) ≡ true = grind (arith, nat_tests, is) in sym (ap (λ (t : Bool). cond t [] (b ∷ [])) here)
return_dropped (b ∷ []) (suc k) last is = absurd (omega (arith, last))
return_dropped (b ∷ next ∷ rest) zero last is = absurd (omega (arith, last))
return_dropped (b ∷ next ∷ rest) (suc k) last is = ap (λ (l : List ℕ). b ∷ l) (return_dropped (next ∷ rest) k (omega (arith, last)) is)

pub return_kept : (line : List ℕ) (k : ℕ) → suc k ≡ length line → get_or line k 0 ≢ 13 → line ≡ without_return line
return_kept [] k last other = refl
return_kept (b ∷ []) zero last other = let differs : (b == 13) ≡ false = grind (arith, nat_tests, other) in sym (ap (λ (t : Bool). cond t [] (b ∷ [])) differs)
return_kept (b ∷ []) (suc k) last other = absurd (omega (arith, last))
return_kept (b ∷ next ∷ rest) zero last other = absurd (omega (arith, last))
return_kept (b ∷ next ∷ rest) (suc k) last other = ap (λ (l : List ℕ). b ∷ l) (return_kept (next ∷ rest) k (omega (arith, last)) other)
