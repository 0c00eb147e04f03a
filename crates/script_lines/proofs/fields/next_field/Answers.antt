use Rattle.std.proofs.Common.{◌≡◌, ◌-◌, ◌∷◌, List, ℕ, length, length-drop, take, drop, sym, ◌∙◌, ap, arith}
use Rattle.std.proofs.lemmas.List.{take_all}
use Rattle.script_lines.specs.Grammar.{fields_of}
use Rattle.script_lines.proofs.FieldLemmas.{found_field, found_none, found_end, field_behind}
use Rattle.script_lines.proofs.fields.next_field.Goals as goal

whole : (text : List ℕ) (k : ℕ) → take (length text - k) (drop k text) ≡ drop k text
whole text k = take_all (length text - k) (drop k text) (omega (arith, length-drop {A = ℕ}))

pub returns-in_err-start-clause-none : goal.returns-in_err-start-clause-none
returns-in_err-start-clause-none c = rw c.from_residual.ensures (found_none c.args.text.now c.in_err-start.ensures)

pub returns-clause-some : goal.returns-clause-some
returns-clause-some c =
    let text = c.args.text.now in
    let start = c.in_ok-start.start in
    let rest = take (length text - start) (drop start text) in
    let found = found_field text start c.in_ok-start.ensures in
    let end = c.unwrap_or-end.ensures ∙ found_end rest c.space_in.result c.space_in.ensures in
    field_behind text rest c.unwrap_or-end.result found.1 (whole text start ∙ ap (λ (k : ℕ). drop k text) (sym found.0)) end
    ∙ ap (λ (l : List ℕ). l ∷ fields_of (drop c.unwrap_or-end.result rest)) (sym c.split_at.ensures.front)
    ∙ ap (λ (l : List ℕ). c.split_at.result.0.now ∷ fields_of l) (sym c.split_at.ensures.back)
