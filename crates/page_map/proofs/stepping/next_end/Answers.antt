use Rattle.std.proofs.Common.{rules, ◌≡◌, ℕ, suc, ◌==◌, true, false, Option, Some, List, option_map, sym, ap, ◌∙◌}
use Rattle.page_ops.specs.Reading.{count_in, has_cell, key_of}
use Rattle.page_map.specs.Map.{is_below}
use Rattle.page_map.proofs.StepLemmas.{next_key}
use Rattle.page_map.proofs.stepping.next_end.Goals as goal

pub returns-then-is_below : goal.returns-then-is_below
returns-then-is_below c =
    let bytes : List ℕ = c.args.page.now in
    let to : Option (List ℕ) = option_map (λ end. end.now) c.args.to in
    let i : ℕ = c.args.i in
    let there : has_cell bytes (suc i) ≡ true = search rules in
    let key : c.in_ok-key.key.now ≡ key_of bytes (suc i) = search rules in
    let last : (suc i == count_in bytes) ≡ false = search rules in
    let below : is_below (key_of bytes (suc i)) to ≡ true = search rules in
    ap (λ (k : List ℕ). Some (Some k)) key ∙ sym (next_key bytes to i last there below)
