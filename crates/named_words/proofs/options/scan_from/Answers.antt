use Rattle.std.proofs.Common.{◌≤◌, ◌∙◌, ◌-◌, ap, arith, sym, drop, get_or, length, Bor, Option, None, List, [], ℕ}
use Rattle.std.specs.Option.{option_map}
use Rattle.std.proofs.lemmas.Grind.{common_steps}
use Rattle.std.proofs.lemmas.List.{take_all}
use Rattle.named_words.specs.Forms.{texts}
use Rattle.named_words.specs.Reading.{scan_asked}
use Rattle.named_words.proofs.Pairs.{scan_step, two_in_front}
use Rattle.named_words.proofs.options.scan_from.Goals as goal

pub loop-rest-preserved : goal.loop-rest-preserved
loop-rest-preserved c =
    let rest : List (Bor (List ℕ)) = c.loop-rest.rest.now in
    let nothing : Bor (List ℕ) = record { ref_ptr = (0, 0); now = [] } in
    let pattern : Option (List ℕ) = option_map (λ text. text.now) c.loop-rest.pattern in
    let next : Option (List ℕ) = option_map (λ text. text.now) c.in_ok-pattern.field-0-0 in
    let short : length (drop 2 rest) ≤ length rest - 2 = grind (arith, common_steps) in
    ap (λ (words : List (Bor (List ℕ))). scan_asked c.args.cursor next c.in_ok-pattern.field-0-1 (texts words)) (take_all (length rest - 2) (drop 2 rest) short)
    ∙ scan_step c.args.cursor pattern c.loop-rest.count (get_or rest 0 nothing).now (get_or rest 1 nothing).now (texts (drop 2 rest)) (scan_asked c.args.cursor None 10 (texts c.args.options.now)) next c.in_ok-pattern.field-0-1
    c.in_ok-pattern.ensures
    (ap (λ (words : List (List ℕ)). scan_asked c.args.cursor pattern c.loop-rest.count words) (sym (two_in_front nothing nothing rest c.in-len2-up.len_at_least)) ∙ c.loop-rest.invariant)
