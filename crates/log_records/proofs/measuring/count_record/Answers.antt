use Rattle.std.proofs.Common.{◌∙◌, [], ◌∷◌, ◌++◌, ℕ, List, ap, sym, arith, append_assoc}
use Rattle.log_records.specs.Measuring.{block_lengths, has_room, is_full}
use Rattle.log_records.proofs.measuring.count_record.Goals as goal

pub returns-then-filled-length-le-MAX_PAYLOAD-clause-counted : goal.returns-then-filled-length-le-MAX_PAYLOAD-clause-counted
returns-then-filled-length-le-MAX_PAYLOAD-clause-counted c rest = ap (λ (l : List ℕ). c.args.found.now.items ++ l) (has_room c.args.filled.now c.args.length rest (omega arith))

pub returns-clause-counted : goal.returns-clause-counted
returns-clause-counted c rest =
    let old = c.args.found.now.items in
    let filled = c.args.filled.now in
    let n = c.args.length in
    ap (λ (l : List ℕ). old ++ l) (is_full filled n rest (omega arith)) ∙ sym (append_assoc old (filled ∷ []) (block_lengths n rest)) ∙ ap (λ (l : List ℕ). l ++ block_lengths n rest) (sym c.in_ok-push.ensures.items)
