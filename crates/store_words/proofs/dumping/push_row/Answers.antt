use Rattle.std.proofs.Common.{◌<◌, ◌++◌, ◌∙◌, List, ℕ, length, ap, arith}
use Rattle.std.proofs.lemmas.Bool.Decides.{nat_tests}
use Rattle.store_words.proofs.DumpLemmas.{no_row, some_row}
use Rattle.store_words.proofs.dumping.push_row.Goals as goal

pub returns-then-is_empty : goal.returns-then-is_empty
returns-then-is_empty c = no_row c.args.object c.args.value.now c.args.table.now.items (grind (arith, nat_tests, c.if-is_empty.ensures))

pub returns : goal.returns
returns c =
    let some : 0 < length c.args.value.now = grind (arith, nat_tests, c.if-is_empty.ensures) in
    some_row c.args.object c.args.value.now c.args.table.now.items c.in_ok-row.row.items _ some c.in_ok-row.ensures
    (c.in_ok-extend_from_slice.ensures.items ∙ ap (λ (l : List ℕ). c.args.table.now.items ++ l) c.as_slice.ensures.value)
