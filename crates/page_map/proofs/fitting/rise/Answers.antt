use Rattle.std.proofs.Common.{◌≡◌, ℕ, suc, ◌-◌, false, is_lt, sym, ap, ◌∙◌, arith}
use Rattle.std.specs.FinMap.Entries.{is_sorted}
use Rattle.key_entries.specs.Entries.{byte_order}
use Rattle.page_ops.specs.OnCells.{key_at}
use Rattle.page_map.proofs.PageLemmas.{climb_sorted, not_climbing, truly}
use Rattle.page_map.proofs.fitting.rise.Goals as goal

pub returns-then-not-is_below : goal.returns-then-not-is_below
returns-then-not-is_below c =
    let cells = c.args.cells.now in
    let j : ℕ = c.loop-i.i - 1 in
    let next : suc j ≡ c.loop-i.i = omega (arith, c.loop-i.auto.i) in
    let falls : is_lt (byte_order (key_at cells j) (key_at cells (suc j))) ≡ false =
    (λ k. is_lt (byte_order (sym c.key.ensures k) ((ap (key_at cells) next ∙ sym c.key-in-loop-i.ensures) k))) ∙ sym c.is_below.ensures ∙ c.if-not-is_below.true in
    sym (not_climbing cells j (omega (arith, next, c.loop-i-test.true, c.count-i-end.ensures.value)) falls)

pub returns : goal.returns
returns c =
    let cells = c.args.cells.now in
    sym (truly (is_sorted byte_order cells) (climb_sorted cells (λ k low. c.loop-i.invariant k (omega (arith, low, c.loop-i-test.false, c.count-i-end.ensures.value)))))
