use Rattle.std.proofs.Common.{◌≡◌, ℕ, List, false, is_lt, sym, ap, ◌∙◌, arith}
use Rattle.key_entries.specs.Entries.{byte_order}
use Rattle.page_ops.specs.OnCells.{key_at}
use Rattle.page_map.proofs.CellLemmas.{one_more, under_stops}
use Rattle.page_map.proofs.cells.Cells.under.Goals as goal

pub loop-i-preserved : goal.loop-i-preserved
loop-i-preserved c =
    one_more (λ k. is_lt (byte_order c.args.key.now (key_at c.args.self.now k)) ≡ false) c.loop-i.i c.loop-i.invariant
    (ap (λ (k : List ℕ). is_lt (byte_order c.args.key.now k)) (sym c.key.ensures) ∙ sym c.is_below.ensures ∙ c.if-is_below.false)

pub returns-then-is_below : goal.returns-then-is_below
returns-then-is_below c =
    c.before-then-is_below.ensures
    ∙ sym (under_stops c.args.key.now c.args.self.now c.loop-i.i (omega (arith, c.loop-i-test.true, c.count-count.ensures.value)) c.loop-i.invariant
    (λ low. ap (λ (k : List ℕ). is_lt (byte_order c.args.key.now k)) (sym c.key.ensures) ∙ sym c.is_below.ensures ∙ c.if-is_below.true))

pub returns : goal.returns
returns c =
    c.before-2.ensures
    ∙ sym (under_stops c.args.key.now c.args.self.now c.count-count.result (omega (arith, c.count-count.ensures.value)) (λ k low. c.loop-i.invariant k (omega (arith, low, c.loop-i-test.false)))
    (λ low. absurd (omega (arith, low, c.count-count.ensures.value))))
