use Rattle.std.proofs.Common.{◌≡◌, ℕ, List, true, is_lt, sym, ap, ◌∙◌, arith}
use Rattle.key_entries.specs.Entries.{byte_order}
use Rattle.page_ops.specs.OnCells.{key_at}
use Rattle.page_map.proofs.CellLemmas.{one_more, place_stops}
use Rattle.page_map.proofs.cells.Cells.place_for.Goals as goal

pub loop-i-preserved : goal.loop-i-preserved
loop-i-preserved c =
    one_more (λ k. is_lt (byte_order (key_at c.args.self.now k) c.args.key.now) ≡ true) c.loop-i.i c.loop-i.invariant
    (ap (λ (k : List ℕ). is_lt (byte_order k c.args.key.now)) (sym c.key.ensures) ∙ sym c.is_below.ensures ∙ c.if-not-is_below.false)

pub returns-then-not-is_below : goal.returns-then-not-is_below
returns-then-not-is_below c =
    sym (place_stops c.args.key.now c.args.self.now c.loop-i.i (omega (arith, c.loop-i-test.true, c.count-count.ensures.value)) c.loop-i.invariant
    (λ low. ap (λ (k : List ℕ). is_lt (byte_order k c.args.key.now)) (sym c.key.ensures) ∙ sym c.is_below.ensures ∙ c.if-not-is_below.true))

pub returns : goal.returns
returns c =
    sym (place_stops c.args.key.now c.args.self.now c.count-count.result (omega (arith, c.count-count.ensures.value)) (λ k low. c.loop-i.invariant k (omega (arith, low, c.loop-i-test.false)))
    (λ low. absurd (omega (arith, low, c.count-count.ensures.value))))
