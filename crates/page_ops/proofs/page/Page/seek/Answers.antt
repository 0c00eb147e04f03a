use Rattle.std.proofs.Common.{List, ℕ, is_lt, suc, ◌+◌, ◌-◌, ◌/◌, ◌≡◌, sym, ap, ◌∙◌, arith}
use Rattle.key_entries.specs.Entries.{byte_order}
use Rattle.page_ops.specs.Reading.{seek_from}
use Rattle.page_ops.proofs.SeekLemmas.{above, below, no_cell}
use Rattle.page_ops.proofs.page.Page.seek.Goals as goal

pub returns-in_err-key : goal.returns-in_err-key
returns-in_err-key c =
    c.from_residual.ensures ∙ sym (no_cell c.args.self.now c.args.key.now c.loop-low.low c.loop-low.high c.loop-low-test.true (sym c.in_err-key.ensures.there)) ∙ c.loop-low.invariant.so_far

pub loop-low-preserved-then-is_below : goal.loop-low-preserved-then-is_below
loop-low-preserved-then-is_below c =
    let low : ℕ = c.loop-low.low in
    let high : ℕ = c.loop-low.high in
    let next : suc ((low + high) / 2) ≡ (low + high) / 2 + 1 = omega arith in
    record {
      order = omega (arith, c.loop-low-test.true);
      within = c.loop-low.invariant.within;
      so_far =
          ap (λ (m : ℕ). seek_from (high - m) c.args.self.now c.args.key.now m high) (sym next)
          ∙ sym (above c.args.self.now c.args.key.now low high c.loop-low-test.true (sym c.in_ok-key.ensures.there)
          (ap (λ (k : List ℕ). is_lt (byte_order k c.args.key.now)) (sym c.in_ok-key.ensures.key) ∙ sym c.is_below.ensures ∙ c.if-is_below.true))
          ∙ c.loop-low.invariant.so_far;
    }

pub loop-low-preserved : goal.loop-low-preserved
loop-low-preserved c =
    let low : ℕ = c.loop-low.low in
    let high : ℕ = c.loop-low.high in
    record {
      order = omega (arith, c.loop-low.invariant.order);
      within = omega (arith, c.loop-low.invariant.order, c.loop-low.invariant.within);
      so_far =
          sym (below c.args.self.now c.args.key.now low high c.loop-low-test.true (sym c.in_ok-key.ensures.there)
          (ap (λ (k : List ℕ). is_lt (byte_order k c.args.key.now)) (sym c.in_ok-key.ensures.key) ∙ sym c.is_below.ensures ∙ c.if-is_below.false))
          ∙ c.loop-low.invariant.so_far;
    }
