use Rattle.std.proofs.Common.{◌+◌, ◌-◌, List, ℕ, sym, subst, arith}
use Rattle.page_map.specs.Checks.{IsMarked}
use Rattle.page_map.proofs.ReachedLemmas.{nothing_reached}
use Rattle.page_map.proofs.reached.Reached.new.Goals as goal

pub invariant_of-result : goal.invariant_of-result
invariant_of-result c =
    subst (λ (objects : List ℕ). IsMarked c.args.map.now c.in_ok-vec.field-0.items objects) (sym c.new.ensures.items)
    (nothing_reached c.args.map.now c.in_ok-vec.field-0.items (c.last.result - c.root.result + 1) (c.in_ok-vec.ensures.items_if_clones_equal (λ x same. same)) (omega (arith, c.in_ok-vec.ensures.len))
    (omega (arith, c.last.ensures.value, c.last.ensures.order, c.root.ensures)) (omega (arith, c.last.ensures.order)))
