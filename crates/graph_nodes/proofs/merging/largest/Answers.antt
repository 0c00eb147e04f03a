use Rattle.std.proofs.Common.{sym, subst, ℕ, ◌<◌, length, arith, inl, inr}
use Rattle.std.specs.Prelude.{IsTrue}
use Rattle.oper_core.specs.State.{is_among}
use Rattle.graph_nodes.proofs.Found.{place-among}
use Rattle.graph_nodes.proofs.merging.largest.Goals as goal

pub loop-i-init : goal.loop-i-init
loop-i-init c = (
  subst (λ (k : ℕ). IsTrue (is_among k c.args.taken.now.members)) (sym c.get-one.ensures.value) (place-among c.args.taken.now.members 0 c.requires.some),
  c.get-one.ensures.below,
)

pub loop-i-preserved : goal.loop-i-preserved
loop-i-preserved c =
    let all = c.args.taken.now.members in
    let lt : c.loop-i.i < length all = omega (arith, c.loop-i-test.true, c.len-i-end.ensures.count) in
    let here = subst (λ (k : ℕ). IsTrue (is_among k all)) (sym c.get.ensures.value) (place-among all c.loop-i.i lt) in
    elim c.larger-one.ensures [
      | inl e ↦ (subst (λ (k : ℕ). IsTrue (is_among k all)) (sym e) c.loop-i.invariant.0, omega (arith, e, c.loop-i.invariant.1))
      | inr e ↦ (subst (λ (k : ℕ). IsTrue (is_among k all)) (sym e) here, omega (arith, e, c.get.ensures.below))
    ]
