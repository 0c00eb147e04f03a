use Rattle.std.proofs.Common.{◌≡◌, ◌∙◌, ◌+◌, ◌<◌, ℕ, List, length, refl, subst, sym, arith}
use Rattle.std.specs.Prelude.{slice_index}
use Rattle.graph_nodes.proofs.Found.{place-among}
use Rattle.graph_nodes.proofs.Scattered.{IsParting, part-on, part-end}
use Rattle.graph_nodes.proofs.names.part.Goals as goal

pub loop-s-preserved : goal.loop-s-preserved
loop-s-preserved c =
    let slots = c.args.slots.now in
    let m = slice_index slots c.loop-s.s-index in
    let was = c.args.name.now.items in
    let now = c.loop-s.name.items in
    let is = c.loop-s.invariant.0 in
    let lt : c.loop-s.s-index < length slots = omega (arith, c.loop-s-test.true) in
    let low : m < length now = omega (arith, c.requires m (place-among slots c.loop-s.s-index lt), is.size) in (
      subst (λ (xs : List ℕ). IsParting slots (c.loop-s.s-index + 1) was xs) (sym c.set_own.ensures.items) (part-on slots c.loop-s.s-index m was now is refl lt low),
      c.set_own.ensures.room ∙ c.loop-s.invariant.1,
    )

pub returns-clause-alone : goal.returns-clause-alone
returns-clause-alone c =
    let end : c.loop-s.s-index ≡ length c.args.slots.now = omega (arith, c.loop-s-test.false, c.loop-s.auto.s-index-end) in
    part-end c.args.slots.now c.loop-s.s-index c.args.name.now.items c.loop-s.name.items end c.loop-s.invariant.0
