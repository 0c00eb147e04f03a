use Rattle.std.proofs.Common.{◌≡◌, ◌++◌, subst, ℕ, arith}
use Rattle.graph_nodes.specs.Kept.{no_arcs}
use Rattle.graph_nodes.proofs.arcs.add_page.Goals as goal

pub returns-clause-cells : goal.returns-clause-cells
returns-clause-cells c =
    let end : c.loop-i.i ≡ 64 = omega (arith, c.loop-i-test.false, c.loop-i.auto.i-end) in
    subst (λ (n : ℕ). c.loop-i.stored.items ≡ c.args.stored.now.items ++ no_arcs n) end c.loop-i.invariant.0
