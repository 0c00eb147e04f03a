use Rattle.std.proofs.Common.{◌∙◌, ap, sym, ℕ, arith, Some}
use Rattle.write_graph.proofs.Loops.{get-index, place-met, not-met-all}
use Rattle.write_graph.proofs.cells.place_in.Goals as goal

pub returns-then-x-y : goal.returns-then-x-y
returns-then-x-y c = c.loop-y.invariant.0 ∙ sym (place-met c.args.x c.args.objects.now c.loop-y.y-index c.loop-y.invariant.1 (get-index c.args.objects.now c.loop-y.y-index (omega (arith, c.loop-y-test.true)) ∙ ap (λ (k : ℕ). Some k) (sym c.if-x-y.true)))

pub unreachable-requires : goal.unreachable-requires
unreachable-requires c = not-met-all c.args.x c.args.objects.now c.loop-y.y-index c.loop-y.invariant.1 (omega (arith, c.loop-y-test.false)) c.requires.there
