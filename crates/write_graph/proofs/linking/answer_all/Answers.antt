use Rattle.std.proofs.Common.{◌∙◌, ap, Option, ℕ, arith}
use Rattle.std.specs.Option.{unwrap_or}
use Rattle.write_graph.proofs.Loops.{get-index}
use Rattle.write_graph.proofs.Led.{answered-on}
use Rattle.write_graph.proofs.linking.answer_all.Goals as goal

pub loop-x-preserved : goal.loop-x-preserved
loop-x-preserved c =
    let lt = c.loop-x-test.true in
    answered-on c.args.objects.now c.args.objects.now c.args.slot c.loop-x.x-index _ c.unwrap_or-version.result c.own_cell.result c.args.graph.now c.loop-x.graph c.answer.new.graph c.args.rows.now c.loop-x.rows c.answer.new.rows c.set_last.new.self (omega (arith, lt)) c.loop-x.invariant (get-index c.args.objects.now c.loop-x.x-index (omega (arith, lt)))
    (c.unwrap_or-version.ensures ∙ ap (λ (o : Option ℕ). unwrap_or o c.args.slot) c.last_held.ensures) c.answer.ensures c.own_cell.ensures c.set_last.ensures
