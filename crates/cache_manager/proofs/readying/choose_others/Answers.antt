use Rattle.std.proofs.Common.{◌<◌, ◌^◌, ap, arith, length}
use Rattle.write_graph.specs.Graph.{lsns}
use Rattle.running_store.specs.Laid.Among.{all_among}
use Rattle.running_store.specs.Parts.{volatile}
use Rattle.cache_manager.proofs.MadeReady.Chosen.{chosen_full, chosen_next, chosen_over, chosen_start}
use Rattle.cache_manager.proofs.readying.choose_others.Goals as goal

pub loop-name-init : goal.loop-name-init
loop-name-init c = record {
  few = omega (arith, ap length c.new-names.ensures.items);
  chosen = chosen_start (volatile c.args.objects.now c.args.graph.now.entries) c.args.copied c.args.most c.new-names.result.items c.new-logs.result.items c.new-names.ensures.items c.new-logs.ensures.items;
}

pub returns-then-len-most : goal.returns-then-len-most
returns-then-len-most c = (
  c.loop-name.names.items,
  chosen_full (volatile c.args.objects.now c.args.graph.now.entries) c.args.copied c.args.most c.loop-name.from c.loop-name.names.items c.loop-name.logs.items c.loop-name.invariant.chosen (omega (arith, c.if-len-most.true)),
)

pub loop-name-preserved : goal.loop-name-preserved
loop-name-preserved c =
    let next = chosen_next (volatile c.args.objects.now c.args.graph.now.entries) c.args.copied c.args.most c.loop-name.from c.loop-name.names.items c.loop-name.logs.items c.loop-name.invariant.chosen c.in-Some.name c.in-Some.ensures.some
    c.consider.new.names.items c.consider.new.logs.items (omega (arith, c.if-len-most.false)) c.in_ok-consider.ensures in
    record { few = next.1; chosen = next.0 }

pub overflow_add-from : goal.overflow_add-from
overflow_add-from c = omega (arith, all_among (λ n. n < 2 ^ 62) (lsns c.args.graph.now.entries) c.in-Some.name c.requires.low c.in-Some.ensures.some.0.1.1.held)

pub loop-name-smaller : goal.loop-name-smaller
loop-name-smaller c = omega (arith, all_among (λ n. n < 2 ^ 62) (lsns c.args.graph.now.entries) c.in-Some.name c.requires.low c.in-Some.ensures.some.0.1.1.held, c.in-Some.ensures.some.0.0)

pub returns : goal.returns
returns c = (
  c.loop-name.names.items,
  chosen_over (volatile c.args.objects.now c.args.graph.now.entries) c.args.copied c.args.most c.loop-name.from c.loop-name.names.items c.loop-name.logs.items c.loop-name.invariant.chosen c.in_default.ensures.none,
)
