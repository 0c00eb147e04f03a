use Rattle.std.proofs.Common.{◌<◌, ◌^◌, refl, arith}
use Rattle.write_graph.specs.Graph.{lsns}
use Rattle.running_store.specs.Laid.Among.{all_among}
use Rattle.running_store.specs.Parts.{volatile}
use Rattle.cache_manager.proofs.ThinNode.Nodes.{thin_found, thin_behind, thin_none}
use Rattle.cache_manager.proofs.thin.least_thin.Goals as goal

pub returns-then-len-le-THIN-clause-some : goal.returns-then-len-le-THIN-clause-some
returns-then-len-le-THIN-clause-some c =
    thin_found (volatile c.args.objects.now c.args.graph.now.entries) c.args.graph.now.entries c.loop-name.from c.in-Some.name c.in_ok-work.work.items refl c.loop-name.invariant c.in-Some.ensures.some c.in_ok-work.ensures
    (omega (arith, c.if-len-le-THIN.true, c.in_ok-work.work.ok.0))

pub loop-name-preserved : goal.loop-name-preserved
loop-name-preserved c =
    thin_behind (volatile c.args.objects.now c.args.graph.now.entries) c.args.graph.now.entries c.loop-name.from c.in-Some.name c.in_ok-work.work.items refl c.loop-name.invariant c.in-Some.ensures.some c.in_ok-work.ensures
    (λ few. omega (arith, few, c.if-len-le-THIN.false, c.in_ok-work.work.ok.0))

pub overflow_add-from : goal.overflow_add-from
overflow_add-from c = omega (arith, all_among (λ n. n < 2 ^ 62) (lsns c.args.graph.now.entries) c.in-Some.name c.requires.low c.in-Some.ensures.some.0.1.1.held)

pub loop-name-smaller : goal.loop-name-smaller
loop-name-smaller c = omega (arith, all_among (λ n. n < 2 ^ 62) (lsns c.args.graph.now.entries) c.in-Some.name c.requires.low c.in-Some.ensures.some.0.1.1.held, c.in-Some.ensures.some.0.0)

pub returns-clause-none : goal.returns-clause-none
returns-clause-none c = thin_none (volatile c.args.objects.now c.args.graph.now.entries) c.args.graph.now.entries c.loop-name.from refl c.loop-name.invariant c.in_default.ensures.none
