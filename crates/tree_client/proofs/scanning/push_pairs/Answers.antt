use Rattle.logical_btree.specs.Walk.{is_within}
use Rattle.tree_client.specs.Scanning.{span}
use Rattle.tree_client.proofs.ScanLemmas.{pair_taken, pairs_all}
use Rattle.tree_client.proofs.scanning.push_pairs.Goals as goal

pub loop-i-preserved : goal.loop-i-preserved
loop-i-preserved c =
    pair_taken (λ e. is_within e.0 (span c.args.from c.args.to)) c.args.leaf.now c.loop-i.i c.index-leaf-i.result c.loop-i.pairs.items c.push_asked.new.pairs.items c.args.pairs.now.items c.loop-i-test.true c.index-leaf-i.is c.in_ok-push_asked.ensures.ok c.loop-i.invariant

pub returns-clause-ok : goal.returns-clause-ok
returns-clause-ok c = pairs_all (λ e. is_within e.0 (span c.args.from c.args.to)) c.args.leaf.now c.loop-i.i c.loop-i.pairs.items c.args.pairs.now.items c.loop-i-test.false c.loop-i.invariant
