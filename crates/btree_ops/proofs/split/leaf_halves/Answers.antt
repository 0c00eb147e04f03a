use Rattle.btree_ops.proofs.SplitLemmas.{leaf_parts}
use Rattle.btree_ops.proofs.split.leaf_halves.Goals as goal

pub returns : goal.returns
returns c = leaf_parts c.args.pairs.now c.listed.result c.listed-2.result _ c.if-pairs-lt-MOST_ENTRIES.false c.requires c.listed.ensures c.listed-2.ensures
