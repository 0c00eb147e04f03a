use Rattle.logical_btree.proofs.AlikeLemmas.{tree_stays}
use Rattle.logical_btree.proofs.tree_laws.a_tree_depends_on_its_range.Goals as goal

pub returns : goal.returns
returns c = λ lo hi order s t alike is. tree_stays lo hi s t alike order is
