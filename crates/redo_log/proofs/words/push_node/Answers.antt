use Rattle.std.proofs.Common.{◌++◌, ◌∙◌, ap, sym, append_assoc}
use Rattle.std.specs.Prelude.{codes}
use Rattle.btree_ops.specs.declared.node_op.NodeOp.{NodeOp}
use Rattle.redo_log.specs.Words.{node_words}
use Rattle.redo_log.proofs.words.push_node.Goals as goal

pub returns-in_ok-push_names-in-SplitChild : goal.returns-in_ok-push_names-in-SplitChild
returns-in_ok-push_names-in-SplitChild c =
    c.in_ok-push_names-in-SplitChild.ensures ∙ append_assoc c.args.text.now.items (codes "split_child") _ ∙ ap (λ (op : NodeOp). c.args.text.now.items ++ node_words op) (sym c.in-SplitChild.is)
