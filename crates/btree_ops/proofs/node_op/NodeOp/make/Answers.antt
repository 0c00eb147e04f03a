use Rattle.std.proofs.Common.{◌≡◌, ℕ, List, ◌∙◌, subst, IfOk}
use Rattle.btree_ops.proofs.Outcomes.{put_by, delete_by, split_child_by, split_root_by}
use Rattle.btree_ops.proofs.node_op.NodeOp.make.Goals as goal

pub returns-in_ok-bytes-in-Put : goal.returns-in_ok-bytes-in-Put
returns-in_ok-bytes-in-Put c =
    c.one_value.ensures ∙ c.in_ok-bytes-in-Put.ensures c.in-Put.object ∙ put_by c.args.self.now c.args.values.now c.get.result.now c.get.ensures c.in-Put.object c.in-Put.key c.in-Put.value c.in-Put.is

pub returns-in_ok-bytes-in-Delete : goal.returns-in_ok-bytes-in-Delete
returns-in_ok-bytes-in-Delete c =
    c.one_value-in-Delete.ensures ∙ c.in_ok-bytes-in-Delete.ensures c.in-Delete.object
    ∙ delete_by c.args.self.now c.args.values.now c.get-in-Delete.result.now c.get-in-Delete.ensures c.in-Delete.object c.in-Delete.key c.in-Delete.is

pub returns-in-SplitChild : goal.returns-in-SplitChild
returns-in-SplitChild c =
    let same = split_child_by c.args.self.now c.args.values.now c.get-in-SplitChild.result.now c.get-in-SplitChild.ensures c.in-SplitChild.parent c.in-SplitChild.child c.in-SplitChild.new c.get-in-SplitChild-2.result.now
    c.split_child-made.result c.in-SplitChild.is c.get-in-SplitChild-2.ensures c.split_child-made.ensures in
    subst (λ (v : List (List ℕ)). IfOk c.three_values.result (λ made. made ≡ v)) same (c.three_values.ensures c.in-SplitChild.parent c.in-SplitChild.child c.in-SplitChild.new)

pub returns-in-SplitRoot : goal.returns-in-SplitRoot
returns-in-SplitRoot c =
    let same = split_root_by c.args.self.now c.args.values.now c.get-in-SplitRoot.result.now c.get-in-SplitRoot.ensures c.in-SplitRoot.root c.in-SplitRoot.left c.in-SplitRoot.right c.split_root-made.result c.in-SplitRoot.is c.split_root-made.ensures in
    subst (λ (v : List (List ℕ)). IfOk c.three_values-in-SplitRoot.result (λ made. made ≡ v)) same (c.three_values-in-SplitRoot.ensures c.in-SplitRoot.root c.in-SplitRoot.left c.in-SplitRoot.right)
