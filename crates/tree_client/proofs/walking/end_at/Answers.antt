use Rattle.std.proofs.Common.{refl}
use Rattle.range_calls.specs.ReadLaws.{answers_passed, passed}
use Rattle.range_calls.specs.Store.{state_of}
use Rattle.logical_btree.specs.Walk.{node_at}
use Rattle.tree_client.specs.Finding.{leaf_end}
use Rattle.tree_client.proofs.WalkLemmas.{bad_ends, inner_ends_not, leaf_ends}
use Rattle.tree_client.proofs.walking.end_at.Goals as goal

pub returns-in_err-node-clause-answer : goal.returns-in_err-node-clause-answer
returns-in_err-node-clause-answer g c = λ p commands holds below.
    let o = node_at c.args.tree.now.lo c.args.tree.now.hi (state_of p commands) c.args.object in
    answers_passed c.from_residual.result c.in_err-node.field-0.0 (leaf_end c.args.seen c.args.parent c.args.object o)
    (passed c.from_residual.result c.in_err-node.field-0.0 c.from_residual.ensures.1)
    (λ done. bad_ends o c.args.object c.in_err-node.field-0.0 c.args.seen c.args.parent (c.in_err-node.ensures.answer p commands holds below done))

pub returns-in-Leaf-clause-answer : goal.returns-in-Leaf-clause-answer
returns-in-Leaf-clause-answer g c = λ p commands holds below done.
    let o = node_at c.args.tree.now.lo c.args.tree.now.hi (state_of p commands) c.args.object in
    leaf_ends o c.args.object c.in_ok-node.node c.in-Leaf.pairs c.note_full-full.result c.args.seen c.args.parent c.is_full.result (c.in_ok-node.ensures.answer p commands holds below refl) c.in-Leaf.is c.is_full.ensures c.note_full-full.ensures

pub returns-in-Inner-clause-answer : goal.returns-in-Inner-clause-answer
returns-in-Inner-clause-answer g c = λ p commands holds below done.
    let o = node_at c.args.tree.now.lo c.args.tree.now.hi (state_of p commands) c.args.object in
    inner_ends_not o c.args.object c.in_ok-node.node c.in-Inner.field-0 c.in-Inner.field-1 c.args.seen c.args.parent (c.in_ok-node.ensures.answer p commands holds below refl) c.in-Inner.is
