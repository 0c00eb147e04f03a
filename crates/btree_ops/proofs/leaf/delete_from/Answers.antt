use Rattle.std.proofs.Common.{◌≡◌, ◌-◌, ◌==◌, ℕ, suc, false, sym, ap, ◌∙◌, arith}
use Rattle.std.proofs.lemmas.Bool.{ne_eqb}
use Rattle.key_entries.specs.Spots.{pairs_in}
use Rattle.btree_ops.specs.Node.{node_in}
use Rattle.btree_ops.specs.Effects.{pairs_of}
use Rattle.btree_ops.proofs.LeafLemmas.{leaf_pairs, some_pairs, delete_bytes}
use Rattle.btree_ops.proofs.leaf.delete_from.Goals as goal

pub returns-clause-made : goal.returns-clause-made
returns-clause-made c x =
    let count : ℕ = c.in-Some.head.count in
    let spot = c.in-Some-spot_of.spot in
    let there : pairs_of (node_in c.args.value.now) ≡ pairs_in count c.in-Some.head.pairs.now = ap pairs_of c.in-Some.ensures.some ∙ leaf_pairs (pairs_in count c.in-Some.head.pairs.now) in
    let some : false ≡ (spot.start == spot.end) = sym (ne_eqb spot.start spot.end c.if-spot.false) in
    let least = some_pairs c.args.key (pairs_of (node_in c.args.value.now)) count c.in-Some.head.pairs.now spot there c.in-Some-spot_of.ensures.some some in
    let less : suc (count - 1) ≡ count = omega (arith, least) in
    delete_bytes c.args.key (pairs_of (node_in c.args.value.now)) count c.in-Some.head.pairs.now spot there c.in-Some-spot_of.ensures.some some (count - 1) less x
