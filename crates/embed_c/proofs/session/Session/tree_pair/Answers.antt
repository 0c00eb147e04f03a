use Rattle.std.proofs.Common.{◌≡◌, ◌<◌, List, length, slice_index_or, subst}
use Rattle.logical_btree.specs.Walk.{Pair}
use Rattle.embed_c.proofs.Named.{pair_given}
use Rattle.embed_c.proofs.session.Session.tree_pair.Goals as goal

pub returns : goal.returns
returns c =
    let items = c.args.self.now.pairs.of_tree.items in
    let i = c.args.pair in
    let found = c.in-Some.found.now in
    pair_given c.args.key.now c.give_pair.new.key c.args.value.now c.give_pair.new.value c.as_slice.result.now c.as_slice-2.result.now c.give_pair.result items i found
    (subst (λ (l : List Pair). i < length l) c.deref.ensures.value c.in-Some.ensures.lookup.3.0)
    (subst (λ (l : List Pair). found ≡ slice_index_or l i found) c.deref.ensures.value c.in-Some.ensures.lookup.1)
    c.as_slice.ensures.value c.as_slice-2.ensures.value c.give_pair.ensures.key c.give_pair.ensures.value c.give_pair.ensures.lengths
