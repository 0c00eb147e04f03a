use Rattle.std.proofs.Common.{[], ◌∷◌, sym, ap}
use Rattle.std.specs.Result.{result_err}
use Rattle.key_entries.specs.Objects.{values_of}
use Rattle.btree_ops.specs.Effects.{pairs_to_fill}
use Rattle.btree_ops.specs.Operation.{bytes_of}
use Rattle.btree_ops.proofs.LeafLemmas.{put_full, put_accepted, put_bytes}
use Rattle.btree_ops.proofs.leaf.put_into.Goals as goal

pub returns-then-count-gt-MOST_ENTRIES-clause-refusal : goal.returns-then-count-gt-MOST_ENTRIES-clause-refusal
returns-then-count-gt-MOST_ENTRIES-clause-refusal c new =
    sym (ap result_err (put_full c.args.key (pairs_to_fill c.args.value.now) c.in-Some.head.count c.in-Some.head.pairs.now c.in-Some-spot_of.spot c.in-Some.ensures.some c.in-Some-spot_of.ensures.some
    c.in-Some.ensures.few c.count_after-count.result c.count_after-count.ensures c.if-count-gt-MOST_ENTRIES.true new))

pub returns-then-count-gt-MOST_ENTRIES-clause-refused : goal.returns-then-count-gt-MOST_ENTRIES-clause-refused
returns-then-count-gt-MOST_ENTRIES-clause-refused c x new =
    ap (values_of bytes_of (x ∷ [])) (put_full c.args.key (pairs_to_fill c.args.value.now) c.in-Some.head.count c.in-Some.head.pairs.now c.in-Some-spot_of.spot c.in-Some.ensures.some c.in-Some-spot_of.ensures.some
    c.in-Some.ensures.few c.count_after-count.result c.count_after-count.ensures c.if-count-gt-MOST_ENTRIES.true new)

pub returns-clause-refusal : goal.returns-clause-refusal
returns-clause-refusal c new =
    sym (put_accepted c.args.key (pairs_to_fill c.args.value.now) c.in-Some.head.count c.in-Some.head.pairs.now c.in-Some-spot_of.spot c.in-Some.ensures.some c.in-Some-spot_of.ensures.some
    c.count_after-count.result c.count_after-count.ensures c.if-count-gt-MOST_ENTRIES.false new)

pub returns-clause-made : goal.returns-clause-made
returns-clause-made c x new =
    put_bytes c.args.key (pairs_to_fill c.args.value.now) c.in-Some.head.count c.in-Some.head.pairs.now c.in-Some-spot_of.spot c.in-Some.ensures.some c.in-Some-spot_of.ensures.some
    c.count_after-count.result c.count_after-count.ensures c.if-count-gt-MOST_ENTRIES.false x new
