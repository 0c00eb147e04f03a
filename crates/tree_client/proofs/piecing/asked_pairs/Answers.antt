use Rattle.std.proofs.Common.{◌≤◌, ap, sym, subst, ◌∙◌, ◌++◌, List, [], length, arith}
use Rattle.std.specs.List.{filter}
use Rattle.logical_btree.specs.Walk.{Pair, is_within}
use Rattle.tree_client.proofs.ScanLemmas.{pair_taken, pairs_all}
use Rattle.tree_client.proofs.piecing.asked_pairs.Goals as goal

pub loop-i-init : goal.loop-i-init
loop-i-init c = record {
  few = subst (λ (l : List Pair). length l ≤ 0) (sym c.new-pairs.ensures) (omega arith);
  kept = ap (λ (l : List Pair). l ++ filter (λ e. is_within e.0 (record { from = c.args.from; to = c.args.end.now })) c.as_slice-all.result.now) c.new-pairs.ensures;
}

pub push_asked-requires : goal.push_asked-requires
push_asked-requires c =
    let few = c.loop-i.invariant.few in
    let fits = c.as_slice-all.ensures.fits in
    let turn = c.loop-i-test.true in
    omega (arith, few, fits, turn)

pub loop-i-preserved : goal.loop-i-preserved
loop-i-preserved c =
    let few = c.push_asked.ensures.few in
    let before = c.loop-i.invariant.few in record {
      few = omega (arith, few, before);
      kept = pair_taken (λ e. is_within e.0 (record { from = c.args.from; to = c.args.end.now })) c.as_slice-all.result.now c.loop-i.i c.index-all-i.result c.loop-i.pairs.items c.push_asked.new.pairs.items [] c.loop-i-test.true c.index-all-i.is c.push_asked.ensures.items
          c.loop-i.invariant.kept;
    }

pub returns : goal.returns
returns c =
    pairs_all (λ e. is_within e.0 (record { from = c.args.from; to = c.args.end.now })) c.as_slice-all.result.now c.loop-i.i c.loop-i.pairs.items [] c.loop-i-test.false c.loop-i.invariant.kept
    ∙ ap (λ (l : List Pair). filter (λ e. is_within e.0 (record { from = c.args.from; to = c.args.end.now })) l) c.as_slice-all.ensures.value
