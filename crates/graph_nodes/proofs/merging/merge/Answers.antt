use Rattle.std.proofs.Common.{◌≡◌, ◌∙◌, ap, sym, subst, ℕ, List, [], ◌∷◌, ◌++◌, take, ◌+◌, ◌<◌, length, arith}
use Rattle.std.proofs.lemmas.List.{take_more}
use Rattle.graph_nodes.specs.Merge.{AreMerged}
use Rattle.graph_nodes.proofs.Joined.{merged-on}
use Rattle.graph_nodes.proofs.merging.merge.Goals as goal

pub loop-i-preserved : goal.loop-i-preserved
loop-i-preserved c =
    let all = c.args.taken.now.members in
    let i = c.loop-i.i in
    let one = c.args.one in
    let lt : i < length all = omega (arith, c.loop-i-test.true, c.len-i-end.ensures.count) in
    let more : take (i + 1) all ≡ take i all ++ c.get.result ∷ [] = take_more all i 0 lt ∙ ap (λ (k : ℕ). take i all ++ k ∷ []) (sym c.get.ensures.value) in
    let on = merged-on (take i all) c.get.result one c.args.node.now c.loop-i.node c.absorb.new.node c.args.members.now c.loop-i.members c.absorb.new.members c.args.into.now c.loop-i.into c.absorb.new.into c.loop-i.invariant.0 c.absorb.ensures.absorbed in (
      subst (λ (ns : List ℕ). AreMerged ns one c.args.node.now c.absorb.new.node c.args.members.now c.absorb.new.members c.args.into.now c.absorb.new.into) (sym more) on,
      omega (arith, c.absorb.ensures.capacity, c.loop-i.invariant.1),
    )
