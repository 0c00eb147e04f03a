use Rattle.std.proofs.Common.{◌≡◌, ◌∙◌, ap, sym, subst, ℕ, List, [], ◌∷◌, ◌++◌, take, ◌+◌, ◌<◌, length, arith}
use Rattle.std.proofs.lemmas.List.{take_more}
use Rattle.graph_nodes.specs.Merge.{AreMoved, gathered}
use Rattle.graph_nodes.proofs.Joined.{moved-none, moved-more}
use Rattle.graph_nodes.proofs.merging.join_lists.Goals as goal

pub loop-i-init : goal.loop-i-init
loop-i-init c = moved-none c.args.one c.args.lists.now

pub join_list-requires-clause-n : goal.join_list-requires-clause-n
join_list-requires-clause-n c = omega (arith, c.get.ensures.below, c.requires.taken, c.loop-i.invariant.same.lists)

pub join_list-requires-clause-one : goal.join_list-requires-clause-one
join_list-requires-clause-one c = omega (arith, c.requires.one, c.loop-i.invariant.same.lists)

pub loop-i-preserved : goal.loop-i-preserved
loop-i-preserved c =
    let all = c.args.taken.now.members in
    let i = c.loop-i.i in
    let one = c.args.one in
    let lt : i < length all = omega (arith, c.loop-i-test.true, c.len-i-end.ensures.count) in
    let more : take (i + 1) all ≡ take i all ++ c.get.result ∷ [] = take_more all i 0 lt ∙ ap (λ (k : ℕ). take i all ++ k ∷ []) (sym c.get.ensures.value) in
    subst (λ (ns : List ℕ). AreMoved (gathered ns one) c.args.lists.now c.join_list.new.lists) (sym more) (moved-more (take i all) c.get.result one c.args.lists.now c.loop-i.lists c.join_list.new.lists c.loop-i.invariant c.join_list.ensures)
