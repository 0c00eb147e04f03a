use Rattle.std.proofs.Common.{◌≡◌, ◌∙◌, ap, ℕ, List, [], ◌∷◌, ◌++◌, ◌<◌, ◌^◌, length, refl, arith}
use Rattle.std.proofs.lemmas.List.{length_push}
use Rattle.std.proofs.Math.Facts.{Fits-of_lt}
use Rattle.graph_nodes.specs.Arcs.{name_at}
use Rattle.graph_nodes.proofs.Slot.{node-same}
use Rattle.graph_nodes.proofs.name_table.fill.Goals as goal

pub loop-m-init : goal.loop-m-init
loop-m-init c = ((λ k. refl), omega (arith, c.len-m.ensures, c.args.names.now.ok.0), omega (arith, c.len-m.ensures, c.args.names.now.ok.0), omega arith)

pub overflow_cast-m : goal.overflow_cast-m
overflow_cast-m c =
    let lt : c.loop-m.m < 2 ^ 32 = omega (arith, c.loop-m-test.true, c.requires.small) in
    Fits-of_lt lt

pub push_in_room-requires : goal.push_in_room-requires
push_in_room-requires c = omega (arith, c.loop-m.invariant.1, c.loop-m.invariant.3, c.loop-m-test.true, c.loop-m.names.ok.0, c.requires.room)

pub loop-m-preserved : goal.loop-m-preserved
loop-m-preserved c =
    let was = c.loop-m.invariant in
    let now : c.push_in_room.new.items.items ≡ c.loop-m.names.items ++ length c.loop-m.names.items ∷ [] = c.push_in_room.ensures.items ∙ ap (λ (k : ℕ). c.loop-m.names.items ++ k ∷ []) (omega (arith, was.1)) in (
      (λ k. ap (λ (xs : List ℕ). name_at xs k) now ∙ node-same c.loop-m.names.items k ∙ was.0 k),
      omega (arith, ap length c.push_in_room.ensures.items, length_push c.loop-m.names.items c.loop-m.m, was.1),
      omega (arith, was.2, c.loop-m-test.true),
      omega (arith, was.3, c.push_in_room.ensures.capacity),
    )

pub returns-clause-enough : goal.returns-clause-enough
returns-clause-enough c = omega (arith, c.loop-m-test.false, c.loop-m.invariant.1)

pub returns-clause-few : goal.returns-clause-few
returns-clause-few c = omega (arith, c.loop-m.invariant.1, c.loop-m.invariant.2)
