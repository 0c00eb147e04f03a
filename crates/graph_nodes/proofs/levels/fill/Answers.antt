use Rattle.std.proofs.Common.{◌∙◌, ap, ℕ, List, length, refl, arith}
use Rattle.std.proofs.lemmas.List.{length_push}
use Rattle.graph_nodes.specs.Levels.{level_at}
use Rattle.graph_nodes.proofs.Raised.{level-push}
use Rattle.graph_nodes.proofs.levels.fill.Goals as goal

pub loop-i-init : goal.loop-i-init
loop-i-init c = ((λ m. refl), omega (arith, c.len-i.ensures, c.args.level.now.ok.0), omega arith)

pub push_in_room-requires : goal.push_in_room-requires
push_in_room-requires c = omega (arith, c.loop-i.invariant.1, c.loop-i.invariant.2, c.loop-i-test.true, c.loop-i.level.ok.0, c.requires)

pub loop-i-preserved : goal.loop-i-preserved
loop-i-preserved c = (
  (λ m. ap (λ (xs : List ℕ). level_at xs m) c.push_in_room.ensures.items ∙ level-push c.loop-i.level.items m ∙ c.loop-i.invariant.0 m),
  omega (arith, ap length c.push_in_room.ensures.items, length_push c.loop-i.level.items 0, c.loop-i.invariant.1),
  omega (arith, c.loop-i.invariant.2, c.push_in_room.ensures.capacity),
)

pub returns-clause-enough : goal.returns-clause-enough
returns-clause-enough c = omega (arith, c.loop-i-test.false, c.loop-i.invariant.1)
