use Rattle.std.proofs.Common.{◌∙◌, ap, ℕ, List, length, refl, arith}
use Rattle.std.specs.Prelude.{slice_index}
use Rattle.std.proofs.lemmas.List.{length_push}
use Rattle.number_lists.proofs.Counted.{zero-push}
use Rattle.number_lists.proofs.number_set.fill.Goals as goal

pub loop-i-init : goal.loop-i-init
loop-i-init c = ((λ i. refl), omega (arith, c.len-i.ensures, c.args.numbers.now.ok.0), omega (arith, c.len-i.ensures, c.args.numbers.now.ok.0), omega (arith, c.len-i.ensures, c.args.numbers.now.ok.0), omega arith)

pub push_in_room-requires : goal.push_in_room-requires
push_in_room-requires c = omega (arith, c.loop-i.invariant.1, c.loop-i.invariant.4, c.loop-i-test.true, c.loop-i.numbers.ok.0, c.requires)

pub loop-i-preserved : goal.loop-i-preserved
loop-i-preserved c = (
  (λ i. ap (λ (xs : List ℕ). slice_index xs i) c.push_in_room.ensures.items ∙ zero-push c.loop-i.numbers.items i ∙ c.loop-i.invariant.0 i),
  omega (arith, ap length c.push_in_room.ensures.items, length_push c.loop-i.numbers.items 0, c.loop-i.invariant.1),
  omega (arith, c.loop-i.invariant.2, c.loop-i-test.true),
  omega (arith, c.loop-i.invariant.3),
  omega (arith, c.loop-i.invariant.4, c.push_in_room.ensures.capacity),
)

pub returns-clause-enough : goal.returns-clause-enough
returns-clause-enough c = omega (arith, c.loop-i-test.false, c.loop-i.invariant.1)

pub returns-clause-few : goal.returns-clause-few
returns-clause-few c = omega (arith, c.loop-i.invariant.1, c.loop-i.invariant.2)
