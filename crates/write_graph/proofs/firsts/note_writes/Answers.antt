use Rattle.std.proofs.Common.{◌∙◌, ap, ℕ, ◌<◌, List, length, nat_eq, refl, arith}
use Rattle.std.proofs.lemmas.List.{take_all}
use Rattle.indexmap.specs.IndexMap.{get}
use Rattle.write_graph.specs.Firsts.{noted}
use Rattle.write_graph.proofs.FirstWriters.{noted-next}
use Rattle.write_graph.proofs.firsts.note_writes.Goals as goal

pub loop-x-init : goal.loop-x-init
loop-x-init c = (λ y. refl, omega (arith, c.requires), omega arith, omega arith)

pub note_write-requires : goal.note_write-requires
note_write-requires c = omega (arith, c.loop-x.invariant.1, c.loop-x-test.true)

pub loop-x-preserved : goal.loop-x-preserved
loop-x-preserved c =
    let lt : c.loop-x.x-index < length c.args.objects.now = omega (arith, c.loop-x-test.true) in
    (λ y. noted-next c.args.objects.now c.args.slot c.loop-x.x-index y (get nat_eq c.args.firsts.now) (get nat_eq c.loop-x.firsts) (get nat_eq c.note_write.new.firsts) lt (c.loop-x.invariant.0 y) (c.note_write.ensures.noted y), omega (arith, c.loop-x.invariant.1, c.note_write.ensures.room), omega (arith, c.loop-x.invariant.2, c.note_write.ensures.room), omega (arith, lt))

pub returns-clause-room : goal.returns-clause-room
returns-clause-room c = omega (arith, c.loop-x.invariant.2, c.loop-x.invariant.3)

pub returns-clause-noted : goal.returns-clause-noted
returns-clause-noted c y = c.loop-x.invariant.0 y ∙ ap (λ (xs : List ℕ). noted xs c.args.slot (get nat_eq c.args.firsts.now) y) (take_all c.loop-x.x-index c.args.objects.now c.loop-x-test.false)
