use Rattle.std.proofs.Common.{sym, subst, ℕ, List, nat_eq, arith}
use Rattle.std.specs.Prelude.{slice_index}
use Rattle.std.proofs.lemmas.List.{take_all}
use Rattle.indexmap.specs.IndexMap.{get}
use Rattle.write_graph.specs.Listing.{IsWrittenBy}
use Rattle.write_graph.proofs.Held.{at-among}
use Rattle.write_graph.proofs.Loops.{among-none, get-index}
use Rattle.write_graph.proofs.FirstWriters.{outside-slot}
use Rattle.write_graph.proofs.firsts.pass_over.Goals as goal

pub loop-slot-init : goal.loop-slot-init
loop-slot-init c = (c.requires.passed, (λ x w. absurd (among-none w.0 w.1)), omega arith)

pub pass_writes-requires-clause-slot : goal.pass_writes-requires-clause-slot
pass_writes-requires-clause-slot c = c.requires.below (slice_index c.args.slots.now c.loop-slot.slot-index) (at-among c.args.slots.now c.loop-slot.slot-index (omega (arith, c.loop-slot-test.true)))

pub loop-slot-preserved : goal.loop-slot-preserved
loop-slot-preserved c =
    let slots = c.args.slots.now in
    let i = c.loop-slot.slot-index in
    (c.pass_writes.ensures.passed, outside-slot c.args.entries.now.items c.args.links.now.graph c.args.node i (slice_index slots i) slots (get nat_eq c.loop-slot.firsts) (get nat_eq c.pass_writes.new.firsts) (get-index slots i (omega (arith, c.loop-slot-test.true))) c.loop-slot.invariant.1 c.pass_writes.ensures.outside c.pass_writes.ensures.stays, omega (arith, c.loop-slot.invariant.2, c.pass_writes.ensures.room))

pub returns-clause-outside : goal.returns-clause-outside
returns-clause-outside c x w = c.loop-slot.invariant.1 x (subst (λ (xs : List ℕ). IsWrittenBy c.args.entries.now.items xs x) (sym (take_all c.loop-slot.slot-index c.args.slots.now c.loop-slot-test.false)) w)
