use Rattle.std.proofs.Common.{◌∙◌, subst, ℕ, List, ◌<◌, length, arith}
use Rattle.std.specs.Prelude.{IsTrue}
use Rattle.oper_core.specs.State.{is_among}
use Rattle.graph_nodes.proofs.Followed.{going-start, going-on, going-end, ends-to}
use Rattle.graph_nodes.proofs.ahead.find_low.Goals as goal

pub steps-init : goal.steps-init
steps-init c = (
  going-start c.args.nodes.now.arcs.now.cells c.args.nodes.now.node.now c.args.level.now c.args.l c.args.w c.clear.new.self c.add.new.self c.clear.ensures.members c.add.ensures c.requires.low,
  record { end = c.add.ensures.end ∙ c.clear.ensures.end; room = omega (arith, c.add.ensures.room, c.clear.ensures.room) },
  omega arith,
)

pub add-requires : goal.add-requires
add-requires c = omega (arith, c.requires.start, c.clear.ensures.end)

pub copy_to-requires-clause-list : goal.copy_to-requires-clause-list
copy_to-requires-clause-list c = omega (arith, c.get-n.ensures.below, c.steps.invariant.1.end, c.requires.lists)

pub copy_to-requires-clause-room : goal.copy_to-requires-clause-room
copy_to-requires-clause-room c = omega (arith, c.requires.room, c.steps.invariant.2)

pub follow_slots-requires-clause-slots : goal.follow_slots-requires-clause-slots
follow_slots-requires-clause-slots c i t = (c.requires.filed.only c.get-n.result i (subst (λ (xs : List ℕ). IsTrue (is_among i xs)) (c.as_slice.ensures.value ∙ c.copy_to.ensures.items) t)).0

pub follow_slots-requires-clause-ends : goal.follow_slots-requires-clause-ends
follow_slots-requires-clause-ends c = ends-to c.args.nodes.now.arcs.now.cells c.args.nodes.now.node.now c.args.ahead.now.end c.steps.ahead.end c.steps.invariant.1.end c.requires.ends

pub steps-preserved : goal.steps-preserved
steps-preserved c =
    let was = c.steps.invariant in
    let is = c.follow_slots.ensures in
    let lt : c.steps.next < length c.steps.ahead.members = omega (arith, c.steps-test.true, c.len.ensures.count) in (
      going-on c.args.nodes.now.arcs.now.cells c.args.nodes.now.node.now c.args.level.now c.as_slice.result.now c.args.nodes.now.members.now c.args.l c.args.w c.steps.next c.get-n.result c.steps.ahead c.follow_slots.new.ahead c.requires.filed c.requires.size (c.as_slice.ensures.value ∙ c.copy_to.ensures.items) was.0 lt c.get-n.ensures.value is,
      record { end = is.same.end ∙ was.1.end; room = omega (arith, is.same.room, was.1.room) },
      omega (arith, c.copy_to.ensures.capacity, was.2),
    )

pub returns-clause-found : goal.returns-clause-found
returns-clause-found c = going-end c.args.nodes.now.arcs.now.cells c.args.nodes.now.node.now c.args.level.now c.args.l c.args.w c.steps.next c.steps.ahead.members (omega (arith, c.steps-test.false, c.len.ensures.count)) c.steps.invariant.0
