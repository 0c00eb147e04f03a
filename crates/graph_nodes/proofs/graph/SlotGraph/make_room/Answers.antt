use Rattle.std.proofs.Common.{◌≡◌, ◌∙◌, ap, sym, length, refl, arith}
use Rattle.std.specs.Vec.{vec_capacity}
use Rattle.graph_nodes.proofs.Levelled.{have-as, level-room-more}
use Rattle.graph_nodes.proofs.Slot.{kept-room, room-more}
use Rattle.graph_nodes.proofs.Told.{marked-as}
use Rattle.graph_nodes.proofs.graph.SlotGraph.make_room.Goals as goal

pub make_room-requires-clause-small : goal.make_room-requires-clause-small
make_room-requires-clause-small c = omega (arith, c.self.invariant.0.range.cells, c.self.invariant.0.range.small)

pub invariant_of-self : goal.invariant_of-self
invariant_of-self c =
    let same : length c.self.inside.node.items ≡ length c.self.inside.node.items = refl in (
      kept-room c.self.inside.arcs.cells c.make_room.new.self.cells c.self.inside.node.items c.self.inside.node.items c.self.inside.held.items c.self.inside.held.items c.self.inside.names.name c.self.inside.names.name c.self.inside.members c.self.inside.members c.self.inside.into c.self.inside.into c.self.invariant.0
          c.make_room.ensures.cells refl refl refl refl refl refl refl,
      c.self.invariant.1 ∙ sym same,
      c.self.invariant.2 ∙ sym same,
      room-more c.self.inside.room (length c.self.inside.node.items) (length c.self.inside.node.items) c.self.inside.arcs.room c.make_room.new.self.room (vec_capacity c.self.inside.node) (vec_capacity c.self.inside.node) (vec_capacity c.self.inside.held) (vec_capacity c.self.inside.held)
          (vec_capacity c.self.inside.searches.cells) (vec_capacity c.self.inside.searches.cells) c.self.inside.names c.self.inside.names c.self.inside.members c.self.inside.members c.self.inside.into c.self.inside.into c.self.inside.searches.found c.self.inside.searches.found c.self.inside.searches.ahead c.self.inside.searches.ahead
          same c.make_room.ensures.kept (omega arith) (omega arith) (omega arith) (omega arith) (omega arith) (omega arith) (omega arith) (omega arith) c.self.invariant.3.found c.self.invariant.3.ahead c.self.invariant.3,
      marked-as c.self.inside.node.items c.self.inside.node.items c.self.inside.held.items c.self.inside.held.items c.self.inside.into c.self.inside.into c.self.inside.names c.self.inside.names refl refl refl
          refl refl refl c.self.invariant.4,
      have-as c.self.inside.arcs.cells c.make_room.new.self.cells c.self.inside.node.items c.self.inside.node.items c.self.inside.held.items c.self.inside.held.items c.self.inside.levels.level.items c.self.inside.levels.level.items c.self.inside.levels.near c.self.inside.levels.near c.self.invariant.5 c.make_room.ensures.cells refl refl refl refl refl,
      level-room-more c.self.inside.room (length c.self.inside.node.items) (length c.self.inside.node.items) (vec_capacity c.self.inside.levels.level) (vec_capacity c.self.inside.levels.level) c.self.inside.levels.near c.self.inside.levels.near same (omega arith) (omega arith) (omega arith) c.self.invariant.6,
    )

pub invariant_of-self-in_err-reserve : goal.invariant_of-self-in_err-reserve
invariant_of-self-in_err-reserve c =
    let same : length c.reserve.new.self.items ≡ length c.self.inside.node.items = ap length c.reserve.ensures.items in (
      kept-room c.self.inside.arcs.cells c.make_room.new.self.cells c.self.inside.node.items c.reserve.new.self.items c.self.inside.held.items c.self.inside.held.items c.self.inside.names.name c.self.inside.names.name c.self.inside.members c.self.inside.members c.self.inside.into c.self.inside.into c.self.invariant.0
          c.make_room.ensures.cells c.reserve.ensures.items refl refl refl refl refl refl,
      c.self.invariant.1 ∙ sym same,
      c.self.invariant.2 ∙ sym same,
      room-more c.self.inside.room (length c.self.inside.node.items) (length c.reserve.new.self.items) c.self.inside.arcs.room c.make_room.new.self.room (vec_capacity c.self.inside.node) (vec_capacity c.reserve.new.self) (vec_capacity c.self.inside.held) (vec_capacity c.self.inside.held)
          (vec_capacity c.self.inside.searches.cells) (vec_capacity c.self.inside.searches.cells) c.self.inside.names c.self.inside.names c.self.inside.members c.self.inside.members c.self.inside.into c.self.inside.into c.self.inside.searches.found c.self.inside.searches.found c.self.inside.searches.ahead c.self.inside.searches.ahead
          same c.make_room.ensures.kept c.reserve.ensures.capacity (omega arith) (omega arith) (omega arith) (omega arith) (omega arith) (omega arith) (omega arith) c.self.invariant.3.found c.self.invariant.3.ahead c.self.invariant.3,
      marked-as c.self.inside.node.items c.reserve.new.self.items c.self.inside.held.items c.self.inside.held.items c.self.inside.into c.self.inside.into c.self.inside.names c.self.inside.names c.reserve.ensures.items refl refl
          refl refl refl c.self.invariant.4,
      have-as c.self.inside.arcs.cells c.make_room.new.self.cells c.self.inside.node.items c.reserve.new.self.items c.self.inside.held.items c.self.inside.held.items c.self.inside.levels.level.items c.self.inside.levels.level.items c.self.inside.levels.near c.self.inside.levels.near c.self.invariant.5 c.make_room.ensures.cells c.reserve.ensures.items refl refl refl refl,
      level-room-more c.self.inside.room (length c.self.inside.node.items) (length c.reserve.new.self.items) (vec_capacity c.self.inside.levels.level) (vec_capacity c.self.inside.levels.level) c.self.inside.levels.near c.self.inside.levels.near same (omega arith) (omega arith) (omega arith) c.self.invariant.6,
    )

pub invariant_of-self-in_err-reserve-2 : goal.invariant_of-self-in_err-reserve-2
invariant_of-self-in_err-reserve-2 c =
    let same : length c.reserve.new.self.items ≡ length c.self.inside.node.items = ap length c.reserve.ensures.items in (
      kept-room c.self.inside.arcs.cells c.make_room.new.self.cells c.self.inside.node.items c.reserve.new.self.items c.self.inside.held.items c.reserve-2.new.self.items c.self.inside.names.name c.self.inside.names.name c.self.inside.members c.self.inside.members c.self.inside.into c.self.inside.into c.self.invariant.0
          c.make_room.ensures.cells c.reserve.ensures.items c.reserve-2.ensures.items refl refl refl refl refl,
      c.self.invariant.1 ∙ sym same,
      c.self.invariant.2 ∙ sym same,
      room-more c.self.inside.room (length c.self.inside.node.items) (length c.reserve.new.self.items) c.self.inside.arcs.room c.make_room.new.self.room (vec_capacity c.self.inside.node) (vec_capacity c.reserve.new.self) (vec_capacity c.self.inside.held) (vec_capacity c.reserve-2.new.self)
          (vec_capacity c.self.inside.searches.cells) (vec_capacity c.self.inside.searches.cells) c.self.inside.names c.self.inside.names c.self.inside.members c.self.inside.members c.self.inside.into c.self.inside.into c.self.inside.searches.found c.self.inside.searches.found c.self.inside.searches.ahead c.self.inside.searches.ahead
          same c.make_room.ensures.kept c.reserve.ensures.capacity c.reserve-2.ensures.capacity (omega arith) (omega arith) (omega arith) (omega arith) (omega arith) (omega arith) c.self.invariant.3.found c.self.invariant.3.ahead c.self.invariant.3,
      marked-as c.self.inside.node.items c.reserve.new.self.items c.self.inside.held.items c.reserve-2.new.self.items c.self.inside.into c.self.inside.into c.self.inside.names c.self.inside.names c.reserve.ensures.items c.reserve-2.ensures.items refl
          refl refl refl c.self.invariant.4,
      have-as c.self.inside.arcs.cells c.make_room.new.self.cells c.self.inside.node.items c.reserve.new.self.items c.self.inside.held.items c.reserve-2.new.self.items c.self.inside.levels.level.items c.self.inside.levels.level.items c.self.inside.levels.near c.self.inside.levels.near c.self.invariant.5 c.make_room.ensures.cells c.reserve.ensures.items c.reserve-2.ensures.items refl refl refl,
      level-room-more c.self.inside.room (length c.self.inside.node.items) (length c.reserve.new.self.items) (vec_capacity c.self.inside.levels.level) (vec_capacity c.self.inside.levels.level) c.self.inside.levels.near c.self.inside.levels.near same (omega arith) (omega arith) (omega arith) c.self.invariant.6,
    )

pub invariant_of-self-in_err-make_room-2 : goal.invariant_of-self-in_err-make_room-2
invariant_of-self-in_err-make_room-2 c =
    let same : length c.reserve.new.self.items ≡ length c.self.inside.node.items = ap length c.reserve.ensures.items in (
      kept-room c.self.inside.arcs.cells c.make_room.new.self.cells c.self.inside.node.items c.reserve.new.self.items c.self.inside.held.items c.reserve-2.new.self.items c.self.inside.names.name c.make_room-2.new.self.name c.self.inside.members c.self.inside.members c.self.inside.into c.self.inside.into c.self.invariant.0
          c.make_room.ensures.cells c.reserve.ensures.items c.reserve-2.ensures.items c.make_room-2.ensures.name refl refl refl refl,
      c.self.invariant.1 ∙ sym same,
      c.self.invariant.2 ∙ sym same,
      room-more c.self.inside.room (length c.self.inside.node.items) (length c.reserve.new.self.items) c.self.inside.arcs.room c.make_room.new.self.room (vec_capacity c.self.inside.node) (vec_capacity c.reserve.new.self) (vec_capacity c.self.inside.held) (vec_capacity c.reserve-2.new.self)
          (vec_capacity c.self.inside.searches.cells) (vec_capacity c.self.inside.searches.cells) c.self.inside.names c.make_room-2.new.self c.self.inside.members c.self.inside.members c.self.inside.into c.self.inside.into c.self.inside.searches.found c.self.inside.searches.found c.self.inside.searches.ahead c.self.inside.searches.ahead
          same c.make_room.ensures.kept c.reserve.ensures.capacity c.reserve-2.ensures.capacity (omega arith) c.make_room-2.ensures.kept (omega arith) (omega arith) (omega arith) (omega arith) c.self.invariant.3.found c.self.invariant.3.ahead c.self.invariant.3,
      marked-as c.self.inside.node.items c.reserve.new.self.items c.self.inside.held.items c.reserve-2.new.self.items c.self.inside.into c.self.inside.into c.self.inside.names c.make_room-2.new.self c.reserve.ensures.items c.reserve-2.ensures.items refl
          c.make_room-2.ensures.name c.make_room-2.ensures.names c.make_room-2.ensures.minimal c.self.invariant.4,
      have-as c.self.inside.arcs.cells c.make_room.new.self.cells c.self.inside.node.items c.reserve.new.self.items c.self.inside.held.items c.reserve-2.new.self.items c.self.inside.levels.level.items c.self.inside.levels.level.items c.self.inside.levels.near c.self.inside.levels.near c.self.invariant.5 c.make_room.ensures.cells c.reserve.ensures.items c.reserve-2.ensures.items refl refl refl,
      level-room-more c.self.inside.room (length c.self.inside.node.items) (length c.reserve.new.self.items) (vec_capacity c.self.inside.levels.level) (vec_capacity c.self.inside.levels.level) c.self.inside.levels.near c.self.inside.levels.near same (omega arith) (omega arith) (omega arith) c.self.invariant.6,
    )

pub invariant_of-self-in_err-make_room-3 : goal.invariant_of-self-in_err-make_room-3
invariant_of-self-in_err-make_room-3 c =
    let same : length c.reserve.new.self.items ≡ length c.self.inside.node.items = ap length c.reserve.ensures.items in (
      kept-room c.self.inside.arcs.cells c.make_room.new.self.cells c.self.inside.node.items c.reserve.new.self.items c.self.inside.held.items c.reserve-2.new.self.items c.self.inside.names.name c.make_room-2.new.self.name c.self.inside.members c.make_room-3.new.self c.self.inside.into c.self.inside.into c.self.invariant.0
          c.make_room.ensures.cells c.reserve.ensures.items c.reserve-2.ensures.items c.make_room-2.ensures.name c.make_room-3.ensures.lists c.make_room-3.ensures.items refl refl,
      c.self.invariant.1 ∙ sym same,
      c.self.invariant.2 ∙ sym same,
      room-more c.self.inside.room (length c.self.inside.node.items) (length c.reserve.new.self.items) c.self.inside.arcs.room c.make_room.new.self.room (vec_capacity c.self.inside.node) (vec_capacity c.reserve.new.self) (vec_capacity c.self.inside.held) (vec_capacity c.reserve-2.new.self)
          (vec_capacity c.self.inside.searches.cells) (vec_capacity c.self.inside.searches.cells) c.self.inside.names c.make_room-2.new.self c.self.inside.members c.make_room-3.new.self c.self.inside.into c.self.inside.into c.self.inside.searches.found c.self.inside.searches.found c.self.inside.searches.ahead c.self.inside.searches.ahead
          same c.make_room.ensures.kept c.reserve.ensures.capacity c.reserve-2.ensures.capacity (omega arith) c.make_room-2.ensures.kept c.make_room-3.ensures.lists_kept c.make_room-3.ensures.items_kept (omega arith) (omega arith) c.self.invariant.3.found c.self.invariant.3.ahead c.self.invariant.3,
      marked-as c.self.inside.node.items c.reserve.new.self.items c.self.inside.held.items c.reserve-2.new.self.items c.self.inside.into c.self.inside.into c.self.inside.names c.make_room-2.new.self c.reserve.ensures.items c.reserve-2.ensures.items refl
          c.make_room-2.ensures.name c.make_room-2.ensures.names c.make_room-2.ensures.minimal c.self.invariant.4,
      have-as c.self.inside.arcs.cells c.make_room.new.self.cells c.self.inside.node.items c.reserve.new.self.items c.self.inside.held.items c.reserve-2.new.self.items c.self.inside.levels.level.items c.self.inside.levels.level.items c.self.inside.levels.near c.self.inside.levels.near c.self.invariant.5 c.make_room.ensures.cells c.reserve.ensures.items c.reserve-2.ensures.items refl refl refl,
      level-room-more c.self.inside.room (length c.self.inside.node.items) (length c.reserve.new.self.items) (vec_capacity c.self.inside.levels.level) (vec_capacity c.self.inside.levels.level) c.self.inside.levels.near c.self.inside.levels.near same (omega arith) (omega arith) (omega arith) c.self.invariant.6,
    )

pub invariant_of-self-in_err-make_room-4 : goal.invariant_of-self-in_err-make_room-4
invariant_of-self-in_err-make_room-4 c =
    let same : length c.reserve.new.self.items ≡ length c.self.inside.node.items = ap length c.reserve.ensures.items in (
      kept-room c.self.inside.arcs.cells c.make_room.new.self.cells c.self.inside.node.items c.reserve.new.self.items c.self.inside.held.items c.reserve-2.new.self.items c.self.inside.names.name c.make_room-2.new.self.name c.self.inside.members c.make_room-3.new.self c.self.inside.into c.make_room-4.new.self c.self.invariant.0
          c.make_room.ensures.cells c.reserve.ensures.items c.reserve-2.ensures.items c.make_room-2.ensures.name c.make_room-3.ensures.lists c.make_room-3.ensures.items c.make_room-4.ensures.lists c.make_room-4.ensures.items,
      c.self.invariant.1 ∙ sym same,
      c.self.invariant.2 ∙ sym same,
      room-more c.self.inside.room (length c.self.inside.node.items) (length c.reserve.new.self.items) c.self.inside.arcs.room c.make_room.new.self.room (vec_capacity c.self.inside.node) (vec_capacity c.reserve.new.self) (vec_capacity c.self.inside.held) (vec_capacity c.reserve-2.new.self)
          (vec_capacity c.self.inside.searches.cells) (vec_capacity c.self.inside.searches.cells) c.self.inside.names c.make_room-2.new.self c.self.inside.members c.make_room-3.new.self c.self.inside.into c.make_room-4.new.self c.self.inside.searches.found c.self.inside.searches.found c.self.inside.searches.ahead c.self.inside.searches.ahead
          same c.make_room.ensures.kept c.reserve.ensures.capacity c.reserve-2.ensures.capacity (omega arith) c.make_room-2.ensures.kept c.make_room-3.ensures.lists_kept c.make_room-3.ensures.items_kept c.make_room-4.ensures.lists_kept c.make_room-4.ensures.items_kept c.self.invariant.3.found c.self.invariant.3.ahead c.self.invariant.3,
      marked-as c.self.inside.node.items c.reserve.new.self.items c.self.inside.held.items c.reserve-2.new.self.items c.self.inside.into c.make_room-4.new.self c.self.inside.names c.make_room-2.new.self c.reserve.ensures.items c.reserve-2.ensures.items c.make_room-4.ensures.lists
          c.make_room-2.ensures.name c.make_room-2.ensures.names c.make_room-2.ensures.minimal c.self.invariant.4,
      have-as c.self.inside.arcs.cells c.make_room.new.self.cells c.self.inside.node.items c.reserve.new.self.items c.self.inside.held.items c.reserve-2.new.self.items c.self.inside.levels.level.items c.self.inside.levels.level.items c.self.inside.levels.near c.self.inside.levels.near c.self.invariant.5 c.make_room.ensures.cells c.reserve.ensures.items c.reserve-2.ensures.items refl refl refl,
      level-room-more c.self.inside.room (length c.self.inside.node.items) (length c.reserve.new.self.items) (vec_capacity c.self.inside.levels.level) (vec_capacity c.self.inside.levels.level) c.self.inside.levels.near c.self.inside.levels.near same (omega arith) (omega arith) (omega arith) c.self.invariant.6,
    )

pub invariant_of-self-in_err-make_room-5 : goal.invariant_of-self-in_err-make_room-5
invariant_of-self-in_err-make_room-5 c =
    let same : length c.reserve.new.self.items ≡ length c.self.inside.node.items = ap length c.reserve.ensures.items in (
      kept-room c.self.inside.arcs.cells c.make_room.new.self.cells c.self.inside.node.items c.reserve.new.self.items c.self.inside.held.items c.reserve-2.new.self.items c.self.inside.names.name c.make_room-2.new.self.name c.self.inside.members c.make_room-3.new.self c.self.inside.into c.make_room-4.new.self c.self.invariant.0
          c.make_room.ensures.cells c.reserve.ensures.items c.reserve-2.ensures.items c.make_room-2.ensures.name c.make_room-3.ensures.lists c.make_room-3.ensures.items c.make_room-4.ensures.lists c.make_room-4.ensures.items,
      c.make_room-5.ensures.found.end ∙ c.self.invariant.1 ∙ sym same,
      c.make_room-5.ensures.ahead.end ∙ c.self.invariant.2 ∙ sym same,
      room-more c.self.inside.room (length c.self.inside.node.items) (length c.reserve.new.self.items) c.self.inside.arcs.room c.make_room.new.self.room (vec_capacity c.self.inside.node) (vec_capacity c.reserve.new.self) (vec_capacity c.self.inside.held) (vec_capacity c.reserve-2.new.self)
          (vec_capacity c.self.inside.searches.cells) (vec_capacity c.make_room-5.new.self.cells) c.self.inside.names c.make_room-2.new.self c.self.inside.members c.make_room-3.new.self c.self.inside.into c.make_room-4.new.self c.self.inside.searches.found c.make_room-5.new.self.found c.self.inside.searches.ahead c.make_room-5.new.self.ahead
          same c.make_room.ensures.kept c.reserve.ensures.capacity c.reserve-2.ensures.capacity c.make_room-5.ensures.capacity c.make_room-2.ensures.kept c.make_room-3.ensures.lists_kept c.make_room-3.ensures.items_kept c.make_room-4.ensures.lists_kept c.make_room-4.ensures.items_kept (omega (arith, c.self.invariant.3.found, c.make_room-5.ensures.found.room)) (omega (arith, c.self.invariant.3.ahead, c.make_room-5.ensures.ahead.room)) c.self.invariant.3,
      marked-as c.self.inside.node.items c.reserve.new.self.items c.self.inside.held.items c.reserve-2.new.self.items c.self.inside.into c.make_room-4.new.self c.self.inside.names c.make_room-2.new.self c.reserve.ensures.items c.reserve-2.ensures.items c.make_room-4.ensures.lists
          c.make_room-2.ensures.name c.make_room-2.ensures.names c.make_room-2.ensures.minimal c.self.invariant.4,
      have-as c.self.inside.arcs.cells c.make_room.new.self.cells c.self.inside.node.items c.reserve.new.self.items c.self.inside.held.items c.reserve-2.new.self.items c.self.inside.levels.level.items c.self.inside.levels.level.items c.self.inside.levels.near c.self.inside.levels.near c.self.invariant.5 c.make_room.ensures.cells c.reserve.ensures.items c.reserve-2.ensures.items refl refl refl,
      level-room-more c.self.inside.room (length c.self.inside.node.items) (length c.reserve.new.self.items) (vec_capacity c.self.inside.levels.level) (vec_capacity c.self.inside.levels.level) c.self.inside.levels.near c.self.inside.levels.near same (omega arith) (omega arith) (omega arith) c.self.invariant.6,
    )

pub invariant_of-self-in_err-make_room-6 : goal.invariant_of-self-in_err-make_room-6
invariant_of-self-in_err-make_room-6 c =
    let same : length c.reserve.new.self.items ≡ length c.self.inside.node.items = ap length c.reserve.ensures.items in (
      kept-room c.self.inside.arcs.cells c.make_room.new.self.cells c.self.inside.node.items c.reserve.new.self.items c.self.inside.held.items c.reserve-2.new.self.items c.self.inside.names.name c.make_room-2.new.self.name c.self.inside.members c.make_room-3.new.self c.self.inside.into c.make_room-4.new.self c.self.invariant.0
          c.make_room.ensures.cells c.reserve.ensures.items c.reserve-2.ensures.items c.make_room-2.ensures.name c.make_room-3.ensures.lists c.make_room-3.ensures.items c.make_room-4.ensures.lists c.make_room-4.ensures.items,
      c.make_room-5.ensures.found.end ∙ c.self.invariant.1 ∙ sym same,
      c.make_room-5.ensures.ahead.end ∙ c.self.invariant.2 ∙ sym same,
      room-more c.self.inside.room (length c.self.inside.node.items) (length c.reserve.new.self.items) c.self.inside.arcs.room c.make_room.new.self.room (vec_capacity c.self.inside.node) (vec_capacity c.reserve.new.self) (vec_capacity c.self.inside.held) (vec_capacity c.reserve-2.new.self)
          (vec_capacity c.self.inside.searches.cells) (vec_capacity c.make_room-5.new.self.cells) c.self.inside.names c.make_room-2.new.self c.self.inside.members c.make_room-3.new.self c.self.inside.into c.make_room-4.new.self c.self.inside.searches.found c.make_room-5.new.self.found c.self.inside.searches.ahead c.make_room-5.new.self.ahead
          same c.make_room.ensures.kept c.reserve.ensures.capacity c.reserve-2.ensures.capacity c.make_room-5.ensures.capacity c.make_room-2.ensures.kept c.make_room-3.ensures.lists_kept c.make_room-3.ensures.items_kept c.make_room-4.ensures.lists_kept c.make_room-4.ensures.items_kept (omega (arith, c.self.invariant.3.found, c.make_room-5.ensures.found.room)) (omega (arith, c.self.invariant.3.ahead, c.make_room-5.ensures.ahead.room)) c.self.invariant.3,
      marked-as c.self.inside.node.items c.reserve.new.self.items c.self.inside.held.items c.reserve-2.new.self.items c.self.inside.into c.make_room-4.new.self c.self.inside.names c.make_room-2.new.self c.reserve.ensures.items c.reserve-2.ensures.items c.make_room-4.ensures.lists
          c.make_room-2.ensures.name c.make_room-2.ensures.names c.make_room-2.ensures.minimal c.self.invariant.4,
      have-as c.self.inside.arcs.cells c.make_room.new.self.cells c.self.inside.node.items c.reserve.new.self.items c.self.inside.held.items c.reserve-2.new.self.items c.self.inside.levels.level.items c.make_room-6.new.self.level.items c.self.inside.levels.near c.make_room-6.new.self.near c.self.invariant.5 c.make_room.ensures.cells c.reserve.ensures.items c.reserve-2.ensures.items c.make_room-6.ensures.level c.make_room-6.ensures.lists c.make_room-6.ensures.items,
      level-room-more c.self.inside.room (length c.self.inside.node.items) (length c.reserve.new.self.items) (vec_capacity c.self.inside.levels.level) (vec_capacity c.make_room-6.new.self.level) c.self.inside.levels.near c.make_room-6.new.self.near same c.make_room-6.ensures.capacity c.make_room-6.ensures.list_room c.make_room-6.ensures.item_room c.self.invariant.6,
    )

pub invariant_of-self-2 : goal.invariant_of-self-2
invariant_of-self-2 c =
    let same : length c.reserve.new.self.items ≡ length c.self.inside.node.items = ap length c.reserve.ensures.items in (
      kept-room c.self.inside.arcs.cells c.make_room.new.self.cells c.self.inside.node.items c.reserve.new.self.items c.self.inside.held.items c.reserve-2.new.self.items c.self.inside.names.name c.make_room-2.new.self.name c.self.inside.members c.make_room-3.new.self c.self.inside.into c.make_room-4.new.self c.self.invariant.0
          c.make_room.ensures.cells c.reserve.ensures.items c.reserve-2.ensures.items c.make_room-2.ensures.name c.make_room-3.ensures.lists c.make_room-3.ensures.items c.make_room-4.ensures.lists c.make_room-4.ensures.items,
      c.make_room-5.ensures.found.end ∙ c.self.invariant.1 ∙ sym same,
      c.make_room-5.ensures.ahead.end ∙ c.self.invariant.2 ∙ sym same,
      record {
        arcs = c.in_ok-make_room.ensures.room;
        node = omega (arith, c.in_ok-reserve.ensures.ok, c.reserve.new.self.ok.0);
        held = omega (arith, same, c.in_ok-reserve-2.ensures.ok, c.reserve-2.new.self.ok.0, ap length c.reserve-2.ensures.items, c.self.invariant.0.range.holds);
        name = omega (arith, c.in_ok-make_room-2.ensures.room, c.make_room-2.ensures.kept);
        scratch = omega (arith, same, c.in_ok-make_room-5.ensures.room.2, c.len.ensures, ap length c.make_room.ensures.cells, c.self.invariant.0.range.cells);
        member_lists = c.in_ok-make_room-3.ensures.list_room;
        members = c.in_ok-make_room-3.ensures.item_room;
        into_lists = c.in_ok-make_room-4.ensures.list_room;
        into = c.in_ok-make_room-4.ensures.item_room;
        found = c.in_ok-make_room-5.ensures.room.0;
        ahead = c.in_ok-make_room-5.ensures.room.1;
      },
      marked-as c.self.inside.node.items c.reserve.new.self.items c.self.inside.held.items c.reserve-2.new.self.items c.self.inside.into c.make_room-4.new.self c.self.inside.names c.make_room-2.new.self c.reserve.ensures.items c.reserve-2.ensures.items c.make_room-4.ensures.lists
          c.make_room-2.ensures.name c.make_room-2.ensures.names c.make_room-2.ensures.minimal c.self.invariant.4,
      have-as c.self.inside.arcs.cells c.make_room.new.self.cells c.self.inside.node.items c.reserve.new.self.items c.self.inside.held.items c.reserve-2.new.self.items c.self.inside.levels.level.items c.make_room-6.new.self.level.items c.self.inside.levels.near c.make_room-6.new.self.near c.self.invariant.5 c.make_room.ensures.cells c.reserve.ensures.items c.reserve-2.ensures.items c.make_room-6.ensures.level c.make_room-6.ensures.lists c.make_room-6.ensures.items,
      record {
        level = omega (arith, same, c.in_ok-make_room-6.ensures.room.0, c.len-2.ensures, c.reserve.new.self.ok.0);
        lists = c.in_ok-make_room-6.ensures.room.1;
        items = c.in_ok-make_room-6.ensures.room.2;
      },
    )
