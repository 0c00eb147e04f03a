use Rattle.std.proofs.Common.{◌≡◌, ◌∙◌, ap, sym, subst, ℕ, List, [], ◌∷◌, ◌++◌, ◌+◌, ◌<◌, ◌^◌, length, length-append, refl, arith}
use Rattle.std.specs.Prelude.{true, IsTrue}
use Rattle.install_order.specs.Digraph.{AreNodes}
use Rattle.number_lists.specs.Lists.{IsPushed}
use Rattle.graph_nodes.specs.Arcs.{node_at, name_at, held_at, IsArc}
use Rattle.graph_nodes.specs.Named.{Graph}
use Rattle.graph_nodes.proofs.Levelled.{have-as, have-slot}
use Rattle.graph_nodes.proofs.Slot.{kept-slot, kept-room, node-same, held-other, held-last, past-empty}
use Rattle.graph_nodes.proofs.Told.{marked-slot, marked-as}
use Rattle.graph_nodes.proofs.graph.SlotGraph.add_slot.Goals as goal

pub add-requires-clause-room : goal.add-requires-clause-room
add-requires-clause-room c = omega (arith, subst (λ (g : Graph). 0 < g.room) (sym c.self.view_is) c.requires.room, c.self.invariant.3.name)

pub invariant_of-self : goal.invariant_of-self
invariant_of-self c =
    let nodes = c.self.inside.node.items in
    let n = length nodes in
    let small : n < 2 ^ 28 = subst (λ (g : Graph). length g.node < 2 ^ 28) (sym c.self.view_is) c.requires.small in
    let e : c.len-slot.result ≡ n = omega (arith, c.len-slot.ensures, c.self.inside.node.ok.0) in
    let push : IsPushed c.add_item.new.self n n c.push.new.self = subst (λ (k : ℕ). IsPushed c.add_item.new.self k k c.push.new.self) e c.push.ensures in
    let sizes = c.self.invariant.0.range.names in
    let names : c.add.new.self.name ≡ c.self.inside.names.name ++ n ∷ [] = c.add.ensures.name ∙ ap (λ (k : ℕ). c.self.inside.names.name ++ k ∷ []) sizes in
    let after = kept-slot c.self.inside.arcs.cells c.add_cells.new.arcs.cells nodes c.self.inside.held.items c.self.inside.names.name c.add.new.self.name c.self.inside.members c.add_list.new.self c.add_item.new.self c.push.new.self c.self.inside.into c.add_list-2.new.self c.add_cells.new.into
    c.self.invariant.0 small names c.add_list.ensures c.add_item.ensures push c.add_list-2.ensures c.add_cells.ensures.added in
    let now : c.push_in_room.new.items.items ≡ nodes ++ n ∷ [] = c.push_in_room.ensures.items ∙ ap (λ (k : ℕ). nodes ++ k ∷ []) e in
    let was = c.self.invariant.3 in
    let some : 0 < c.self.inside.room = subst (λ (g : Graph). 0 < g.room) (sym c.self.view_is) c.requires.room in
    let size : length c.push_in_room.new.items.items ≡ n + 1 = ap length now ∙ length-append nodes (n ∷ []) in
    let held = c.self.inside.held.items in
    let name_same : (k : ℕ) → name_at c.add.new.self.name k ≡ name_at c.self.inside.names.name k = λ k. ap (λ (xs : List ℕ). name_at xs k) c.add.ensures.name ∙ node-same c.self.inside.names.name k in
    let marks = marked-slot nodes (nodes ++ n ∷ []) held (held ++ true ∷ []) c.self.inside.into c.add_cells.new.into c.self.inside.names c.add.new.self c.self.invariant.4 c.self.invariant.0.range.holds sizes c.add.ensures (node-same nodes) name_same
    (λ k ne. held-other held k (λ q. ne (q ∙ c.self.invariant.0.range.holds))) (subst (λ (k : ℕ). IsTrue (held_at (held ++ true ∷ []) k)) c.self.invariant.0.range.holds (held-last held))
    (λ j. c.add_cells.ensures.added.here j ∙ c.add_list-2.ensures.here j) (past-empty c.self.inside.into.lists n (omega (arith, c.self.invariant.0.range.into_lists))) in (
      kept-room c.add_cells.new.arcs.cells c.add_cells.new.arcs.cells (nodes ++ n ∷ []) c.push_in_room.new.items.items (held ++ true ∷ []) c.push_in_room-2.new.items.items c.add.new.self.name c.add.new.self.name c.push.new.self c.push.new.self c.add_cells.new.into c.add_cells.new.into
          after refl now c.push_in_room-2.ensures.items refl refl refl refl refl,
      omega (arith, size, c.add_number.ensures.end, c.self.invariant.1),
      omega (arith, size, c.add_number-2.ensures.end, c.self.invariant.2),
      record {
        arcs = omega (arith, some, was.arcs, c.add_cells.ensures.room);
        node = omega (arith, size, some, was.node, c.push_in_room.ensures.capacity);
        held = omega (arith, size, some, was.held, c.push_in_room-2.ensures.capacity);
        name = omega (arith, some, was.name, c.add.ensures.room);
        scratch = omega (arith, size, some, was.scratch);
        member_lists = omega (arith, some, was.member_lists, c.add_list.ensures.list_room, c.add_item.ensures.list_room, c.push.ensures.same.list_room);
        members = omega (arith, some, was.members, c.add_list.ensures.item_room, c.add_item.ensures.item_room, c.push.ensures.same.item_room);
        into_lists = omega (arith, some, was.into_lists, c.add_list-2.ensures.list_room, c.add_cells.ensures.added.list_room);
        into = omega (arith, some, was.into, c.add_list-2.ensures.item_room, c.add_cells.ensures.added.item_room);
        found = omega (arith, some, was.found, c.add_number.ensures.room);
        ahead = omega (arith, some, was.ahead, c.add_number-2.ensures.room);
      },
      marked-as (nodes ++ n ∷ []) c.push_in_room.new.items.items (held ++ true ∷ []) c.push_in_room-2.new.items.items c.add_cells.new.into c.add_cells.new.into c.add.new.self c.add.new.self now c.push_in_room-2.ensures.items refl refl refl refl marks,
      have-as c.add_cells.new.arcs.cells c.add_cells.new.arcs.cells (nodes ++ n ∷ []) c.push_in_room.new.items.items (held ++ true ∷ []) c.push_in_room-2.new.items.items c.self.inside.levels.level.items c.self.inside.levels.level.items c.add_items.new.self c.add_items.new.self
          (have-slot c.self.inside.arcs.cells c.add_cells.new.arcs.cells nodes held c.self.inside.levels.level.items c.self.inside.levels.near c.add_list-3.new.self c.add_items.new.self c.self.invariant.5 c.self.invariant.0.range.holds c.self.invariant.0.range.cells c.add_cells.ensures.added.arcs c.add_list-3.ensures c.add_items.ensures)
          refl now c.push_in_room-2.ensures.items refl refl refl,
      record {
        level = omega (arith, size, some, c.self.invariant.6.level);
        lists = omega (arith, some, c.self.invariant.6.lists, c.add_list-3.ensures.list_room, c.add_items.ensures.list_room);
        items = omega (arith, some, c.self.invariant.6.items, c.add_list-3.ensures.item_room, c.add_items.ensures.item_room);
      },
    )

pub returns-clause-nodes : goal.returns-clause-nodes
returns-clause-nodes c =
    let nodes = c.self.inside.node.items in
    let n = length nodes in
    let small : n < 2 ^ 28 = subst (λ (g : Graph). length g.node < 2 ^ 28) (sym c.self.view_is) c.requires.small in
    let e : c.len-slot.result ≡ n = omega (arith, c.len-slot.ensures, c.self.inside.node.ok.0) in
    let push : IsPushed c.add_item.new.self n n c.push.new.self = subst (λ (k : ℕ). IsPushed c.add_item.new.self k k c.push.new.self) e c.push.ensures in
    let sizes = c.self.invariant.0.range.names in
    let names : c.add.new.self.name ≡ c.self.inside.names.name ++ n ∷ [] = c.add.ensures.name ∙ ap (λ (k : ℕ). c.self.inside.names.name ++ k ∷ []) sizes in
    let after = kept-slot c.self.inside.arcs.cells c.add_cells.new.arcs.cells nodes c.self.inside.held.items c.self.inside.names.name c.add.new.self.name c.self.inside.members c.add_list.new.self c.add_item.new.self c.push.new.self c.self.inside.into c.add_list-2.new.self c.add_cells.new.into
    c.self.invariant.0 small names c.add_list.ensures c.add_item.ensures push c.add_list-2.ensures c.add_cells.ensures.added in
    let now : c.push_in_room.new.items.items ≡ nodes ++ n ∷ [] = c.push_in_room.ensures.items ∙ ap (λ (k : ℕ). nodes ++ k ∷ []) e in
    subst (λ (xs : List ℕ). AreNodes (IsArc c.add_cells.new.arcs.cells) (node_at xs)) (sym now) after.nodes

pub add_list-requires-3 : goal.add_list-requires-3
add_list-requires-3 c =
    let some : 0 < c.self.inside.room = subst (λ (g : Graph). 0 < g.room) (sym c.self.view_is) c.requires.room in
    omega (arith, some, c.self.invariant.6.lists)

pub add_cells-requires-clause-arcs : goal.add_cells-requires-clause-arcs
add_cells-requires-clause-arcs c =
    let some : 0 < c.self.inside.room = subst (λ (g : Graph). 0 < g.room) (sym c.self.view_is) c.requires.room in
    omega (arith, some, c.self.invariant.3.arcs)

pub add_items-requires : goal.add_items-requires
add_items-requires c =
    let some : 0 < c.self.inside.room = subst (λ (g : Graph). 0 < g.room) (sym c.self.view_is) c.requires.room in
    omega (arith, some, c.self.invariant.6.items, c.add_list-3.ensures.item_room)
