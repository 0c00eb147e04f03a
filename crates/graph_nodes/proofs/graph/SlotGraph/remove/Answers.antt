use Rattle.std.proofs.Common.{◌≡◌, ◌∙◌, ap, sym, subst, ℕ, List, ◌/◌, ◌<◌, length, refl, arith}
use Rattle.std.specs.Prelude.{IsTrue}
use Rattle.std.specs.Vec.{vec_capacity}
use Rattle.oper_core.specs.State.{is_among}
use Rattle.number_lists.specs.MarkLaws.{mark-below}
use Rattle.graph_nodes.proofs.Back.{back-is}
use Rattle.graph_nodes.specs.Arcs.{node_at, held_at}
use Rattle.graph_nodes.specs.Into.{AreLed, AreCleared}
use Rattle.graph_nodes.specs.Named.{Graph, IsMinimal, AreTold}
use Rattle.graph_nodes.specs.Removed.{AreReleased, AreAlone, IsInOrder}
use Rattle.graph_nodes.proofs.Ordered.{value-at}
use Rattle.graph_nodes.proofs.Levelled.{have-as, have-gone, level-room-more}
use Rattle.graph_nodes.proofs.Slot.{kept-room, room-more}
use Rattle.graph_nodes.proofs.Told.{told-of, marked-gone, marked-as}
use Rattle.graph_nodes.proofs.Gone.{AreOfNode, of-node, kept-gone, removed-gone, released-as, alone-as, cleared-of, removed-as, nodes-as}
use Rattle.graph_nodes.proofs.graph.SlotGraph.remove.Goals as goal

pub copy_to-requires-clause-list : goal.copy_to-requires-clause-list
copy_to-requires-clause-list c =
    let arcs = c.self.inside.arcs.cells in
    let old = c.self.inside.node.items in
    let held = c.self.inside.held.items in
    let kept = c.self.invariant.0 in
    let holds : IsTrue (held_at held c.args.slot) = subst (λ (g : Graph). IsTrue (held_at g.held c.args.slot)) (sym c.self.view_is) c.requires.held in
    let slot : c.args.slot < length old = omega (arith, mark-below held c.args.slot holds, kept.range.holds) in
    let n = c.index-n.result.now in
    let at : n ≡ node_at old c.args.slot = value-at old c.args.slot n slot c.index-n.ensures in
    let low : n < length old = omega (arith, at, kept.range.nodes c.args.slot slot) in
    omega (arith, low, kept.range.member_lists)

pub copy_to-requires-clause-room : goal.copy_to-requires-clause-room
copy_to-requires-clause-room c =
    let arcs = c.self.inside.arcs.cells in
    let old = c.self.inside.node.items in
    let held = c.self.inside.held.items in
    let kept = c.self.invariant.0 in
    let holds : IsTrue (held_at held c.args.slot) = subst (λ (g : Graph). IsTrue (held_at g.held c.args.slot)) (sym c.self.view_is) c.requires.held in
    let slot : c.args.slot < length old = omega (arith, mark-below held c.args.slot holds, kept.range.holds) in
    let n = c.index-n.result.now in
    let at : n ≡ node_at old c.args.slot = value-at old c.args.slot n slot c.index-n.ensures in
    let low : n < length old = omega (arith, at, kept.range.nodes c.args.slot slot) in
    omega (arith, kept.range.member_items, c.self.invariant.3.scratch)

pub release-requires : goal.release-requires
release-requires c =
    let arcs = c.self.inside.arcs.cells in
    let old = c.self.inside.node.items in
    let held = c.self.inside.held.items in
    let kept = c.self.invariant.0 in
    let holds : IsTrue (held_at held c.args.slot) = subst (λ (g : Graph). IsTrue (held_at g.held c.args.slot)) (sym c.self.view_is) c.requires.held in
    let slot : c.args.slot < length old = omega (arith, mark-below held c.args.slot holds, kept.range.holds) in
    let n = c.index-n.result.now in
    let at : n ≡ node_at old c.args.slot = value-at old c.args.slot n slot c.index-n.ensures in
    let low : n < length old = omega (arith, at, kept.range.nodes c.args.slot slot) in
    let slots = c.copy_to.new.out.items in
    let members = c.self.inside.members in
    let are_in : (i : ℕ) → IsTrue (is_among i slots) → i < length old = λ i t. (kept.filed.only n i (subst (λ (xs : List ℕ). IsTrue (is_among i xs)) c.copy_to.ensures.items t)).0 in
    rw (c.as_slice.ensures.value, c.as_mut_slice.ensures.value) (λ i t. omega (arith, are_in i t, kept.range.holds))

pub clear_slots-requires-clause-slots : goal.clear_slots-requires-clause-slots
clear_slots-requires-clause-slots c =
    let arcs = c.self.inside.arcs.cells in
    let old = c.self.inside.node.items in
    let held = c.self.inside.held.items in
    let kept = c.self.invariant.0 in
    let holds : IsTrue (held_at held c.args.slot) = subst (λ (g : Graph). IsTrue (held_at g.held c.args.slot)) (sym c.self.view_is) c.requires.held in
    let slot : c.args.slot < length old = omega (arith, mark-below held c.args.slot holds, kept.range.holds) in
    let n = c.index-n.result.now in
    let at : n ≡ node_at old c.args.slot = value-at old c.args.slot n slot c.index-n.ensures in
    let low : n < length old = omega (arith, at, kept.range.nodes c.args.slot slot) in
    let slots = c.copy_to.new.out.items in
    let members = c.self.inside.members in
    let are_in : (i : ℕ) → IsTrue (is_among i slots) → i < length old = λ i t. (kept.filed.only n i (subst (λ (xs : List ℕ). IsTrue (is_among i xs)) c.copy_to.ensures.items t)).0 in
    rw (c.as_slice-2.ensures.value, c.as_slice-3.ensures.value) are_in

pub clear_slots-requires-clause-order : goal.clear_slots-requires-clause-order
clear_slots-requires-clause-order c =
    let kept = c.self.invariant.0 in
    let range = kept.range in
    let order : IsInOrder c.self.inside.arcs.cells c.self.inside.node.items c.self.inside.into c.self.inside.names = record {
      cells = range.cells;
      lists = range.into_lists;
      size = range.names;
      ends = λ k j arc. (range.ends k j arc, omega (arith, range.nodes j (range.ends k j arc), range.into_lists));
      led = kept.led;
      named = kept.named;
      told = told-of c.self.inside.node.items c.self.inside.held.items c.self.inside.into c.self.inside.names c.self.invariant.4;
    } in
    rw c.as_slice-3.ensures.value order

pub scatter-requires-clause-list : goal.scatter-requires-clause-list
scatter-requires-clause-list c =
    let arcs = c.self.inside.arcs.cells in
    let old = c.self.inside.node.items in
    let held = c.self.inside.held.items in
    let kept = c.self.invariant.0 in
    let holds : IsTrue (held_at held c.args.slot) = subst (λ (g : Graph). IsTrue (held_at g.held c.args.slot)) (sym c.self.view_is) c.requires.held in
    let slot : c.args.slot < length old = omega (arith, mark-below held c.args.slot holds, kept.range.holds) in
    let n = c.index-n.result.now in
    let at : n ≡ node_at old c.args.slot = value-at old c.args.slot n slot c.index-n.ensures in
    let low : n < length old = omega (arith, at, kept.range.nodes c.args.slot slot) in
    omega (arith, low, kept.range.member_lists)

pub scatter-requires-clause-slots : goal.scatter-requires-clause-slots
scatter-requires-clause-slots c =
    let arcs = c.self.inside.arcs.cells in
    let old = c.self.inside.node.items in
    let held = c.self.inside.held.items in
    let kept = c.self.invariant.0 in
    let holds : IsTrue (held_at held c.args.slot) = subst (λ (g : Graph). IsTrue (held_at g.held c.args.slot)) (sym c.self.view_is) c.requires.held in
    let slot : c.args.slot < length old = omega (arith, mark-below held c.args.slot holds, kept.range.holds) in
    let n = c.index-n.result.now in
    let at : n ≡ node_at old c.args.slot = value-at old c.args.slot n slot c.index-n.ensures in
    let low : n < length old = omega (arith, at, kept.range.nodes c.args.slot slot) in
    rw c.as_slice-4.ensures.value c.copy_to.ensures.items

pub scatter-requires-clause-distinct : goal.scatter-requires-clause-distinct
scatter-requires-clause-distinct c =
    let arcs = c.self.inside.arcs.cells in
    let old = c.self.inside.node.items in
    let held = c.self.inside.held.items in
    let kept = c.self.invariant.0 in
    let holds : IsTrue (held_at held c.args.slot) = subst (λ (g : Graph). IsTrue (held_at g.held c.args.slot)) (sym c.self.view_is) c.requires.held in
    let slot : c.args.slot < length old = omega (arith, mark-below held c.args.slot holds, kept.range.holds) in
    let n = c.index-n.result.now in
    let at : n ≡ node_at old c.args.slot = value-at old c.args.slot n slot c.index-n.ensures in
    let low : n < length old = omega (arith, at, kept.range.nodes c.args.slot slot) in
    rw c.as_slice-4.ensures.value c.copy_to.ensures.distinct

pub scatter-requires-clause-filed : goal.scatter-requires-clause-filed
scatter-requires-clause-filed c =
    let kept = c.self.invariant.0 in
    rw c.as_mut_slice-2.ensures.value kept.filed

pub scatter-requires-clause-own : goal.scatter-requires-clause-own
scatter-requires-clause-own c =
    let kept = c.self.invariant.0 in
    rw c.as_mut_slice-2.ensures.value kept.own

pub scatter-requires-clause-lists : goal.scatter-requires-clause-lists
scatter-requires-clause-lists c =
    let kept = c.self.invariant.0 in
    rw c.as_mut_slice-2.ensures.value kept.range.member_lists

pub scatter-requires-clause-items : goal.scatter-requires-clause-items
scatter-requires-clause-items c =
    let kept = c.self.invariant.0 in
    rw c.as_mut_slice-2.ensures.value kept.range.member_items

pub remove-requires-clause-node : goal.remove-requires-clause-node
remove-requires-clause-node c =
    let arcs = c.self.inside.arcs.cells in
    let old = c.self.inside.node.items in
    let held = c.self.inside.held.items in
    let kept = c.self.invariant.0 in
    let holds : IsTrue (held_at held c.args.slot) = subst (λ (g : Graph). IsTrue (held_at g.held c.args.slot)) (sym c.self.view_is) c.requires.held in
    let slot : c.args.slot < length old = omega (arith, mark-below held c.args.slot holds, kept.range.holds) in
    let n = c.index-n.result.now in
    let at : n ≡ node_at old c.args.slot = value-at old c.args.slot n slot c.index-n.ensures in
    let low : n < length old = omega (arith, at, kept.range.nodes c.args.slot slot) in
    omega (arith, low, kept.range.names, ap length c.clear_slots.ensures.same.name)

pub remove-requires-clause-slots : goal.remove-requires-clause-slots
remove-requires-clause-slots c =
    let arcs = c.self.inside.arcs.cells in
    let old = c.self.inside.node.items in
    let held = c.self.inside.held.items in
    let kept = c.self.invariant.0 in
    let holds : IsTrue (held_at held c.args.slot) = subst (λ (g : Graph). IsTrue (held_at g.held c.args.slot)) (sym c.self.view_is) c.requires.held in
    let slot : c.args.slot < length old = omega (arith, mark-below held c.args.slot holds, kept.range.holds) in
    let n = c.index-n.result.now in
    let at : n ≡ node_at old c.args.slot = value-at old c.args.slot n slot c.index-n.ensures in
    let low : n < length old = omega (arith, at, kept.range.nodes c.args.slot slot) in
    let slots = c.copy_to.new.out.items in
    let members = c.self.inside.members in
    let are_in : (i : ℕ) → IsTrue (is_among i slots) → i < length old = λ i t. (kept.filed.only n i (subst (λ (xs : List ℕ). IsTrue (is_among i xs)) c.copy_to.ensures.items t)).0 in
    rw c.as_slice-5.ensures.value (λ i t. omega (arith, are_in i t, kept.range.names, ap length c.clear_slots.ensures.same.name))

pub invariant_of-self : goal.invariant_of-self
invariant_of-self c =
    let arcs = c.self.inside.arcs.cells in
    let old = c.self.inside.node.items in
    let held = c.self.inside.held.items in
    let kept = c.self.invariant.0 in
    let holds : IsTrue (held_at held c.args.slot) = subst (λ (g : Graph). IsTrue (held_at g.held c.args.slot)) (sym c.self.view_is) c.requires.held in
    let slot : c.args.slot < length old = omega (arith, mark-below held c.args.slot holds, kept.range.holds) in
    let n = c.index-n.result.now in
    let at : n ≡ node_at old c.args.slot = value-at old c.args.slot n slot c.index-n.ensures in
    let low : n < length old = omega (arith, at, kept.range.nodes c.args.slot slot) in
    let slots = c.copy_to.new.out.items in
    let members = c.self.inside.members in
    let are_in : (i : ℕ) → IsTrue (is_among i slots) → i < length old = λ i t. (kept.filed.only n i (subst (λ (xs : List ℕ). IsTrue (is_among i xs)) c.copy_to.ensures.items t)).0 in
    let minimal : IsMinimal arcs old n = subst (λ (m : ℕ). IsMinimal arcs old m) (sym at) (subst (λ (g : Graph). IsMinimal g.arcs g.node (node_at g.node c.args.slot)) (sym c.self.view_is) c.requires.minimal) in
    let are : AreOfNode arcs old n slots = of-node arcs old n slots members kept.filed low c.copy_to.ensures.items minimal in
    let left = c.clear_slots.new.arcs.cells in
    let new = c.scatter.new.node in
    let holders = c.release.new.held in
    let into = c.self.inside.into in
    let led_into = c.clear_slots.new.into in
    let release : AreReleased slots held holders = released-as c.as_slice.result.now slots c.as_mut_slice.result.now held holders c.as_slice.ensures.value c.as_mut_slice.ensures.value c.release.ensures in
    let clear : AreCleared (λ k. IsTrue (is_among (k / 8) slots)) arcs left into led_into = cleared-of c.as_slice-2.result.now slots c.self.inside.arcs.cells arcs left into led_into c.as_slice-2.ensures.value refl c.clear_slots.ensures.cleared in
    let alone : AreAlone slots old new = alone-as c.as_slice-4.result.now slots c.as_mut_slice-2.result.now old new c.as_slice-4.ensures.value c.as_mut_slice-2.ensures.value c.scatter.ensures.node in
    let level = c.self.inside.levels.level.items in
    let near = c.self.inside.levels.near in
    let name = c.self.inside.names in
    let after_names = c.clear_slots.new.names in
    let last = c.remove.new.self in
    let led : AreLed left old led_into = subst (λ (xs : List ℕ). AreLed left xs led_into) c.as_slice-3.ensures.value c.clear_slots.ensures.order.led in
    let same = c.clear_slots.ensures.same in
    let parted : AreAlone slots after_names.name last.name = alone-as c.as_slice-5.result.now slots after_names.name after_names.name last.name c.as_slice-5.ensures.value refl c.remove.ensures.name in
    let named : AreAlone slots name.name last.name = alone-as slots slots after_names.name name.name last.name refl same.name parted in
    let after = kept-gone arcs left old new n slots into led_into are clear alone held holders name.name last.name members c.scatter.new.members kept release led named c.scatter.ensures.filed c.scatter.ensures.same in
    let back = back-is old new c.self.inside.node.len alone.size c.self.inside.node.ok.0 in
    let told : AreTold old led_into after_names = subst (λ (xs : List ℕ). AreTold xs led_into after_names) c.as_slice-3.ensures.value c.clear_slots.ensures.order.told in
    let marks = marked-gone old new held holders led_into name after_names last n c.args.slot slots at are.there are.only kept.named kept.own c.self.invariant.4.names release alone same told parted c.remove.ensures.names c.remove.ensures.minimal in
    let back_held = back-is held holders c.self.inside.held.len release.size c.self.inside.held.ok.0 in (
      kept-room left _ new _ holders _ last.name last.name c.scatter.new.members c.scatter.new.members led_into led_into after refl back back_held refl refl refl refl refl,
      c.self.invariant.1 ∙ sym (ap length back ∙ alone.size),
      c.self.invariant.2 ∙ sym (ap length back ∙ alone.size),
      room-more c.self.inside.room (length old) _ c.self.inside.arcs.room _ (vec_capacity c.self.inside.node) _ (vec_capacity c.self.inside.held) _ (vec_capacity c.self.inside.searches.cells) _ name last members c.scatter.new.members into led_into
          c.self.inside.searches.found c.self.inside.searches.found c.self.inside.searches.ahead c.self.inside.searches.ahead (ap length back ∙ alone.size) (omega (arith, c.clear_slots.ensures.room)) (omega arith) (omega arith) c.copy_to.ensures.capacity (omega (arith, same.room, c.remove.ensures.room)) (omega (arith, c.scatter.ensures.same.list_room)) (omega (arith, c.scatter.ensures.same.item_room))
          (omega (arith, clear.same.list_room)) (omega (arith, clear.same.item_room)) c.self.invariant.3.found c.self.invariant.3.ahead c.self.invariant.3,
      marked-as new _ holders _ led_into led_into last last back back_held refl refl refl refl marks,
      have-as left _ new _ holders _ level level near near (have-gone arcs left old new n slots into led_into are clear alone held holders level near c.self.invariant.5 release) refl back back_held refl refl refl,
      level-room-more c.self.inside.room (length old) _ (vec_capacity c.self.inside.levels.level) _ near near (ap length back ∙ alone.size) (omega arith) (omega arith) (omega arith) c.self.invariant.6,
    )

pub returns-clause-removed : goal.returns-clause-removed
returns-clause-removed c =
    let arcs = c.self.inside.arcs.cells in
    let old = c.self.inside.node.items in
    let held = c.self.inside.held.items in
    let kept = c.self.invariant.0 in
    let holds : IsTrue (held_at held c.args.slot) = subst (λ (g : Graph). IsTrue (held_at g.held c.args.slot)) (sym c.self.view_is) c.requires.held in
    let slot : c.args.slot < length old = omega (arith, mark-below held c.args.slot holds, kept.range.holds) in
    let n = c.index-n.result.now in
    let at : n ≡ node_at old c.args.slot = value-at old c.args.slot n slot c.index-n.ensures in
    let low : n < length old = omega (arith, at, kept.range.nodes c.args.slot slot) in
    let slots = c.copy_to.new.out.items in
    let members = c.self.inside.members in
    let are_in : (i : ℕ) → IsTrue (is_among i slots) → i < length old = λ i t. (kept.filed.only n i (subst (λ (xs : List ℕ). IsTrue (is_among i xs)) c.copy_to.ensures.items t)).0 in
    let minimal : IsMinimal arcs old n = subst (λ (m : ℕ). IsMinimal arcs old m) (sym at) (subst (λ (g : Graph). IsMinimal g.arcs g.node (node_at g.node c.args.slot)) (sym c.self.view_is) c.requires.minimal) in
    let are : AreOfNode arcs old n slots = of-node arcs old n slots members kept.filed low c.copy_to.ensures.items minimal in
    let left = c.clear_slots.new.arcs.cells in
    let new = c.scatter.new.node in
    let holders = c.release.new.held in
    let into = c.self.inside.into in
    let led_into = c.clear_slots.new.into in
    let release : AreReleased slots held holders = released-as c.as_slice.result.now slots c.as_mut_slice.result.now held holders c.as_slice.ensures.value c.as_mut_slice.ensures.value c.release.ensures in
    let clear : AreCleared (λ k. IsTrue (is_among (k / 8) slots)) arcs left into led_into = cleared-of c.as_slice-2.result.now slots c.self.inside.arcs.cells arcs left into led_into c.as_slice-2.ensures.value refl c.clear_slots.ensures.cleared in
    let alone : AreAlone slots old new = alone-as c.as_slice-4.result.now slots c.as_mut_slice-2.result.now old new c.as_slice-4.ensures.value c.as_mut_slice-2.ensures.value c.scatter.ensures.node in
    let back = back-is old new c.self.inside.node.len alone.size c.self.inside.node.ok.0 in
    let back_held = back-is held holders c.self.inside.held.len release.size c.self.inside.held.ok.0 in
    rw (← c.self.view_is)
    (removed-as record { arcs = arcs; node = old; held = held; room = c.self.inside.room } n (node_at old c.args.slot) left _ new _ holders _ c.self.inside.room refl back back_held at
    (removed-gone arcs left old new n slots into led_into are clear alone held holders c.self.inside.room release))

pub returns-clause-nodes : goal.returns-clause-nodes
returns-clause-nodes c =
    let arcs = c.self.inside.arcs.cells in
    let old = c.self.inside.node.items in
    let held = c.self.inside.held.items in
    let kept = c.self.invariant.0 in
    let holds : IsTrue (held_at held c.args.slot) = subst (λ (g : Graph). IsTrue (held_at g.held c.args.slot)) (sym c.self.view_is) c.requires.held in
    let slot : c.args.slot < length old = omega (arith, mark-below held c.args.slot holds, kept.range.holds) in
    let n = c.index-n.result.now in
    let at : n ≡ node_at old c.args.slot = value-at old c.args.slot n slot c.index-n.ensures in
    let low : n < length old = omega (arith, at, kept.range.nodes c.args.slot slot) in
    let slots = c.copy_to.new.out.items in
    let members = c.self.inside.members in
    let are_in : (i : ℕ) → IsTrue (is_among i slots) → i < length old = λ i t. (kept.filed.only n i (subst (λ (xs : List ℕ). IsTrue (is_among i xs)) c.copy_to.ensures.items t)).0 in
    let minimal : IsMinimal arcs old n = subst (λ (m : ℕ). IsMinimal arcs old m) (sym at) (subst (λ (g : Graph). IsMinimal g.arcs g.node (node_at g.node c.args.slot)) (sym c.self.view_is) c.requires.minimal) in
    let are : AreOfNode arcs old n slots = of-node arcs old n slots members kept.filed low c.copy_to.ensures.items minimal in
    let left = c.clear_slots.new.arcs.cells in
    let new = c.scatter.new.node in
    let holders = c.release.new.held in
    let into = c.self.inside.into in
    let led_into = c.clear_slots.new.into in
    let release : AreReleased slots held holders = released-as c.as_slice.result.now slots c.as_mut_slice.result.now held holders c.as_slice.ensures.value c.as_mut_slice.ensures.value c.release.ensures in
    let clear : AreCleared (λ k. IsTrue (is_among (k / 8) slots)) arcs left into led_into = cleared-of c.as_slice-2.result.now slots c.self.inside.arcs.cells arcs left into led_into c.as_slice-2.ensures.value refl c.clear_slots.ensures.cleared in
    let alone : AreAlone slots old new = alone-as c.as_slice-4.result.now slots c.as_mut_slice-2.result.now old new c.as_slice-4.ensures.value c.as_mut_slice-2.ensures.value c.scatter.ensures.node in
    let name = c.self.inside.names in
    let after_names = c.clear_slots.new.names in
    let last = c.remove.new.self in
    let led : AreLed left old led_into = subst (λ (xs : List ℕ). AreLed left xs led_into) c.as_slice-3.ensures.value c.clear_slots.ensures.order.led in
    let same = c.clear_slots.ensures.same in
    let parted : AreAlone slots after_names.name last.name = alone-as c.as_slice-5.result.now slots after_names.name after_names.name last.name c.as_slice-5.ensures.value refl c.remove.ensures.name in
    let named : AreAlone slots name.name last.name = alone-as slots slots after_names.name name.name last.name refl same.name parted in
    let after = kept-gone arcs left old new n slots into led_into are clear alone held holders name.name last.name members c.scatter.new.members kept release led named c.scatter.ensures.filed c.scatter.ensures.same in
    let back = back-is old new c.self.inside.node.len alone.size c.self.inside.node.ok.0 in
    nodes-as left _ new _ refl back after.nodes
