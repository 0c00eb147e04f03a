use Rattle.std.proofs.Common.{◌≡◌, ◌∙◌, ap, sym, subst, ℕ, List, ◌/◌, ◌<◌, ◌≤◌, length, refl, arith}
use Rattle.std.specs.Prelude.{◌⊎◌, Option, None, Some, IsTrue, slice_index_or, slice_set, nat_eq}
use Rattle.std.proofs.lemmas.List.{length-set}
use Rattle.std.specs.Vec.{vec_capacity}
use Rattle.install_order.specs.Digraph.{AreNodes}
use Rattle.number_lists.specs.Lists.{list_at, IsPushed}
use Rattle.graph_nodes.specs.Arcs.{arc_at, node_at, held_at, IsArc}
use Rattle.graph_nodes.specs.Into.{AreInto, IsSettled}
use Rattle.graph_nodes.specs.Levels.{AreLinked, AreStillLevelled, IsLinkable, level_at}
use Rattle.graph_nodes.specs.Merge.{AreMoved, gathered, IsFiled}
use Rattle.graph_nodes.specs.Named.{Graph}
use Rattle.number_lists.specs.MarkLaws.{mark-below}
use Rattle.graph_nodes.proofs.Back.{back-is}
use Rattle.graph_nodes.proofs.Ordered.{value-at, slot-in, joined-at, joined-below, kept-inserted, cell-free, pushed-cells}
use Rattle.graph_nodes.proofs.Levelled.{have-as, have-inserted, level-room-more, linkable-kept, lost-still, ready-at, still-at}
use Rattle.graph_nodes.proofs.Bare.{own-end}
use Rattle.graph_nodes.proofs.Slot.{kept-room, room-more}
use Rattle.graph_nodes.proofs.Told.{marked-inserted, marked-as}
use Rattle.graph_nodes.proofs.Asked.{free-iff}
use Rattle.graph_nodes.specs.Named.{IsTold}
use Rattle.graph_nodes.proofs.graph.SlotGraph.insert.Goals as goal

pub find_way-requires-clause-v : goal.find_way-requires-clause-v
find_way-requires-clause-v c =
    let arcs = c.self.inside.arcs.cells in
    let old = c.self.inside.node.items in
    let held = c.self.inside.held.items in
    let kept = c.self.invariant.0 in
    let cell : c.args.cell < length arcs = subst (λ (g : Graph). c.args.cell < length g.arcs) (sym c.self.view_is) c.requires.cell in
    let slot : c.args.cell / 8 < length old = slot-in c.args.cell (length old) (length arcs) kept.range.cells cell in
    let v = value-at old (c.args.cell / 8) c.index.result.now slot c.index.ensures in
    own-end arcs c.self.inside.arcs.cells old c.as_slice.result.now held c.self.inside.names.name c.self.inside.members c.self.inside.into (c.args.cell / 8) c.index.result.now kept slot refl c.as_slice.ensures.value v

pub find_way-requires-clause-w : goal.find_way-requires-clause-w
find_way-requires-clause-w c =
    let arcs = c.self.inside.arcs.cells in
    let old = c.self.inside.node.items in
    let held = c.self.inside.held.items in
    let kept = c.self.invariant.0 in
    let to_held : IsTrue (held_at held c.args.to) = subst (λ (g : Graph). IsTrue (held_at g.held c.args.to)) (sym c.self.view_is) c.requires.to_held in
    let to : c.args.to < length old = omega (arith, mark-below held c.args.to to_held, kept.range.holds) in
    let w = value-at old c.args.to c.index-2.result.now to c.index-2.ensures in
    own-end arcs c.self.inside.arcs.cells old c.as_slice.result.now held c.self.inside.names.name c.self.inside.members c.self.inside.into c.args.to c.index-2.result.now kept to refl c.as_slice.ensures.value w

pub find_way-requires-clause-found_end : goal.find_way-requires-clause-found_end
find_way-requires-clause-found_end c = c.self.invariant.1 ∙ sym (ap length c.as_slice.ensures.value)

pub find_way-requires-clause-ahead_end : goal.find_way-requires-clause-ahead_end
find_way-requires-clause-ahead_end c = c.self.invariant.2 ∙ sym (ap length c.as_slice.ensures.value)

pub find_way-requires-clause-ready : goal.find_way-requires-clause-ready
find_way-requires-clause-ready c =
    ready-at c.self.inside.arcs.cells c.self.inside.arcs.cells c.self.inside.node.items c.as_slice.result.now c.self.inside.held.items c.self.inside.names.name c.self.inside.members c.self.inside.into c.self.inside.levels.level.items c.self.inside.levels.near (vec_capacity c.self.inside.searches.cells) (vec_capacity c.self.inside.levels.level)
    c.self.invariant.0 c.self.invariant.5 (omega (arith, c.self.invariant.3.scratch)) (omega (arith, c.self.invariant.6.level)) refl c.as_slice.ensures.value

pub find_way-requires-clause-into : goal.find_way-requires-clause-into
find_way-requires-clause-into c =
    let kept = c.self.invariant.0 in
    let into = c.self.inside.into in (
      subst (λ (xs : List (Option ℕ)). AreInto xs c.as_slice.result.now into) (sym refl)
          (subst (λ (xs : List ℕ). AreInto c.self.inside.arcs.cells xs into) (sym c.as_slice.ensures.value) kept.led.leads),
      kept.range.into_lists ∙ sym (ap length c.as_slice.ensures.value),
    )

pub gather-requires-clause-taken : goal.gather-requires-clause-taken
gather-requires-clause-taken c = omega (arith, c.find_way.ensures.wide.found_end, c.self.invariant.1, c.self.invariant.0.range.member_lists)

pub gather-requires-clause-names : goal.gather-requires-clause-names
gather-requires-clause-names c = omega (arith, c.find_way.ensures.wide.found_end, c.self.invariant.1, c.self.invariant.0.range.names)

pub gather-requires-clause-lists : goal.gather-requires-clause-lists
gather-requires-clause-lists c = omega (arith, c.self.invariant.0.range.into_lists, c.self.invariant.0.range.member_lists)

pub gather-requires-clause-filed : goal.gather-requires-clause-filed
gather-requires-clause-filed c = subst (λ (xs : List ℕ). IsFiled xs c.self.inside.members) (sym c.as_mut_slice.ensures.value) c.self.invariant.0.filed

pub gather-requires-clause-room : goal.gather-requires-clause-room
gather-requires-clause-room c = omega (arith, c.self.invariant.0.range.member_items, c.self.invariant.3.scratch, c.find_way.ensures.capacity)

pub some-requires : goal.some-requires
some-requires c =
    let held = c.self.inside.held.items in
    let range = c.self.invariant.0.range in
    let to_held : IsTrue (held_at held c.args.to) = subst (λ (g : Graph). IsTrue (held_at g.held c.args.to)) (sym c.self.view_is) c.requires.to_held in
    omega (arith, mark-below held c.args.to to_held, range.holds, range.small)

pub push-requires-clause-list : goal.push-requires-clause-list
push-requires-clause-list c =
    let arcs = c.self.inside.arcs.cells in
    let old = c.self.inside.node.items in
    let held = c.self.inside.held.items in
    let kept = c.self.invariant.0 in
    let cell : c.args.cell < length arcs = subst (λ (g : Graph). c.args.cell < length g.arcs) (sym c.self.view_is) c.requires.cell in
    let to_held : IsTrue (held_at held c.args.to) = subst (λ (g : Graph). IsTrue (held_at g.held c.args.to)) (sym c.self.view_is) c.requires.to_held in
    let to : c.args.to < length old = omega (arith, mark-below held c.args.to to_held, kept.range.holds) in
    let slot : c.args.cell / 8 < length old = slot-in c.args.cell (length old) (length arcs) kept.range.cells cell in
    let v = value-at old (c.args.cell / 8) c.index.result.now slot c.index.ensures in
    let w = value-at old c.args.to c.index-2.result.now to c.index-2.ensures in
    let new = c.gather.new.node in
    let name = c.self.inside.names in
    let names = c.gather.new.names in
    let join = joined-at arcs c.self.inside.arcs.cells old c.as_slice.result.now c.as_mut_slice.result.now c.index.result.now (node_at old (c.args.cell / 8)) c.index-2.result.now (node_at old c.args.to) c.find_way.new.searches.found.members new name names c.self.inside.members c.gather.new.members c.self.inside.into c.gather.new.into
    refl c.as_slice.ensures.value c.as_mut_slice.ensures.value v w c.find_way.ensures.way c.gather.ensures.gathered in
    let back = back-is old new c.self.inside.node.len join.2.3.size c.self.inside.node.ok.0 in
    let low : c.args.to < length new = omega (arith, to, join.2.3.size) in
    let at = value-at new c.args.to c.index-n.result.now low (subst (λ (xs : List ℕ). c.index-n.result.now ≡ slice_index_or xs c.args.to c.index-n.result.now) back c.index-n.ensures) in
    omega (arith, at, joined-below arcs old new held name names c.self.inside.members c.gather.new.members c.self.inside.into c.gather.new.into (node_at old (c.args.cell / 8)) c.args.to kept to join)

pub push-requires-clause-free : goal.push-requires-clause-free
push-requires-clause-free c =
    let arcs = c.self.inside.arcs.cells in
    let old = c.self.inside.node.items in
    let held = c.self.inside.held.items in
    let kept = c.self.invariant.0 in
    let cell : c.args.cell < length arcs = subst (λ (g : Graph). c.args.cell < length g.arcs) (sym c.self.view_is) c.requires.cell in
    let to_held : IsTrue (held_at held c.args.to) = subst (λ (g : Graph). IsTrue (held_at g.held c.args.to)) (sym c.self.view_is) c.requires.to_held in
    let to : c.args.to < length old = omega (arith, mark-below held c.args.to to_held, kept.range.holds) in
    let slot : c.args.cell / 8 < length old = slot-in c.args.cell (length old) (length arcs) kept.range.cells cell in
    let v = value-at old (c.args.cell / 8) c.index.result.now slot c.index.ensures in
    let w = value-at old c.args.to c.index-2.result.now to c.index-2.ensures in
    let new = c.gather.new.node in
    let name = c.self.inside.names in
    let names = c.gather.new.names in
    let join = joined-at arcs c.self.inside.arcs.cells old c.as_slice.result.now c.as_mut_slice.result.now c.index.result.now (node_at old (c.args.cell / 8)) c.index-2.result.now (node_at old c.args.to) c.find_way.new.searches.found.members new name names c.self.inside.members c.gather.new.members c.self.inside.into c.gather.new.into
    refl c.as_slice.ensures.value c.as_mut_slice.ensures.value v w c.find_way.ensures.way c.gather.ensures.gathered in
    let back = back-is old new c.self.inside.node.len join.2.3.size c.self.inside.node.ok.0 in
    let low : c.args.to < length new = omega (arith, to, join.2.3.size) in
    let at = value-at new c.args.to c.index-n.result.now low (subst (λ (xs : List ℕ). c.index-n.result.now ≡ slice_index_or xs c.args.to c.index-n.result.now) back c.index-n.ensures) in
    let none : arc_at arcs c.args.cell ≡ None = subst (λ (g : Graph). arc_at g.arcs c.args.cell ≡ None) (sym c.self.view_is) c.requires.none in
    let holds : IsTrue (held_at held (c.args.cell / 8)) = subst (λ (g : Graph). IsTrue (held_at g.held (c.args.cell / 8))) (sym c.self.view_is) c.requires.from_held in
    cell-free arcs held c.self.inside.into c.gather.new.into (gathered join.0 join.2.0) c.args.cell none holds kept.lost join.2.3.into

pub tidy-requires-clause-list : goal.tidy-requires-clause-list
tidy-requires-clause-list c =
    let arcs = c.self.inside.arcs.cells in
    let old = c.self.inside.node.items in
    let held = c.self.inside.held.items in
    let kept = c.self.invariant.0 in
    let cell : c.args.cell < length arcs = subst (λ (g : Graph). c.args.cell < length g.arcs) (sym c.self.view_is) c.requires.cell in
    let to_held : IsTrue (held_at held c.args.to) = subst (λ (g : Graph). IsTrue (held_at g.held c.args.to)) (sym c.self.view_is) c.requires.to_held in
    let to : c.args.to < length old = omega (arith, mark-below held c.args.to to_held, kept.range.holds) in
    let slot : c.args.cell / 8 < length old = slot-in c.args.cell (length old) (length arcs) kept.range.cells cell in
    let v = value-at old (c.args.cell / 8) c.index.result.now slot c.index.ensures in
    let w = value-at old c.args.to c.index-2.result.now to c.index-2.ensures in
    let new = c.gather.new.node in
    let name = c.self.inside.names in
    let names = c.gather.new.names in
    let join = joined-at arcs c.self.inside.arcs.cells old c.as_slice.result.now c.as_mut_slice.result.now c.index.result.now (node_at old (c.args.cell / 8)) c.index-2.result.now (node_at old c.args.to) c.find_way.new.searches.found.members new name names c.self.inside.members c.gather.new.members c.self.inside.into c.gather.new.into
    refl c.as_slice.ensures.value c.as_mut_slice.ensures.value v w c.find_way.ensures.way c.gather.ensures.gathered in
    let back = back-is old new c.self.inside.node.len join.2.3.size c.self.inside.node.ok.0 in
    let low : c.args.to < length new = omega (arith, to, join.2.3.size) in
    let at = value-at new c.args.to c.index-n.result.now low (subst (λ (xs : List ℕ). c.index-n.result.now ≡ slice_index_or xs c.args.to c.index-n.result.now) back c.index-n.ensures) in
    omega (arith, at, joined-below arcs old new held name names c.self.inside.members c.gather.new.members c.self.inside.into c.gather.new.into (node_at old (c.args.cell / 8)) c.args.to kept to join, c.push.ensures.same.lists)

pub tidy-requires-clause-cells : goal.tidy-requires-clause-cells
tidy-requires-clause-cells c =
    let arcs = c.self.inside.arcs.cells in
    let old = c.self.inside.node.items in
    let held = c.self.inside.held.items in
    let kept = c.self.invariant.0 in
    let cell : c.args.cell < length arcs = subst (λ (g : Graph). c.args.cell < length g.arcs) (sym c.self.view_is) c.requires.cell in
    let to_held : IsTrue (held_at held c.args.to) = subst (λ (g : Graph). IsTrue (held_at g.held c.args.to)) (sym c.self.view_is) c.requires.to_held in
    let to : c.args.to < length old = omega (arith, mark-below held c.args.to to_held, kept.range.holds) in
    let slot : c.args.cell / 8 < length old = slot-in c.args.cell (length old) (length arcs) kept.range.cells cell in
    let v = value-at old (c.args.cell / 8) c.index.result.now slot c.index.ensures in
    let w = value-at old c.args.to c.index-2.result.now to c.index-2.ensures in
    let new = c.gather.new.node in
    let name = c.self.inside.names in
    let names = c.gather.new.names in
    let join = joined-at arcs c.self.inside.arcs.cells old c.as_slice.result.now c.as_mut_slice.result.now c.index.result.now (node_at old (c.args.cell / 8)) c.index-2.result.now (node_at old c.args.to) c.find_way.new.searches.found.members new name names c.self.inside.members c.gather.new.members c.self.inside.into c.gather.new.into
    refl c.as_slice.ensures.value c.as_mut_slice.ensures.value v w c.find_way.ensures.way c.gather.ensures.gathered in
    let back = back-is old new c.self.inside.node.len join.2.3.size c.self.inside.node.ok.0 in
    let low : c.args.to < length new = omega (arith, to, join.2.3.size) in
    let at = value-at new c.args.to c.index-n.result.now low (subst (λ (xs : List ℕ). c.index-n.result.now ≡ slice_index_or xs c.args.to c.index-n.result.now) back c.index-n.ensures) in
    let none : arc_at arcs c.args.cell ≡ None = subst (λ (g : Graph). arc_at g.arcs c.args.cell ≡ None) (sym c.self.view_is) c.requires.none in
    let holds : IsTrue (held_at held (c.args.cell / 8)) = subst (λ (g : Graph). IsTrue (held_at g.held (c.args.cell / 8))) (sym c.self.view_is) c.requires.from_held in
    let push : IsPushed c.gather.new.into (node_at new c.args.to) c.args.cell c.push.new.self = subst (λ (k : ℕ). IsPushed c.gather.new.into k c.args.cell c.push.new.self) at c.push.ensures in
    let set = slice_set arcs c.args.cell (Some c.args.to) in
    rw (c.set.ensures.cells, c.as_slice-2.ensures.value, back, c.some.ensures)
    (pushed-cells arcs old new held name names c.self.inside.members c.gather.new.members c.self.inside.into c.gather.new.into c.push.new.self c.args.cell c.args.to c.index-n.result.now kept cell none holds to join push)

pub invariant_of-self : goal.invariant_of-self
invariant_of-self c =
    let arcs = c.self.inside.arcs.cells in
    let old = c.self.inside.node.items in
    let held = c.self.inside.held.items in
    let kept = c.self.invariant.0 in
    let cell : c.args.cell < length arcs = subst (λ (g : Graph). c.args.cell < length g.arcs) (sym c.self.view_is) c.requires.cell in
    let to_held : IsTrue (held_at held c.args.to) = subst (λ (g : Graph). IsTrue (held_at g.held c.args.to)) (sym c.self.view_is) c.requires.to_held in
    let to : c.args.to < length old = omega (arith, mark-below held c.args.to to_held, kept.range.holds) in
    let slot : c.args.cell / 8 < length old = slot-in c.args.cell (length old) (length arcs) kept.range.cells cell in
    let v = value-at old (c.args.cell / 8) c.index.result.now slot c.index.ensures in
    let w = value-at old c.args.to c.index-2.result.now to c.index-2.ensures in
    let new = c.gather.new.node in
    let name = c.self.inside.names in
    let names = c.gather.new.names in
    let join = joined-at arcs c.self.inside.arcs.cells old c.as_slice.result.now c.as_mut_slice.result.now c.index.result.now (node_at old (c.args.cell / 8)) c.index-2.result.now (node_at old c.args.to) c.find_way.new.searches.found.members new name names c.self.inside.members c.gather.new.members c.self.inside.into c.gather.new.into
    refl c.as_slice.ensures.value c.as_mut_slice.ensures.value v w c.find_way.ensures.way c.gather.ensures.gathered in
    let back = back-is old new c.self.inside.node.len join.2.3.size c.self.inside.node.ok.0 in
    let low : c.args.to < length new = omega (arith, to, join.2.3.size) in
    let at = value-at new c.args.to c.index-n.result.now low (subst (λ (xs : List ℕ). c.index-n.result.now ≡ slice_index_or xs c.args.to c.index-n.result.now) back c.index-n.ensures) in
    let none : arc_at arcs c.args.cell ≡ None = subst (λ (g : Graph). arc_at g.arcs c.args.cell ≡ None) (sym c.self.view_is) c.requires.none in
    let holds : IsTrue (held_at held (c.args.cell / 8)) = subst (λ (g : Graph). IsTrue (held_at g.held (c.args.cell / 8))) (sym c.self.view_is) c.requires.from_held in
    let push : IsPushed c.gather.new.into (node_at new c.args.to) c.args.cell c.push.new.self = subst (λ (k : ℕ). IsPushed c.gather.new.into k c.args.cell c.push.new.self) at c.push.ensures in
    let set = slice_set arcs c.args.cell (Some c.args.to) in
    let stored : slice_set arcs c.args.cell c.some.result ≡ set = ap (λ (o : Option ℕ). slice_set arcs c.args.cell o) c.some.ensures in
    let settle : IsSettled set new (node_at new c.args.to) c.push.new.self c.tidy.new.into =
    subst (λ (k : ℕ). IsSettled set new k c.push.new.self c.tidy.new.into) at
    (subst (λ (xs : List ℕ). IsSettled set xs c.index-n.result.now c.push.new.self c.tidy.new.into) (c.as_slice-2.ensures.value ∙ back)
    (subst (λ (xs : List (Option ℕ)). IsSettled xs c.as_slice-2.result.now c.index-n.result.now c.push.new.self c.tidy.new.into) (c.set.ensures.cells ∙ stored) c.tidy.ensures.settled)) in
    let after = kept-inserted arcs old new held name names c.self.inside.members c.gather.new.members c.self.inside.into c.gather.new.into c.push.new.self c.tidy.new.into c.args.cell c.args.to kept cell none holds to join push settle in
    let level = c.self.inside.levels.level.items in
    let raised = c.find_way.new.levels.level.items in
    let near = c.self.inside.levels.near in
    let na = c.find_way.new.levels.near in
    let nb = c.join_lists.new.lists in
    let still : AreStillLevelled arcs old level raised near na = still-at c.self.inside.arcs.cells arcs c.as_slice.result.now old level raised near na refl c.as_slice.ensures.value c.find_way.ensures.still in
    let moved : AreMoved (gathered join.0 (node_at new c.args.to)) na nb = subst (λ (k : ℕ). AreMoved (gathered join.0 k) na nb) at c.join_lists.ensures in
    let nc = c.link_cell.new.near in
    let link : AreLinked (λ d. d ≡ c.args.cell) set new raised nb nc =
    subst (λ (xs : List ℕ). AreLinked (λ d. d ≡ c.args.cell) set new xs nb nc) c.as_slice-4.ensures.value
    (subst (λ (xs : List ℕ). AreLinked (λ d. d ≡ c.args.cell) set xs c.as_slice-4.result.now nb nc) (c.as_slice-3.ensures.value ∙ back)
    (subst (λ (xs : List (Option ℕ)). AreLinked (λ d. d ≡ c.args.cell) xs c.as_slice-3.result.now c.as_slice-4.result.now nb nc) (c.set.ensures.cells ∙ stored) c.link_cell.ensures)) in
    let fits : (node_at old (c.args.cell / 8) ≡ node_at old c.args.to) ⊎ (level_at raised (node_at old (c.args.cell / 8)) ≤ level_at raised (node_at old c.args.to)) =
    subst (λ (k : ℕ). (node_at old (c.args.cell / 8) ≡ k) ⊎ (level_at raised (node_at old (c.args.cell / 8)) ≤ level_at raised k)) w
    (subst (λ (k : ℕ). (k ≡ c.index-2.result.now) ⊎ (level_at raised k ≤ level_at raised c.index-2.result.now)) v c.find_way.ensures.fits) in
    let have = have-inserted arcs old new held name names c.self.inside.members c.gather.new.members c.self.inside.into c.gather.new.into level raised near na nb nc c.args.cell c.args.to join kept c.self.invariant.5 cell none holds to fits still moved link in
    let room = c.find_way.ensures.wide.room c.self.inside.room c.self.invariant.3.found c.self.invariant.3.ahead in
    let told = c.tell.new.self in
    let tell : IsTold (node_at new c.args.to) (nat_eq c.count.result 0) names told = subst (λ (k : ℕ). IsTold k (nat_eq c.count.result 0) names told) at c.tell.ensures in
    let count : c.count.result ≡ length (list_at c.tidy.new.into.lists (node_at new c.args.to)) = subst (λ (k : ℕ). c.count.result ≡ length (list_at c.tidy.new.into.lists k)) at c.count.ensures.value in
    let marks = marked-inserted arcs old new held name names told c.self.inside.members c.gather.new.members c.self.inside.into c.gather.new.into c.tidy.new.into (c.args.cell / 8) c.args.to (nat_eq c.count.result 0) kept c.self.invariant.4 to join after.named
    (λ m ne. settle.others m ne ∙ push.others m ne) (free-iff (list_at c.tidy.new.into.lists (node_at new c.args.to)) c.count.result count) tell in (
      kept-room set _ new _ held held names.name told.name c.gather.new.members c.gather.new.members c.tidy.new.into c.tidy.new.into after (c.set.ensures.cells ∙ stored) back refl tell.name refl refl refl refl,
      c.find_way.ensures.wide.found_end ∙ c.self.invariant.1 ∙ sym (ap length back ∙ join.2.3.size),
      c.find_way.ensures.wide.ahead_end ∙ c.self.invariant.2 ∙ sym (ap length back ∙ join.2.3.size),
      room-more c.self.inside.room (length old) _ c.self.inside.arcs.room _ (vec_capacity c.self.inside.node) _ (vec_capacity c.self.inside.held) _ (vec_capacity c.self.inside.searches.cells) _ name told c.self.inside.members c.gather.new.members c.self.inside.into c.tidy.new.into
          c.self.inside.searches.found c.find_way.new.searches.found c.self.inside.searches.ahead c.find_way.new.searches.ahead (ap length back ∙ join.2.3.size) (omega (arith, c.set.ensures.room)) (omega arith) (omega arith) (omega (arith, c.find_way.ensures.capacity, c.gather.ensures.capacity, c.tidy.ensures.capacity)) (omega (arith, join.2.2.room, tell.room)) (omega (arith, join.2.3.members.list_room)) (omega (arith, join.2.3.members.item_room))
          (omega (arith, join.2.3.into.same.list_room, push.same.list_room, settle.same.list_room)) (omega (arith, join.2.3.into.same.item_room, push.same.item_room, settle.same.item_room)) room.0 room.1 c.self.invariant.3,
      marked-as new _ held held c.tidy.new.into c.tidy.new.into told told back refl refl refl refl refl marks,
      have-as set _ new _ held held raised raised nc nc have (c.set.ensures.cells ∙ stored) back refl refl refl refl,
      level-room-more c.self.inside.room (length old) _ (vec_capacity c.self.inside.levels.level) _ c.self.inside.levels.near nc (ap length back ∙ join.2.3.size) c.find_way.ensures.level (omega (arith, still.same.list_room, moved.same.list_room, link.same.list_room)) (omega (arith, still.same.item_room, moved.same.item_room, link.same.item_room)) c.self.invariant.6,
    )

pub returns-clause-nodes : goal.returns-clause-nodes
returns-clause-nodes c =
    let arcs = c.self.inside.arcs.cells in
    let old = c.self.inside.node.items in
    let held = c.self.inside.held.items in
    let kept = c.self.invariant.0 in
    let cell : c.args.cell < length arcs = subst (λ (g : Graph). c.args.cell < length g.arcs) (sym c.self.view_is) c.requires.cell in
    let to_held : IsTrue (held_at held c.args.to) = subst (λ (g : Graph). IsTrue (held_at g.held c.args.to)) (sym c.self.view_is) c.requires.to_held in
    let to : c.args.to < length old = omega (arith, mark-below held c.args.to to_held, kept.range.holds) in
    let slot : c.args.cell / 8 < length old = slot-in c.args.cell (length old) (length arcs) kept.range.cells cell in
    let v = value-at old (c.args.cell / 8) c.index.result.now slot c.index.ensures in
    let w = value-at old c.args.to c.index-2.result.now to c.index-2.ensures in
    let new = c.gather.new.node in
    let name = c.self.inside.names in
    let names = c.gather.new.names in
    let join = joined-at arcs c.self.inside.arcs.cells old c.as_slice.result.now c.as_mut_slice.result.now c.index.result.now (node_at old (c.args.cell / 8)) c.index-2.result.now (node_at old c.args.to) c.find_way.new.searches.found.members new name names c.self.inside.members c.gather.new.members c.self.inside.into c.gather.new.into
    refl c.as_slice.ensures.value c.as_mut_slice.ensures.value v w c.find_way.ensures.way c.gather.ensures.gathered in
    let back = back-is old new c.self.inside.node.len join.2.3.size c.self.inside.node.ok.0 in
    let low : c.args.to < length new = omega (arith, to, join.2.3.size) in
    let at = value-at new c.args.to c.index-n.result.now low (subst (λ (xs : List ℕ). c.index-n.result.now ≡ slice_index_or xs c.args.to c.index-n.result.now) back c.index-n.ensures) in
    let none : arc_at arcs c.args.cell ≡ None = subst (λ (g : Graph). arc_at g.arcs c.args.cell ≡ None) (sym c.self.view_is) c.requires.none in
    let holds : IsTrue (held_at held (c.args.cell / 8)) = subst (λ (g : Graph). IsTrue (held_at g.held (c.args.cell / 8))) (sym c.self.view_is) c.requires.from_held in
    let push : IsPushed c.gather.new.into (node_at new c.args.to) c.args.cell c.push.new.self = subst (λ (k : ℕ). IsPushed c.gather.new.into k c.args.cell c.push.new.self) at c.push.ensures in
    let set = slice_set arcs c.args.cell (Some c.args.to) in
    let stored : slice_set arcs c.args.cell c.some.result ≡ set = ap (λ (o : Option ℕ). slice_set arcs c.args.cell o) c.some.ensures in
    let settle : IsSettled set new (node_at new c.args.to) c.push.new.self c.tidy.new.into =
    subst (λ (k : ℕ). IsSettled set new k c.push.new.self c.tidy.new.into) at
    (subst (λ (xs : List ℕ). IsSettled set xs c.index-n.result.now c.push.new.self c.tidy.new.into) (c.as_slice-2.ensures.value ∙ back)
    (subst (λ (xs : List (Option ℕ)). IsSettled xs c.as_slice-2.result.now c.index-n.result.now c.push.new.self c.tidy.new.into) (c.set.ensures.cells ∙ stored) c.tidy.ensures.settled)) in
    let after = kept-inserted arcs old new held name names c.self.inside.members c.gather.new.members c.self.inside.into c.gather.new.into c.push.new.self c.tidy.new.into c.args.cell c.args.to kept cell none holds to join push settle in
    subst (λ (xs : List ℕ). AreNodes (IsArc c.set.new.self.cells) (node_at xs)) (sym back)
    (subst (λ (o : List (Option ℕ)). AreNodes (IsArc o) (node_at new)) (sym (c.set.ensures.cells ∙ stored)) after.nodes)

pub count-requires : goal.count-requires
count-requires c =
    let arcs = c.self.inside.arcs.cells in
    let old = c.self.inside.node.items in
    let held = c.self.inside.held.items in
    let kept = c.self.invariant.0 in
    let cell : c.args.cell < length arcs = subst (λ (g : Graph). c.args.cell < length g.arcs) (sym c.self.view_is) c.requires.cell in
    let to_held : IsTrue (held_at held c.args.to) = subst (λ (g : Graph). IsTrue (held_at g.held c.args.to)) (sym c.self.view_is) c.requires.to_held in
    let to : c.args.to < length old = omega (arith, mark-below held c.args.to to_held, kept.range.holds) in
    let slot : c.args.cell / 8 < length old = slot-in c.args.cell (length old) (length arcs) kept.range.cells cell in
    let v = value-at old (c.args.cell / 8) c.index.result.now slot c.index.ensures in
    let w = value-at old c.args.to c.index-2.result.now to c.index-2.ensures in
    let new = c.gather.new.node in
    let name = c.self.inside.names in
    let names = c.gather.new.names in
    let join = joined-at arcs c.self.inside.arcs.cells old c.as_slice.result.now c.as_mut_slice.result.now c.index.result.now (node_at old (c.args.cell / 8)) c.index-2.result.now (node_at old c.args.to) c.find_way.new.searches.found.members new name names c.self.inside.members c.gather.new.members c.self.inside.into c.gather.new.into
    refl c.as_slice.ensures.value c.as_mut_slice.ensures.value v w c.find_way.ensures.way c.gather.ensures.gathered in
    let back = back-is old new c.self.inside.node.len join.2.3.size c.self.inside.node.ok.0 in
    let low : c.args.to < length new = omega (arith, to, join.2.3.size) in
    let at = value-at new c.args.to c.index-n.result.now low (subst (λ (xs : List ℕ). c.index-n.result.now ≡ slice_index_or xs c.args.to c.index-n.result.now) back c.index-n.ensures) in
    omega (arith, at, joined-below arcs old new held name names c.self.inside.members c.gather.new.members c.self.inside.into c.gather.new.into (node_at old (c.args.cell / 8)) c.args.to kept to join, c.push.ensures.same.lists, c.tidy.ensures.settled.same.lists)

pub tell-requires : goal.tell-requires
tell-requires c =
    let arcs = c.self.inside.arcs.cells in
    let old = c.self.inside.node.items in
    let held = c.self.inside.held.items in
    let kept = c.self.invariant.0 in
    let cell : c.args.cell < length arcs = subst (λ (g : Graph). c.args.cell < length g.arcs) (sym c.self.view_is) c.requires.cell in
    let to_held : IsTrue (held_at held c.args.to) = subst (λ (g : Graph). IsTrue (held_at g.held c.args.to)) (sym c.self.view_is) c.requires.to_held in
    let to : c.args.to < length old = omega (arith, mark-below held c.args.to to_held, kept.range.holds) in
    let slot : c.args.cell / 8 < length old = slot-in c.args.cell (length old) (length arcs) kept.range.cells cell in
    let v = value-at old (c.args.cell / 8) c.index.result.now slot c.index.ensures in
    let w = value-at old c.args.to c.index-2.result.now to c.index-2.ensures in
    let new = c.gather.new.node in
    let name = c.self.inside.names in
    let names = c.gather.new.names in
    let join = joined-at arcs c.self.inside.arcs.cells old c.as_slice.result.now c.as_mut_slice.result.now c.index.result.now (node_at old (c.args.cell / 8)) c.index-2.result.now (node_at old c.args.to) c.find_way.new.searches.found.members new name names c.self.inside.members c.gather.new.members c.self.inside.into c.gather.new.into
    refl c.as_slice.ensures.value c.as_mut_slice.ensures.value v w c.find_way.ensures.way c.gather.ensures.gathered in
    let back = back-is old new c.self.inside.node.len join.2.3.size c.self.inside.node.ok.0 in
    let low : c.args.to < length new = omega (arith, to, join.2.3.size) in
    let at = value-at new c.args.to c.index-n.result.now low (subst (λ (xs : List ℕ). c.index-n.result.now ≡ slice_index_or xs c.args.to c.index-n.result.now) back c.index-n.ensures) in
    omega (arith, at, joined-below arcs old new held name names c.self.inside.members c.gather.new.members c.self.inside.into c.gather.new.into (node_at old (c.args.cell / 8)) c.args.to kept to join, join.2.3.into.same.lists, kept.range.into_lists, kept.range.names, join.2.2.size)

pub returns-clause-arcs : goal.returns-clause-arcs
returns-clause-arcs c = c.set.ensures.cells ∙ ap (λ (o : Option ℕ). slice_set c.self.inside.arcs.cells c.args.cell o) c.some.ensures ∙ ap (λ (g : Graph). slice_set g.arcs c.args.cell (Some c.args.to)) c.self.view_is

pub join_lists-requires-clause-one : goal.join_lists-requires-clause-one
join_lists-requires-clause-one c =
    let arcs = c.self.inside.arcs.cells in
    let old = c.self.inside.node.items in
    let held = c.self.inside.held.items in
    let kept = c.self.invariant.0 in
    let cell : c.args.cell < length arcs = subst (λ (g : Graph). c.args.cell < length g.arcs) (sym c.self.view_is) c.requires.cell in
    let to_held : IsTrue (held_at held c.args.to) = subst (λ (g : Graph). IsTrue (held_at g.held c.args.to)) (sym c.self.view_is) c.requires.to_held in
    let to : c.args.to < length old = omega (arith, mark-below held c.args.to to_held, kept.range.holds) in
    let slot : c.args.cell / 8 < length old = slot-in c.args.cell (length old) (length arcs) kept.range.cells cell in
    let v = value-at old (c.args.cell / 8) c.index.result.now slot c.index.ensures in
    let w = value-at old c.args.to c.index-2.result.now to c.index-2.ensures in
    let new = c.gather.new.node in
    let name = c.self.inside.names in
    let names = c.gather.new.names in
    let join = joined-at arcs c.self.inside.arcs.cells old c.as_slice.result.now c.as_mut_slice.result.now c.index.result.now (node_at old (c.args.cell / 8)) c.index-2.result.now (node_at old c.args.to) c.find_way.new.searches.found.members new name names c.self.inside.members c.gather.new.members c.self.inside.into c.gather.new.into
    refl c.as_slice.ensures.value c.as_mut_slice.ensures.value v w c.find_way.ensures.way c.gather.ensures.gathered in
    let back = back-is old new c.self.inside.node.len join.2.3.size c.self.inside.node.ok.0 in
    let low : c.args.to < length new = omega (arith, to, join.2.3.size) in
    let at = value-at new c.args.to c.index-n.result.now low (subst (λ (xs : List ℕ). c.index-n.result.now ≡ slice_index_or xs c.args.to c.index-n.result.now) back c.index-n.ensures) in
    let none : arc_at arcs c.args.cell ≡ None = subst (λ (g : Graph). arc_at g.arcs c.args.cell ≡ None) (sym c.self.view_is) c.requires.none in
    let holds : IsTrue (held_at held (c.args.cell / 8)) = subst (λ (g : Graph). IsTrue (held_at g.held (c.args.cell / 8))) (sym c.self.view_is) c.requires.from_held in
    let push : IsPushed c.gather.new.into (node_at new c.args.to) c.args.cell c.push.new.self = subst (λ (k : ℕ). IsPushed c.gather.new.into k c.args.cell c.push.new.self) at c.push.ensures in
    let set = slice_set arcs c.args.cell (Some c.args.to) in
    let stored : slice_set arcs c.args.cell c.some.result ≡ set = ap (λ (o : Option ℕ). slice_set arcs c.args.cell o) c.some.ensures in
    let settle : IsSettled set new (node_at new c.args.to) c.push.new.self c.tidy.new.into =
    subst (λ (k : ℕ). IsSettled set new k c.push.new.self c.tidy.new.into) at
    (subst (λ (xs : List ℕ). IsSettled set xs c.index-n.result.now c.push.new.self c.tidy.new.into) (c.as_slice-2.ensures.value ∙ back)
    (subst (λ (xs : List (Option ℕ)). IsSettled xs c.as_slice-2.result.now c.index-n.result.now c.push.new.self c.tidy.new.into) (c.set.ensures.cells ∙ stored) c.tidy.ensures.settled)) in
    let after = kept-inserted arcs old new held name names c.self.inside.members c.gather.new.members c.self.inside.into c.gather.new.into c.push.new.self c.tidy.new.into c.args.cell c.args.to kept cell none holds to join push settle in
    let level = c.self.inside.levels.level.items in
    let raised = c.find_way.new.levels.level.items in
    let near = c.self.inside.levels.near in
    let na = c.find_way.new.levels.near in
    let still : AreStillLevelled arcs old level raised near na = still-at c.self.inside.arcs.cells arcs c.as_slice.result.now old level raised near na refl c.as_slice.ensures.value c.find_way.ensures.still in
    omega (arith, at, joined-below arcs old new held name names c.self.inside.members c.gather.new.members c.self.inside.into c.gather.new.into (node_at old (c.args.cell / 8)) c.args.to kept to join, join.2.3.into.same.lists, kept.range.into_lists, still.same.lists, c.self.invariant.5.lists)

pub join_lists-requires-clause-taken : goal.join_lists-requires-clause-taken
join_lists-requires-clause-taken c = omega (arith, c.find_way.ensures.wide.found_end, c.self.invariant.1, c.self.invariant.5.lists, c.find_way.ensures.still.same.lists)

pub link_cell-requires-clause-cell : goal.link_cell-requires-clause-cell
link_cell-requires-clause-cell c =
    let arcs = c.self.inside.arcs.cells in
    let cell : c.args.cell < length arcs = subst (λ (g : Graph). c.args.cell < length g.arcs) (sym c.self.view_is) c.requires.cell in
    omega (arith, cell, ap length c.set.ensures.cells, length-set arcs c.args.cell c.some.result)

pub link_cell-requires-clause-ready : goal.link_cell-requires-clause-ready
link_cell-requires-clause-ready c =
    let arcs = c.self.inside.arcs.cells in
    let old = c.self.inside.node.items in
    let held = c.self.inside.held.items in
    let kept = c.self.invariant.0 in
    let cell : c.args.cell < length arcs = subst (λ (g : Graph). c.args.cell < length g.arcs) (sym c.self.view_is) c.requires.cell in
    let to_held : IsTrue (held_at held c.args.to) = subst (λ (g : Graph). IsTrue (held_at g.held c.args.to)) (sym c.self.view_is) c.requires.to_held in
    let to : c.args.to < length old = omega (arith, mark-below held c.args.to to_held, kept.range.holds) in
    let slot : c.args.cell / 8 < length old = slot-in c.args.cell (length old) (length arcs) kept.range.cells cell in
    let v = value-at old (c.args.cell / 8) c.index.result.now slot c.index.ensures in
    let w = value-at old c.args.to c.index-2.result.now to c.index-2.ensures in
    let new = c.gather.new.node in
    let name = c.self.inside.names in
    let names = c.gather.new.names in
    let join = joined-at arcs c.self.inside.arcs.cells old c.as_slice.result.now c.as_mut_slice.result.now c.index.result.now (node_at old (c.args.cell / 8)) c.index-2.result.now (node_at old c.args.to) c.find_way.new.searches.found.members new name names c.self.inside.members c.gather.new.members c.self.inside.into c.gather.new.into
    refl c.as_slice.ensures.value c.as_mut_slice.ensures.value v w c.find_way.ensures.way c.gather.ensures.gathered in
    let back = back-is old new c.self.inside.node.len join.2.3.size c.self.inside.node.ok.0 in
    let low : c.args.to < length new = omega (arith, to, join.2.3.size) in
    let at = value-at new c.args.to c.index-n.result.now low (subst (λ (xs : List ℕ). c.index-n.result.now ≡ slice_index_or xs c.args.to c.index-n.result.now) back c.index-n.ensures) in
    let none : arc_at arcs c.args.cell ≡ None = subst (λ (g : Graph). arc_at g.arcs c.args.cell ≡ None) (sym c.self.view_is) c.requires.none in
    let holds : IsTrue (held_at held (c.args.cell / 8)) = subst (λ (g : Graph). IsTrue (held_at g.held (c.args.cell / 8))) (sym c.self.view_is) c.requires.from_held in
    let push : IsPushed c.gather.new.into (node_at new c.args.to) c.args.cell c.push.new.self = subst (λ (k : ℕ). IsPushed c.gather.new.into k c.args.cell c.push.new.self) at c.push.ensures in
    let set = slice_set arcs c.args.cell (Some c.args.to) in
    let stored : slice_set arcs c.args.cell c.some.result ≡ set = ap (λ (o : Option ℕ). slice_set arcs c.args.cell o) c.some.ensures in
    let settle : IsSettled set new (node_at new c.args.to) c.push.new.self c.tidy.new.into =
    subst (λ (k : ℕ). IsSettled set new k c.push.new.self c.tidy.new.into) at
    (subst (λ (xs : List ℕ). IsSettled set xs c.index-n.result.now c.push.new.self c.tidy.new.into) (c.as_slice-2.ensures.value ∙ back)
    (subst (λ (xs : List (Option ℕ)). IsSettled xs c.as_slice-2.result.now c.index-n.result.now c.push.new.self c.tidy.new.into) (c.set.ensures.cells ∙ stored) c.tidy.ensures.settled)) in
    let after = kept-inserted arcs old new held name names c.self.inside.members c.gather.new.members c.self.inside.into c.gather.new.into c.push.new.self c.tidy.new.into c.args.cell c.args.to kept cell none holds to join push settle in
    let level = c.self.inside.levels.level.items in
    let raised = c.find_way.new.levels.level.items in
    let near = c.self.inside.levels.near in
    let na = c.find_way.new.levels.near in
    let nb = c.join_lists.new.lists in
    let still : AreStillLevelled arcs old level raised near na = still-at c.self.inside.arcs.cells arcs c.as_slice.result.now old level raised near na refl c.as_slice.ensures.value c.find_way.ensures.still in
    let moved : AreMoved (gathered join.0 (node_at new c.args.to)) na nb = subst (λ (k : ℕ). AreMoved (gathered join.0 k) na nb) at c.join_lists.ensures in
    let size = join.2.3.size in
    let ready = linkable-kept set new held names.name c.gather.new.members c.tidy.new.into nb after (moved.same.lists ∙ still.same.lists ∙ c.self.invariant.5.lists ∙ sym size) (moved.same.items ∙ still.same.items ∙ c.self.invariant.5.items ∙ sym (length-set arcs c.args.cell (Some c.args.to))) in
    subst (λ (xs : List ℕ). IsLinkable c.set.new.self.cells xs c.gather.new.members nb) (sym (c.as_slice-3.ensures.value ∙ back))
    (subst (λ (xs : List (Option ℕ)). IsLinkable xs new c.gather.new.members nb) (sym (c.set.ensures.cells ∙ stored)) ready)

pub link_cell-requires-clause-free : goal.link_cell-requires-clause-free
link_cell-requires-clause-free c j arc =
    let arcs = c.self.inside.arcs.cells in
    let old = c.self.inside.node.items in
    let held = c.self.inside.held.items in
    let kept = c.self.invariant.0 in
    let cell : c.args.cell < length arcs = subst (λ (g : Graph). c.args.cell < length g.arcs) (sym c.self.view_is) c.requires.cell in
    let to_held : IsTrue (held_at held c.args.to) = subst (λ (g : Graph). IsTrue (held_at g.held c.args.to)) (sym c.self.view_is) c.requires.to_held in
    let to : c.args.to < length old = omega (arith, mark-below held c.args.to to_held, kept.range.holds) in
    let slot : c.args.cell / 8 < length old = slot-in c.args.cell (length old) (length arcs) kept.range.cells cell in
    let v = value-at old (c.args.cell / 8) c.index.result.now slot c.index.ensures in
    let w = value-at old c.args.to c.index-2.result.now to c.index-2.ensures in
    let new = c.gather.new.node in
    let name = c.self.inside.names in
    let names = c.gather.new.names in
    let join = joined-at arcs c.self.inside.arcs.cells old c.as_slice.result.now c.as_mut_slice.result.now c.index.result.now (node_at old (c.args.cell / 8)) c.index-2.result.now (node_at old c.args.to) c.find_way.new.searches.found.members new name names c.self.inside.members c.gather.new.members c.self.inside.into c.gather.new.into
    refl c.as_slice.ensures.value c.as_mut_slice.ensures.value v w c.find_way.ensures.way c.gather.ensures.gathered in
    let back = back-is old new c.self.inside.node.len join.2.3.size c.self.inside.node.ok.0 in
    let low : c.args.to < length new = omega (arith, to, join.2.3.size) in
    let at = value-at new c.args.to c.index-n.result.now low (subst (λ (xs : List ℕ). c.index-n.result.now ≡ slice_index_or xs c.args.to c.index-n.result.now) back c.index-n.ensures) in
    let none : arc_at arcs c.args.cell ≡ None = subst (λ (g : Graph). arc_at g.arcs c.args.cell ≡ None) (sym c.self.view_is) c.requires.none in
    let holds : IsTrue (held_at held (c.args.cell / 8)) = subst (λ (g : Graph). IsTrue (held_at g.held (c.args.cell / 8))) (sym c.self.view_is) c.requires.from_held in
    let push : IsPushed c.gather.new.into (node_at new c.args.to) c.args.cell c.push.new.self = subst (λ (k : ℕ). IsPushed c.gather.new.into k c.args.cell c.push.new.self) at c.push.ensures in
    let set = slice_set arcs c.args.cell (Some c.args.to) in
    let stored : slice_set arcs c.args.cell c.some.result ≡ set = ap (λ (o : Option ℕ). slice_set arcs c.args.cell o) c.some.ensures in
    let settle : IsSettled set new (node_at new c.args.to) c.push.new.self c.tidy.new.into =
    subst (λ (k : ℕ). IsSettled set new k c.push.new.self c.tidy.new.into) at
    (subst (λ (xs : List ℕ). IsSettled set xs c.index-n.result.now c.push.new.self c.tidy.new.into) (c.as_slice-2.ensures.value ∙ back)
    (subst (λ (xs : List (Option ℕ)). IsSettled xs c.as_slice-2.result.now c.index-n.result.now c.push.new.self c.tidy.new.into) (c.set.ensures.cells ∙ stored) c.tidy.ensures.settled)) in
    let after = kept-inserted arcs old new held name names c.self.inside.members c.gather.new.members c.self.inside.into c.gather.new.into c.push.new.self c.tidy.new.into c.args.cell c.args.to kept cell none holds to join push settle in
    let level = c.self.inside.levels.level.items in
    let raised = c.find_way.new.levels.level.items in
    let near = c.self.inside.levels.near in
    let na = c.find_way.new.levels.near in
    let nb = c.join_lists.new.lists in
    let still : AreStillLevelled arcs old level raised near na = still-at c.self.inside.arcs.cells arcs c.as_slice.result.now old level raised near na refl c.as_slice.ensures.value c.find_way.ensures.still in
    let moved : AreMoved (gathered join.0 (node_at new c.args.to)) na nb = subst (λ (k : ℕ). AreMoved (gathered join.0 k) na nb) at c.join_lists.ensures in
    cell-free arcs held na nb (gathered join.0 (node_at new c.args.to)) c.args.cell none holds (lost-still arcs old held level raised near na c.self.invariant.5.lost still) moved
