use Rattle.std.proofs.Common.{◌≡◌, ◌∙◌, sym, subst, ℕ, List, ◌/◌, length, arith}
use Rattle.std.specs.Prelude.{IsTrue, nat_eq}
use Rattle.std.specs.List.{IsDistinct}
use Rattle.oper_core.specs.State.{is_among}
use Rattle.number_lists.specs.Lists.{list_at}
use Rattle.graph_nodes.specs.Arcs.{node_at}
use Rattle.graph_nodes.proofs.Linked.{linked-as}
use Rattle.graph_nodes.proofs.Read.{arc-slot}
use Rattle.graph_nodes.proofs.linking.link_node.Goals as goal

pub copy_to-requires-clause-list : goal.copy_to-requires-clause-list
copy_to-requires-clause-list c = omega (arith, c.requires.n, c.requires.ready.sizes.member_lists)

pub link_slots-requires-clause-slots : goal.link_slots-requires-clause-slots
link_slots-requires-clause-slots c i t = (c.requires.ready.filed.only c.args.n i (subst (λ (xs : List ℕ). IsTrue (is_among i xs)) (c.as_slice.ensures.value ∙ c.copy_to.ensures.items) t)).0

pub link_slots-requires-clause-distinct : goal.link_slots-requires-clause-distinct
link_slots-requires-clause-distinct c = subst (λ (xs : List ℕ). IsDistinct nat_eq xs) (sym c.as_slice.ensures.value) c.copy_to.ensures.distinct

pub link_slots-requires-clause-free : goal.link_slots-requires-clause-free
link_slots-requires-clause-free c k j t arc =
    c.requires.free k j (c.requires.ready.filed.only c.args.n (k / 8) (subst (λ (xs : List ℕ). IsTrue (is_among (k / 8) xs)) (c.as_slice.ensures.value ∙ c.copy_to.ensures.items) t)).1 arc

pub returns-clause-linked : goal.returns-clause-linked
returns-clause-linked c =
    let node = c.args.nodes.now.node.now in
    let arcs = c.args.nodes.now.arcs.now.cells in
    let n = c.args.n in
    let slots = c.as_slice.result.now in
    let ready = c.requires.ready in
    let here = c.as_slice.ensures.value ∙ c.copy_to.ensures.items in
    linked-as (λ k. IsTrue (is_among (k / 8) slots)) (λ k. node_at node (k / 8) ≡ n) arcs node c.args.level.now c.args.near.now c.link_slots.new.near
    (λ k j at arc. subst (λ (xs : List ℕ). IsTrue (is_among (k / 8) xs)) (sym here) (subst (λ (m : ℕ). IsTrue (is_among (k / 8) (list_at c.args.nodes.now.members.now.lists m))) at (ready.filed.there (k / 8) (arc-slot arcs k j (length node) ready.sizes.cells arc))))
    (λ k t. (ready.filed.only n (k / 8) (subst (λ (xs : List ℕ). IsTrue (is_among (k / 8) xs)) here t)).1)
    c.link_slots.ensures
