use Rattle.std.proofs.Common.{sym, subst, ℕ, List}
use Rattle.std.specs.Prelude.{IsTrue}
use Rattle.oper_core.specs.State.{is_among}
use Rattle.write_graph.specs.Graph.{Graph, NamesNode, IsNodeNamed, Lists}
use Rattle.write_graph.specs.Listing.{IsLsnOf}
use Rattle.write_graph.proofs.Options.{ok-then}
use Rattle.write_graph.proofs.Asked.{slots-are}
use Rattle.write_graph.proofs.Listed.{lists-same, slots-below, lsns-node}
use Rattle.write_graph.proofs.graph.WriteGraph.ops.Goals as goal

pub slots_of-requires-clause-slots : goal.slots_of-requires-clause-slots
slots_of-requires-clause-slots c =
    let g = c.self.inside in
    slots-are g.entries.items g.links.graph g.links.rows c.self.invariant.1 c.self.invariant.0

pub lsns_of-requires : goal.lsns_of-requires
lsns_of-requires c =
    let g = c.self.inside in
    let entries = g.entries.items in
    let linked = c.self.invariant.1 in
    let has = c.in_ok-slots.ensures in
    let is = subst (λ (v : Graph). NamesNode v.entries c.args.n) (sym c.self.view_is) c.requires in
    let m = has is.0 is.1 in
    record { below = λ i t. slots-below entries g.links.graph g.links.rows linked c.self.invariant.0 c.args.n is.0 is.1 m.slot c.in_ok-slots.slots.items m.among i (subst (λ (xs : List ℕ). IsTrue (is_among i xs)) c.as_slice.ensures.value t) }

pub returns : goal.returns
returns c =
    let g = c.self.inside in
    let entries = g.entries.items in
    let linked = c.self.invariant.1 in
    let has = c.in_ok-slots.ensures in
    ok-then c.lsns_of.result _ _ (λ found listed node named.
    let here = subst (λ (v : Graph). IsNodeNamed v.entries c.args.n node) (sym c.self.view_is) named in
    let m = has node here in
    let list = subst (λ (xs : List ℕ). Lists (IsLsnOf entries xs) found.items) c.as_slice.ensures.value listed in
    lists-same (IsLsnOf entries c.in_ok-slots.slots.items) (λ k. IsTrue (node k)) found.items (lsns-node entries g.links.graph g.links.rows linked c.self.invariant.0 c.args.n node here m.slot c.in_ok-slots.slots.items m.among) list) c.lsns_of.ensures
