use Rattle.std.proofs.Common.{◌≡◌, sym, subst, ℕ, ◌≤◌, Option, IfNone}
use Rattle.std.specs.Prelude.{slice_index}
use Rattle.write_graph.specs.Graph.{Graph, lsns, NamesMinimal, IsLeast}
use Rattle.write_graph.proofs.Naming.{held-below}
use Rattle.write_graph.proofs.Asked.{slots-are, BeginsAt, least-is, none-is}
use Rattle.write_graph.proofs.graph.WriteGraph.minimal_from.Goals as goal

pub returns-in_err-slot-clause-none : goal.returns-in_err-slot-clause-none
returns-in_err-slot-clause-none c =
    let g = c.self.inside in
    let are = slots-are g.entries.items g.links.graph g.links.rows c.self.invariant.1 c.self.invariant.0 in
    let begins : BeginsAt g.entries.items c.args.n c.slot_from-from.result = record { before = c.slot_from-from.ensures.before; after = c.slot_from-from.ensures.after } in
    let none = none-is c.slots_name_nodes.ensures.slots c.slots_name_nodes.ensures.names g.entries.items g.links.graph are c.args.n c.slot_from-from.result begins c.in_err-slot.ensures.none in
    subst (λ (o : Option ℕ). IfNone o ((k : ℕ) → c.args.n ≤ k → NamesMinimal c.args.self.now.entries k → ⊥)) (sym c.from_residual.ensures) (subst (λ (v : Graph). (k : ℕ) → c.args.n ≤ k → NamesMinimal v.entries k → ⊥) c.self.view_is none)

pub lsn-requires : goal.lsn-requires
lsn-requires c = held-below c.self.inside.entries.items c.self.inside.links.graph c.in_ok-slot.slot c.self.invariant.1.held c.in_ok-slot.ensures.some.0.1.0.0

pub returns-clause-some : goal.returns-clause-some
returns-clause-some c =
    let g = c.self.inside in
    let are = slots-are g.entries.items g.links.graph g.links.rows c.self.invariant.1 c.self.invariant.0 in
    let begins : BeginsAt g.entries.items c.args.n c.slot_from-from.result = record { before = c.slot_from-from.ensures.before; after = c.slot_from-from.ensures.after } in
    let some = c.in_ok-slot.ensures.some in
    let slot = c.in_ok-slot.slot in
    let least = least-is c.slots_name_nodes.ensures.slots c.slots_name_nodes.ensures.names g.entries.items g.links.graph are c.args.n c.slot_from-from.result slot begins some in
    let lsn : slice_index (lsns g.entries.items) slot ≡ c.lsn.result = sym c.lsn.ensures in
    subst (λ (k : ℕ). IsLeast (λ k. (c.args.n ≤ k) × NamesMinimal c.args.self.now.entries k) k) lsn (subst (λ (v : Graph). IsLeast (λ k. (c.args.n ≤ k) × NamesMinimal v.entries k) (slice_index (lsns g.entries.items) slot)) c.self.view_is least)
