use Rattle.std.proofs.Common.{◌≡◌, ◌∙◌, ap, sym, subst, ℕ, List, map, is_some, nat_eq}
use Rattle.std.specs.Prelude.{IsTrue, slice_index}
use Rattle.std.proofs.lemmas.Bool.{both_ways}
use Rattle.std.proofs.lemmas.List.{take_all}
use Rattle.indexmap.specs.IndexMap.{get}
use Rattle.oper_core.specs.State.{is_among}
use Rattle.install_order.specs.Entries.{accesses}
use Rattle.write_graph.specs.Graph.{Graph, lsns, Lists, IsLeast}
use Rattle.write_graph.specs.Objects.{IsWriter, IsWritten}
use Rattle.write_graph.specs.Cells.{held_entries}
use Rattle.write_graph.proofs.Held.{at-among}
use Rattle.write_graph.proofs.Listed.{lists-same}
use Rattle.write_graph.proofs.FirstWriters.{first-below, written-is, first-is, starts-more}
use Rattle.write_graph.proofs.graph.WriteGraph.redo_starts.Goals as goal

pub unreachable-requires : goal.unreachable-requires
unreachable-requires c =
    let objects = c.deref-x-items.result.now in
    let x = slice_index objects c.loop-x.x-index in
    let there : IsTrue (is_among x c.in_ok-objects.objects.items) = subst (λ (xs : List ℕ). IsTrue (is_among x xs)) c.deref-x-items.ensures.value (at-among objects c.loop-x.x-index c.loop-x-test.true) in
    both_ways _ (ap is_some (sym c.in_default.ensures.value)) ((c.in_ok-objects.ensures.exactly x).0 there)

pub lsn-requires : goal.lsn-requires
lsn-requires c =
    let g = c.self.inside in
    let x = slice_index c.deref-x-items.result.now c.loop-x.x-index in
    let below = first-below g.entries.items g.links.graph.held c.self.invariant.0 c.self.invariant.1.held x c.in-Some.slot.now (get nat_eq g.firsts) c.self.invariant.4 (sym c.in-Some.ensures.value) in
    below

pub loop-x-preserved : goal.loop-x-preserved
loop-x-preserved c =
    let g = c.self.inside in
    let entries = g.entries.items in
    let held = g.links.graph.held in
    let objects = c.deref-x-items.result.now in
    let x = slice_index objects c.loop-x.x-index in
    let slot = c.in-Some.slot.now in
    let at : get nat_eq g.firsts x ≡ _ = sym c.in-Some.ensures.value in
    let below = first-below entries held c.self.invariant.0 c.self.invariant.1.held x slot (get nat_eq g.firsts) c.self.invariant.4 at in
    let n = c.lsn.result in
    let lsn : slice_index (lsns entries) slot ≡ n = sym c.lsn.ensures in
    let least = subst (λ (v : Graph). IsLeast (IsWriter (accesses v.entries) x) n) c.self.view_is (subst (λ (k : ℕ). IsLeast (IsWriter (accesses (held_entries held entries)) x) k) lsn (first-is entries held c.self.invariant.0 c.self.invariant.1.held x slot (get nat_eq g.firsts) c.self.invariant.4 at)) in
    rw c.in_ok-push.ensures.items (starts-more (accesses c.args.self.now.entries) objects c.loop-x.starts.items c.loop-x.x-index n c.loop-x-test.true c.loop-x.invariant.0 c.loop-x.invariant.1 least)

pub returns-clause-objects : goal.returns-clause-objects
returns-clause-objects c =
    let g = c.self.inside in
    let entries = g.entries.items in
    let held = g.links.graph.held in
    let view = held_entries held entries in
    let listed : Lists (IsWritten (accesses view)) c.in_ok-objects.objects.items = lists-same (λ x. is_some (get nat_eq g.firsts x) ≡ _) (IsWritten (accesses view)) c.in_ok-objects.objects.items (written-is entries held c.self.invariant.0 c.self.invariant.1.held (get nat_eq g.firsts) c.self.invariant.4) c.in_ok-objects.ensures in
    let all : map (λ s. s.0) c.loop-x.starts.items ≡ c.in_ok-objects.objects.items = c.loop-x.invariant.0 ∙ take_all c.loop-x.x-index c.deref-x-items.result.now c.loop-x-test.false ∙ c.deref-x-items.ensures.value in
    subst (λ (v : Graph). Lists (IsWritten (accesses v.entries)) (map (λ s. s.0) c.loop-x.starts.items)) c.self.view_is (
    subst (λ (xs : List ℕ). Lists (IsWritten (accesses view)) xs) (sym all) listed)
