use Rattle.std.proofs.Common.{◌≡◌, ◌∙◌, ap, sym, subst, ℕ, List, length, arith}
use Rattle.std.specs.Prelude.{Option, None, Some, slice_index, slice_set}
use Rattle.std.proofs.lemmas.List.{length-set}
use Rattle.number_lists.specs.Lists.{list_at}
use Rattle.graph_nodes.specs.Arcs.{arc_at, node_at, name_at}
use Rattle.graph_nodes.specs.Into.{AreCleared, IsSettled}
use Rattle.graph_nodes.specs.Named.{AreNamed}
use Rattle.graph_nodes.specs.Removed.{IsInOrder}
use Rattle.graph_nodes.proofs.Found.{node-read}
use Rattle.graph_nodes.proofs.Cleared.{cut-led, cut-cleared, ends-left}
use Rattle.graph_nodes.proofs.Told.{told-settled}
use Rattle.graph_nodes.proofs.Asked.{free-iff}
use Rattle.graph_nodes.proofs.clearing.clear_arc.Goals as goal

pub bounds-node-to : goal.bounds-node-to
bounds-node-to c = (c.requires.order.ends c.args.cell c.in-Some.to (sym c.get.ensures ∙ c.in-Some.is)).0

pub settle-requires-clause-list : goal.settle-requires-clause-list
settle-requires-clause-list c =
    let ends = c.requires.order.ends c.args.cell c.in-Some.to (sym c.get.ensures ∙ c.in-Some.is) in
    omega (arith, ends.1, node-read c.args.node.now c.in-Some.to ends.0)

pub count-requires : goal.count-requires
count-requires c =
    let ends = c.requires.order.ends c.args.cell c.in-Some.to (sym c.get.ensures ∙ c.in-Some.is) in
    omega (arith, ends.1, node-read c.args.node.now c.in-Some.to ends.0, c.settle.ensures.same.lists)

pub tell-requires : goal.tell-requires
tell-requires c =
    let ends = c.requires.order.ends c.args.cell c.in-Some.to (sym c.get.ensures ∙ c.in-Some.is) in
    omega (arith, node-read c.args.node.now c.in-Some.to ends.0, ends.1, c.requires.order.lists, c.requires.order.size)

pub settle-requires-clause-cells : goal.settle-requires-clause-cells
settle-requires-clause-cells c k t =
    let low = (c.requires.order.led.leads.only (slice_index c.args.node.now c.in-Some.to) k t).0 in
    (omega (arith, low, ap length c.set.ensures.cells, length-set c.args.arcs.now.cells c.args.cell c.none.result), omega (arith, low, c.requires.order.cells))

pub returns-clause-cleared : goal.returns-clause-cleared
returns-clause-cleared c =
    let arcs = c.args.arcs.now.cells in
    let node = c.args.node.now in
    let cut = slice_set arcs c.args.cell None in
    let e : c.set.new.self.cells ≡ cut = c.set.ensures.cells ∙ ap (λ (o : Option ℕ). slice_set arcs c.args.cell o) c.none.ensures in
    let settled : IsSettled cut node (slice_index node c.in-Some.to) c.args.into.now c.settle.new.into = subst (λ (xs : List (Option ℕ)). IsSettled xs node (slice_index node c.in-Some.to) c.args.into.now c.settle.new.into) e c.settle.ensures in
    subst (λ (xs : List (Option ℕ)). AreCleared (λ k. k ≡ c.args.cell) arcs xs c.args.into.now c.settle.new.into) (sym e) (cut-cleared arcs node c.args.into.now c.settle.new.into c.args.cell (slice_index node c.in-Some.to) c.requires.cell settled)

pub returns-clause-order : goal.returns-clause-order
returns-clause-order c =
    let was = c.requires.order in
    let arcs = c.args.arcs.now.cells in
    let node = c.args.node.now in
    let old = c.args.into.now in
    let new = c.settle.new.into in
    let to = c.in-Some.to in
    let cut = slice_set arcs c.args.cell None in
    let t = slice_index node to in
    let is : arc_at arcs c.args.cell ≡ Some to = sym c.get.ensures ∙ c.in-Some.is in
    let e : c.set.new.self.cells ≡ cut = c.set.ensures.cells ∙ ap (λ (o : Option ℕ). slice_set arcs c.args.cell o) c.none.ensures in
    let at_t : IsSettled cut node t old new = subst (λ (xs : List (Option ℕ)). IsSettled xs node t old new) e c.settle.ensures in
    let read = node-read node to (was.ends c.args.cell to is).0 in
    let name = c.args.names.now.name in
    let member : node_at node (name_at name t) ≡ t = subst (λ (m : ℕ). node_at node (name_at name m) ≡ m) (sym read) (was.named.member to) in
    let settled : IsSettled cut node (node_at node to) old new = subst (λ (k : ℕ). IsSettled cut node k old new) read at_t in
    subst (λ (xs : List (Option ℕ)). IsInOrder xs node new c.tell.new.self) (sym e) record {
      cells = length-set arcs c.args.cell None ∙ was.cells;
      lists = c.settle.ensures.same.lists ∙ was.lists;
      size = ap length c.tell.ensures.name ∙ was.size;
      ends = ends-left (λ k. k ≡ c.args.cell) arcs cut old new node was.ends (cut-cleared arcs node old new c.args.cell t c.requires.cell at_t);
      led = cut-led arcs node old new c.args.cell to c.requires.cell is was.led settled;
      named = subst (λ (xs : List ℕ). AreNamed node xs) (sym c.tell.ensures.name) was.named;
      told = told-settled node old new t _ c.args.names.now c.tell.new.self was.told member c.settle.ensures.others (free-iff (list_at new.lists t) c.count.result c.count.ensures.value) c.tell.ensures;
    }
