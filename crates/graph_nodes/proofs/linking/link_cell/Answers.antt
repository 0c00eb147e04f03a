use Rattle.std.proofs.Common.{◌∙◌, ap, sym, ℕ, ◌/◌, ◌<◌, length, arith}
use Rattle.graph_nodes.specs.Levels.{level_at}
use Rattle.graph_nodes.proofs.Found.{node-read}
use Rattle.graph_nodes.proofs.Linked.{linked-one}
use Rattle.graph_nodes.proofs.linking.link_cell.Goals as goal

pub bounds-node-to : goal.bounds-node-to
bounds-node-to c = (c.requires.ready.ends c.args.cell c.in-Some.to (sym c.get.ensures ∙ c.in-Some.is)).0

pub push-requires-clause-list : goal.push-requires-clause-list
push-requires-clause-list c =
    let ready = c.requires.ready in
    let ends = ready.ends c.args.cell c.in-Some.to (sym c.get.ensures ∙ c.in-Some.is) in
    omega (arith, node-read c.args.nodes.now.node.now c.in-Some.to ends.0, ends.1, ready.sizes.near_lists)

pub returns-then-are_near : goal.returns-then-are_near
returns-then-are_near c =
    let node = c.args.nodes.now.node.now in
    let level = c.args.level.now in
    let ready = c.requires.ready in
    let cell = c.args.cell in
    let to = c.in-Some.to in
    let arc = sym c.get.ensures ∙ c.in-Some.is in
    let ends = ready.ends cell to arc in
    let slot : cell / 8 < length node = omega (arith, c.requires.cell, ready.sizes.cells) in
    let from = node-read node (cell / 8) slot in
    let both = c.are_near.ensures.0 c.if-are_near.true in
    linked-one cell _ c.args.nodes.now.arcs.now.cells node level c.args.near.now c.push.new.self
    record {
      to = to;
      arc = arc;
      end = sym (node-read node to ends.0);
      apart = λ e. both.0 (from ∙ e);
      even = ap (λ (m : ℕ). level_at level m) (sym from) ∙ both.1;
    }
    c.push.ensures
