use Rattle.std.proofs.Common.{subst, ℕ, List, ◌/◌, length, arith}
use Rattle.std.specs.Prelude.{IsTrue}
use Rattle.oper_core.specs.State.{is_among}
use Rattle.graph_nodes.specs.Arcs.{node_at}
use Rattle.graph_nodes.specs.Ahead.{AreAhead}
use Rattle.graph_nodes.specs.Levels.{AreLinked}
use Rattle.graph_nodes.proofs.Followed.{ends-to}
use Rattle.graph_nodes.proofs.Linked.{linkable-same}
use Rattle.graph_nodes.proofs.Raised.{raised-still, lifted-free}
use Rattle.graph_nodes.proofs.raising.raise.Goals as goal

pub find_low-looks-requires-clause-ends : goal.find_low-looks-requires-clause-ends
find_low-looks-requires-clause-ends c = ends-to c.args.nodes.now.arcs.now.cells c.args.nodes.now.node.now (length c.args.nodes.now.node.now) c.args.ahead.now.end c.requires.end c.requires.ready.linkable.ends

pub lift-requires-clause-levels : goal.lift-requires-clause-levels
lift-requires-clause-levels c = omega (arith, c.find_low-looks.ensures.wide.end, c.requires.end, c.requires.ready.deep)

pub link_all-requires-clause-ready : goal.link_all-requires-clause-ready
link_all-requires-clause-ready c =
    let nodes = c.args.nodes.now in
    linkable-same nodes.arcs.now.cells nodes.node.now nodes.members.now c.args.levels.now.near c.lift.new.near c.lift.ensures.lifted.same c.requires.ready.linkable

pub link_all-requires-clause-free : goal.link_all-requires-clause-free
link_all-requires-clause-free c =
    let nodes = c.args.nodes.now in
    let levels = c.args.levels.now in
    let ahead = c.find_low-looks.new.ahead.members in
    let found : AreAhead nodes.arcs.now.cells nodes.node.now levels.level.items c.args.l c.args.w ahead = subst (λ (xs : List ℕ). AreAhead nodes.arcs.now.cells nodes.node.now xs c.args.l c.args.w ahead) c.as_slice.ensures.value c.find_low-looks.ensures.found in
    lifted-free nodes.arcs.now.cells nodes.node.now levels.level.items c.lift.new.level.items levels.near c.lift.new.near c.args.l c.args.w ahead c.requires.ready.levelled found c.lift.ensures.lifted

pub returns-clause-still : goal.returns-clause-still
returns-clause-still c =
    let nodes = c.args.nodes.now in
    let levels = c.args.levels.now in
    let ahead = c.find_low-looks.new.ahead.members in
    let found : AreAhead nodes.arcs.now.cells nodes.node.now levels.level.items c.args.l c.args.w ahead = subst (λ (xs : List ℕ). AreAhead nodes.arcs.now.cells nodes.node.now xs c.args.l c.args.w ahead) c.as_slice.ensures.value c.find_low-looks.ensures.found in
    raised-still nodes.arcs.now.cells nodes.node.now levels.level.items c.lift.new.level.items levels.near c.lift.new.near c.args.l c.args.w ahead c.requires.ready.levelled found c.lift.ensures.lifted c.link_all.new.near
    (subst (λ (xs : List ℕ). AreLinked (λ k. IsTrue (is_among (node_at nodes.node.now (k / 8)) ahead)) nodes.arcs.now.cells nodes.node.now xs c.lift.new.near c.link_all.new.near) c.as_slice-2.ensures.value c.link_all.ensures.linked)
