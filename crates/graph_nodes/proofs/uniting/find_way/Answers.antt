use Rattle.std.proofs.Common.{arith, inl, inr}
use Rattle.graph_nodes.proofs.Bare.{bare-apart}
use Rattle.graph_nodes.proofs.Raised.{still-twice, pruned-still}
use Rattle.graph_nodes.proofs.Turned.{as-wide-after, wide-twice}
use Rattle.graph_nodes.proofs.Ways.{below-apart, led-apart, led-fits}
use Rattle.graph_nodes.proofs.uniting.find_way.Goals as goal

pub returns-then-l-at-clause-way : goal.returns-then-l-at-clause-way
returns-then-l-at-clause-way c =
    let nodes = c.args.nodes.now in
    let levels = c.args.levels.now in
    let ready = c.requires.ready in
    inl (below-apart nodes.arcs.now.cells nodes.node.now levels.level.items levels.near ready.nodes ready.levelled c.args.v c.args.w (omega (arith, c.if-l-at.true, c.at-l.ensures, c.at.ensures)), c.clear.ensures.members)

pub is_led_from-requires-clause-list : goal.is_led_from-requires-clause-list
is_led_from-requires-clause-list c = omega (arith, c.requires.into.1, c.requires.w.slot)

pub is_led_from-requires-clause-cells : goal.is_led_from-requires-clause-cells
is_led_from-requires-clause-cells c = λ k t. let r = c.requires.into.0.only c.args.w k t in (r.0, omega (arith, r.0, c.requires.ready.linkable.sizes.cells))

pub returns-then-is_led_from-clause-way : goal.returns-then-is_led_from-clause-way
returns-then-is_led_from-clause-way c =
    let nodes = c.args.nodes.now in
    let levels = c.args.levels.now in
    let ready = c.requires.ready in
    inl (led-apart nodes.arcs.now.cells nodes.node.now levels.level.items levels.near ready.nodes ready.levelled c.args.into.now c.args.v c.args.w c.requires.into.0 (c.is_led_from.ensures c.if-is_led_from.true), c.clear.ensures.members)

pub returns-then-is_led_from-clause-fits : goal.returns-then-is_led_from-clause-fits
returns-then-is_led_from-clause-fits c =
    let nodes = c.args.nodes.now in
    let levels = c.args.levels.now in
    let ready = c.requires.ready in
    inr (led-fits nodes.arcs.now.cells nodes.node.now levels.level.items levels.near ready.nodes ready.levelled c.args.into.now c.args.v c.args.w c.requires.into.0 (c.is_led_from.ensures c.if-is_led_from.true))

pub returns-then-is_bare-clause-way : goal.returns-then-is_bare-clause-way
returns-then-is_bare-clause-way c =
    let nodes = c.args.nodes.now in
    inl (bare-apart nodes.arcs.now.cells nodes.node.now nodes.members.now c.args.v c.args.w c.requires.ready.linkable.filed c.requires.w (c.is_bare.ensures c.if-is_bare.true), c.clear.ensures.members)

pub returns-clause-still : goal.returns-clause-still
returns-clause-still c =
    let arcs = c.args.nodes.now.arcs.now.cells in
    let node = c.args.nodes.now.node.now in
    let was = c.args.levels.now in
    let raised = c.raise-looks.new.levels in
    let last = c.search-reaches.new.levels in
    let near = c.prune_found.new.near in
    still-twice arcs node was.level.items raised.level.items last.level.items was.near raised.near near c.raise-looks.ensures.still
    (still-twice arcs node raised.level.items last.level.items last.level.items raised.near last.near near c.search-reaches.ensures.still
    (pruned-still arcs node last.level.items last.near near c.search-reaches.ensures.still.levelled c.prune_found.ensures.pruned))

pub returns-clause-wide : goal.returns-clause-wide
returns-clause-wide c =
    let was = c.args.searches.now in
    let now = c.search-reaches.new.searches in
    let new = c.keep_way.new.searches in
    as-wide-after was.found was.ahead now.found now.ahead new.found new.ahead
    (wide-twice was.found c.clear.new.self now.found record { end = c.clear.ensures.end; room = c.clear.ensures.room } c.search-reaches.ensures.found)
    (wide-twice was.ahead c.raise-looks.new.ahead now.ahead c.raise-looks.ensures.wide c.search-reaches.ensures.ahead)
    c.keep_way.ensures.wide
