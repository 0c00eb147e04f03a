use Rattle.std.proofs.Common.{◌∙◌, sym}
use Rattle.graph_nodes.proofs.Ways.{not-found, way-taken}
use Rattle.graph_nodes.proofs.uniting.take_way.Goals as goal

pub returns-then-not-contains-clause-way : goal.returns-then-not-contains-clause-way
returns-then-not-contains-clause-way c =
    let nodes = c.args.nodes.now in
    let levels = c.args.levels.now in
    let ready = c.requires.ready in
    not-found nodes.arcs.now.cells nodes.node.now levels.level.items levels.near ready.nodes ready.levelled c.args.v c.args.w c.args.searches.now.found.members c.requires.fits c.requires.over (sym c.contains.ensures ∙ c.if-not-contains.true)

pub returns-clause-way : goal.returns-clause-way
returns-clause-way c =
    let nodes = c.args.nodes.now in
    let levels = c.args.levels.now in
    let ready = c.requires.ready in
    way-taken nodes.arcs.now.cells nodes.node.now levels.level.items levels.near ready.nodes ready.levelled c.args.v c.args.w c.args.searches.now.found.members c.spread.new.taken.members (λ k j arc. (ready.linkable.ends k j arc).0) c.requires.w c.requires.fits c.requires.over (sym c.contains.ensures ∙ c.if-not-contains.false) c.spread.ensures.taken
