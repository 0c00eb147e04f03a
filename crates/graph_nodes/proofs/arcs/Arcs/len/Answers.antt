use Rattle.std.proofs.Common.{◌∙◌, ap, sym, ◌*◌, length}
use Rattle.graph_nodes.specs.ArcPages.{ArcList}
use Rattle.graph_nodes.proofs.Paged.{arcs-count}
use Rattle.graph_nodes.proofs.arcs.Arcs.len.Goals as goal

pub returns : goal.returns
returns c = sym (arcs-count c.self.inside.pages.items c.self.inside.stored.items (8 * c.self.inside.slots)) ∙ ap (λ (a : ArcList). length a.cells) c.self.view_is
