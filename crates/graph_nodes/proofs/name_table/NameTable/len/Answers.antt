use Rattle.std.proofs.Common.{◌∙◌, ap, sym, length}
use Rattle.graph_nodes.specs.Named.{NameList}
use Rattle.graph_nodes.proofs.NameTables.{names-count}
use Rattle.graph_nodes.proofs.name_table.NameTable.len.Goals as goal

pub returns : goal.returns
returns c = sym (names-count c.self.inside.first.items c.self.inside.count) ∙ ap (λ (n : NameList). length n.items) c.self.view_is
