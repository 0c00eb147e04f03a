use Rattle.std.proofs.Common.{◌∙◌, ap, sym, ◌<◌, ◌≤◌, length, arith}
use Rattle.std.proofs.Math.ListN.{get_or-eq_default}
use Rattle.graph_nodes.specs.Arcs.{name_at}
use Rattle.graph_nodes.specs.Named.{NameList}
use Rattle.graph_nodes.proofs.NameTables.{name-same}
use Rattle.graph_nodes.proofs.Ordered.{value-at}
use Rattle.graph_nodes.proofs.name_table.NameTable.get.Goals as goal

pub returns-then-m-len : goal.returns-then-m-len
returns-then-m-len c =
    let first = c.self.inside.first.items in
    let low : c.args.m < length first = omega (arith, c.if-m-len.true, c.len.ensures, c.self.inside.first.ok.0) in
    value-at first c.args.m c.index.result.now low c.index.ensures
    ∙ sym (name-same first c.self.inside.count c.args.m c.self.invariant.0)
    ∙ ap (λ (n : NameList). name_at n.items c.args.m) c.self.view_is

pub returns-else-m-len : goal.returns-else-m-len
returns-else-m-len c =
    let first = c.self.inside.first.items in
    let past : length first ≤ c.args.m = omega (arith, c.if-m-len.false, c.len.ensures, c.self.inside.first.ok.0) in
    sym (get_or-eq_default first c.args.m past)
    ∙ sym (name-same first c.self.inside.count c.args.m c.self.invariant.0)
    ∙ ap (λ (n : NameList). name_at n.items c.args.m) c.self.view_is
