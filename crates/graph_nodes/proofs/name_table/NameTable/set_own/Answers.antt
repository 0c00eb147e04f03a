use Rattle.std.proofs.Common.{◌≡◌, ◌∙◌, ap, subst, ◌<◌, ◌≤◌, length, arith}
use Rattle.std.specs.Prelude.{slice_set}
use Rattle.graph_nodes.specs.Named.{NameList}
use Rattle.graph_nodes.proofs.NameTables.{names-own, names-set}
use Rattle.graph_nodes.proofs.name_table.NameTable.set_own.Goals as goal

pub returns-then-m-len-clause-items : goal.returns-then-m-len-clause-items
returns-then-m-len-clause-items c =
    let first = c.self.inside.first.items in
    let low : c.args.m < length first = omega (arith, c.if-m-len.true, c.len.ensures, c.self.inside.first.ok.0) in
    names-set first c.self.inside.count c.args.m c.args.m c.self.invariant.0 low ∙ ap (λ (n : NameList). slice_set n.items c.args.m c.args.m) c.self.view_is

pub returns-else-m-len-clause-items : goal.returns-else-m-len-clause-items
returns-else-m-len-clause-items c =
    let first = c.self.inside.first.items in
    let past : length first ≤ c.args.m = omega (arith, c.if-m-len.false, c.len.ensures, c.self.inside.first.ok.0) in
    subst (λ (n : NameList). n.items ≡ slice_set n.items c.args.m c.args.m) c.self.view_is (names-own first c.self.inside.count c.args.m c.self.invariant.0 past)
