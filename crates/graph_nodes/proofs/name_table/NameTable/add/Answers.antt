use Rattle.std.proofs.Common.{◌∙◌, ap, sym, subst, ℕ, [], ◌∷◌, ◌++◌, ◌<◌, ◌^◌, length, arith}
use Rattle.graph_nodes.specs.Named.{NameList}
use Rattle.graph_nodes.proofs.NameTables.{names-count, names-more}
use Rattle.graph_nodes.proofs.name_table.NameTable.add.Goals as goal

pub invariant_of-self : goal.invariant_of-self
invariant_of-self c =
    let first = c.self.inside.first.items in
    let some : 0 < c.self.inside.room = subst (λ (n : NameList). 0 < n.room) (sym c.self.view_is) c.requires.room in
    let few : c.self.inside.count < 2 ^ 32 = subst (λ (k : ℕ). k < 2 ^ 32) (names-count first c.self.inside.count) (subst (λ (n : NameList). length n.items < 2 ^ 32) (sym c.self.view_is) c.requires.small) in
    (omega (arith, c.self.invariant.0), omega (arith, few), omega (arith, some, c.self.invariant.2))

pub returns-clause-items : goal.returns-clause-items
returns-clause-items c = names-more c.self.inside.first.items c.self.inside.count c.self.invariant.0 ∙ ap (λ (n : NameList). n.items ++ length n.items ∷ []) c.self.view_is
