use Rattle.std.proofs.Common.{◌∙◌, ap, sym, subst, ℕ, List, ◌<◌, length, arith}
use Rattle.std.specs.Prelude.{slice_set}
use Rattle.std.proofs.lemmas.List.{length-set}
use Rattle.graph_nodes.specs.Named.{NameList}
use Rattle.graph_nodes.proofs.NameTables.{names-count, names-as, names-set}
use Rattle.graph_nodes.proofs.name_table.NameTable.set.Goals as goal

pub fill-requires-clause-room : goal.fill-requires-clause-room
fill-requires-clause-room c =
    let low : c.args.m < c.self.inside.count = subst (λ (k : ℕ). c.args.m < k) (names-count c.self.inside.first.items c.self.inside.count) (subst (λ (n : NameList). c.args.m < length n.items) (sym c.self.view_is) c.requires) in
    omega (arith, low, c.self.invariant.2)

pub invariant_of-self : goal.invariant_of-self
invariant_of-self c =
    let low : c.args.m < c.self.inside.count = subst (λ (k : ℕ). c.args.m < k) (names-count c.self.inside.first.items c.self.inside.count) (subst (λ (n : NameList). c.args.m < length n.items) (sym c.self.view_is) c.requires) in (
      omega (arith, length-set c.fill.new.names.items c.args.m c.args.name, low, c.fill.ensures.few, c.self.invariant.0),
      c.self.invariant.1,
      omega (arith, c.self.invariant.2, c.fill.ensures.capacity),
    )

pub returns-clause-items : goal.returns-clause-items
returns-clause-items c =
    let first = c.self.inside.first.items in
    let n = c.self.inside.count in
    let filled = c.fill.new.names.items in
    let low : c.args.m < n = subst (λ (k : ℕ). c.args.m < k) (names-count first n) (subst (λ (names : NameList). c.args.m < length names.items) (sym c.self.view_is) c.requires) in
    names-set filled n c.args.m c.args.name (omega (arith, low, c.fill.ensures.few, c.self.invariant.0)) (omega (arith, c.fill.ensures.enough))
    ∙ ap (λ (xs : List ℕ). slice_set xs c.args.m c.args.name) (names-as filled first n c.fill.ensures.each)
    ∙ ap (λ (names : NameList). slice_set names.items c.args.m c.args.name) c.self.view_is
