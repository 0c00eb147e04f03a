use Rattle.std.proofs.Common.{sym, subst, ◌<◌, length, arith}
use Rattle.graph_nodes.specs.Named.{Naming}
use Rattle.graph_nodes.proofs.names.Names.remove.Goals as goal

pub remove-requires : goal.remove-requires
remove-requires c =
    let low : c.args.m < length c.self.inside.name.items = subst (λ (n : Naming). c.args.m < length n.name) (sym c.self.view_is) c.requires.node in
    omega (arith, c.get-name.ensures, c.self.invariant.0 c.args.m low, c.self.invariant.1)

pub remove-requires-2 : goal.remove-requires-2
remove-requires-2 c =
    let low : c.args.m < length c.self.inside.name.items = subst (λ (n : Naming). c.args.m < length n.name) (sym c.self.view_is) c.requires.node in
    omega (arith, c.get-name.ensures, c.self.invariant.0 c.args.m low, c.self.invariant.2)
