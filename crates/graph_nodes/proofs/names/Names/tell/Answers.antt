use Rattle.std.proofs.Common.{sym, subst, ◌<◌, length, arith}
use Rattle.graph_nodes.specs.Named.{Naming}
use Rattle.graph_nodes.proofs.names.Names.tell.Goals as goal

pub contains-is_minimal-requires : goal.contains-is_minimal-requires
contains-is_minimal-requires c =
    let low : c.args.m < length c.self.inside.name.items = subst (λ (n : Naming). c.args.m < length n.name) (sym c.self.view_is) c.requires in
    omega (arith, c.get-name.ensures, c.self.invariant.0 c.args.m low, c.self.invariant.1)

pub set-requires : goal.set-requires
set-requires c =
    let low : c.args.m < length c.self.inside.name.items = subst (λ (n : Naming). c.args.m < length n.name) (sym c.self.view_is) c.requires in
    omega (arith, c.get-name.ensures, c.self.invariant.0 c.args.m low, c.self.invariant.2)
