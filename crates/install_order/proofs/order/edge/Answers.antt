use Rattle.std.proofs.Common.{Bool, sym, subst}
use Rattle.std.specs.Prelude.{IsTrue, ◌↔◌}
use Rattle.install_order.specs.Order.{Edge}
use Rattle.install_order.specs.Entries.{accesses}
use Rattle.install_order.proofs.Decided.{edge_iff}
use Rattle.install_order.proofs.order.edge.Goals as goal

pub returns : goal.returns
returns c = subst (λ (b : Bool). IsTrue b ↔ Edge (accesses c.args.entries.now) c.args.a c.args.b) (sym c.is_edge.ensures) (edge_iff c.args.entries.now c.args.a c.args.b)
