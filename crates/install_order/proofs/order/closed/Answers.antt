use Rattle.std.proofs.Common.{Bool, sym, subst}
use Rattle.std.specs.Prelude.{IsTrue, ◌↔◌}
use Rattle.install_order.specs.Order.{IsClosed}
use Rattle.install_order.specs.Entries.{accesses, set_of}
use Rattle.install_order.proofs.Decided.{closed_iff}
use Rattle.install_order.proofs.order.closed.Goals as goal

pub returns : goal.returns
returns c = subst (λ (b : Bool). IsTrue b ↔ IsClosed (accesses c.args.entries.now) (set_of c.args.installed.now)) (sym c.is_closed.ensures) (closed_iff c.args.entries.now c.args.installed.now)
