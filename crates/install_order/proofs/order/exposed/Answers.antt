use Rattle.std.proofs.Common.{Bool, sym, subst}
use Rattle.std.specs.Prelude.{IsTrue, ◌↔◌}
use Rattle.install_order.specs.Order.{IsExposed}
use Rattle.install_order.specs.Entries.{accesses, set_of}
use Rattle.install_order.proofs.Decided.{exposed_iff}
use Rattle.install_order.proofs.order.exposed.Goals as goal

pub returns : goal.returns
returns c = subst (λ (b : Bool). IsTrue b ↔ IsExposed (accesses c.args.entries.now) (set_of c.args.installed.now) c.args.x) (sym c.is_exposed.ensures) (exposed_iff c.args.entries.now c.args.installed.now c.args.x)
