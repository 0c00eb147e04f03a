use Rattle.install_order.proofs.Alone.{last-blind-alone}
use Rattle.install_order.proofs.order_laws.last_blind_write_is_alone.Goals as goal

pub returns : goal.returns
returns c = last-blind-alone
