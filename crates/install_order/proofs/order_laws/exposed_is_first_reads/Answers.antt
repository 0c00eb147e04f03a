use Rattle.install_order.proofs.First.{exposed-first}
use Rattle.install_order.proofs.order_laws.exposed_is_first_reads.Goals as goal

pub returns : goal.returns
returns c a objects end x installed is = exposed-first a objects end installed x is
