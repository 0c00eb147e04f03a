use Rattle.op_meaning.specs.OrderLaws.{in_order_permutes, in_order_sorted, in_order_only}
use Rattle.op_meaning.proofs.order.in_order_is_the_sorted_permutation.Goals as goal

pub returns : goal.returns
returns c = record { permutation = in_order_permutes; order = in_order_sorted; only = in_order_only }
