use Rattle.install_order.specs.NodeLaws.{edge-iff, node-is, node-unique, name-is, flushed-iff, minimal-exists}
use Rattle.install_order.proofs.order_laws.nodes_are_computed.Goals as goal

pub returns : goal.returns
returns c = record {
  edge = edge-iff;
  node = node-is;
  unique = node-unique;
  name = name-is;
  flush_set = λ a objects end x node. flushed-iff a objects end node x;
  minimal = λ a objects end n chosen is from below there. minimal-exists a objects end chosen is from below n there;
}
