use Rattle.install_order.proofs.Places.{node-lsns, node-places, name-lsns, free-lsns, last-lsns}
use Rattle.install_order.proofs.sparse.nodes_stand_for_nodes.Goals as goal

pub returns-clause-lsns : goal.returns-clause-lsns
returns-clause-lsns c = node-lsns

pub returns-clause-places : goal.returns-clause-places
returns-clause-places c = node-places

pub returns-clause-name : goal.returns-clause-name
returns-clause-name c = name-lsns

pub returns-clause-free : goal.returns-clause-free
returns-clause-free c = free-lsns

pub returns-clause-last : goal.returns-clause-last
returns-clause-last c = last-lsns
