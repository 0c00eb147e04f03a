use Rattle.install_order.specs.Digraph.{arcs}
use Rattle.install_order.specs.MergeLaws.{joined-more, found-way, closure-way, nodes-merged}
use Rattle.install_order.proofs.sparse.one_arc_more.Goals as goal

pub returns-clause-joined : goal.returns-clause-joined
returns-clause-joined c = λ e. joined-more (arcs e)

pub returns-clause-complete : goal.returns-clause-complete
returns-clause-complete c = λ e. found-way (arcs e)

pub returns-clause-taken : goal.returns-clause-taken
returns-clause-taken c = λ e. closure-way (arcs e)

pub returns-clause-merged : goal.returns-clause-merged
returns-clause-merged c = λ e. nodes-merged (arcs e)
