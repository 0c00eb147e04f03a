use Rattle.std.proofs.Common.{refl}
use Rattle.std.specs.Fmt.{digits}
use Rattle.graph_view.proofs.worked_graphs.graphs_are_worked_out.Goals as goal

pub returns-clause-put_copy_put : goal.returns-clause-put_copy_put
unfolding digits
returns-clause-put_copy_put c = refl

pub returns-clause-copy_there_and_back_put : goal.returns-clause-copy_there_and_back_put
unfolding digits
returns-clause-copy_there_and_back_put c = refl
