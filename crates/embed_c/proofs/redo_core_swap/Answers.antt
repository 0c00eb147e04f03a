use Rattle.std.proofs.Common.{subst}
use Rattle.op_codec.specs.AllOps.{AllOps}
use Rattle.embed_c.specs.Handles.{OnSession, session_of}
use Rattle.embed_c.specs.Staging.{Runs}
use Rattle.embed_c.proofs.redo_core_swap.Goals as goal

pub returns : goal.returns
returns c = subst (λ (op : AllOps). OnSession (Runs op) (session_of c.args.redo.now) (session_of c.exec.new.redo) c.exec.result) c.plain_op.ensures c.exec.ensures
