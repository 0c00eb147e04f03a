use Rattle.embed_c.specs.Staging.{Runs}
use Rattle.embed_c.proofs.OnHandles.{was_closed, was_open}
use Rattle.embed_c.proofs.exec.Goals as goal

pub returns-in-None : goal.returns-in-None
returns-in-None c = was_closed (Runs c.args.op) c.in-None.ensures.none c.in-None.ensures.left

pub returns-in-Some : goal.returns-in-Some
returns-in-Some c = was_open (Runs c.args.op) c.in-Some.ensures.some c.deref_mut.ensures.value c.put_back.ensures c.exec-answer.ensures
