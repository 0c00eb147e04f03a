use Rattle.embed_c.specs.Handles.{session_of}
use Rattle.embed_c.specs.Upkept.{KeepsUp}
use Rattle.embed_c.proofs.Transacting.{was_apart, was_within}
use Rattle.embed_c.proofs.upkeep.redo_core_keep_up.Goals as goal

pub returns-in-Err : goal.returns-in-Err
returns-in-Err c = was_within KeepsUp (session_of c.args.redo.now) (session_of c.take_apart.new.self) c.in-Err.answer c.in-Err.ensures.err

pub returns-in-Ok : goal.returns-in-Ok
returns-in-Ok c = was_apart KeepsUp c.in-Ok.ensures.ok.0 c.in-Ok.ensures.ok.1 c.deref_mut.ensures.value c.put_back.ensures c.keep_up-answer.ensures
