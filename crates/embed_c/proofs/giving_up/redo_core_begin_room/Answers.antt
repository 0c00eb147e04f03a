use Rattle.embed_c.specs.Answers.{of_work, told}
use Rattle.embed_c.specs.Calls.{IsCalled}
use Rattle.embed_c.specs.GivenUp.{DoesBeginRoom}
use Rattle.embed_c.specs.Handles.{session_of}
use Rattle.embed_c.proofs.Transacting.{was_apart, was_within}
use Rattle.embed_c.proofs.giving_up.redo_core_begin_room.Goals as goal

pub returns-in-Err : goal.returns-in-Err
returns-in-Err c = was_within (IsCalled (told of_work) (DoesBeginRoom c.args.bytes)) (session_of c.args.redo.now) (session_of c.take_apart.new.self) c.in-Err.answer c.in-Err.ensures.err

pub returns-in-Ok : goal.returns-in-Ok
returns-in-Ok c = was_apart (IsCalled (told of_work) (DoesBeginRoom c.args.bytes)) c.in-Ok.ensures.ok.0 c.in-Ok.ensures.ok.1 c.deref_mut.ensures.value c.put_back.ensures c.begin_room-answer.ensures
