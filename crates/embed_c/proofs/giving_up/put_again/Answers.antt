use Rattle.embed_c.specs.Handles.{session_of}
use Rattle.embed_c.proofs.GivingUp.{is_back, none_back}
use Rattle.embed_c.proofs.giving_up.put_again.Goals as goal

pub returns-in-Some : goal.returns-in-Some
returns-in-Some c = is_back c.args.session c.args.answer (session_of c.put_back.new.self) c.in-Some.is c.put_back.ensures

pub returns-in-None : goal.returns-in-None
returns-in-None c = none_back c.args.session c.args.answer (session_of c.args.redo.now) c.in-None.is c.requires.closed
