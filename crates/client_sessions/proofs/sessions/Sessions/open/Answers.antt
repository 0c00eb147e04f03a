use Rattle.client_sessions.proofs.Slots.{open_new}
use Rattle.client_sessions.proofs.sessions.Sessions.open.Goals as goal

pub returns-clause-is : goal.returns-clause-is
returns-clause-is c names = open_new names c.args.self.now c.args.client c.index.result.now c.come.new.self c.requires c.index.ensures c.if-index.false c.come.ensures
