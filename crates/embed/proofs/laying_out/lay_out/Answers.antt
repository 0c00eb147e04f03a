use Rattle.embed.proofs.laying_out.lay_out.Goals as goal

-- Each is what the layout of the engine says.
pub returns-clause-time : goal.returns-clause-time
returns-clause-time g c = c.init.ensures.time

pub returns-clause-quiet : goal.returns-clause-quiet
returns-clause-quiet g c = c.init.ensures.quiet

pub returns-clause-ok : goal.returns-clause-ok
returns-clause-ok g c = c.init.ensures.ok

pub returns-clause-settled : goal.returns-clause-settled
returns-clause-settled g c = c.init.ensures.settled

pub returns-clause-already : goal.returns-clause-already
returns-clause-already g c = c.init.ensures.already

pub returns-clause-kept : goal.returns-clause-kept
returns-clause-kept g c = c.init.ensures.kept

pub returns-clause-fresh : goal.returns-clause-fresh
returns-clause-fresh g c = c.init.ensures.fresh

pub returns-clause-images : goal.returns-clause-images
returns-clause-images g c = c.init.ensures.images

pub returns-clause-fault : goal.returns-clause-fault
returns-clause-fault g c = c.init.ensures.fault
