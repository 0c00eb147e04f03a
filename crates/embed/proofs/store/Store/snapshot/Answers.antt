use Rattle.embed.proofs.store.Store.snapshot.Goals as goal

pub returns-clause-begun : goal.returns-clause-begun
returns-clause-begun g c = c.begin.ensures.begun
