use Rattle.embed.proofs.store.Store.bring_back.Goals as goal

pub returns-clause-back : goal.returns-clause-back
returns-clause-back g c = c.go_back.ensures.back

pub returns-clause-stands : goal.returns-clause-stands
returns-clause-stands g c = c.go_back.ensures.stands
