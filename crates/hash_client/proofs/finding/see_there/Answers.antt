use Rattle.std.proofs.Common.{◌∙◌}
use Rattle.std.proofs.lemmas.Bool.{lt-ltb}
use Rattle.hash_client.proofs.finding.see_there.Goals as goal

pub returns-clause-reads : goal.returns-clause-reads
returns-clause-reads g c = c.in_ok-see.ensures.reads

pub returns-clause-cached : goal.returns-clause-cached
returns-clause-cached g c = c.in_ok-see.ensures.cached (c.in_ok-see.ensures.there ∙ lt-ltb c.args.object (g.S.Store.view.params c.args.store.now).objects c.requires.there)

pub returns-clause-value : goal.returns-clause-value
returns-clause-value g c = λ p commands holds. c.in_ok-see.ensures.value p commands holds (c.in_ok-see.ensures.there ∙ lt-ltb c.args.object (g.S.Store.view.params c.args.store.now).objects c.requires.there)
