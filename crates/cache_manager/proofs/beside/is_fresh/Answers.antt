use Rattle.std.proofs.Common.{arith}
use Rattle.std.proofs.lemmas.Bool.{both_ways}
use Rattle.cache_manager.proofs.beside.is_fresh.Goals as goal

pub returns-else-copied-x-clause-fresh : goal.returns-else-copied-x-clause-fresh
returns-else-copied-x-clause-fresh c = λ is low node named. (c.single_identity.ensures node named).0 is

pub returns-else-copied-x-clause-stale : goal.returns-else-copied-x-clause-stale
returns-else-copied-x-clause-stale c = λ no_one. (omega (arith, c.if-copied-x.false), λ node named single. both_ways _ no_one ((c.single_identity.ensures node named).1 single))
