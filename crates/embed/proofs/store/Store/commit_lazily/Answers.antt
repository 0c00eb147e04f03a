use Rattle.disk_model.specs.Moments.{passes_none}
use Rattle.embed.proofs.Grouped.{unbroken_where}
use Rattle.embed.proofs.store.Store.commit_lazily.Goals as goal

pub returns-then-is_broken-clause-time : goal.returns-then-is_broken-clause-time
returns-then-is_broken-clause-time g c = passes_none _

pub returns-then-is_broken-clause-left : goal.returns-then-is_broken-clause-left
returns-then-is_broken-clause-left g c = λ p commands holds staged lsns. unbroken_where c.args.self.now.engine holds.shows.unbroken c.if-is_broken.true c.is_broken.ensures

pub returns-then-is_broken-clause-images : goal.returns-then-is_broken-clause-images
returns-then-is_broken-clause-images g c = λ told p commands holds staged lsns. unbroken_where c.args.self.now.engine holds.shows.unbroken c.if-is_broken.true c.is_broken.ensures

pub returns-clause-time : goal.returns-clause-time
returns-clause-time g c = c.commit_lazily.ensures.time

pub returns-clause-left : goal.returns-clause-left
returns-clause-left g c = c.commit_lazily.ensures.left

pub returns-clause-images : goal.returns-clause-images
returns-clause-images g c = c.commit_lazily.ensures.images

pub returns-clause-kept : goal.returns-clause-kept
returns-clause-kept g c = c.commit_lazily.ensures.kept
