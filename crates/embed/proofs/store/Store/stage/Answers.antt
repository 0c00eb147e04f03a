use Rattle.disk_model.specs.Moments.{passes_none}
use Rattle.embed.proofs.Grouped.{unbroken_where}
use Rattle.embed.proofs.store.Store.stage.Goals as goal

pub returns-then-is_broken-clause-time : goal.returns-then-is_broken-clause-time
returns-then-is_broken-clause-time g c = passes_none _

pub returns-then-is_broken-clause-staged : goal.returns-then-is_broken-clause-staged
returns-then-is_broken-clause-staged g c = λ p commands holds staged. unbroken_where c.args.self.now.engine holds.shows.unbroken c.if-is_broken.true c.is_broken.ensures

pub returns-clause-time : goal.returns-clause-time
returns-clause-time g c = c.exec.ensures.reads.kept.time

pub returns-clause-staged : goal.returns-clause-staged
returns-clause-staged g c = c.exec.ensures.staged
