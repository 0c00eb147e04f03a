use Rattle.disk_model.specs.Moments.{passes_none}
use Rattle.embed.proofs.Grouped.{keeps_on_same}
use Rattle.embed.proofs.store.Store.keep_staged.Goals as goal

pub returns-then-is_broken-clause-time : goal.returns-then-is_broken-clause-time
returns-then-is_broken-clause-time g c = passes_none _

pub returns-then-is_broken-clause-snapshot : goal.returns-then-is_broken-clause-snapshot
returns-then-is_broken-clause-snapshot g c = λ p base commands holds it. it

pub returns-then-is_broken-clause-on : goal.returns-then-is_broken-clause-on
returns-then-is_broken-clause-on g c = keeps_on_same c.args.snapshot.now

pub returns-clause-whole : goal.returns-clause-whole
returns-clause-whole g c = λ unbroken. c.keep_staged.ensures.whole

pub returns-clause-on : goal.returns-clause-on
returns-clause-on g c = c.keep_staged.ensures.on

pub returns-clause-stands : goal.returns-clause-stands
returns-clause-stands g c = c.keep_staged.ensures.stands

pub returns-clause-time : goal.returns-clause-time
returns-clause-time g c = c.keep_staged.ensures.reads.kept.time

pub returns-clause-reads : goal.returns-clause-reads
returns-clause-reads g c = λ unbroken. c.keep_staged.ensures.reads

pub returns-clause-snapshot : goal.returns-clause-snapshot
returns-clause-snapshot g c = c.keep_staged.ensures.snapshot

pub returns-clause-covers : goal.returns-clause-covers
returns-clause-covers g c = λ unbroken. c.keep_staged.ensures.covers
