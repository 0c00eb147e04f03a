use Rattle.disk_model.specs.Moments.{passes_none}
use Rattle.embed.proofs.Grouped.{unbroken_where}
use Rattle.embed.proofs.store.Store.exec_beside.Goals as goal

pub returns-then-is_broken-clause-time : goal.returns-then-is_broken-clause-time
returns-then-is_broken-clause-time g c = passes_none _

pub returns-then-is_broken-clause-undone : goal.returns-then-is_broken-clause-undone
returns-then-is_broken-clause-undone g c = λ p base commands holds it. unbroken_where c.args.self.now.engine holds.shows.unbroken c.if-is_broken.true c.is_broken.ensures

pub returns-clause-time : goal.returns-clause-time
returns-clause-time g c = c.exec.ensures.time

pub returns-clause-run : goal.returns-clause-run
returns-clause-run g c = λ unbroken. c.exec.ensures.run

pub returns-clause-done : goal.returns-clause-done
returns-clause-done g c = c.exec.ensures.done

pub returns-clause-undone : goal.returns-clause-undone
returns-clause-undone g c = c.exec.ensures.undone
