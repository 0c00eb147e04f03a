use Rattle.disk_model.specs.Moments.{stays_here}
use Rattle.write_queue.specs.Lending.{disk_of, lawful}
use Rattle.write_queue.proofs.lent_mem.LentMemMachine.size.Goals as goal

pub returns-clause-kept : goal.returns-clause-kept
returns-clause-kept c = stays_here (disk_of c.args.self.now) (lawful c.args.self.now)
