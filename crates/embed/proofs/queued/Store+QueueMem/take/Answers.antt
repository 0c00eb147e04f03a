use Rattle.std.proofs.Common.{subst, sym}
use Rattle.disk_model.specs.Disk.{Disk}
use Rattle.op_codec.specs.AllOps.{all_meaning}
use Rattle.store_engine.specs.Engine.{Holds, IsAttached}
use Rattle.write_queue.specs.Before.{exchanged}
use Rattle.write_queue.specs.Memory.{disk_of}
use Rattle.embed.proofs.Exchanged.{attached_so, holds_so, looks_so}
use Rattle.embed.proofs.queued.Store+QueueMem.take.Goals as goal

pub returns-clause-attached : goal.returns-clause-attached
returns-clause-attached c = λ attached.
    let old = c.args.self.now in
    subst (λ (d : Disk). IsAttached all_meaning d old.engine) (sym (looks_so old.machine c.take.new.self c.take.ensures.same))
    (attached_so (exchanged c.take.new.self.past) (disk_of old.machine) all_meaning old.engine attached)

pub returns-clause-holds : goal.returns-clause-holds
returns-clause-holds c = λ p commands holds.
    let old = c.args.self.now in
    subst (λ (d : Disk). Holds all_meaning p d old.engine commands) (sym (looks_so old.machine c.take.new.self c.take.ensures.same))
    (holds_so (exchanged c.take.new.self.past) (disk_of old.machine) all_meaning old.engine p commands holds)
