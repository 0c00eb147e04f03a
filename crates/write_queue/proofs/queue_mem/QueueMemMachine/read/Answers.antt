use Rattle.std.proofs.Common.{refl, ap, arith}
use Rattle.disk_model.specs.Growing.{files_of}
use Rattle.write_queue.specs.Before.{all_calls, exchanged, first_of}
use Rattle.write_queue.proofs.Unchanged.{looks}
use Rattle.write_queue.proofs.queue_mem.QueueMemMachine.read.Goals as goal

pub returns-clause-kept : goal.returns-clause-kept
returns-clause-kept c =
    let s = c.args.self.now in
    let calls = all_calls s.past s.queue in
    looks (exchanged s.past) (first_of s.past) calls calls (files_of s.files) (files_of c.read.new.self) s.disk_faults s.disk_faults s.say_faults s.say_faults
    refl (ap files_of c.read.ensures.unchanged) (omega arith) (omega arith) s.made
