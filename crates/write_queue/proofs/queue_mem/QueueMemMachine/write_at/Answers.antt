use Rattle.std.proofs.Common.{◌++◌, List, length, ap, arith}
use Rattle.disk_model.specs.Call.{Call, Write}
use Rattle.disk_model.specs.Growing.{files_of}
use Rattle.write_queue.specs.Before.{all_calls, exchanged, first_of}
use Rattle.write_queue.specs.Waiting.{waiting}
use Rattle.write_queue.proofs.OneMore.{joins, write_makes, write_runs}
use Rattle.write_queue.proofs.Unchanged.{still_makes, writes_nothing}
use Rattle.write_queue.proofs.queue_mem.QueueMemMachine.write_at.Goals as goal

pub invariant_of-self : goal.invariant_of-self
invariant_of-self c =
    let s = c.args.self.now in
    let queue = c.write.new.queue in
    let call = Write c.args.file c.args.at c.args.bytes.now in
    record {
      made = write_makes (exchanged s.past) (first_of s.past) (all_calls s.past s.queue) (all_calls s.past queue) (files_of s.files) s.disk_faults s.say_faults s.made c.args.file c.args.at c.args.bytes.now
          (joins s.past.taken (waiting s.queue) (waiting queue) call c.in-Ok.ensures.queued) (files_of c.write.new.files) c.in-Ok.ensures.written;
    }

pub invariant_of-self-in-Err : goal.invariant_of-self-in-Err
invariant_of-self-in-Err c =
    let s = c.args.self.now in
    let queue = c.write.new.queue in
    record {
      made = still_makes (exchanged s.past) (first_of s.past) (all_calls s.past s.queue) (all_calls s.past queue) (files_of s.files) (files_of c.write.new.files) 0 0 0 0
          (ap (λ (l : List Call). s.past.taken ++ l) c.in-Err.ensures.queue) c.in-Err.ensures.files (omega arith) (omega arith) s.made;
    }

pub returns-in-Ok-clause-runs : goal.returns-in-Ok-clause-runs
returns-in-Ok-clause-runs c =
    let s = c.args.self.now in
    let queue = c.write.new.queue in
    let call = Write c.args.file c.args.at c.args.bytes.now in
    write_runs (exchanged s.past) (first_of s.past) (all_calls s.past s.queue) (all_calls s.past queue) (files_of s.files) s.disk_faults s.say_faults s.made c.args.file c.args.at c.args.bytes.now
    (joins s.past.taken (waiting s.queue) (waiting queue) call c.in-Ok.ensures.queued) (files_of c.write.new.files) c.in-Ok.ensures.written

pub returns-in-Err-clause-runs : goal.returns-in-Err-clause-runs
returns-in-Err-clause-runs c =
    let s = c.args.self.now in
    let queue = c.write.new.queue in
    writes_nothing (exchanged s.past) (first_of s.past) (all_calls s.past s.queue) (all_calls s.past queue) (files_of s.files) (files_of c.write.new.files) s.disk_faults c.increment.new.count s.say_faults s.say_faults
    (ap (λ (l : List Call). s.past.taken ++ l) c.in-Err.ensures.queue) c.in-Err.ensures.files c.increment.ensures.no_lower (omega arith) s.made c.args.file c.args.at (length c.args.bytes.now)
