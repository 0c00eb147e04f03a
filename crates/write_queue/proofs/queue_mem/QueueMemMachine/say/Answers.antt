use Rattle.std.proofs.Common.{◌++◌, List, refl, ap, arith}
use Rattle.disk_model.specs.Call.{Call, Say}
use Rattle.disk_model.specs.Growing.{files_of}
use Rattle.write_queue.specs.Before.{all_calls, exchanged, first_of}
use Rattle.write_queue.specs.Waiting.{waiting}
use Rattle.write_queue.proofs.OneMore.{joins, say_makes, say_runs, says}
use Rattle.write_queue.proofs.Unchanged.{says_nothing}
use Rattle.write_queue.proofs.queue_mem.QueueMemMachine.say.Goals as goal

pub invariant_of-self : goal.invariant_of-self
invariant_of-self c =
    let s = c.args.self.now in
    let queue = c.say.new.queue in
    record {
      made = say_makes (exchanged s.past) (first_of s.past) (all_calls s.past s.queue) (all_calls s.past queue) (files_of s.files) s.disk_faults s.say_faults s.made c.args.bytes.now
          (joins s.past.taken (waiting s.queue) (waiting queue) (Say c.args.bytes.now) c.in-Ok.ensures.queued);
    }

pub returns-in-Ok-clause-runs : goal.returns-in-Ok-clause-runs
returns-in-Ok-clause-runs c =
    let s = c.args.self.now in
    let queue = c.say.new.queue in
    say_runs (exchanged s.past) (first_of s.past) (all_calls s.past s.queue) (all_calls s.past queue) (files_of s.files) s.disk_faults s.say_faults s.made c.args.bytes.now
    (joins s.past.taken (waiting s.queue) (waiting queue) (Say c.args.bytes.now) c.in-Ok.ensures.queued)

pub returns-in-Ok-clause-all : goal.returns-in-Ok-clause-all
returns-in-Ok-clause-all c = λ told.
    let s = c.args.self.now in
    let queue = c.say.new.queue in
    says (exchanged s.past) (first_of s.past) (all_calls s.past s.queue) (all_calls s.past queue) (files_of s.files) s.disk_faults s.say_faults s.made c.args.bytes.now
    (joins s.past.taken (waiting s.queue) (waiting queue) (Say c.args.bytes.now) c.in-Ok.ensures.queued)

pub returns-in-Err-clause-runs : goal.returns-in-Err-clause-runs
returns-in-Err-clause-runs c =
    let s = c.args.self.now in
    says_nothing (exchanged s.past) (first_of s.past) (all_calls s.past s.queue) (all_calls s.past c.say.new.queue) (files_of s.files) (files_of s.files) s.disk_faults s.disk_faults s.say_faults c.increment.new.count
    (ap (λ (l : List Call). s.past.taken ++ l) c.in-Err.ensures.queue) refl (omega arith) c.increment.ensures.no_lower s.made c.args.bytes.now
