use Rattle.std.proofs.Common.{◌++◌, List, length, ap, arith}
use Rattle.disk_model.specs.Call.{Call, Write}
use Rattle.write_queue.specs.Before.{all_calls, exchanged, first_of}
use Rattle.write_queue.specs.Lending.{files_in, made}
use Rattle.write_queue.specs.Lent.{lent_files, looked}
use Rattle.write_queue.specs.Waiting.{waiting}
use Rattle.write_queue.proofs.LentCalls.{same_seen, still_short, write_seen}
use Rattle.write_queue.proofs.OneMore.{joins, write_runs}
use Rattle.write_queue.proofs.Unchanged.{writes_nothing}
use Rattle.write_queue.proofs.lent_mem.LentMemMachine.write_at.Goals as goal

pub invariant_of-self : goal.invariant_of-self
invariant_of-self c =
    let s = c.args.self.now in
    let queue = c.add_write.new.self in
    record { whole = (s.whole.0, still_short (lent_files s.lent) (waiting s.queue) (waiting queue) c.args.file c.args.at c.args.bytes.now c.in-Ok.ensures.added c.in-Ok.ensures.short s.whole.1) }

pub returns-in-Ok-clause-runs : goal.returns-in-Ok-clause-runs
returns-in-Ok-clause-runs c =
    let s = c.args.self.now in
    let queue = c.add_write.new.self in
    let call = Write c.args.file c.args.at c.args.bytes.now in
    write_runs (exchanged s.past) (first_of s.past) (all_calls s.past s.queue) (all_calls s.past queue) (files_in s) s.disk_faults s.say_faults (made s) c.args.file c.args.at c.args.bytes.now
    (joins s.past.taken (waiting s.queue) (waiting queue) call c.in-Ok.ensures.added) (looked s.lent queue)
    (write_seen (lent_files s.lent) (waiting s.queue) (waiting queue) c.args.file c.args.at c.args.bytes.now c.in-Ok.ensures.added)

pub returns-in-Ok-clause-written : goal.returns-in-Ok-clause-written
returns-in-Ok-clause-written c = λ told.
    let s = c.args.self.now in
    write_seen (lent_files s.lent) (waiting s.queue) (waiting c.add_write.new.self) c.args.file c.args.at c.args.bytes.now c.in-Ok.ensures.added

pub returns-in-Err-clause-runs : goal.returns-in-Err-clause-runs
returns-in-Err-clause-runs c =
    let s = c.args.self.now in
    let queue = c.add_write.new.self in
    writes_nothing (exchanged s.past) (first_of s.past) (all_calls s.past s.queue) (all_calls s.past queue) (files_in s) (looked s.lent queue) s.disk_faults c.increment.new.count s.say_faults s.say_faults
    (ap (λ (l : List Call). s.past.taken ++ l) c.in-Err.ensures.same) (same_seen (lent_files s.lent) (waiting s.queue) (waiting queue) c.in-Err.ensures.same) c.increment.ensures.no_lower (omega arith) (made s) c.args.file c.args.at (length c.args.bytes.now)
