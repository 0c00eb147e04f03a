use Rattle.std.proofs.Common.{◌++◌, List, sym, ap, subst, arith}
use Rattle.disk_model.specs.Call.{Call, Say}
use Rattle.disk_model.specs.Disk.{Files, Runs, Same, SaysFront}
use Rattle.disk_model.specs.Exchanged.{with_exchange}
use Rattle.write_queue.specs.Before.{all_calls, disk_by, exchanged, first_of}
use Rattle.write_queue.specs.Lending.{disk_of, files_in, made}
use Rattle.write_queue.specs.Lent.{AreShort, lent_files, looked}
use Rattle.write_queue.specs.Waiting.{waiting}
use Rattle.write_queue.proofs.LentCalls.{same_seen, say_seen}
use Rattle.write_queue.proofs.OneMore.{joins, say_runs, says}
use Rattle.write_queue.proofs.Unchanged.{says_nothing}
use Rattle.write_queue.proofs.lent_mem.LentMemMachine.say.Goals as goal

pub invariant_of-self : goal.invariant_of-self
invariant_of-self c =
    let s = c.args.self.now in
    record { whole = (s.whole.0, subst (λ (f : Files). AreShort f) (sym (say_seen (lent_files s.lent) (waiting s.queue) (waiting c.say.new.queue) c.args.bytes.now c.in-Ok.ensures.queued)) s.whole.1) }

pub returns-in-Ok-clause-runs : goal.returns-in-Ok-clause-runs
returns-in-Ok-clause-runs c =
    let s = c.args.self.now in
    let queue = c.say.new.queue in
    let later = all_calls s.past queue in
    subst (λ (f : Files). Runs Same (SaysFront c.args.bytes.now) (disk_of s) (with_exchange (exchanged s.past) (disk_by (first_of s.past) later f s.disk_faults s.say_faults)))
    (sym (say_seen (lent_files s.lent) (waiting s.queue) (waiting queue) c.args.bytes.now c.in-Ok.ensures.queued))
    (say_runs (exchanged s.past) (first_of s.past) (all_calls s.past s.queue) later (files_in s) s.disk_faults s.say_faults (made s) c.args.bytes.now
    (joins s.past.taken (waiting s.queue) (waiting queue) (Say c.args.bytes.now) c.in-Ok.ensures.queued))

pub returns-in-Ok-clause-all : goal.returns-in-Ok-clause-all
returns-in-Ok-clause-all c = λ told.
    let s = c.args.self.now in
    let queue = c.say.new.queue in
    says (exchanged s.past) (first_of s.past) (all_calls s.past s.queue) (all_calls s.past queue) (files_in s) s.disk_faults s.say_faults (made s) c.args.bytes.now
    (joins s.past.taken (waiting s.queue) (waiting queue) (Say c.args.bytes.now) c.in-Ok.ensures.queued)

pub returns-in-Err-clause-runs : goal.returns-in-Err-clause-runs
returns-in-Err-clause-runs c =
    let s = c.args.self.now in
    let queue = c.say.new.queue in
    says_nothing (exchanged s.past) (first_of s.past) (all_calls s.past s.queue) (all_calls s.past queue) (files_in s) (looked s.lent queue) s.disk_faults s.disk_faults s.say_faults c.increment.new.count
    (ap (λ (l : List Call). s.past.taken ++ l) c.in-Err.ensures.queue) (same_seen (lent_files s.lent) (waiting s.queue) (waiting queue) c.in-Err.ensures.queue) (omega arith) c.increment.ensures.no_lower (made s) c.args.bytes.now
