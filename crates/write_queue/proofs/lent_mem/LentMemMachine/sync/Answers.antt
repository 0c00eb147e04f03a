use Rattle.std.proofs.Common.{◌≡◌, ◌∙◌, ◌++◌, [], ◌∷◌, List, sym, ap, subst, arith}
use Rattle.disk_model.specs.Call.{Call, Sync}
use Rattle.disk_model.specs.Disk.{Files, Stays, IsSettledIn}
use Rattle.disk_model.specs.Exchanged.{with_exchange}
use Rattle.write_queue.specs.Before.{all_calls, disk_by, exchanged, first_of}
use Rattle.write_queue.specs.Lending.{disk_of, files_in, made}
use Rattle.write_queue.specs.Lent.{AreShort, lent_files, looked}
use Rattle.write_queue.specs.Waiting.{waiting}
use Rattle.write_queue.proofs.LentCalls.{same_seen, sync_seen}
use Rattle.write_queue.proofs.OneMore.{joins, sync_runs, sync_settles}
use Rattle.write_queue.proofs.Unchanged.{looks}
use Rattle.write_queue.proofs.lent_mem.LentMemMachine.sync.Goals as goal
use Rattle.write_queue.proofs.lent_mem.LentMemMachine.sync.Goals.{After-add}

-- the sync is the last of the calls that wait
queued : (c : After-add) → waiting c.add.new.self ≡ waiting c.args.self.now.queue ++ Sync c.args.file ∷ []
queued c = c.add.ensures ∙ ap (λ (l : List Call). l ++ Sync c.args.file ∷ []) c.reserve.ensures.same

seen : (c : After-add) → looked c.args.self.now.lent c.add.new.self ≡ files_in c.args.self.now
seen c =
    let s = c.args.self.now in
    sync_seen (lent_files s.lent) (waiting s.queue) (waiting c.add.new.self) c.args.file (queued c)

one_more : (c : After-add) → let s = c.args.self.now in all_calls s.past c.add.new.self ≡ all_calls s.past s.queue ++ Sync c.args.file ∷ []
one_more c =
    let s = c.args.self.now in
    joins s.past.taken (waiting s.queue) (waiting c.add.new.self) (Sync c.args.file) (queued c)

pub invariant_of-self : goal.invariant_of-self
invariant_of-self c =
    let s = c.args.self.now in
    record { whole = (s.whole.0, subst (λ (f : Files). AreShort f) (sym (seen (goal.at.invariant_of-self c).After-add)) s.whole.1) }

pub returns-in-Ok-clause-kept : goal.returns-in-Ok-clause-kept
returns-in-Ok-clause-kept c =
    let s = c.args.self.now in
    let later = all_calls s.past c.add.new.self in
    subst (λ (f : Files). Stays (disk_of s) (with_exchange (exchanged s.past) (disk_by (first_of s.past) later f s.disk_faults s.say_faults))) (sym (seen (goal.at.returns-in-Ok-clause-kept c).After-add))
    (sync_runs (exchanged s.past) (first_of s.past) (all_calls s.past s.queue) later (files_in s) s.disk_faults s.say_faults (made s) c.args.file (one_more (goal.at.returns-in-Ok-clause-kept c).After-add))

pub returns-in-Ok-clause-settled : goal.returns-in-Ok-clause-settled
returns-in-Ok-clause-settled c =
    let s = c.args.self.now in
    let later = all_calls s.past c.add.new.self in
    subst (λ (f : Files). IsSettledIn c.args.file (disk_by (first_of s.past) later f s.disk_faults s.say_faults)) (sym (seen (goal.at.returns-in-Ok-clause-settled c).After-add))
    (sync_settles (exchanged s.past) (first_of s.past) (all_calls s.past s.queue) later (files_in s) s.disk_faults s.say_faults (made s) c.args.file (one_more (goal.at.returns-in-Ok-clause-settled c).After-add))

pub returns-in-Err-clause-kept : goal.returns-in-Err-clause-kept
returns-in-Err-clause-kept c =
    let s = c.args.self.now in
    let queue = c.reserve.new.self in
    looks (exchanged s.past) (first_of s.past) (all_calls s.past s.queue) (all_calls s.past queue) (files_in s) (looked s.lent queue) s.disk_faults c.increment.new.count s.say_faults s.say_faults
    (ap (λ (l : List Call). s.past.taken ++ l) c.reserve.ensures.same) (same_seen (lent_files s.lent) (waiting s.queue) (waiting queue) c.reserve.ensures.same) c.increment.ensures.no_lower (omega arith) (made s)
