use Rattle.std.proofs.Common.{◌≡◌, ◌∙◌, ◌++◌, [], ◌∷◌, List, refl, ap, arith}
use Rattle.disk_model.specs.Call.{Call, Sync}
use Rattle.disk_model.specs.Growing.{files_of}
use Rattle.write_queue.specs.Before.{all_calls, exchanged, first_of}
use Rattle.write_queue.specs.Waiting.{waiting}
use Rattle.write_queue.proofs.OneMore.{joins, sync_makes, sync_runs, sync_settles}
use Rattle.write_queue.proofs.Unchanged.{looks}
use Rattle.write_queue.proofs.queue_mem.QueueMemMachine.sync.Goals as goal
use Rattle.write_queue.proofs.queue_mem.QueueMemMachine.sync.Goals.{After-add}

-- the sync is the last of all calls
one_more : (c : After-add) → let s = c.args.self.now in all_calls s.past c.add.new.self ≡ all_calls s.past s.queue ++ Sync c.args.file ∷ []
one_more c =
    let s = c.args.self.now in
    joins s.past.taken (waiting s.queue) (waiting c.add.new.self) (Sync c.args.file) (c.add.ensures ∙ ap (λ (l : List Call). l ++ Sync c.args.file ∷ []) c.reserve.ensures.same)

pub invariant_of-self : goal.invariant_of-self
invariant_of-self c =
    let s = c.args.self.now in
    record { made = sync_makes (exchanged s.past) (first_of s.past) (all_calls s.past s.queue) (all_calls s.past c.add.new.self) (files_of s.files) s.disk_faults s.say_faults s.made c.args.file (one_more (goal.at.invariant_of-self c).After-add) }

pub returns-in-Ok-clause-kept : goal.returns-in-Ok-clause-kept
returns-in-Ok-clause-kept c =
    let s = c.args.self.now in
    sync_runs (exchanged s.past) (first_of s.past) (all_calls s.past s.queue) (all_calls s.past c.add.new.self) (files_of s.files) s.disk_faults s.say_faults s.made c.args.file (one_more (goal.at.returns-in-Ok-clause-kept c).After-add)

pub returns-in-Ok-clause-settled : goal.returns-in-Ok-clause-settled
returns-in-Ok-clause-settled c =
    let s = c.args.self.now in
    sync_settles (exchanged s.past) (first_of s.past) (all_calls s.past s.queue) (all_calls s.past c.add.new.self) (files_of s.files) s.disk_faults s.say_faults s.made c.args.file (one_more (goal.at.returns-in-Ok-clause-settled c).After-add)

pub returns-in-Err-clause-kept : goal.returns-in-Err-clause-kept
returns-in-Err-clause-kept c =
    let s = c.args.self.now in
    looks (exchanged s.past) (first_of s.past) (all_calls s.past s.queue) (all_calls s.past c.reserve.new.self) (files_of s.files) (files_of s.files) s.disk_faults c.increment.new.count s.say_faults s.say_faults
    (ap (λ (l : List Call). s.past.taken ++ l) c.reserve.ensures.same) refl c.increment.ensures.no_lower (omega arith) s.made
