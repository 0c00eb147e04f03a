use Rattle.std.proofs.Common.{◌∙◌, sym, subst, ap, ℕ, refl, Option}
use Rattle.std.specs.Prelude.{Ok}
use Rattle.log_blocks.specs.LogView.{used_of}
use Rattle.log_records.specs.RecordLog.{RecordLogView}
use Rattle.running_store.specs.Calls.{IsCall}
use Rattle.running_store.specs.Courses.Stop.{Full}
use Rattle.running_store.specs.Kept.{StopsAt}
use Rattle.formats.specs.Limits.{log_limit}
use Rattle.running_store.specs.Taking.{Ending, Takes}
use Rattle.running_store.specs.Taking.Ending.{Done, Stopped}
use Rattle.cache_manager.specs.Endings.{at_err}
use Rattle.checkpointing.specs.Courses.{taking_course, checkpoint_course}
use Rattle.checkpointing.specs.Left.{Overlong, checkpoint_ending, ending_of_checkpoint}
use Rattle.checkpointing.specs.declared.checkpoint_err.CheckpointErr.TheVariants.{DiskFault}
use Rattle.checkpointing.proofs.Closing.{checkpoint_done, checkpoint_fails, checkpoint_full, checkpoint_unforced, full_call, refused_call, unbroken_placed, unforced_call}
use Rattle.checkpointing.proofs.Ended.{call_ends, checkpoint_ends, counts_forced, counts_twice}
use Rattle.checkpointing.proofs.checkpoints.checkpoint.Goals as goal

pub returns-in_err-need-clause-call : goal.returns-in_err-need-clause-call
returns-in_err-need-clause-call g c =
    let d = g.M.Machine.disk c.args.machine.now in
    let new = g.M.Machine.disk c.take_checkpoint.new.machine in
    let it = c.args.store.now in
    let after = c.take_checkpoint.new.store in
    let e = c.in_err-need.field-0.0 in
    subst (λ (k : Ending). IsCall g.O.Oper.meaning d new it after 0 (StopsAt log_limit) k) (checkpoint_ends c.from_residual.result e c.from_residual.ensures.1)
    (refused_call g.O.Oper.meaning d new it after (StopsAt log_limit) e c.in_err-need.ensures.call)

pub returns-in_err-need-clause-takes : goal.returns-in_err-need-clause-takes
returns-in_err-need-clause-takes g c =
    let d = g.M.Machine.disk c.args.machine.now in
    let new = g.M.Machine.disk c.take_checkpoint.new.machine in
    let it = c.args.store.now.parts in
    let after = c.take_checkpoint.new.store.parts in
    let e = c.in_err-need.field-0.0 in
    subst (λ (k : Ending). Takes g.O.Oper.meaning d new it after (λ m w used. checkpoint_course m w used) k) (checkpoint_ends c.from_residual.result e c.from_residual.ensures.1)
    (checkpoint_fails g.O.Oper.meaning d new it after e c.in_err-need.ensures.takes)

pub returns-in_default-clause-call : goal.returns-in_default-clause-call
returns-in_default-clause-call g c =
    let d = g.M.Machine.disk c.args.machine.now in
    let new = g.M.Machine.disk c.take_checkpoint.new.machine in
    let it = c.args.store.now in
    let after = c.take_checkpoint.new.store in
    call_ends g.O.Oper.meaning d new it after Overlong (StopsAt log_limit) Done Done (λ failed. failed) (λ failed. failed) tt
    (subst (λ (o : Option ℕ). IsCall g.O.Oper.meaning d new it after 0 Overlong (checkpoint_ending after.parts.log (Ok o))) c.in_default.is c.in_ok-need.ensures.call)

pub returns-in_default-clause-takes : goal.returns-in_default-clause-takes
returns-in_default-clause-takes g c =
    let d = g.M.Machine.disk c.args.machine.now in
    let new = g.M.Machine.disk c.take_checkpoint.new.machine in
    let it = c.args.store.now.parts in
    let after = c.take_checkpoint.new.store.parts in
    checkpoint_done g.O.Oper.meaning d new it after (subst (λ (o : Option ℕ). Takes g.O.Oper.meaning d new it after (λ m w used. taking_course m w used) (checkpoint_ending after.log (Ok o))) c.in_default.is c.in_ok-need.ensures.takes)

pub force-requires : goal.force-requires
force-requires g c =
    let d = g.M.Machine.disk c.args.machine.now in
    let new = g.M.Machine.disk c.take_checkpoint.new.machine in
    let it = c.args.store.now in
    let after = c.take_checkpoint.new.store in
    record { unbroken = unbroken_placed g.O.Oper.meaning d new it after c.in_ok-need.field-0 c.in_ok-need.ensures.call }

pub returns-in_err-force-clause-call : goal.returns-in_err-force-clause-call
returns-in_err-force-clause-call g c =
    let meaning = g.O.Oper.meaning in
    let d = g.M.Machine.disk c.args.machine.now in
    let mid = g.M.Machine.disk c.take_checkpoint.new.machine in
    let new = g.M.Machine.disk c.force.new.machine in
    let it = c.args.store.now in
    let here = c.take_checkpoint.new.store in
    let after = c.force.new.self in
    at_err (λ r. IsCall meaning d new it after 0 (StopsAt log_limit) (ending_of_checkpoint r)) c.from_residual-in_err-force.result DiskFault c.from_residual-in_err-force.ensures.1
    (unforced_call meaning d new it after mid here c.in-Some.need (subst (λ (o : Option ℕ). IsCall meaning d mid it here 0 Overlong (checkpoint_ending here.parts.log (Ok o))) c.in-Some.is c.in_ok-need.ensures.call) c.in_err-force.ensures.call)

pub returns-in_err-force-clause-takes : goal.returns-in_err-force-clause-takes
returns-in_err-force-clause-takes g c =
    let meaning = g.O.Oper.meaning in
    let d = g.M.Machine.disk c.args.machine.now in
    let mid = g.M.Machine.disk c.take_checkpoint.new.machine in
    let new = g.M.Machine.disk c.force.new.machine in
    let it = c.args.store.now.parts in
    let here = c.take_checkpoint.new.store.parts in
    let after = c.force.new.self.parts in
    let takes = subst (λ (o : Option ℕ). Takes meaning d mid it here (λ m w used. taking_course m w used) (checkpoint_ending here.log (Ok o))) c.in-Some.is c.in_ok-need.ensures.takes in
    at_err (λ r. Takes meaning d new it after (λ m w used. checkpoint_course m w used) (ending_of_checkpoint r)) c.from_residual-in_err-force.result DiskFault c.from_residual-in_err-force.ensures.1
    (checkpoint_unforced meaning d mid new it here after (Full (used_of here.log.log) c.in-Some.need log_limit) refl c.take_checkpoint.ensures.call.quiet takes c.in_err-force.ensures.takes)

pub returns-in_err-force-clause-counts : goal.returns-in_err-force-clause-counts
returns-in_err-force-clause-counts g c =
    counts_twice c.args.store.now c.take_checkpoint.new.store c.force.new.self c.take_checkpoint.ensures.counts (counts_forced c.take_checkpoint.new.store c.force.new.self c.force.result c.force.ensures.forced)

pub returns-clause-call : goal.returns-clause-call
returns-clause-call g c =
    let meaning = g.O.Oper.meaning in
    let d = g.M.Machine.disk c.args.machine.now in
    let mid = g.M.Machine.disk c.take_checkpoint.new.machine in
    let new = g.M.Machine.disk c.force.new.machine in
    let it = c.args.store.now in
    let here = c.take_checkpoint.new.store in
    full_call meaning d new it c.force.new.self mid here c.used-used.result c.in-Some.need (c.used-used.ensures ∙ ap (λ (l : RecordLogView). used_of l.log) c.log.ensures)
    (subst (λ (o : Option ℕ). IsCall meaning d mid it here 0 Overlong (checkpoint_ending here.parts.log (Ok o))) c.in-Some.is c.in_ok-need.ensures.call) c.in_ok-force.ensures.call c.in_ok-force.ensures.forced.0

pub returns-clause-takes : goal.returns-clause-takes
returns-clause-takes g c =
    let meaning = g.O.Oper.meaning in
    let d = g.M.Machine.disk c.args.machine.now in
    let mid = g.M.Machine.disk c.take_checkpoint.new.machine in
    let new = g.M.Machine.disk c.force.new.machine in
    let it = c.args.store.now.parts in
    let here = c.take_checkpoint.new.store.parts in
    let after = c.force.new.self.parts in
    let takes = subst (λ (o : Option ℕ). Takes meaning d mid it here (λ m w used. taking_course m w used) (checkpoint_ending here.log (Ok o))) c.in-Some.is c.in_ok-need.ensures.takes in
    subst (λ (k : ℕ). Takes meaning d new it after (λ m w used. checkpoint_course m w used) (Stopped (Full k c.in-Some.need log_limit))) (sym (c.used-used.ensures ∙ ap (λ (l : RecordLogView). used_of l.log) c.log.ensures))
    (checkpoint_full meaning d mid new it here after (Full (used_of here.log.log) c.in-Some.need log_limit) refl c.take_checkpoint.ensures.call.quiet takes c.in_ok-force.ensures.takes)

pub returns-clause-counts : goal.returns-clause-counts
returns-clause-counts g c =
    counts_twice c.args.store.now c.take_checkpoint.new.store c.force.new.self c.take_checkpoint.ensures.counts (counts_forced c.take_checkpoint.new.store c.force.new.self c.force.result c.force.ensures.forced)
