use Rattle.std.proofs.Common.{◌≡◌, ◌∙◌, ap, ℕ, ◌+◌, ◌-◌, ◌*◌, ◌<◌, ◌≤◌, length, refl, arith}
use Rattle.log_blocks.specs.LogView.{used_of, growth_of}
use Rattle.log_records.specs.RecordLog.{RecordLogView}
use Rattle.running_store.specs.Calls.Laws.{unbroken_after}
use Rattle.running_store.specs.Calls.{IsCall, Never, call_none, call_twice}
use Rattle.running_store.specs.Calls.Checkpoints.{checkpointed_call, checkpointed_takes}
use Rattle.running_store.specs.Courses.Stop.{Full}
use Rattle.running_store.specs.Courses.Growth.{growth_some}
use Rattle.formats.specs.Limits.{log_limit}
use Rattle.running_store.specs.Taking.{Takes}
use Rattle.running_store.specs.Taking.Ending.{Done, Short, Failed, Stopped}
use Rattle.running_store.specs.Calls.Writes.{unwritten_call, unwritten_takes}
use Rattle.running_store.specs.Steps.Written.{room_is_place}
use Rattle.running_store.specs.declared.store_err.StoreErr.TheVariants.{DiskFault, Memory}
use Rattle.cache_manager.specs.Endings.{at_err}
use Rattle.cache_manager.specs.RecordPlace.{growth_low}
use Rattle.checkpointing.specs.Courses.{logged_course}
use Rattle.checkpointing.specs.Left.{Overlong, checkpoint_ending}
use Rattle.checkpointing.proofs.CheckpointLogs.{takes_full, takes_logged}
use Rattle.checkpointing.proofs.Ended.{call_ends, call_on, counts_checkpointed, counts_forced, counts_none, counts_twice}
use Rattle.checkpointing.proofs.logging.log_checkpoint.Goals as goal

-- what a record of so many bytes would add to the log, beside what is left below the limit
module _ (given log : RecordLogView) (same : given ≡ log) (limit used n k growth left : ℕ) (used_is : used ≡ used_of given.log) (n_is : n ≡ k) (growth_is : growth ≡ growth_of given.log.pending n) (left_is : left ≡ limit - used) where
  grows : growth ≡ growth_of log.log.pending k
  grows = growth_is ∙ (λ i. growth_of (same i).log.pending (n_is i))

  is_used : used ≡ used_of log.log
  is_used = used_is ∙ ap (λ (l : RecordLogView). used_of l.log) same

  over : left < growth → limit < used_of log.log + growth_of log.log.pending k
  over past = omega (arith, past, left_is, is_used, grows)

  fits : growth ≤ left → 0 < k → used_of log.log + growth_of log.log.pending k ≤ limit
  fits low some = omega (arith, low, left_is, is_used, grows, growth_some log.log.pending k some)

pub returns-then-saturating_sub-growth-clause-call : goal.returns-then-saturating_sub-growth-clause-call
returns-then-saturating_sub-growth-clause-call g c =
    let d = g.M.Machine.disk c.args.machine.now in
    let it = c.args.store.now in
    let log = it.parts.log in
    let n = 13 + 12 * length c.args.table.starts in
    let past : log_limit < used_of log.log + growth_of log.log.pending n =
    over c.log-log.result.now log c.log-log.ensures log_limit c.used.result c.checkpoint_bytes-n.result n c.growth.result c.saturating_sub.result c.used.ensures c.checkpoint_bytes-n.ensures c.growth.ensures c.saturating_sub.ensures c.if-saturating_sub-growth.true in
    call_ends g.O.Oper.meaning d d it it Never Overlong Done (Stopped (Full (used_of log.log) (c.checkpoint_bytes-n.result + 5) log_limit)) (λ failed. failed) (λ failed. failed)
    (refl, omega (arith, past, growth_low log.log.pending n, c.checkpoint_bytes-n.ensures), refl) (call_none g.O.Oper.meaning d it Never (g.met.M.Machine.lawful c.args.machine.now) c.requires.unbroken)

pub returns-then-saturating_sub-growth-clause-takes : goal.returns-then-saturating_sub-growth-clause-takes
returns-then-saturating_sub-growth-clause-takes g c = λ now.
    let d = g.M.Machine.disk c.args.machine.now in
    let it = c.args.store.now in
    let log = it.parts.log in
    let n = 13 + 12 * length c.args.table.starts in
    let past : log_limit < used_of log.log + growth_of log.log.pending n =
    over c.log-log.result.now log c.log-log.ensures log_limit c.used.result c.checkpoint_bytes-n.result n c.growth.result c.saturating_sub.result c.used.ensures c.checkpoint_bytes-n.ensures c.growth.ensures c.saturating_sub.ensures c.if-saturating_sub-growth.true in
    takes_full g.O.Oper.meaning d it.parts c.args.table c.requires.checkpoint now (g.met.M.Machine.lawful c.args.machine.now) (used_of log.log) (c.checkpoint_bytes-n.result + 5) refl (omega (arith, c.checkpoint_bytes-n.ensures)) past

pub returns-then-saturating_sub-growth-clause-counts : goal.returns-then-saturating_sub-growth-clause-counts
returns-then-saturating_sub-growth-clause-counts g c = counts_none c.args.store.now

pub append_checkpoint-requires-clause-place : goal.append_checkpoint-requires-clause-place
append_checkpoint-requires-clause-place g c =
    let log = c.args.store.now.parts.log in
    let n = 13 + 12 * length c.args.table.starts in
    room_is_place log.log n n refl c.requires.room
    (fits c.log-log.result.now log c.log-log.ensures log_limit c.used.result c.checkpoint_bytes-n.result n c.growth.result c.saturating_sub.result c.used.ensures c.checkpoint_bytes-n.ensures c.growth.ensures c.saturating_sub.ensures
    c.if-saturating_sub-growth.false (omega arith))

pub returns-in_err-append_checkpoint-clause-call : goal.returns-in_err-append_checkpoint-clause-call
returns-in_err-append_checkpoint-clause-call g c =
    let d = g.M.Machine.disk c.args.machine.now in
    let it = c.args.store.now in
    let after = c.append_checkpoint.new.self in
    at_err (λ r. IsCall g.O.Oper.meaning d d it after 0 Overlong (checkpoint_ending after.parts.log r)) c.from_residual.result Memory c.from_residual.ensures.1
    (call_on g.O.Oper.meaning d d it after Never Overlong Short (unwritten_call g.O.Oper.meaning it after c.requires.unbroken d (g.met.M.Machine.lawful c.args.machine.now) c.in_err-append_checkpoint.ensures))

pub returns-in_err-append_checkpoint-clause-takes : goal.returns-in_err-append_checkpoint-clause-takes
returns-in_err-append_checkpoint-clause-takes g c = λ now.
    let d = g.M.Machine.disk c.args.machine.now in
    let it = c.args.store.now in
    let after = c.append_checkpoint.new.self in
    at_err (λ r. Takes g.O.Oper.meaning d d it.parts after.parts (λ m w used. logged_course m w used) (checkpoint_ending after.parts.log r)) c.from_residual.result Memory c.from_residual.ensures.1
    (unwritten_takes g.O.Oper.meaning it after c.requires.unbroken d (g.met.M.Machine.lawful c.args.machine.now) c.in_err-append_checkpoint.ensures (λ m w used. logged_course m w used))

pub returns-in_err-append_checkpoint-clause-counts : goal.returns-in_err-append_checkpoint-clause-counts
returns-in_err-append_checkpoint-clause-counts g c = counts_checkpointed c.args.store.now c.append_checkpoint.new.self g.O.Oper.meaning c.args.table c.append_checkpoint.result c.append_checkpoint.ensures

pub force-requires : goal.force-requires
force-requires g c =
    let d = g.M.Machine.disk c.args.machine.now in
    let it = c.args.store.now in
    let here = c.append_checkpoint.new.self in
    record { unbroken = unbroken_after g.O.Oper.meaning d d it here 0 Never (checkpointed_call g.O.Oper.meaning it here c.requires.unbroken d (g.met.M.Machine.lawful c.args.machine.now) c.args.table c.in_ok-append_checkpoint.ensures) }

pub returns-in_err-force-clause-call : goal.returns-in_err-force-clause-call
returns-in_err-force-clause-call g c =
    let meaning = g.O.Oper.meaning in
    let d = g.M.Machine.disk c.args.machine.now in
    let new = g.M.Machine.disk c.force.new.machine in
    let it = c.args.store.now in
    let here = c.append_checkpoint.new.self in
    let after = c.force.new.self in
    let first = checkpointed_call meaning it here c.requires.unbroken d (g.met.M.Machine.lawful c.args.machine.now) c.args.table c.in_ok-append_checkpoint.ensures in
    at_err (λ r. IsCall meaning d new it after 0 Overlong (checkpoint_ending after.parts.log r)) c.from_residual-in_err-force.result DiskFault c.from_residual-in_err-force.ensures.1
    (call_twice meaning d d new it here after 0 0 Never Overlong Failed first (call_on meaning d new here after Never Overlong Failed c.in_err-force.ensures.call))

pub returns-in_err-force-clause-takes : goal.returns-in_err-force-clause-takes
returns-in_err-force-clause-takes g c = λ now.
    let meaning = g.O.Oper.meaning in
    let d = g.M.Machine.disk c.args.machine.now in
    let new = g.M.Machine.disk c.force.new.machine in
    let it = c.args.store.now in
    let here = c.append_checkpoint.new.self in
    let after = c.force.new.self in
    let table = c.args.table in
    let n = 13 + 12 * length table.starts in
    let lawful = g.met.M.Machine.lawful c.args.machine.now in
    let is = c.in_ok-append_checkpoint.ensures in
    at_err (λ r. Takes meaning d new it.parts after.parts (λ m w used. logged_course m w used) (checkpoint_ending after.parts.log r)) c.from_residual-in_err-force.result DiskFault c.from_residual-in_err-force.ensures.1
    (takes_logged meaning d it.parts table c.requires.checkpoint now new here.parts after.parts Failed (checkpointed_call meaning it here c.requires.unbroken d lawful table is).quiet
    (fits c.log-log.result.now it.parts.log c.log-log.ensures log_limit c.used.result c.checkpoint_bytes-n.result n c.growth.result c.saturating_sub.result c.used.ensures c.checkpoint_bytes-n.ensures c.growth.ensures c.saturating_sub.ensures
    c.if-saturating_sub-growth.false (omega arith))
    (checkpointed_takes meaning it here c.requires.unbroken d lawful table is c.checkpoint_keeps.ensures now) c.in_err-force.ensures.takes)

pub returns-in_err-force-clause-counts : goal.returns-in_err-force-clause-counts
returns-in_err-force-clause-counts g c =
    counts_twice c.args.store.now c.append_checkpoint.new.self c.force.new.self (counts_checkpointed c.args.store.now c.append_checkpoint.new.self g.O.Oper.meaning c.args.table c.append_checkpoint.result c.append_checkpoint.ensures)
    (counts_forced c.append_checkpoint.new.self c.force.new.self c.force.result c.force.ensures.forced)

pub returns-clause-call : goal.returns-clause-call
returns-clause-call g c =
    let meaning = g.O.Oper.meaning in
    let d = g.M.Machine.disk c.args.machine.now in
    let new = g.M.Machine.disk c.force.new.machine in
    let it = c.args.store.now in
    let here = c.append_checkpoint.new.self in
    let after = c.force.new.self in
    call_twice meaning d d new it here after 0 0 Never Overlong Done (checkpointed_call meaning it here c.requires.unbroken d (g.met.M.Machine.lawful c.args.machine.now) c.args.table c.in_ok-append_checkpoint.ensures)
    (call_on meaning d new here after Never Overlong Done c.in_ok-force.ensures.call)

pub returns-clause-takes : goal.returns-clause-takes
returns-clause-takes g c = λ now.
    let meaning = g.O.Oper.meaning in
    let d = g.M.Machine.disk c.args.machine.now in
    let new = g.M.Machine.disk c.force.new.machine in
    let it = c.args.store.now in
    let here = c.append_checkpoint.new.self in
    let table = c.args.table in
    let n = 13 + 12 * length table.starts in
    let lawful = g.met.M.Machine.lawful c.args.machine.now in
    let is = c.in_ok-append_checkpoint.ensures in
    takes_logged meaning d it.parts table c.requires.checkpoint now new here.parts c.force.new.self.parts Done (checkpointed_call meaning it here c.requires.unbroken d lawful table is).quiet
    (fits c.log-log.result.now it.parts.log c.log-log.ensures log_limit c.used.result c.checkpoint_bytes-n.result n c.growth.result c.saturating_sub.result c.used.ensures c.checkpoint_bytes-n.ensures c.growth.ensures c.saturating_sub.ensures
    c.if-saturating_sub-growth.false (omega arith))
    (checkpointed_takes meaning it here c.requires.unbroken d lawful table is c.checkpoint_keeps.ensures now) c.in_ok-force.ensures.takes

pub returns-clause-counts : goal.returns-clause-counts
returns-clause-counts g c =
    counts_twice c.args.store.now c.append_checkpoint.new.self c.force.new.self (counts_checkpointed c.args.store.now c.append_checkpoint.new.self g.O.Oper.meaning c.args.table c.append_checkpoint.result c.append_checkpoint.ensures)
    (counts_forced c.append_checkpoint.new.self c.force.new.self c.force.result c.force.ensures.forced)
