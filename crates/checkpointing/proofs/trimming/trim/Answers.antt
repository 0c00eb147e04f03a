use Rattle.std.proofs.Common.{◌≡◌, ◌∙◌, sym, subst, ap, ◌<◌, arith, ⊎_elim}
use Rattle.std.specs.Prelude.{IfErr}
use Rattle.disk_model.specs.Disk.{Disk, Rises}
use Rattle.formats.specs.Limits.{lsn_end}
use Rattle.log_records.specs.Loading.{IsTailFault}
use Rattle.log_records.specs.RecordLog.{RecordLogView}
use Rattle.log_records.specs.Rewriting.{IsNewLength}
use Rattle.log_records.specs.declared.rewrite_err.RewriteErr.TheVariants.{DiskFault, Memory}
use Rattle.running_store.specs.Calls.Laws.{call_short, unbroken_after}
use Rattle.running_store.specs.Calls.{IsCall, Never, call_none, call_twice}
use Rattle.running_store.specs.Courses.Stop.{Worn}
use Rattle.running_store.specs.Kept.{StopsAt}
use Rattle.running_store.specs.Calls.Rewrites.{ending_of_rewrite, rewrite_within}
use Rattle.running_store.specs.StoreView.{StoreView}
use Rattle.running_store.specs.Taking.{Takes}
use Rattle.running_store.specs.Taking.Ending.{Done, Failed, Short, Stopped}
use Rattle.running_store.specs.Taking.Laws.{takes_nothing}
use Rattle.cache_manager.specs.Endings.{at_err}
use Rattle.checkpointing.specs.Courses.{trim_within}
use Rattle.checkpointing.specs.Left.{DamagedBy, IsTooLong, KeepsCounts}
use Rattle.checkpointing.proofs.Ended.{call_ends, call_on, counts_forced, counts_none, counts_rewritten, counts_twice}
use Rattle.checkpointing.proofs.Trimmed.{IsLeastStart, fails_told, least_next, least_of, may_rewrite, none_damaged, trim_rewrites, trim_then, trim_unforced, trim_worn}
use Rattle.checkpointing.proofs.trimming.trim.Given.{Over}
use Rattle.checkpointing.proofs.trimming.trim.Goals.{After-force, After-least_start-base, After-rewrite, In_err-rewrite}
use Rattle.checkpointing.proofs.trimming.trim.Goals as goal

pub returns-then-epoch-ge-LSN_END-clause-call : goal.returns-then-epoch-ge-LSN_END-clause-call
returns-then-epoch-ge-LSN_END-clause-call g c =
    let d = g.M.Machine.disk c.args.machine.now in
    let it = c.args.store.now in
    let same : c.epoch-epoch.result ≡ it.parts.log.log.header.epoch = c.epoch-epoch.ensures.value ∙ ap (λ (l : RecordLogView). l.log.header.epoch) c.log.ensures in
    call_ends g.O.Oper.meaning d d it it Never (StopsAt c.args.most) Done (Stopped (Worn c.epoch-epoch.result)) (λ failed. failed) (λ failed. failed)
    (same, omega (arith, c.if-epoch-ge-LSN_END.true, c.epoch-epoch.ensures.last)) (call_none g.O.Oper.meaning d it Never (g.met.M.Machine.lawful c.args.machine.now) c.requires.unbroken)

pub returns-then-epoch-ge-LSN_END-clause-takes : goal.returns-then-epoch-ge-LSN_END-clause-takes
returns-then-epoch-ge-LSN_END-clause-takes g c =
    let it = c.args.store.now.parts in
    let same : c.epoch-epoch.result ≡ it.log.log.header.epoch = c.epoch-epoch.ensures.value ∙ ap (λ (l : RecordLogView). l.log.header.epoch) c.log.ensures in
    trim_worn g.O.Oper.meaning (g.M.Machine.disk c.args.machine.now) it c.args.most it.log.log.header.epoch c.epoch-epoch.result same (omega (arith, c.if-epoch-ge-LSN_END.true, same)) (g.met.M.Machine.lawful c.args.machine.now)

pub returns-then-epoch-ge-LSN_END-clause-counts : goal.returns-then-epoch-ge-LSN_END-clause-counts
returns-then-epoch-ge-LSN_END-clause-counts g c = counts_none c.args.store.now

-- all that waits is forced, or the disk fails
module _ (g : Over) (c : After-force g) where
  abbrev d : Disk
  d = g.M.Machine.disk c.args.machine.now

  abbrev mid : Disk
  mid = g.M.Machine.disk c.force.new.machine

  early : c.args.store.now.parts.log.log.header.epoch < lsn_end
  early = omega (arith, c.if-epoch-ge-LSN_END.false, c.epoch-epoch.ensures.value, ap (λ (l : RecordLogView). l.log.header.epoch) c.log.ensures)

  counts : KeepsCounts c.args.store.now.parts c.force.new.self.parts
  counts = counts_forced c.args.store.now c.force.new.self c.force.result c.force.ensures.forced

pub returns-in_err-force-clause-call : goal.returns-in_err-force-clause-call
returns-in_err-force-clause-call g c =
    let at = (goal.at.returns-in_err-force-clause-call g c).After-force in
    at_err (λ r. IsCall g.O.Oper.meaning (d g at) (mid g at) c.args.store.now c.force.new.self 0 (StopsAt c.args.most) (ending_of_rewrite r)) c.from_residual.result DiskFault c.from_residual.ensures.1
    (call_on g.O.Oper.meaning (d g at) (mid g at) c.args.store.now c.force.new.self Never (StopsAt c.args.most) Failed c.in_err-force.ensures.call)

pub returns-in_err-force-clause-takes : goal.returns-in_err-force-clause-takes
returns-in_err-force-clause-takes g c =
    let at = (goal.at.returns-in_err-force-clause-takes g c).After-force in
    let it = c.args.store.now.parts in
    let epoch = it.log.log.header.epoch in
    at_err (λ r. Takes g.O.Oper.meaning (d g at) (mid g at) it c.force.new.self.parts (λ m w used. trim_within m c.args.most epoch w used) (ending_of_rewrite r)) c.from_residual.result DiskFault c.from_residual.ensures.1
    (trim_unforced g.O.Oper.meaning c.args.most epoch (early g at) (d g at) (mid g at) it c.force.new.self.parts c.in_err-force.ensures.takes)

pub returns-in_err-force-clause-counts : goal.returns-in_err-force-clause-counts
returns-in_err-force-clause-counts g c = counts g (goal.at.returns-in_err-force-clause-counts g c).After-force

pub checkpoint_now-requires : goal.checkpoint_now-requires
checkpoint_now-requires g c =
    record { unbroken = unbroken_after g.O.Oper.meaning (g.M.Machine.disk c.args.machine.now) (g.M.Machine.disk c.force.new.machine) c.args.store.now c.force.new.self 0 Never c.in_ok-force.ensures.call }

-- there is no memory for the checkpoint
pub returns-in_err-table-clause-call : goal.returns-in_err-table-clause-call
returns-in_err-table-clause-call g c =
    let at = (goal.at.returns-in_err-table-clause-call g c).After-force in
    at_err (λ r. IsCall g.O.Oper.meaning (d g at) (mid g at) c.args.store.now c.force.new.self 0 (StopsAt c.args.most) (ending_of_rewrite r)) c.from_residual-in_err-table.result Memory c.from_residual-in_err-table.ensures.1
    (call_on g.O.Oper.meaning (d g at) (mid g at) c.args.store.now c.force.new.self Never (StopsAt c.args.most) Short (call_short g.O.Oper.meaning (d g at) (mid g at) c.args.store.now c.force.new.self 0 Never c.in_ok-force.ensures.call))

pub returns-in_err-table-clause-takes : goal.returns-in_err-table-clause-takes
returns-in_err-table-clause-takes g c =
    let at = (goal.at.returns-in_err-table-clause-takes g c).After-force in
    let it = c.args.store.now.parts in
    let after = c.force.new.self.parts in
    let epoch = it.log.log.header.epoch in
    at_err (λ r. Takes g.O.Oper.meaning (d g at) (mid g at) it after (λ m w used. trim_within m c.args.most epoch w used) (ending_of_rewrite r)) c.from_residual-in_err-table.result Memory c.from_residual-in_err-table.ensures.1
    (trim_then g.O.Oper.meaning c.args.most epoch (early g at) (d g at) (mid g at) it after (mid g at) after Short c.force.ensures.call.quiet c.in_ok-force.ensures.takes
    (takes_nothing g.O.Oper.meaning (mid g at) after (g.met.M.Machine.lawful c.force.new.machine) (λ m v used. rewrite_within m c.args.most v used)))

pub returns-in_err-table-clause-counts : goal.returns-in_err-table-clause-counts
returns-in_err-table-clause-counts g c = counts g (goal.at.returns-in_err-table-clause-counts g c).After-force

-- where the log may begin then
least : (g : Over) (c : After-least_start-base g) → IsLeastStart c.force.new.self.parts.log c.in_ok-table.table c.least_start-base.result
least g c =
    least_of c.force.new.self.parts.log c.in_ok-table.table c.least_start-base.result c.next.result c.as_slice.result.now (c.next.ensures ∙ ap (λ (l : RecordLogView). l.next) c.log-2.ensures) c.as_slice.ensures c.least_start-base.ensures.next
    c.least_start-base.ensures.each c.least_start-base.ensures.greatest

pub rewrite-requires-clause-unbroken : goal.rewrite-requires-clause-unbroken
rewrite-requires-clause-unbroken g c = unbroken_after g.O.Oper.meaning (g.M.Machine.disk c.args.machine.now) (g.M.Machine.disk c.force.new.machine) c.args.store.now c.force.new.self 0 Never c.in_ok-force.ensures.call

pub rewrite-requires-clause-epoch : goal.rewrite-requires-clause-epoch
rewrite-requires-clause-epoch g c =
    omega (arith, c.if-epoch-ge-LSN_END.false, c.epoch-epoch.ensures.value, ap (λ (l : RecordLogView). l.log.header.epoch) c.log.ensures, ap (λ (l : RecordLogView). l.log.header.epoch) c.in_ok-force.ensures.forced.0)

pub rewrite-requires-clause-rewritable : goal.rewrite-requires-clause-rewritable
rewrite-requires-clause-rewritable g c =
    let log = c.force.new.self.parts.log in
    may_rewrite (g.O.Oper.meaning log.bounds) log c.in_ok-table.table c.least_start-base.result c.in_ok-table.ensures.here (ap (λ (r : RecordLogView). r.log.pending) c.in_ok-force.ensures.forced.0)
    (least g (goal.at.rewrite-requires-clause-rewritable g c).After-least_start-base)

-- the log is rewritten, or not
recounts : (g : Over) (c : After-rewrite g) → KeepsCounts c.args.store.now.parts c.rewrite.new.self.parts
recounts g c =
    counts_twice c.args.store.now c.force.new.self c.rewrite.new.self (counts_forced c.args.store.now c.force.new.self c.force.result c.force.ensures.forced)
    (counts_rewritten c.force.new.self c.rewrite.new.self c.least_start-base.result c.rewrite.result c.rewrite.ensures.rewritten)

pub returns-in_err-rewrite-clause-call : goal.returns-in_err-rewrite-clause-call
returns-in_err-rewrite-clause-call g c =
    let d = g.M.Machine.disk c.args.machine.now in
    let new = g.M.Machine.disk c.rewrite.new.machine in
    let it = c.args.store.now in
    let after = c.rewrite.new.self in
    at_err (λ r. IsCall g.O.Oper.meaning d new it after 0 (StopsAt c.args.most) (ending_of_rewrite r)) c.from_residual-in_err-rewrite.result c.in_err-rewrite.field-0.0 c.from_residual-in_err-rewrite.ensures.1
    (call_twice g.O.Oper.meaning d (g.M.Machine.disk c.force.new.machine) new it c.force.new.self after 0 0 Never (StopsAt c.args.most) _ c.in_ok-force.ensures.call c.in_err-rewrite.ensures.call)

pub returns-in_err-rewrite-clause-takes : goal.returns-in_err-rewrite-clause-takes
returns-in_err-rewrite-clause-takes g c =
    let at = goal.at.returns-in_err-rewrite-clause-takes g c in
    let new = g.M.Machine.disk c.rewrite.new.machine in
    let it = c.args.store.now.parts in
    let after = c.rewrite.new.self.parts in
    let epoch = it.log.log.header.epoch in
    at_err (λ r. Takes g.O.Oper.meaning (d g at.After-force) new it after (λ m w used. trim_within m c.args.most epoch w used) (ending_of_rewrite r)) c.from_residual-in_err-rewrite.result c.in_err-rewrite.field-0.0 c.from_residual-in_err-rewrite.ensures.1
    (trim_rewrites g.O.Oper.meaning c.args.most epoch (early g at.After-force) (d g at.After-force) new it after (mid g at.After-force) c.force.new.self.parts _ c.force.ensures.call.quiet c.in_ok-force.ensures.takes
    g.met.O.Oper.lawful c.in_ok-table.table c.in_ok-table.ensures.now c.least_start-base.result (least g at.After-least_start-base) c.in_err-rewrite.ensures.takes)

pub returns-in_err-rewrite-clause-counts : goal.returns-in_err-rewrite-clause-counts
returns-in_err-rewrite-clause-counts g c = recounts g (goal.at.returns-in_err-rewrite-clause-counts g c).After-rewrite

pub returns-in_err-rewrite-clause-undamaged : goal.returns-in_err-rewrite-clause-undamaged
returns-in_err-rewrite-clause-undamaged g c = λ told has.
    let call = c.in_ok-force.ensures.call in
    let still = ⊎_elim (λ failed. absurd failed) (λ keeps. keeps told has) call.kept in
    at_err (λ r. IfErr r (DamagedBy (λ file place. ⊥))) c.from_residual-in_err-rewrite.result c.in_err-rewrite.field-0.0 c.from_residual-in_err-rewrite.ensures.1
    (none_damaged c.in_err-rewrite.field-0.0 (c.in_err-rewrite.ensures.undamaged (call.quiet.time.files_told.0 told) still))

-- why it is not rewritten
told : (g : Over) (c : In_err-rewrite g) → let log = c.force.new.self.parts.log in let e = c.in_err-rewrite.field-0.0 in DamagedBy (IsTailFault (g.O.Oper.meaning log.bounds) (g.M.Machine.disk c.rewrite.new.machine) log.log) e × IsTooLong e
told g c =
    let mid = g.M.Machine.disk c.force.new.machine in
    let new = g.M.Machine.disk c.rewrite.new.machine in
    let log = c.force.new.self.parts.log in
    let m = g.O.Oper.meaning log.bounds in
    fails_told (Rises mid.disk_faults new.disk_faults) (IsTailFault m new log.log) (IsNewLength m mid log c.least_start-base.result c.in_ok-table.table) log.log c.args.most c.in_err-rewrite.field-0.0 c.in_err-rewrite.ensures.cause

pub returns-in_err-rewrite-clause-damage : goal.returns-in_err-rewrite-clause-damage
returns-in_err-rewrite-clause-damage g c =
    let new = g.M.Machine.disk c.rewrite.new.machine in
    let e = c.in_err-rewrite.field-0.0 in
    at_err (λ r. IfErr r (DamagedBy (IsTailFault (g.O.Oper.meaning c.rewrite.new.self.parts.log.bounds) new c.rewrite.new.self.parts.log.log))) c.from_residual-in_err-rewrite.result e c.from_residual-in_err-rewrite.ensures.1
    (subst (λ (l : RecordLogView). DamagedBy (IsTailFault (g.O.Oper.meaning l.bounds) new l.log) e) (sym (ap (λ (s : StoreView). s.parts.log) c.in_err-rewrite.ensures.rewritten))
    (told g (goal.at.returns-in_err-rewrite-clause-damage g c).In_err-rewrite).0)

pub returns-in_err-rewrite-clause-long : goal.returns-in_err-rewrite-clause-long
returns-in_err-rewrite-clause-long g c =
    at_err (λ r. IfErr r IsTooLong) c.from_residual-in_err-rewrite.result c.in_err-rewrite.field-0.0 c.from_residual-in_err-rewrite.ensures.1 (told g (goal.at.returns-in_err-rewrite-clause-long g c).In_err-rewrite).1

pub returns-clause-call : goal.returns-clause-call
returns-clause-call g c =
    let d = g.M.Machine.disk c.args.machine.now in
    let mid = g.M.Machine.disk c.force.new.machine in
    let new = g.M.Machine.disk c.rewrite.new.machine in
    call_twice g.O.Oper.meaning d mid new c.args.store.now c.force.new.self c.rewrite.new.self 0 0 Never (StopsAt c.args.most) Done c.in_ok-force.ensures.call c.in_ok-rewrite.ensures.call

pub returns-clause-takes : goal.returns-clause-takes
returns-clause-takes g c =
    let at = goal.at.returns-clause-takes g c in
    let it = c.args.store.now.parts in
    trim_rewrites g.O.Oper.meaning c.args.most it.log.log.header.epoch (early g at.After-force) (d g at.After-force) (g.M.Machine.disk c.rewrite.new.machine) it c.rewrite.new.self.parts (mid g at.After-force) c.force.new.self.parts Done
    c.force.ensures.call.quiet c.in_ok-force.ensures.takes g.met.O.Oper.lawful c.in_ok-table.table c.in_ok-table.ensures.now c.least_start-base.result (least g at.After-least_start-base) c.in_ok-rewrite.ensures.takes

pub returns-clause-counts : goal.returns-clause-counts
returns-clause-counts g c = recounts g (goal.at.returns-clause-counts g c).After-rewrite

pub returns-clause-epoch : goal.returns-clause-epoch
returns-clause-epoch g c = omega (arith, c.in_ok-rewrite.ensures.rewritten.epoch, ap (λ (l : RecordLogView). l.log.header.epoch) c.in_ok-force.ensures.forced.0)

pub returns-clause-emptied : goal.returns-clause-emptied
returns-clause-emptied g c = λ empty.
    let is = c.in_ok-rewrite.ensures.rewritten in
    let none = c.in_ok-table.ensures.none (ap (λ (s : StoreView). s.parts.volatile.entries) c.in_ok-force.ensures.forced.1 ∙ empty) in
    is.begins ∙ least_next c.force.new.self.parts.log c.in_ok-table.table c.least_start-base.result (least g (goal.at.returns-clause-emptied g c).After-least_start-base) none ∙ sym is.next
