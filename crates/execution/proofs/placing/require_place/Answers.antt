use Rattle.std.proofs.Common.{◌≡◌, ap, ◌<◌, ◌≤◌, arith, inl, inr, refl, rules}
use Rattle.std.specs.Prelude.{◌^◌, IfErr}
use Rattle.log_records.specs.RecordLog.{RecordLogView}
use Rattle.running_store.specs.Calls.AfterReads.{call_stopped}
use Rattle.running_store.specs.Calls.{IsCall, Never, call_as, call_none}
use Rattle.running_store.specs.Calls.Commands.{has_place, length_with}
use Rattle.running_store.specs.Courses.{course}
use Rattle.running_store.specs.Courses.Stop.{Full, At_end}
use Rattle.running_store.specs.StoreView.{StoreView, store_params}
use Rattle.running_store.specs.Taking.{Ending, Takes}
use Rattle.running_store.specs.Taking.Laws.{takes_stop}
use Rattle.execution.specs.Answers.{ending_of_exec, stop_of_exec}
use Rattle.execution.specs.Courses.{unplaced_steps}
use Rattle.execution.specs.Done.{LogWithout}
use Rattle.execution.specs.Failures.{LacksPlace}
use Rattle.execution.specs.Stops.{StopsCommand}
use Rattle.execution.specs.declared.exec_err.ExecErr.TheVariants.{DiskFault}
use Rattle.cache_manager.specs.Endings.{at_err}
use Rattle.execution.proofs.Unplaced.{end_stops, failed_left, full_stops}
use Rattle.execution.proofs.placing.require_place.Goals as goal

pub returns-in_err-force_outside : goal.returns-in_err-force_outside
returns-in_err-force_outside g c =
    let before : StoreView = c.args.store.now in
    let after : StoreView = c.force_outside.new.store in
    let old = g.M.Machine.disk c.args.machine.now in
    let new = g.M.Machine.disk c.force_outside.new.machine in
    record {
      has = search rules;
      fits = search rules;
      lacks =
          let store : StoreView = c.args.store.now in
          let limit = (store_params store).limit in
          let over : limit < length_with store.parts.log c.args.length = search rules in
          at_err (λ r. IfErr r (LacksPlace c.args.grouped limit store.parts.log c.args.length)) c.from_residual.result DiskFault c.from_residual.ensures.1 (c.in_err-force_outside.ensures.forced.0, inl over);
      left =
          at_err (λ r. IfErr r (λ e. LogWithout c.args.grouped before.parts.log after.parts.log e × (after.parts.volatile ≡ before.parts.volatile))) c.from_residual.result DiskFault c.from_residual.ensures.1
          (failed_left before after c.in_err-force_outside.ensures.forced.1);
      call =
          let stops = StopsCommand c.args.grouped (store_params before).limit in
          at_err (λ r. IsCall g.O.Oper.meaning old new before after 0 stops (ending_of_exec r)) c.from_residual.result DiskFault c.from_residual.ensures.1
          (call_as g.O.Oper.meaning old new before after 0 0 Never stops Ending.Failed refl (λ stop is. cc) c.in_err-force_outside.ensures.call);
      takes =
          at_err (λ r. IfErr r (λ e. Takes g.O.Oper.meaning old new before.parts after.parts (λ m w used. course (unplaced_steps m c.args.grouped w) used (stop_of_exec e)) (ending_of_exec r))) c.from_residual.result DiskFault c.from_residual.ensures.1
          c.in_err-force_outside.ensures.takes;
    }

pub returns-then-length-limit-clause-lacks : goal.returns-then-length-limit-clause-lacks
returns-then-length-limit-clause-lacks g c = search rules

pub returns-then-length-limit-clause-left : goal.returns-then-length-limit-clause-left
returns-then-length-limit-clause-left g c = let is = c.in_ok-force_outside.ensures.forced in (is.0, ap (λ (s : StoreView). s.parts.volatile) is.1)

pub returns-then-length-limit-clause-call : goal.returns-then-length-limit-clause-call
returns-then-length-limit-clause-call g c =
    let before : StoreView = c.args.store.now in
    let after : StoreView = c.force_outside.new.store in
    let limit = (store_params before).limit in
    let lacks = returns-then-length-limit-clause-lacks g c in
    call_stopped g.O.Oper.meaning (g.M.Machine.disk c.args.machine.now) (g.M.Machine.disk c.force_outside.new.machine) before after 0 (StopsCommand c.args.grouped limit) (Full c.used-used.result c.needed-need.result c.params-limit.result.limit)
    (full_stops limit before.parts.log after.parts.log c.args.length c.args.grouped c.used-used.result c.needed-need.result c.params-limit.result.limit lacks.0 lacks.1 lacks.2 lacks.3 c.in_ok-force_outside.ensures.forced.0)
    c.in_ok-force_outside.ensures.call

pub returns-then-length-limit-clause-takes : goal.returns-then-length-limit-clause-takes
returns-then-length-limit-clause-takes g c =
    takes_stop g.O.Oper.meaning (g.M.Machine.disk c.args.machine.now) (g.M.Machine.disk c.force_outside.new.machine) c.args.store.now.parts c.force_outside.new.store.parts
    (λ m w. unplaced_steps m c.args.grouped w) (Full c.used-used.result c.needed-need.result c.params-limit.result.limit) c.in_ok-force_outside.ensures.takes

pub returns-in_err-force_outside-2 : goal.returns-in_err-force_outside-2
returns-in_err-force_outside-2 g c =
    let before : StoreView = c.args.store.now in
    let after : StoreView = c.force_outside-then-lsn-ge-LSN_END.new.store in
    let old = g.M.Machine.disk c.args.machine.now in
    let new = g.M.Machine.disk c.force_outside-then-lsn-ge-LSN_END.new.machine in
    record {
      has = search rules;
      fits = search rules;
      lacks =
          let store : StoreView = c.args.store.now in
          let limit = (store_params store).limit in
          let last : 2 ^ 62 ≤ store.parts.log.next = omega (arith, c.if-lsn-ge-LSN_END.true, c.next-lsn.ensures, ap (λ (l : RecordLogView). l.next) c.log-2.ensures) in
          at_err (λ r. IfErr r (LacksPlace c.args.grouped limit store.parts.log c.args.length)) c.from_residual-in_err-force_outside-2.result DiskFault c.from_residual-in_err-force_outside-2.ensures.1
          (c.in_err-force_outside-2.ensures.forced.0, inr last);
      left =
          at_err (λ r. IfErr r (λ e. LogWithout c.args.grouped before.parts.log after.parts.log e × (after.parts.volatile ≡ before.parts.volatile))) c.from_residual-in_err-force_outside-2.result DiskFault c.from_residual-in_err-force_outside-2.ensures.1
          (failed_left before after c.in_err-force_outside-2.ensures.forced.1);
      call =
          let stops = StopsCommand c.args.grouped (store_params before).limit in
          at_err (λ r. IsCall g.O.Oper.meaning old new before after 0 stops (ending_of_exec r)) c.from_residual-in_err-force_outside-2.result DiskFault c.from_residual-in_err-force_outside-2.ensures.1
          (call_as g.O.Oper.meaning old new before after 0 0 Never stops Ending.Failed refl (λ stop is. cc) c.in_err-force_outside-2.ensures.call);
      takes =
          at_err (λ r. IfErr r (λ e. Takes g.O.Oper.meaning old new before.parts after.parts (λ m w used. course (unplaced_steps m c.args.grouped w) used (stop_of_exec e)) (ending_of_exec r))) c.from_residual-in_err-force_outside-2.result DiskFault c.from_residual-in_err-force_outside-2.ensures.1
          c.in_err-force_outside-2.ensures.takes;
    }

pub returns-then-lsn-ge-LSN_END-clause-lacks : goal.returns-then-lsn-ge-LSN_END-clause-lacks
returns-then-lsn-ge-LSN_END-clause-lacks g c = search rules

pub returns-then-lsn-ge-LSN_END-clause-left : goal.returns-then-lsn-ge-LSN_END-clause-left
returns-then-lsn-ge-LSN_END-clause-left g c = let is = c.in_ok-force_outside-2.ensures.forced in (is.0, ap (λ (s : StoreView). s.parts.volatile) is.1)

pub returns-then-lsn-ge-LSN_END-clause-call : goal.returns-then-lsn-ge-LSN_END-clause-call
returns-then-lsn-ge-LSN_END-clause-call g c =
    let before : StoreView = c.args.store.now in
    let after : StoreView = c.force_outside-then-lsn-ge-LSN_END.new.store in
    let limit = (store_params before).limit in
    let lacks = returns-then-lsn-ge-LSN_END-clause-lacks g c in
    let used = c.params-limit.ensures.in_use c.requires.unbroken in
    call_stopped g.O.Oper.meaning (g.M.Machine.disk c.args.machine.now) (g.M.Machine.disk c.force_outside-then-lsn-ge-LSN_END.new.machine) before after 0 (StopsCommand c.args.grouped limit) (At_end c.next-lsn.result)
    (end_stops limit before.parts.log after.parts.log c.args.length c.args.grouped c.next-lsn.result used.store.low lacks.1 lacks.2 c.in_ok-force_outside-2.ensures.forced.0) c.in_ok-force_outside-2.ensures.call

pub returns-then-lsn-ge-LSN_END-clause-takes : goal.returns-then-lsn-ge-LSN_END-clause-takes
returns-then-lsn-ge-LSN_END-clause-takes g c =
    takes_stop g.O.Oper.meaning (g.M.Machine.disk c.args.machine.now) (g.M.Machine.disk c.force_outside-then-lsn-ge-LSN_END.new.machine) c.args.store.now.parts c.force_outside-then-lsn-ge-LSN_END.new.store.parts
    (λ m w. unplaced_steps m c.args.grouped w) (At_end c.next-lsn.result) c.in_ok-force_outside-2.ensures.takes

pub returns-clause-has : goal.returns-clause-has
returns-clause-has g c = search rules

pub returns-clause-fits : goal.returns-clause-fits
returns-clause-fits g c =
    let log : RecordLogView = c.args.store.now.parts.log in
    let limit = (store_params c.args.store.now).limit in
    let fits : length_with log c.args.length ≤ limit = search rules in
    has_place limit log c.args.length (omega (arith, c.params-limit.ensures.range.limit)) fits

pub returns-clause-call : goal.returns-clause-call
returns-clause-call g c =
    let limit = (store_params c.args.store.now).limit in
    call_none g.O.Oper.meaning (g.M.Machine.disk c.args.machine.now) c.args.store.now (StopsCommand c.args.grouped limit) (g.met.M.Machine.lawful c.args.machine.now) c.requires.unbroken
