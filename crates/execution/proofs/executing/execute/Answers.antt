use Rattle.std.proofs.Common.{◌≡◌, ◌∙◌, ap, sym, subst, ℕ, List, arith}
use Rattle.std.specs.Prelude.{Err, None}
use Rattle.disk_model.specs.Disk.{Disk}
use Rattle.formats.specs.declared.params.Params.{Params}
use Rattle.log_records.specs.RecordLog.{RecordLogView}
use Rattle.stable_objects.specs.SlotsView.{SlotsView}
use Rattle.explain_core.specs.World.{World}
use Rattle.running_store.specs.Calls.AfterReads.{fetch_unbroken}
use Rattle.running_store.specs.Calls.{IsCall, IsFailed}
use Rattle.running_store.specs.Calls.Commands.{HasPlaceBelow, IsCommanded, IsReady, command_length}
use Rattle.running_store.specs.Calls.Fetches.{IsFetch}
use Rattle.running_store.specs.Laid.Lent.{inputs_in}
use Rattle.running_store.specs.Calls.Logged.{HasPlace}
use Rattle.running_store.specs.Parts.{Shows, meaning_in}
use Rattle.running_store.specs.StoreView.{StoreView, log_length, next_of, store_params}
use Rattle.running_store.specs.Taking.{Takes}
use Rattle.execution.specs.Answers.{HasCauseIn, ending_of_error, ending_of_exec}
use Rattle.execution.specs.Courses.{exec_course, refusal_in}
use Rattle.execution.specs.Done.{IsOutcome}
use Rattle.execution.specs.Failures.{LacksPlace}
use Rattle.execution.specs.Stops.{StopsCommand}
use Rattle.execution.specs.declared.exec_err.ExecErr.TheVariants.{Memory}
use Rattle.execution.proofs.Admitted.{accepted}
use Rattle.execution.proofs.Causes.{admit_cause}
use Rattle.execution.proofs.Finished.{finished_call, finished_cause, finished_outcome, finished_takes, place_before, short_call, short_outcome, short_takes}
use Rattle.cache_manager.specs.Endings.{at_err}
use Rattle.execution.proofs.Unadmitted.{unadmitted_call, unadmitted_outcome, unadmitted_takes}
use Rattle.execution.proofs.Unplaced.{lacks_before, unplaced_call, unplaced_cause, unplaced_outcome, unplaced_takes}
use Rattle.execution.proofs.executing.execute.Given.{Over}
use Rattle.execution.proofs.executing.execute.Goals.{In_ok-copies, In_err-require_place, In_ok-require_place}
use Rattle.execution.proofs.executing.execute.Goals as goal

-- it is not admitted
pub returns-in_err-copies : goal.returns-in_err-copies
returns-in_err-copies g c =
    let old = g.M.Machine.disk c.args.machine.now in
    let new = g.M.Machine.disk c.admit.new.machine in
    let e = c.in_err-copies.field-0.0 in
    record {
      call =
          at_err (λ r. IsCall g.O.Oper.meaning old new c.args.store.now c.admit.new.store 0 (StopsCommand c.args.grouped (store_params c.args.store.now).limit) (ending_of_exec r)) c.from_residual.result e c.from_residual.ensures.1
          (unadmitted_call g.O.Oper.meaning c.args.grouped c.args.op old new c.args.store.now c.admit.new.store e c.in_err-copies.ensures.cause c.in_err-copies.ensures.call);
      takes =
          at_err (λ r. Takes g.O.Oper.meaning old new c.args.store.now.parts c.admit.new.store.parts (λ m w used. exec_course m c.args.grouped (store_params c.args.store.now).limit c.args.op w used) (ending_of_exec r)) c.from_residual.result e
          c.from_residual.ensures.1
          (unadmitted_takes g.O.Oper.meaning c.args.grouped c.args.op old new c.args.store.now c.admit.new.store (IsFailed (ending_of_error e)) c.in_err-copies.ensures.call (g.met.M.Machine.lawful c.admit.new.machine) g.met.O.Oper.bounded g.met.O.Oper.lawful e
          c.in_err-copies.ensures.cause c.in_err-copies.ensures.shown);
      in_world = λ p w shows.
          at_err (λ r. HasCauseIn c.args.grouped (meaning_in g.O.Oper.meaning p) p.limit w (log_length c.args.store.now) c.args.op r) c.from_residual.result e c.from_residual.ensures.1
          (admit_cause g.O.Oper.meaning c.args.grouped p old new c.args.store.now.parts w shows c.args.op g.met.O.Oper.bounded g.met.O.Oper.lawful e c.in_err-copies.ensures.call.read.stays c.in_err-copies.ensures.cause
          c.in_err-copies.ensures.shown (λ is. c.in_err-copies.ensures.fault (λ i. Err (is i))));
      outcome =
          at_err (λ r. IsOutcome g.O.Oper.meaning c.args.grouped old new c.args.store.now.parts c.admit.new.store.parts c.args.op r) c.from_residual.result e c.from_residual.ensures.1
          (unadmitted_outcome g.O.Oper.meaning c.args.grouped c.args.op old new c.args.store.now c.admit.new.store (IsFailed (ending_of_error e)) c.in_err-copies.ensures.call e c.in_err-copies.ensures.cause);
    }

-- after the admission nothing refuses it
module _ (g : Over) (c : In_ok-copies g) where
  -- what it reads
  abbrev values : List (List ℕ)
  values = inputs_in c.admit.new.store.parts.volatile.objects.cache ((meaning_in g.O.Oper.meaning (store_params c.args.store.now)).reads c.args.op) c.in_ok-copies.copies

  said : (p : Params) (w : World g.row.O.Denot) → Shows (meaning_in g.O.Oper.meaning p) p (g.M.Machine.disk c.args.machine.now) c.args.store.now.parts w → refusal_in (meaning_in g.O.Oper.meaning p) w c.args.op ≡ None
  said p w shows =
      accepted g.O.Oper.meaning g.met.O.Oper.bounded g.met.O.Oper.lawful p (g.M.Machine.disk c.args.machine.now) c.args.store.now.parts w shows c.args.op values c.in_ok-copies.ensures.ready
      (c.in_ok-copies.ensures.read shows.told shows.store.laid)

pub require_place-requires-clause-unbroken : goal.require_place-requires-clause-unbroken
require_place-requires-clause-unbroken g c = fetch_unbroken (g.M.Machine.disk c.args.machine.now) (g.M.Machine.disk c.admit.new.machine) c.args.store.now c.admit.new.store c.in_ok-copies.ensures.call

pub require_place-requires-clause-range : goal.require_place-requires-clause-range
require_place-requires-clause-range g c = let range = c.in_ok-copies.ensures.length in (range.1, range.2)

-- it gets no place
module _ (g : Over) (c : In_err-require_place g) where
  lacks : LacksPlace c.args.grouped (store_params c.args.store.now).limit c.args.store.now.parts.log (command_length (meaning_in g.O.Oper.meaning (store_params c.args.store.now)) c.args.op) c.in_err-require_place.field-0.0
  lacks =
      let range = c.in_ok-copies.ensures.length in
      lacks_before g.O.Oper.meaning c.args.grouped c.args.op (g.M.Machine.disk c.args.machine.now) (g.M.Machine.disk c.admit.new.machine) (g.M.Machine.disk c.require_place.new.machine) c.args.store.now c.admit.new.store c.require_place.new.store
      c.in_ok-copies.ensures.call c.in_ok-copies.length c.in_err-require_place.field-0.0 range.0 c.in_err-require_place.ensures.lacks

  call : IsCall g.O.Oper.meaning (g.M.Machine.disk c.args.machine.now) (g.M.Machine.disk c.require_place.new.machine) c.args.store.now c.require_place.new.store 0
      (StopsCommand c.args.grouped (store_params c.args.store.now).limit) (ending_of_exec {T = ℕ} (Err c.in_err-require_place.field-0.0))
  call =
      unplaced_call g.O.Oper.meaning c.args.grouped c.args.op (g.M.Machine.disk c.args.machine.now) (g.M.Machine.disk c.admit.new.machine) (g.M.Machine.disk c.require_place.new.machine) c.args.store.now c.admit.new.store c.require_place.new.store
      c.in_ok-copies.ensures.call _ c.in_err-require_place.ensures.call

pub returns-in_err-require_place : goal.returns-in_err-require_place
returns-in_err-require_place g c =
    let at = goal.at.returns-in_err-require_place g c in
    let old = g.M.Machine.disk c.args.machine.now in
    let new = g.M.Machine.disk c.require_place.new.machine in
    let e = c.in_err-require_place.field-0.0 in
    record {
      call =
          at_err (λ r. IsCall g.O.Oper.meaning (g.M.Machine.disk c.args.machine.now) (g.M.Machine.disk c.require_place.new.machine) c.args.store.now c.require_place.new.store 0
          (StopsCommand c.args.grouped (store_params c.args.store.now).limit) (ending_of_exec r)) c.from_residual-in_err-require_place.result c.in_err-require_place.field-0.0 c.from_residual-in_err-require_place.ensures.1 (call g at.In_err-require_place);
      takes =
          at_err (λ r. Takes g.O.Oper.meaning old new c.args.store.now.parts c.require_place.new.store.parts (λ m w used. exec_course m c.args.grouped (store_params c.args.store.now).limit c.args.op w used) (ending_of_exec r))
          c.from_residual-in_err-require_place.result e c.from_residual-in_err-require_place.ensures.1
          (unplaced_takes g.O.Oper.meaning c.args.grouped c.args.op old (g.M.Machine.disk c.admit.new.machine) new c.args.store.now c.admit.new.store c.require_place.new.store c.in_ok-copies.ensures.call (said g at.In_ok-copies) e
          (lacks g at.In_err-require_place) c.in_err-require_place.ensures.takes);
      in_world = λ p w shows.
          at_err (λ r. HasCauseIn c.args.grouped (meaning_in g.O.Oper.meaning p) p.limit w (log_length c.args.store.now) c.args.op r) c.from_residual-in_err-require_place.result e c.from_residual-in_err-require_place.ensures.1
          (unplaced_cause g.O.Oper.meaning c.args.grouped c.args.op (g.M.Machine.disk c.args.machine.now) (g.M.Machine.disk c.admit.new.machine) (g.M.Machine.disk c.require_place.new.machine) c.args.store.now c.admit.new.store c.require_place.new.store
          c.in_ok-copies.ensures.call (said g at.In_ok-copies) e (lacks g at.In_err-require_place) p w shows);
      outcome =
          let called = call g at.In_err-require_place in
          at_err (λ r. IsOutcome g.O.Oper.meaning c.args.grouped old new c.args.store.now.parts c.require_place.new.store.parts c.args.op r) c.from_residual-in_err-require_place.result e c.from_residual-in_err-require_place.ensures.1
          (unplaced_outcome g.O.Oper.meaning c.args.grouped c.args.op old (g.M.Machine.disk c.admit.new.machine) new c.args.store.now c.admit.new.store c.require_place.new.store c.in_ok-copies.ensures.call e (lacks g at.In_err-require_place)
          (values g at.In_ok-copies, c.in_ok-copies.ensures.ready) called.fault c.in_err-require_place.ensures.left);
    }

-- it has its place, and no call was made since its objects were read
module _ (g : Over) (c : In_ok-require_place g) where
  fetched : IsFetch (g.M.Machine.disk c.args.machine.now) (g.M.Machine.disk c.require_place.new.machine) c.args.store.now c.require_place.new.store ⊥
  fetched =
      let has = c.in_ok-require_place.ensures.has in
      subst (λ (d : Disk). IsFetch (g.M.Machine.disk c.args.machine.now) d c.args.store.now c.require_place.new.store ⊥) (sym (ap (λ m. g.M.Machine.disk m) has.1))
      (subst (λ (s : StoreView). IsFetch (g.M.Machine.disk c.args.machine.now) (g.M.Machine.disk c.admit.new.machine) c.args.store.now s ⊥) (sym has.2) c.in_ok-copies.ensures.call)

  abbrev here : StoreView
  here = c.require_place.new.store

  abbrev kept : List (List ℕ)
  kept = inputs_in here.parts.volatile.objects.cache ((meaning_in g.O.Oper.meaning (store_params here)).reads c.args.op) c.in_ok-copies.copies

  -- the cache has what it had
  same_values : inputs_in c.admit.new.store.parts.volatile.objects.cache ((meaning_in g.O.Oper.meaning (store_params c.args.store.now)).reads c.args.op) c.in_ok-copies.copies ≡ kept
  same_values =
      ap (λ (q : Params). inputs_in c.admit.new.store.parts.volatile.objects.cache ((meaning_in g.O.Oper.meaning q).reads c.args.op) c.in_ok-copies.copies) (sym (ap (λ (s : SlotsView). s.params) c.in_ok-copies.ensures.call.read.fetched.slots))
      ∙ ap (λ (s : StoreView). inputs_in s.parts.volatile.objects.cache ((meaning_in g.O.Oper.meaning (store_params s)).reads c.args.op) c.in_ok-copies.copies) (sym c.in_ok-require_place.ensures.has.2)

  done_on : (after : StoreView) → IsCommanded g.O.Oper.meaning here after c.args.op kept
      → IsCommanded g.O.Oper.meaning here after c.args.op (inputs_in c.admit.new.store.parts.volatile.objects.cache ((meaning_in g.O.Oper.meaning (store_params c.args.store.now)).reads c.args.op) c.in_ok-copies.copies)
  done_on after is = subst (λ (vs : List (List ℕ)). IsCommanded g.O.Oper.meaning here after c.args.op vs) (sym same_values) is

  place : HasPlaceBelow (store_params c.args.store.now).limit c.args.store.now.parts.log (command_length (meaning_in g.O.Oper.meaning (store_params c.args.store.now)) c.args.op)
  place =
      let has = c.in_ok-require_place.ensures.has in
      let range = c.in_ok-copies.ensures.length in
      place_before (g.M.Machine.disk c.args.machine.now) (g.M.Machine.disk c.admit.new.machine) c.args.store.now c.admit.new.store c.in_ok-copies.ensures.call c.in_ok-copies.length _ range.0 has.0

pub append_command-requires-clause-unbroken : goal.append_command-requires-clause-unbroken
append_command-requires-clause-unbroken g c =
    let at = goal.at.append_command-requires-clause-unbroken g c in
    fetch_unbroken (g.M.Machine.disk c.args.machine.now) (g.M.Machine.disk c.require_place.new.machine) c.args.store.now c.require_place.new.store (fetched g at.In_ok-require_place)

pub append_command-requires-clause-ready : goal.append_command-requires-clause-ready
append_command-requires-clause-ready g c =
    let at = goal.at.append_command-requires-clause-ready g c in
    let it = fetched g at.In_ok-require_place in
    subst (λ (vs : List (List ℕ)). IsReady g.O.Oper.meaning (store_params c.require_place.new.store) c.args.op vs) (same_values g at.In_ok-require_place)
    (subst (λ (q : Params). IsReady g.O.Oper.meaning q c.args.op (values g at.In_ok-copies)) (sym (ap (λ (s : SlotsView). s.params) it.read.fetched.slots)) c.in_ok-copies.ensures.ready)

pub append_command-requires-clause-lsn : goal.append_command-requires-clause-lsn
append_command-requires-clause-lsn g c =
    let has = c.in_ok-require_place.ensures.has in
    let low = has.0.lsn in
    omega (arith, low, ap (λ (s : StoreView). next_of s) has.2)

pub append_command-requires-clause-place : goal.append_command-requires-clause-place
append_command-requires-clause-place g c =
    let meaning = g.O.Oper.meaning in
    let read : StoreView = c.admit.new.store in
    let range = c.in_ok-copies.ensures.length in
    subst (λ (s : StoreView). HasPlace s.parts.log.log (command_length (meaning_in meaning (store_params s)) c.args.op)) (sym c.in_ok-require_place.ensures.has.2)
    (subst (λ (q : Params). HasPlace read.parts.log.log (command_length (meaning_in meaning q) c.args.op)) (sym (ap (λ (s : SlotsView). s.params) c.in_ok-copies.ensures.call.read.fetched.slots))
    (subst (λ (k : ℕ). HasPlace read.parts.log.log k) range.0 c.in_ok-require_place.ensures.fits))

-- it lacks memory
pub returns-in_err-append_command : goal.returns-in_err-append_command
returns-in_err-append_command g c =
    let at = goal.at.returns-in_err-append_command g c in
    let old = g.M.Machine.disk c.args.machine.now in
    let new = g.M.Machine.disk c.require_place.new.machine in
    record {
      call =
          at_err (λ r. IsCall g.O.Oper.meaning old new c.args.store.now c.append_command.new.self 0 (StopsCommand c.args.grouped (store_params c.args.store.now).limit) (ending_of_exec r)) c.from_residual-in_err-append_command.result Memory
          c.from_residual-in_err-append_command.ensures.1
          (short_call g.O.Oper.meaning c.args.grouped c.args.op old new c.args.store.now c.require_place.new.store c.append_command.new.self (fetched g at.In_ok-require_place) (g.met.M.Machine.lawful c.require_place.new.machine)
          (values g at.In_ok-copies) c.in_ok-copies.ensures.ready (place g at.In_ok-require_place) c.in_err-append_command.ensures);
      takes =
          at_err (λ r. Takes g.O.Oper.meaning old new c.args.store.now.parts c.append_command.new.self.parts (λ m w used. exec_course m c.args.grouped (store_params c.args.store.now).limit c.args.op w used) (ending_of_exec r))
          c.from_residual-in_err-append_command.result Memory c.from_residual-in_err-append_command.ensures.1
          (short_takes g.O.Oper.meaning c.args.grouped c.args.op old new c.args.store.now c.require_place.new.store c.append_command.new.self (fetched g at.In_ok-require_place) (g.met.M.Machine.lawful c.require_place.new.machine)
          (values g at.In_ok-copies) c.in_ok-copies.ensures.ready (place g at.In_ok-require_place) c.in_err-append_command.ensures);
      in_world = λ p w shows. at_err (λ r. HasCauseIn c.args.grouped (meaning_in g.O.Oper.meaning p) p.limit w (log_length c.args.store.now) c.args.op r) c.from_residual-in_err-append_command.result Memory c.from_residual-in_err-append_command.ensures.1 tt;
      outcome =
          at_err (λ r. IsOutcome g.O.Oper.meaning c.args.grouped old new c.args.store.now.parts c.append_command.new.self.parts c.args.op r) c.from_residual-in_err-append_command.result Memory c.from_residual-in_err-append_command.ensures.1
          (short_outcome g.O.Oper.meaning c.args.grouped c.args.op old new c.args.store.now c.require_place.new.store c.append_command.new.self (fetched g at.In_ok-require_place) (g.met.M.Machine.lawful c.require_place.new.machine)
          (values g at.In_ok-copies) c.in_ok-copies.ensures.ready (place g at.In_ok-require_place) c.in_err-append_command.ensures);
    }

-- it is done
pub returns : goal.returns
returns g c =
    let at = goal.at.returns g c in
    record {
      call =
          finished_call g.O.Oper.meaning c.args.grouped c.args.op (g.M.Machine.disk c.args.machine.now) (g.M.Machine.disk c.require_place.new.machine) c.args.store.now c.require_place.new.store c.append_command.new.self
          (fetched g at.In_ok-require_place) (g.met.M.Machine.lawful c.require_place.new.machine) (values g at.In_ok-copies) c.in_ok-copies.ensures.ready (place g at.In_ok-require_place) (done_on g at.In_ok-require_place c.append_command.new.self c.in_ok-append_command.ensures);
      takes =
          finished_takes g.O.Oper.meaning c.args.grouped c.args.op (g.M.Machine.disk c.args.machine.now) (g.M.Machine.disk c.require_place.new.machine) c.args.store.now c.require_place.new.store c.append_command.new.self
          (fetched g at.In_ok-require_place) (g.met.M.Machine.lawful c.require_place.new.machine) (values g at.In_ok-copies) c.in_ok-copies.ensures.ready (place g at.In_ok-require_place) (done_on g at.In_ok-require_place c.append_command.new.self c.in_ok-append_command.ensures)
          g.met.O.Oper.bounded g.met.O.Oper.lawful c.in_ok-copies.ensures.read c.append_keeps.ensures.command;
      in_world = λ p w shows.
          finished_cause g.O.Oper.meaning c.args.grouped c.args.op (g.M.Machine.disk c.args.machine.now) (g.M.Machine.disk c.require_place.new.machine) c.args.store.now c.require_place.new.store c.append_command.new.self
          (fetched g at.In_ok-require_place) (g.met.M.Machine.lawful c.require_place.new.machine) (values g at.In_ok-copies) c.in_ok-copies.ensures.ready (place g at.In_ok-require_place) (done_on g at.In_ok-require_place c.append_command.new.self c.in_ok-append_command.ensures)
          g.met.O.Oper.bounded g.met.O.Oper.lawful c.in_ok-copies.ensures.read c.append_keeps.ensures.command p w shows c.accepted.result (c.accepted.ensures ∙ ap (λ (l : RecordLogView). l.accepted) c.log.ensures);
      outcome =
          finished_outcome g.O.Oper.meaning c.args.grouped c.args.op (g.M.Machine.disk c.args.machine.now) (g.M.Machine.disk c.require_place.new.machine) c.args.store.now c.require_place.new.store c.append_command.new.self
          (fetched g at.In_ok-require_place) (g.met.M.Machine.lawful c.require_place.new.machine) (values g at.In_ok-copies) c.in_ok-copies.ensures.ready (place g at.In_ok-require_place) (done_on g at.In_ok-require_place c.append_command.new.self c.in_ok-append_command.ensures) c.accepted.result
          (c.accepted.ensures ∙ ap (λ (l : RecordLogView). l.accepted) c.log.ensures);
    }
