use Rattle.std.proofs.Common.{rules, ◌≡◌, ◌∙◌, ap, sym, subst, true}
use Rattle.std.specs.Prelude.{All}
use Rattle.log_records.specs.RecordLog.{RecordLogView}
use Rattle.dirty_cache.specs.Contents.{is_dirty}
use Rattle.running_store.specs.Calls.Laws.{failed_force, unbroken_after}
use Rattle.running_store.specs.Calls.{IsCall, Never, call_twice}
use Rattle.running_store.specs.Calls.RoundCalls.{AreFlushed, gates_course}
use Rattle.running_store.specs.StoreView.{StoreView, next_of}
use Rattle.running_store.specs.Taking.{Ending, Takes}
use Rattle.running_store.specs.Taking.Ending.{Done, Failed}
use Rattle.running_store.proofs.OfRounds.Ends.{round_taken, round_unforced, round_unopened}
use Rattle.running_store.proofs.store.Store.flush_round.Goals as goal

pub flush_together-requires-clause-unbroken : goal.flush_together-requires-clause-unbroken
flush_together-requires-clause-unbroken g c = unbroken_after g.O.Oper.meaning _ _ c.args.self.now c.force.new.self 0 Never c.in_ok-force.ensures.call

pub flush_together-requires-clause-dirty : goal.flush_together-requires-clause-dirty
flush_together-requires-clause-dirty g c = subst (λ (s : StoreView). All (λ x. is_dirty s.parts.volatile.objects.cache x ≡ true) c.args.objects.now) (sym c.in_ok-force.ensures.forced.1) c.requires.dirty

pub returns-in_err-force-clause-call : goal.returns-in_err-force-clause-call
returns-in_err-force-clause-call g c =
    subst (λ (k : Ending). IsCall g.O.Oper.meaning (g.M.Machine.disk c.args.machine.now) (g.M.Machine.disk c.force.new.machine) c.args.self.now c.force.new.self 0 Never k)
    (failed_force _ c.from_residual.result c.from_residual.ensures.1) c.in_err-force.ensures.call

pub returns-in_err-force-clause-takes : goal.returns-in_err-force-clause-takes
returns-in_err-force-clause-takes g c gates fits =
    let meaning = g.O.Oper.meaning in
    let d = g.M.Machine.disk c.args.machine.now in
    let mid = g.M.Machine.disk c.force.new.machine in
    let before = c.args.self.now.parts in
    let here = c.force.new.self.parts in
    subst (λ (k : Ending). Takes meaning d mid before here (λ m w used. gates_course m (gates m) w used) k) (failed_force _ c.from_residual.result c.from_residual.ensures.1)
    (round_unforced meaning d mid before here c.args.objects.now gates fits c.in_err-force.ensures.takes)

pub returns-in_err-force-clause-next : goal.returns-in_err-force-clause-next
returns-in_err-force-clause-next g c = ap next_of c.in_err-force.ensures.forced

pub returns-in_err-force-clause-entries : goal.returns-in_err-force-clause-entries
returns-in_err-force-clause-entries g c = ap (λ (s : StoreView). s.parts.volatile.entries) c.in_err-force.ensures.forced

pub returns-in_err-flush_together : goal.returns-in_err-flush_together
returns-in_err-flush_together g c =
    let d = g.M.Machine.disk c.args.machine.now in
    let mid = g.M.Machine.disk c.force.new.machine in
    let new = g.M.Machine.disk c.flush_together.new.machine in
    record {
      call =
          subst (λ (k : Ending). IsCall g.O.Oper.meaning d new c.args.self.now c.flush_together.new.self 0 Never k) (failed_force _ c.from_residual-in_err-flush_together.result c.from_residual-in_err-flush_together.ensures.1)
          (call_twice g.O.Oper.meaning d mid new c.args.self.now c.force.new.self c.flush_together.new.self 0 0 Never Never Failed c.in_ok-force.ensures.call c.in_err-flush_together.ensures.call);
      takes = λ gates fits.
          let meaning = g.O.Oper.meaning in
          let before = c.args.self.now.parts in
          let here = c.force.new.self.parts in
          let after = c.flush_together.new.self.parts in
          subst (λ (k : Ending). Takes meaning d new before after (λ m w used. gates_course m (gates m) w used) k) (failed_force _ c.from_residual-in_err-flush_together.result c.from_residual-in_err-flush_together.ensures.1)
          (round_unopened meaning d mid before here c.args.objects.now gates fits c.in_ok-force.ensures.call.quiet c.in_ok-force.ensures.takes new after c.flush_together.ensures.steps);
      next = ap (λ (l : RecordLogView). l.next) (c.flush_together.ensures.beside.objects.log ∙ c.in_ok-force.ensures.forced.0);
      entries = c.flush_together.ensures.entries ∙ ap (λ (s : StoreView). s.parts.volatile.entries) c.in_ok-force.ensures.forced.1;
      flushed = search rules;
    }

pub returns-clause-call : goal.returns-clause-call
returns-clause-call g c =
    call_twice g.O.Oper.meaning (g.M.Machine.disk c.args.machine.now) (g.M.Machine.disk c.force.new.machine) (g.M.Machine.disk c.flush_together.new.machine) c.args.self.now c.force.new.self c.flush_together.new.self 0 0 Never Never Done
    c.in_ok-force.ensures.call c.in_ok-flush_together.ensures.call

pub returns-clause-takes : goal.returns-clause-takes
returns-clause-takes g c gates fits =
    let mid = g.M.Machine.disk c.force.new.machine in
    let is = c.flush_together.ensures in
    round_taken g.O.Oper.meaning (g.M.Machine.disk c.args.machine.now) mid c.args.self.now.parts c.force.new.self.parts c.args.objects.now gates fits c.in_ok-force.ensures.call.quiet c.in_ok-force.ensures.takes
    (g.M.Machine.disk c.flush_together.new.machine) c.flush_together.new.self.parts is.steps (λ told. (is.beside.objects.runs.reads told).others) is.beside.objects.log c.in_ok-flush_together.ensures.shows

pub returns-clause-next : goal.returns-clause-next
returns-clause-next g c = ap (λ (l : RecordLogView). l.next) (c.flush_together.ensures.beside.objects.log ∙ c.in_ok-force.ensures.forced.0)

pub returns-clause-entries : goal.returns-clause-entries
returns-clause-entries g c = c.flush_together.ensures.entries ∙ ap (λ (s : StoreView). s.parts.volatile.entries) c.in_ok-force.ensures.forced.1

pub returns-clause-flushed : goal.returns-clause-flushed
returns-clause-flushed g c =
    subst (λ (s : StoreView). AreFlushed s.parts.volatile.objects c.flush_together.new.self.parts.volatile.objects c.args.objects.now) c.in_ok-force.ensures.forced.1 c.in_ok-flush_together.ensures.flushed
