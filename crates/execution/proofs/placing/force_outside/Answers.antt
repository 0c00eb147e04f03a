use Rattle.std.proofs.Common.{sym, subst, refl, Bool}
use Rattle.running_store.specs.Calls.{Never, call_none, ending_of_force}
use Rattle.running_store.specs.Courses.{course}
use Rattle.running_store.specs.Courses.Stop.{Through}
use Rattle.running_store.specs.Taking.{Takes}
use Rattle.running_store.specs.Taking.Ending.{Done}
use Rattle.running_store.specs.Taking.Laws.{takes_none}
use Rattle.execution.specs.Courses.{unplaced_steps}
use Rattle.execution.specs.Done.{IsUnplaced}
use Rattle.execution.proofs.Unplaced.{forced_outside}
use Rattle.execution.proofs.placing.force_outside.Goals as goal

pub returns-then-grouped-clause-call : goal.returns-then-grouped-clause-call
returns-then-grouped-clause-call g c = call_none g.O.Oper.meaning (g.M.Machine.disk c.args.machine.now) c.args.store.now Never (g.met.M.Machine.lawful c.args.machine.now) c.requires.unbroken

pub returns-then-grouped-clause-takes : goal.returns-then-grouped-clause-takes
returns-then-grouped-clause-takes g c =
    let d = g.M.Machine.disk c.args.machine.now in
    let it = c.args.store.now.parts in
    subst (λ (b : Bool). Takes g.O.Oper.meaning d d it it (λ m w used. course (unplaced_steps m b w) used Through) Done) (sym c.if-grouped.true) (takes_none g.O.Oper.meaning d it (g.met.M.Machine.lawful c.args.machine.now))

pub returns-then-grouped-clause-forced : goal.returns-then-grouped-clause-forced
returns-then-grouped-clause-forced g c = let log = c.args.store.now.parts.log in (subst (λ (b : Bool). IsUnplaced b log log) (sym c.if-grouped.true) refl, refl)

pub returns-clause-takes : goal.returns-clause-takes
returns-clause-takes g c =
    subst (λ (b : Bool). Takes g.O.Oper.meaning (g.M.Machine.disk c.args.machine.now) (g.M.Machine.disk c.force.new.machine) c.args.store.now.parts c.force.new.self.parts (λ m w used. course (unplaced_steps m b w) used Through) (ending_of_force c.force.result))
    (sym c.if-grouped.false) c.force.ensures.takes

pub returns-clause-forced : goal.returns-clause-forced
returns-clause-forced g c = forced_outside c.args.grouped c.if-grouped.false c.args.store.now c.force.new.self c.force.result c.force.ensures.forced
