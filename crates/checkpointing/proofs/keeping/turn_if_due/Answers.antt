use Rattle.std.proofs.Common.{◌≡◌, refl, sym, subst, ℕ, Option}
use Rattle.std.specs.Prelude.{IfOk, max}
use Rattle.running_store.specs.Calls.{ending_of_read}
use Rattle.running_store.specs.Parts.{meaning_in}
use Rattle.running_store.specs.StoreView.{log_length}
use Rattle.running_store.specs.Taking.{Takes}
use Rattle.running_store.specs.Taking.Ending.{Done}
use Rattle.running_store.specs.Taking.Laws.{takes_none}
use Rattle.cache_manager.specs.InstallCourses.{turn_course}
use Rattle.checkpointing.specs.Courses.{turn_due, unstopped}
use Rattle.checkpointing.specs.Told.{outcome_of}
use Rattle.checkpointing.specs.declared.task_outcome.TaskOutcome.TheVariants.{NotDue}
use Rattle.checkpointing.proofs.Kept.{turned_takes, turned_told}
use Rattle.checkpointing.proofs.keeping.turn_if_due.Goals as goal

pub returns-in_default-clause-takes : goal.returns-in_default-clause-takes
returns-in_default-clause-takes g c =
    let d = g.M.Machine.disk c.args.machine.now in
    let it = c.args.store.now.parts in
    subst (λ (due : Option ℕ). Takes g.O.Oper.meaning d d it it (λ m w used. unstopped (turn_due m due c.args.copied w used)) Done) (sym c.in_default.is) (takes_none g.O.Oper.meaning d it (g.met.M.Machine.lawful c.args.machine.now))

pub returns-clause-takes : goal.returns-clause-takes
returns-clause-takes g c =
    let d = g.M.Machine.disk c.args.machine.now in
    let new = g.M.Machine.disk c.tend-answer.new.machine in
    let it = c.args.store.now in
    let after = c.tend-answer.new.store in
    subst (λ (due : Option ℕ). Takes g.O.Oper.meaning d new it.parts after.parts (λ m w used. unstopped (turn_due m due c.args.copied w used)) (ending_of_read c.outcome_of_turn.result)) (sym c.in-Some.is)
    (turned_takes g.O.Oper.meaning d new it after c.outcome_of_turn.result c.tend-answer.result c.outcome_of_turn.ensures c.args.copied (max 1 c.in-Some.most) c.tend-answer.ensures.takes)

pub returns-in_default-clause-told : goal.returns-in_default-clause-told
returns-in_default-clause-told g c = λ p w shows.
    let m = meaning_in g.O.Oper.meaning p in
    let it = c.args.store.now in
    subst (λ (due : Option ℕ). NotDue ≡ outcome_of due (turn_due m due c.args.copied w (log_length it)).stop) (sym c.in_default.is) refl

pub returns-clause-told : goal.returns-clause-told
returns-clause-told g c = λ p w shows.
    let m = meaning_in g.O.Oper.meaning p in
    let it = c.args.store.now in
    subst (λ (due : Option ℕ). IfOk c.outcome_of_turn.result (λ k. k ≡ outcome_of due (turn_due m due c.args.copied w (log_length it)).stop)) (sym c.in-Some.is)
    (turned_told g.O.Oper.meaning (g.M.Machine.disk c.args.machine.now) (g.M.Machine.disk c.tend-answer.new.machine) it c.tend-answer.new.store c.outcome_of_turn.result c.tend-answer.result c.outcome_of_turn.ensures
    m p w (turn_course m c.args.copied (max 1 c.in-Some.most) w (log_length it)) (c.tend-answer.ensures.takes.follows p w shows))
