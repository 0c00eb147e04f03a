use Rattle.std.proofs.Common.{◌≡◌, refl, sym, subst, ℕ, Option}
use Rattle.std.specs.Prelude.{IfOk}
use Rattle.running_store.specs.Calls.{ending_of_read}
use Rattle.running_store.specs.Kept.{StopsAt}
use Rattle.running_store.specs.Parts.{meaning_in}
use Rattle.running_store.specs.StoreView.{log_length}
use Rattle.running_store.specs.Taking.{Takes}
use Rattle.running_store.specs.Taking.Ending.{Done}
use Rattle.running_store.specs.Taking.Laws.{takes_none}
use Rattle.checkpointing.specs.Courses.{trim_due, trim_within, unstopped}
use Rattle.checkpointing.specs.Told.{outcome_of}
use Rattle.checkpointing.specs.declared.task_outcome.TaskOutcome.TheVariants.{NotDue}
use Rattle.checkpointing.proofs.Kept.{trimmed_call, trimmed_takes, trimmed_told}
use Rattle.checkpointing.proofs.keeping.trim_if_due.Goals as goal

pub returns-in_default-clause-takes : goal.returns-in_default-clause-takes
returns-in_default-clause-takes g c =
    let d = g.M.Machine.disk c.args.machine.now in
    let it = c.args.store.now.parts in
    subst (λ (due : Option ℕ). Takes g.O.Oper.meaning d d it it (λ m w used. unstopped (trim_due m due it.log.log.header.epoch w used)) Done) (sym c.in_default.is) (takes_none g.O.Oper.meaning d it (g.met.M.Machine.lawful c.args.machine.now))

pub returns-clause-call : goal.returns-clause-call
returns-clause-call g c =
    trimmed_call g.O.Oper.meaning (g.M.Machine.disk c.args.machine.now) (g.M.Machine.disk c.trim-answer.new.machine) c.args.store.now c.trim-answer.new.store c.outcome_of_trim.result c.trim-answer.result c.outcome_of_trim.ensures
    (StopsAt c.in-Some.most) c.trim-answer.ensures.counts.next c.trim-answer.ensures.call

pub returns-clause-takes : goal.returns-clause-takes
returns-clause-takes g c =
    let d = g.M.Machine.disk c.args.machine.now in
    let new = g.M.Machine.disk c.trim-answer.new.machine in
    let it = c.args.store.now in
    let after = c.trim-answer.new.store in
    let epoch = it.parts.log.log.header.epoch in
    subst (λ (due : Option ℕ). Takes g.O.Oper.meaning d new it.parts after.parts (λ m w used. unstopped (trim_due m due epoch w used)) (ending_of_read c.outcome_of_trim.result)) (sym c.in-Some.is)
    (trimmed_takes g.O.Oper.meaning d new it after c.outcome_of_trim.result c.trim-answer.result c.outcome_of_trim.ensures c.in-Some.most epoch c.trim-answer.ensures.takes)

pub returns-in_default-clause-told : goal.returns-in_default-clause-told
returns-in_default-clause-told g c = λ p w shows.
    let m = meaning_in g.O.Oper.meaning p in
    let it = c.args.store.now in
    subst (λ (due : Option ℕ). NotDue ≡ outcome_of due (trim_due m due it.parts.log.log.header.epoch w (log_length it)).stop) (sym c.in_default.is) refl

pub returns-clause-told : goal.returns-clause-told
returns-clause-told g c = λ p w shows.
    let m = meaning_in g.O.Oper.meaning p in
    let it = c.args.store.now in
    let epoch = it.parts.log.log.header.epoch in
    subst (λ (due : Option ℕ). IfOk c.outcome_of_trim.result (λ k. k ≡ outcome_of due (trim_due m due epoch w (log_length it)).stop)) (sym c.in-Some.is)
    (trimmed_told g.O.Oper.meaning (g.M.Machine.disk c.args.machine.now) (g.M.Machine.disk c.trim-answer.new.machine) it c.trim-answer.new.store c.outcome_of_trim.result c.trim-answer.result c.outcome_of_trim.ensures
    m p w (trim_within m c.in-Some.most epoch w (log_length it)) (c.trim-answer.ensures.takes.follows p w shows))
