use Rattle.std.proofs.Common.{◌∙◌, ap, subst, sym, Ok, Option, false}
use Rattle.script_lines.specs.Replies.{Reply}
use Rattle.script_lines.specs.declared.answer.Answer.{Answer}
use Rattle.script_run.specs.Finding.{IsSaid, reply_if}
use Rattle.script_run.proofs.AnsweringLemmas.{said_nothing}
use Rattle.script_run.proofs.outcome.say_outcome.Goals as goal

pub returns-in-Some : goal.returns-in-Some
returns-in-Some g c =
    subst (λ (r : Reply). IsSaid r (g.M.Machine.disk c.args.machine.now) (g.M.Machine.disk c.say_answer.new.machine) c.say_answer.result) (ap (λ (a : Option Answer). reply_if a) (sym c.in-Some.is) ∙ c.answer.ensures)
    (record { runs = c.say_answer.ensures.runs; all = c.say_answer.ensures.all; kind = c.say_answer.ensures.kind; cause = c.say_answer.ensures.cause; undamaged = c.say_answer.ensures.undamaged })

pub returns-in-None : goal.returns-in-None
returns-in-None g c =
    subst (λ (r : Reply). IsSaid r (g.M.Machine.disk c.args.machine.now) (g.M.Machine.disk c.args.machine.now) (Ok false)) (ap (λ (a : Option Answer). reply_if a) (sym c.in-None.is) ∙ c.answer.ensures)
    (said_nothing (g.met.M.Machine.lawful c.args.machine.now))
