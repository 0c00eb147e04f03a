use Rattle.std.proofs.Common.{◌∙◌, ◌++◌, ℕ, List, ap, subst, sym}
use Rattle.disk_model.specs.Disk.{Runs, Same, SaysFront}
use Rattle.script_run.proofs.SayLemmas.{said_done}
use Rattle.script_run.proofs.say.say_answer.Goals as goal

pub returns-in_err-say_line-clause-runs : goal.returns-in_err-say_line-clause-runs
returns-in_err-say_line-clause-runs g c =
    subst (λ (l : List ℕ). Runs Same (SaysFront l) (g.M.Machine.disk c.args.machine.now) (g.M.Machine.disk c.say_line.new.machine)) (sym (said_done c.args.answer.now c.in-Done.is)) c.say_line.ensures.runs

pub returns-in-Done-clause-runs : goal.returns-in-Done-clause-runs
returns-in-Done-clause-runs g c =
    subst (λ (l : List ℕ). Runs Same (SaysFront l) (g.M.Machine.disk c.args.machine.now) (g.M.Machine.disk c.say_line.new.machine)) (sym (said_done c.args.answer.now c.in-Done.is)) c.say_line.ensures.runs

pub returns-in-Done-clause-all : goal.returns-in-Done-clause-all
returns-in-Done-clause-all g c told =
    c.in_ok-say_line.ensures.all told ∙ ap (λ (l : List ℕ). (g.M.Machine.disk c.args.machine.now).said ++ l) (sym (said_done c.args.answer.now c.in-Done.is))
