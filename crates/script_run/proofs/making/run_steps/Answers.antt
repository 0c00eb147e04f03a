use Rattle.std.proofs.Common.{refl}
use Rattle.app_steps.specs.Steps.{step_of}
use Rattle.script_lines.specs.declared.line.Line.TheVariants.{Make}
use Rattle.script_lines.specs.declared.line.Making.TheVariants.{AppRun as arun}
use Rattle.script_run.proofs.MakingLemmas.{ran_badly, ran_well}
use Rattle.script_run.proofs.making.run_steps.Goals as goal

pub returns-in-Ok : goal.returns-in-Ok
returns-in-Ok g c =
    ran_well _ _ _ _ (Make (arun c.args.app c.args.most)) (step_of c.args.app) c.args.most (λ p commands. refl)
    c.in-Ok.count c.in-Ok.ensures.calls c.in-Ok.ensures.adds c.in-Ok.ensures.answer

pub returns-in-Err : goal.returns-in-Err
returns-in-Err g c =
    ran_badly _ _ _ _ (Make (arun c.args.app c.args.most)) (step_of c.args.app) c.args.most (λ p commands. refl)
    c.in-Err.error c.in-Err.ensures.calls c.in-Err.ensures.adds c.in-Err.ensures.answer c.error_answer.ensures
