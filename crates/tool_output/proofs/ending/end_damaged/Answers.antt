use Rattle.std.proofs.Common.{◌∙◌, refl}
use Rattle.disk_model.specs.Moments.{stays_here}
use Rattle.tool_output.specs.Lines.{damaged}
use Rattle.tool_output.specs.Saying.{says_front, says_nothing}
use Rattle.tool_output.specs.FrontLaws.{front_at, nothing_said}
use Rattle.tool_output.proofs.ending.end_damaged.Goals as goal

pub returns-in-Ok-clause-runs : goal.returns-in-Ok-clause-runs
returns-in-Ok-clause-runs g c = says_front _ c.end_with.ensures.runs

pub returns-in-Err-clause-runs : goal.returns-in-Err-clause-runs
returns-in-Err-clause-runs g c = says_nothing (stays_here (g.M.Machine.disk c.args.machine.now) (g.met.M.Machine.lawful c.args.machine.now))

pub returns-in-Ok-clause-faults : goal.returns-in-Ok-clause-faults
returns-in-Ok-clause-faults g c = c.end_with.ensures.faults tt

pub returns-in-Ok-clause-front : goal.returns-in-Ok-clause-front
returns-in-Ok-clause-front g c told = front_at _ _ _ _ _ (c.as_slice.ensures.value ∙ c.in-Ok.ensures) refl (c.end_with.ensures.runs.said told)

pub returns-in-Err-clause-front : goal.returns-in-Err-clause-front
returns-in-Err-clause-front g c told = nothing_said (damaged c.args.file c.args.place) _ _ refl
