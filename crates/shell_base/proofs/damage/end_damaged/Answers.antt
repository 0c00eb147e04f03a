use Rattle.std.proofs.Common.{◌∙◌, List, ℕ, subst}
use Rattle.disk_model.specs.Disk.{Runs, Same, SaysFront}
use Rattle.disk_model.specs.Moments.{stays_here}
use Rattle.shell_base.specs.Notices.{damaged}
use Rattle.shell_base.specs.KeepLaws.{keeps_once, keeps_none, says_more, says_once, stays_silent}
use Rattle.shell_base.proofs.damage.end_damaged.Goals as goal

pub returns-in-Ok-clause-keeps : goal.returns-in-Ok-clause-keeps
returns-in-Ok-clause-keeps g c = keeps_once (g.M.Machine.disk c.args.machine.now) (g.M.Machine.disk c.end_with.new.machine) c.end_with.ensures.runs

pub returns-in-Err-clause-keeps : goal.returns-in-Err-clause-keeps
returns-in-Err-clause-keeps g c = keeps_none (g.M.Machine.disk c.args.machine.now) (g.met.M.Machine.lawful c.args.machine.now)

pub returns-in-Ok-clause-says : goal.returns-in-Ok-clause-says
returns-in-Ok-clause-says g c = says_once (g.M.Machine.disk c.args.machine.now) (g.M.Machine.disk c.end_with.new.machine) c.end_with.ensures.runs

pub returns-in-Err-clause-says : goal.returns-in-Err-clause-says
returns-in-Err-clause-says g c = says_once (g.M.Machine.disk c.args.machine.now) (g.M.Machine.disk c.args.machine.now) (stays_here (g.M.Machine.disk c.args.machine.now) (g.met.M.Machine.lawful c.args.machine.now))

pub returns-in-Ok-clause-runs : goal.returns-in-Ok-clause-runs
returns-in-Ok-clause-runs g c = subst (λ (l : List ℕ). Runs Same (SaysFront l) (g.M.Machine.disk c.args.machine.now) (g.M.Machine.disk c.end_with.new.machine)) (c.as_slice.ensures.value ∙ c.in-Ok.ensures) c.end_with.ensures.runs

pub returns-in-Err-clause-runs : goal.returns-in-Err-clause-runs
returns-in-Err-clause-runs g c = says_more (damaged c.args.file c.args.place) (stays_silent (stays_here (g.M.Machine.disk c.args.machine.now) (g.met.M.Machine.lawful c.args.machine.now)))
