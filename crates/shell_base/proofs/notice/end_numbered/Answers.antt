use Rattle.std.proofs.Common.{◌∙◌, List, ℕ, subst}
use Rattle.disk_model.specs.Disk.{Runs, Same, SaysFront}
use Rattle.disk_model.specs.Moments.{stays_here}
use Rattle.shell_base.specs.Notices.{with_lsn}
use Rattle.shell_base.specs.KeepLaws.{says_more, says_once, stays_silent}
use Rattle.shell_base.proofs.notice.end_numbered.Goals as goal

pub returns-in-Ok-clause-says : goal.returns-in-Ok-clause-says
returns-in-Ok-clause-says g c = says_once (g.M.Machine.disk c.args.machine.now) (g.M.Machine.disk c.end_with.new.machine) c.end_with.ensures.runs

pub returns-in-Err-clause-says : goal.returns-in-Err-clause-says
returns-in-Err-clause-says g c = says_once (g.M.Machine.disk c.args.machine.now) (g.M.Machine.disk c.args.machine.now) (stays_here (g.M.Machine.disk c.args.machine.now) (g.met.M.Machine.lawful c.args.machine.now))

pub returns-in-Ok-clause-runs : goal.returns-in-Ok-clause-runs
returns-in-Ok-clause-runs g c = subst (λ (l : List ℕ). Runs Same (SaysFront l) (g.M.Machine.disk c.args.machine.now) (g.M.Machine.disk c.end_with.new.machine)) (c.as_slice.ensures.value ∙ c.in-Ok.ensures) c.end_with.ensures.runs

pub returns-in-Err-clause-runs : goal.returns-in-Err-clause-runs
returns-in-Err-clause-runs g c = says_more (with_lsn c.args.text.now c.args.numbers.now) (stays_silent (stays_here (g.M.Machine.disk c.args.machine.now) (g.met.M.Machine.lawful c.args.machine.now)))
