use Rattle.std.proofs.Common.{◌∙◌, List, ℕ, subst}
use Rattle.disk_model.specs.Disk.{Runs, Same, SaysFront}
use Rattle.disk_model.specs.Moments.{stays_here}
use Rattle.shell_base.specs.Notices.{smaller}
use Rattle.shell_base.specs.KeepLaws.{says_more, stays_silent}
use Rattle.store_words.proofs.upgrading.end_smaller.Goals as goal

pub returns-in-Ok-clause-runs : goal.returns-in-Ok-clause-runs
returns-in-Ok-clause-runs g c = subst (λ (l : List ℕ). Runs Same (SaysFront l) (g.M.Machine.disk c.args.machine.now) (g.M.Machine.disk c.end_with.new.machine)) (c.as_slice.ensures.value ∙ c.in-Ok.ensures) c.end_with.ensures.runs

pub returns-in-Err-clause-runs : goal.returns-in-Err-clause-runs
returns-in-Err-clause-runs g c = says_more (smaller c.args.objects c.args.cap) (stays_silent (stays_here (g.M.Machine.disk c.args.machine.now) (g.met.M.Machine.lawful c.args.machine.now)))
