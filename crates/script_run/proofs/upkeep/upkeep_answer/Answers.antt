use Rattle.std.proofs.Common.{ap, refl}
use Rattle.script_lines.specs.declared.line.Line.TheVariants.{Keep}
use Rattle.script_lines.specs.declared.line.Upkeep.{Upkeep}
use Rattle.script_lines.specs.declared.line.Upkeep.TheVariants.{Install, Drain, Checkpoint, Trim}
use Rattle.script_run.specs.Found.{answer_of_work}
use Rattle.script_run.proofs.DoneLemmas.{by_group}
use Rattle.script_run.proofs.FindingLemmas.{finds_for, upkeep_finds}
use Rattle.script_run.proofs.UpkeepLemmas.{barred_by, checkpointed_upkept, denied_in, drained_upkept, installed_upkept, trimmed_upkept}
use Rattle.script_run.proofs.upkeep.upkeep_answer.Goals as goal

pub returns-in-Install : goal.returns-in-Install
returns-in-Install g c = finds_for (Keep Install) (ap (λ (u : Upkeep). Keep u) c.in-Install.is) (upkeep_finds g.M.Machine.disk Install c.identities_are_counted.ensures (g.met.M.Machine.lawful c.args.machine.now) c.requires
    (λ some. barred_by (λ r. answer_of_work r) (λ size. refl) c.install_one.result c.worked.result c.install_one.ensures.in_group c.worked.ensures some)
    (λ none beside. absurd (beside tt)) (λ none beside. installed_upkept c.install_one.result (c.install_one.ensures.alone none) c.worked.ensures))

pub returns-in-Drain : goal.returns-in-Drain
returns-in-Drain g c = finds_for (Keep Drain) (ap (λ (u : Upkeep). Keep u) c.in-Drain.is) (upkeep_finds g.M.Machine.disk Drain c.identities_are_counted.ensures (g.met.M.Machine.lawful c.args.machine.now) c.requires
    (λ some. barred_by (λ r. answer_of_work r) (λ size. refl) c.drain.result c.worked-in-Drain.result c.drain.ensures.in_group c.worked-in-Drain.ensures some)
    (λ none beside. absurd (beside tt)) (λ none beside. drained_upkept c.drain.result (c.drain.ensures.alone none) c.worked-in-Drain.ensures))

pub returns-in-Checkpoint : goal.returns-in-Checkpoint
returns-in-Checkpoint g c = finds_for (Keep Checkpoint) (ap (λ (u : Upkeep). Keep u) c.in-Checkpoint.is) (upkeep_finds g.M.Machine.disk Checkpoint c.identities_are_counted.ensures (g.met.M.Machine.lawful c.args.machine.now) c.requires
    (λ some. barred_by (λ r. answer_of_work r) (λ size. refl) c.checkpoint.result c.worked-in-Checkpoint.result c.checkpoint.ensures.in_group c.worked-in-Checkpoint.ensures some)
    (λ none beside. absurd (beside tt)) (λ none beside. checkpointed_upkept c.checkpoint.result (c.checkpoint.ensures.alone none) c.worked-in-Checkpoint.ensures))

pub returns-in-Trim : goal.returns-in-Trim
returns-in-Trim g c = finds_for (Keep Trim) (ap (λ (u : Upkeep). Keep u) c.in-Trim.is) (upkeep_finds g.M.Machine.disk Trim c.identities_are_counted.ensures (g.met.M.Machine.lawful c.args.machine.now) c.requires
    (λ some. barred_by (λ r. answer_of_work r) (λ size. refl) c.trim.result c.worked-in-Trim.result c.trim.ensures.in_group c.worked-in-Trim.ensures some)
    (λ none beside. by_group c.args.engine.now.copied (λ some. denied_in c.trim.result c.worked-in-Trim.result (c.trim.ensures.in_backup none) c.worked-in-Trim.ensures some) (λ uncopied. absurd (beside uncopied)))
    (λ none uncopied. trimmed_upkept c.trim.result uncopied (c.trim.ensures.alone none uncopied) c.worked-in-Trim.ensures))
