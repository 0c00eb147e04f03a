use Rattle.std.proofs.Common.{ap, Some}
use Rattle.script_lines.specs.declared.line.Line.TheVariants.{Save}
use Rattle.script_lines.specs.declared.line.Saving.{Saving}
use Rattle.script_lines.specs.declared.line.Saving.TheVariants.{Start, Copy, Finish}
use Rattle.script_run.proofs.AnsweringLemmas.{saving_finds}
use Rattle.script_run.proofs.FindingLemmas.{beside_for}
use Rattle.script_run.proofs.saving.saving_answer.Goals as goal

pub returns-in-Start : goal.returns-in-Start
returns-in-Start g c = beside_for (Some (Save Start)) (ap (λ (s : Saving). Some (Save s)) c.in-Start.is)
    (saving_finds g.M.Machine.disk g.T.Machine.disk Start (g.met.M.Machine.lawful c.args.machine.now) c.started.ensures.call c.started.ensures.inside c.started.ensures.done)

pub returns-in-Copy : goal.returns-in-Copy
returns-in-Copy g c = beside_for (Some (Save (Copy c.in-Copy.count))) (ap (λ (s : Saving). Some (Save s)) c.in-Copy.is)
    (saving_finds g.M.Machine.disk g.T.Machine.disk (Copy c.in-Copy.count) (g.met.M.Machine.lawful c.args.machine.now) c.copied.ensures.call c.copied.ensures.inside c.copied.ensures.done)

pub returns-in-Finish : goal.returns-in-Finish
returns-in-Finish g c = beside_for (Some (Save Finish)) (ap (λ (s : Saving). Some (Save s)) c.in-Finish.is)
    (saving_finds g.M.Machine.disk g.T.Machine.disk Finish (g.met.M.Machine.lawful c.args.machine.now) c.finished.ensures.call c.finished.ensures.inside c.finished.ensures.done)
