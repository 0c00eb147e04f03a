use Rattle.std.proofs.Common.{ap}
use Rattle.script_lines.specs.declared.line.Line.TheVariants.{Group}
use Rattle.script_lines.specs.declared.line.Grouping.{Grouping}
use Rattle.script_lines.specs.declared.line.Grouping.TheVariants.{Abort, Begin, End}
use Rattle.script_run.proofs.FindingLemmas.{begin_finds, finds_for}
use Rattle.script_run.proofs.grouping.group_answer.Goals as goal

pub returns-in-Begin : goal.returns-in-Begin
returns-in-Begin g c = finds_for (Group Begin) (ap (λ (k : Grouping). Group k) c.in-Begin.is) (begin_finds g.M.Machine.disk c.begin.result c.worked.ensures (g.met.M.Machine.lawful c.args.machine.now) c.requires c.begin.ensures.in_group c.begin.ensures.alone)

pub returns-in-End : goal.returns-in-End
returns-in-End g c = finds_for (Group End) (ap (λ (k : Grouping). Group k) c.in-End.is) c.end_answer.ensures

pub returns-in-Abort : goal.returns-in-Abort
returns-in-Abort g c = finds_for (Group Abort) (ap (λ (k : Grouping). Group k) c.in-Abort.is) c.abort_answer.ensures
