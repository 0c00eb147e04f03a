use Rattle.explain_core.proofs.BackupRuns.{copied-none, copied-step, copied-more}
use Rattle.explain_core.proofs.backup.copying_goes_on.Goals as goal

pub returns : goal.returns
returns g c = record {
  none = λ b w cells. copied-none (g.O.Oper.meaning b) w cells;
  step = λ b w next copied cells s is may rule. copied-step (g.O.Oper.meaning b) w next copied cells s may rule is;
  more = λ b w copied cells s is. copied-more (g.O.Oper.meaning b) w copied cells s is;
}
