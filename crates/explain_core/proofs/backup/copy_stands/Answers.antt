use Rattle.explain_core.proofs.BackupRuns.{copy-explained, copy-stands, copy-fits}
use Rattle.std.proofs.Common.{[], ◌∷◌}
use Rattle.explain_core.specs.World.{plan_of}
use Rattle.explain_core.proofs.backup.copy_stands.Goals as goal

pub returns : goal.returns
returns g c = record {
  explained = λ b w copied cells s is. copy-explained (g.O.Oper.meaning b) w copied cells s is;
  stands = λ b w copied cells s is. copy-stands (g.O.Oper.meaning b) w copied cells s is [] tt;
  with_checkpoint = λ b w copied cells s is. copy-stands (g.O.Oper.meaning b) w copied cells s is (plan_of [] w.base ∷ []) (copy-fits (g.O.Oper.meaning b) w copied cells s is, tt);
}
