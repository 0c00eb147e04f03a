use Rattle.std.proofs.Common.{ℕ, List, [], ◌∷◌}
use Rattle.oper_core.specs.Cell.{Cell}
use Rattle.explain_core.specs.Backup.{IsCopied}
use Rattle.explain_core.specs.Sound.{IsSound}
use Rattle.explain_core.specs.World.{IsAllowed, Step, World, run, step}
use Rattle.explain_core.proofs.CopyStays.{goes_on, run_one}
use Rattle.explain_core.proofs.backup.copy_stays.Goals as goal

pub returns : goal.returns
returns g c = record {
  steps = λ b copied cells w steps small is has may beside.
      goes_on (g.O.Oper.meaning b) copied cells (λ v s sound copy allowed rule. c.copying_goes_on.ensures.step b v s copied cells sound copy allowed rule)
      (λ v s sound allowed. run_one (g.O.Oper.meaning b) v s (c.every_run_keeps.ensures.from_sound b v (s ∷ []) small sound (allowed, tt))) w steps is has may beside;
  explained = λ b copied cells w steps small is has may beside.
      c.copy_stands.ensures.explained b (run (g.O.Oper.meaning b) w steps) copied cells (c.every_run_keeps.ensures.from_sound b w steps small is may)
      (goes_on (g.O.Oper.meaning b) copied cells (λ v s sound copy allowed rule. c.copying_goes_on.ensures.step b v s copied cells sound copy allowed rule)
      (λ v s sound allowed. run_one (g.O.Oper.meaning b) v s (c.every_run_keeps.ensures.from_sound b v (s ∷ []) small sound (allowed, tt))) w steps is has may beside);
}
