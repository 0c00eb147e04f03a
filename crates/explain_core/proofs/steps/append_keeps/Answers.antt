use Rattle.explain_core.proofs.Append.{append_sound}
use Rattle.explain_core.specs.History.Member.{Command, Identity}
use Rattle.std.proofs.Common.{refl, sym, subst, ℕ, ◌<◌}
use Rattle.explain_core.proofs.steps.append_keeps.Goals as goal

pub returns : goal.returns
returns g c = record {
  command = λ b w op s live may. append_sound (g.O.Oper.meaning b) w (Command op) live may s;
  identity = λ b w x s live none lt. append_sound (g.O.Oper.meaning b) w (Identity x (w.cache x).value) live (subst (λ (n : ℕ). x < n) (sym (g.met.O.Oper.bounded b).objects) lt, refl, none) s;
}
