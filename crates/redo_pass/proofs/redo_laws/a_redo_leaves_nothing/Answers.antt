use Rattle.std.proofs.Common.{ap, ℕ, Bool}
use Rattle.standing.specs.Crashed.{crashed-graph}
use Rattle.redo_pass.proofs.Ends.{redone_live}
use Rattle.redo_pass.proofs.redo_laws.a_redo_leaves_nothing.Goals as goal

pub returns : goal.returns
returns g c b w marks crashed = redone_live (g.O.Oper.meaning b) marks w (λ n. ap (λ (f : ℕ → Bool). f n) (crashed-graph (g.O.Oper.meaning b) w crashed))
