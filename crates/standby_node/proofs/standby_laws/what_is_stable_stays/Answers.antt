use Rattle.std.proofs.Common.{◌∙◌, arith, subst, sym}
use Rattle.std.proofs.lemmas.List.{take_all}
use Rattle.explain_core.specs.World.{run}
use Rattle.standby_node.specs.OnePrimary.{IsFront, stable_in}
use Rattle.standby_node.proofs.Settled.{restart_settled}
use Rattle.standby_node.proofs.Stays.{run_grown}
use Rattle.standby_node.proofs.standby_laws.what_is_stable_stays.Goals as goal

pub returns-clause-steps : goal.returns-clause-steps
returns-clause-steps g c = λ b w steps within. (run_grown (g.O.Oper.meaning b) w steps within).front

pub returns-clause-restart : goal.returns-clause-restart
returns-clause-restart g c = λ b w marks used within. (restart_settled (g.O.Oper.meaning b) w within marks used).history

pub returns-clause-begins : goal.returns-clause-begins
returns-clause-begins g c = λ b d w v steps marks used within all same.
    let settled = (restart_settled (g.O.Oper.meaning d) v (omega (arith, all)) marks used).history ∙ take_all v.forced v.history (omega (arith, all)) ∙ same in
    subst (λ h. IsFront h (stable_in (run (g.O.Oper.meaning b) w steps))) (sym settled) (run_grown (g.O.Oper.meaning b) w steps within).front
