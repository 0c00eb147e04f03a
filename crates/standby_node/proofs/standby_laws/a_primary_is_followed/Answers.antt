use Rattle.standby_node.proofs.Primary.{all_lead, parts_of, stable_parts}
use Rattle.standby_node.proofs.standby_laws.a_primary_is_followed.Goals as goal

pub returns-clause-fine : goal.returns-clause-fine
returns-clause-fine g c = λ b d history n from records small_b small_d within is few low high are members.
    let wide = (c.wider_bounds_keep_stable_parts.ensures b d (parts_of history) history _ small_b within (stable_parts (g.O.Oper.meaning b) history is)).members in
    (all_lead (g.O.Oper.meaning d) history wide (λ s member. (c.records_are_judged.ensures.member d s member).1) (g.O.Oper.meaning b) from n from records are few low high members).fine

pub returns-clause-followed : goal.returns-clause-followed
returns-clause-followed g c = λ b d history n from records small_b small_d within is few low high are members.
    let wide = (c.wider_bounds_keep_stable_parts.ensures b d (parts_of history) history _ small_b within (stable_parts (g.O.Oper.meaning b) history is)).members in
    (all_lead (g.O.Oper.meaning d) history wide (λ s member. (c.records_are_judged.ensures.member d s member).1) (g.O.Oper.meaning b) from n from records are few low high members).followed
