use Rattle.formats.specs.Objects.{bounds_of}
use Rattle.redo_pass.proofs.Due.{due}
use Rattle.redo_pass.proofs.redo_laws.a_found_world_is_due.Goals as goal

pub returns : goal.returns
returns g c p files commands w found slots plan params of_file table start =
    due (g.O.Oper.meaning (bounds_of p)) (λ base records are. c.a_plan_starts_at_the_least_start.ensures.plan (bounds_of p) base records are) p files commands w found slots plan params of_file table start
