use Rattle.analysis_pass.proofs.Checkpoints.{checkpoint_starts, plan_starts}
use Rattle.analysis_pass.proofs.plan_start.a_plan_starts_at_the_least_start.Goals as goal

pub returns-clause-checkpoint : goal.returns-clause-checkpoint
returns-clause-checkpoint g c b base next table is = checkpoint_starts (g.O.Oper.meaning b) base next table is

pub returns-clause-plan : goal.returns-clause-plan
returns-clause-plan g c b base records are = plan_starts (g.O.Oper.meaning b) base base records are
