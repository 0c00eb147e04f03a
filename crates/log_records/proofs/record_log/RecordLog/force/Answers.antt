use Rattle.std.proofs.Common.{refl, ap}
use Rattle.log_blocks.specs.LogView.{LogView}
use Rattle.log_records.specs.RecordLaws.{force_moments, force_acknowledged}
use Rattle.log_records.proofs.record_log.RecordLog.force.Goals as goal

pub returns-in_err-force-clause-any_moment : goal.returns-in_err-force-clause-any_moment
returns-in_err-force-clause-any_moment g c = λ told stable pending keeps.
    force_moments (g.O.Oper.meaning c.args.self.now.bounds) (g.M.Machine.disk c.args.m.now) (g.M.Machine.disk c.force.new.machine) c.args.self.now _ c.self.view_is (c.force.ensures.any_moment told) stable pending keeps

pub returns-clause-any_moment : goal.returns-clause-any_moment
returns-clause-any_moment g c = λ told stable pending keeps.
    force_moments (g.O.Oper.meaning c.args.self.now.bounds) (g.M.Machine.disk c.args.m.now) (g.M.Machine.disk c.force.new.machine) c.args.self.now _ c.self.view_is (c.force.ensures.any_moment told) stable pending keeps

pub returns-clause-acknowledged : goal.returns-clause-acknowledged
returns-clause-acknowledged g c = λ told stable pending keeps.
    force_acknowledged (g.O.Oper.meaning c.args.self.now.bounds) (g.M.Machine.disk c.args.m.now) (g.M.Machine.disk c.force.new.machine) c.args.self.now _ _ c.self.view_is told c.force.ensures.runs (c.in_ok-force.ensures.acknowledged told)
    (ap (λ (v : LogView). v.active) c.in_ok-force.ensures.forced) (ap (λ (v : LogView). v.header) c.in_ok-force.ensures.forced) (ap (λ (v : LogView). v.pending) c.in_ok-force.ensures.forced) refl refl refl stable pending keeps
