use Rattle.explain_core.proofs.GroupRuns.{unsplit-open, unsplit-closed, closed-whole}
use Rattle.explain_core.proofs.recovery.forced_splits_no_group.Goals as goal

pub returns : goal.returns
returns g c = record {
  opened = λ b w steps small sound may. unsplit-open (g.O.Oper.meaning b) (g.met.O.Oper.lawful b small) w sound steps may;
  closed = λ b w steps small sound may. unsplit-closed (g.O.Oper.meaning b) (g.met.O.Oper.lawful b small) w sound steps may;
  whole = λ b w steps small sound may. closed-whole (g.O.Oper.meaning b) (g.met.O.Oper.lawful b small) w sound steps may;
}
