use Rattle.explain_core.specs.RoundGates.{gate_first, gate_then, gates_commute, gates_of, picked, picked_allowed, round_allowed}
use Rattle.explain_core.specs.RunLaws.{begins-allowed}
use Rattle.explain_core.proofs.Runs.{run_sound}
use Rattle.explain_core.proofs.rounds.any_gates_may_open.Goals as goal

pub returns : goal.returns
returns g c = record {
  commute = λ b w f h first second. let m = g.O.Oper.meaning b in ((gate_first m w f h first second, (gate_then m w f h first second, tt)), gates_commute m w f h first second);
  any = λ b w gates which small s may.
      let m = g.O.Oper.meaning b in
      let some = picked_allowed m which w gates may in
      (some, run_sound m (g.met.O.Oper.lawful b small) w (gates_of (picked which gates)) some s);
  together = λ b w gates apart each. round_allowed (g.O.Oper.meaning b) w gates apart each;
  begins = λ b w steps taken small s may is.
      let m = g.O.Oper.meaning b in
      let some = begins-allowed m w steps taken is may in
      (some, run_sound m (g.met.O.Oper.lawful b small) w taken some s);
}
