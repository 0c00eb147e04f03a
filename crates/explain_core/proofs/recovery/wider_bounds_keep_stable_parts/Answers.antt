use Rattle.std.proofs.Common.{arith}
use Rattle.explain_core.proofs.Wider.{stable-wider}
use Rattle.explain_core.proofs.recovery.wider_bounds_keep_stable_parts.Goals as goal

pub returns : goal.returns
returns g c = λ b d parts h installed small within s.
    let low = (g.met.O.Oper.bounded b).objects in
    let high = (g.met.O.Oper.bounded d).objects in
    stable-wider (g.O.Oper.meaning b) (g.O.Oper.meaning d) (g.met.O.Oper.lawful b small) (g.met.O.Oper.widens b d within) (omega (arith, low, high, within.objects)) parts h installed s
