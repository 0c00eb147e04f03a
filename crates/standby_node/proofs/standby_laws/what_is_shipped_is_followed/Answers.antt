use Rattle.std.proofs.Common.{arith}
use Rattle.standby_node.proofs.Shipped.{blocks_are_from, shipped}
use Rattle.standby_node.proofs.standby_laws.what_is_shipped_is_followed.Goals as goal

pub returns-clause-frames : goal.returns-clause-frames
returns-clause-frames g c = λ b d base from groups small_b small_d within are.
    let low = g.met.O.Oper.bounded b in
    let high = g.met.O.Oper.bounded d in
    shipped (g.O.Oper.meaning b) (g.O.Oper.meaning d) (g.met.O.Oper.widens b d within) (omega (arith, low.objects, high.objects, within.objects)) (omega (arith, low.cap, high.cap, within.cap)) base base from groups are

pub returns-clause-placed : goal.returns-clause-placed
returns-clause-placed g c = λ b base from groups late are. (blocks_are_from (g.O.Oper.meaning b) base from groups late are).0

pub returns-clause-members : goal.returns-clause-members
returns-clause-members g c = λ b base from groups late are. (blocks_are_from (g.O.Oper.meaning b) base from groups late are).1
