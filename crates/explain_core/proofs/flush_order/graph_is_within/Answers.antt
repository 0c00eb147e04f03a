use Rattle.std.proofs.Common.{ℕ, subst}
use Rattle.install_order.specs.Computed.{IsWithin}
use Rattle.explain_core.specs.World.{graph_access, end_of}
use Rattle.explain_core.specs.GraphLaws.{graph-within}
use Rattle.explain_core.proofs.flush_order.graph_is_within.Goals as goal

pub returns : goal.returns
returns g c b w small s =
    subst (λ (n : ℕ). IsWithin (graph_access (g.O.Oper.meaning b) w) n (end_of w)) (g.met.O.Oper.bounded b).objects
    (graph-within (g.O.Oper.meaning b) (g.met.O.Oper.lawful b small) w s)
