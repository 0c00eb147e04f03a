use Rattle.explain_core.proofs.Exact.{can-gives, can-from, node-whole}
use Rattle.explain_core.proofs.flush_order.minimal_nodes_are_whole.Goals as goal

pub returns : goal.returns
returns g c = record {
  whole = λ b h i node s first e inside is. can-from (g.O.Oper.meaning b) h i node s first e inside is.1;
  part = λ b h i node part s held lacked first e inside is of there in_node off can.
      node-whole _ node part is of (can-gives (g.O.Oper.meaning b) h i part s first e (λ n there. inside n (of n there)) can) lacked held in_node off there;
}
