use Rattle.std.proofs.Common.{arith, inr}
use Rattle.std.proofs.lemmas.List.{nil_from_length}
use Rattle.graph_nodes.proofs.Bare.{gathered-none}
use Rattle.graph_nodes.proofs.merging.gather.Goals as goal

pub returns-then-len-eq0-clause-gathered : goal.returns-then-len-eq0-clause-gathered
returns-then-len-eq0-clause-gathered c =
    let taken = c.args.taken.now.members in
    gathered-none taken c.args.node.now c.args.names.now c.args.members.now c.args.into.now (nil_from_length taken (omega (arith, c.if-len-eq0.true, c.len.ensures.count))) c.requires.filed

pub returns-clause-gathered : goal.returns-clause-gathered
returns-clause-gathered c = (c.largest-one.result, inr c.largest-one.ensures.there, c.merge.ensures, c.merge-2.ensures.merged)
