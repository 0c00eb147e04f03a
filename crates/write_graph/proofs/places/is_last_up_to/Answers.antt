use Rattle.std.proofs.Common.{◌<◌, length, arith}
use Rattle.write_graph.proofs.places.is_last_up_to.Goals as goal

pub returns-clause-before : goal.returns-clause-before
returns-clause-before c t i le =
    let below : c.args.slot < length c.args.lsns.now = omega (arith, c.saturating_add-next.ensures, c.if-next-lsns.false) in
    omega (arith, c.requires.rising i c.args.slot le below, (c.is_between.ensures t).0)

pub returns-clause-after : goal.returns-clause-after
returns-clause-after c t i above lt =
    omega (arith, c.requires.rising c.saturating_add-next.result i (omega (arith, above, c.saturating_add-next.ensures)) lt, (c.is_between.ensures t).1)
