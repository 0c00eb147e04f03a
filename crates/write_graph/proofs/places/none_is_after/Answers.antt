use Rattle.std.proofs.Common.{refl}
use Rattle.write_graph.proofs.Begins.{before-last}
use Rattle.write_graph.proofs.places.none_is_after.Goals as goal

pub returns : goal.returns
returns c t i lt = before-last c.args.lsns.now c.args.n _ c.requires.rising refl t i lt
