use Rattle.disk_model.specs.Moments.{passes_none}
use Rattle.serving.proofs.Ends.{none_told, some_told}
use Rattle.serving.proofs.Stables.{stable_here}
use Rattle.serving.proofs.opening.begin.Goals as goal

pub returns-in-Some : goal.returns-in-Some
returns-in-Some g c = record {
  call = record { time = passes_none (g.M.Machine.disk c.args.machine.now); unbroken = c.requires; cause = tt };
  inside = some_told c.args.engine.now c.in-Some.field-0 c.group.result c.group.ensures c.in-Some.is;
  keeps = λ lo hi p commands names stable h. stable_here h (g.met.M.Machine.lawful c.args.machine.now);
}

pub open-requires-clause-alone : goal.open-requires-clause-alone
open-requires-clause-alone g c = none_told c.args.engine.now c.group.result c.group.ensures c.in-None.is

pub returns-in-None : goal.returns-in-None
returns-in-None g c = record { call = c.open.ensures.call; inside = c.open.ensures.inside; keeps = c.open.ensures.keeps }
