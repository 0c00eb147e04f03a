use Rattle.disk_model.specs.Moments.{passes_none}
use Rattle.serving.proofs.Ends.{none_told}
use Rattle.serving.proofs.Stables.{stable_here}
use Rattle.serving.proofs.hearing.keep_up.Goals as goal

pub returns-in-Some : goal.returns-in-Some
returns-in-Some g c = record {
  call = record { time = passes_none (g.M.Machine.disk c.args.machine.now); unbroken = c.requires; cause = tt };
  keeps = λ lo hi p commands names stable h. stable_here h (g.met.M.Machine.lawful c.args.machine.now);
}

pub tend-requires-clause-alone : goal.tend-requires-clause-alone
tend-requires-clause-alone g c = none_told c.args.engine.now c.group.result c.group.ensures c.in-None.is

pub returns-in-None : goal.returns-in-None
returns-in-None g c = record { call = c.tend.ensures.call; keeps = c.tend.ensures.keeps }
