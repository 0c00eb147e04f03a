use Rattle.disk_model.specs.Moments.{passes_none}
use Rattle.serving.proofs.Ends.{none_told, some_told}
use Rattle.serving.proofs.Stables.{made_here}
use Rattle.serving.proofs.forcing.commit.Goals as goal

pub close-requires-clause-inside : goal.close-requires-clause-inside
close-requires-clause-inside g c = some_told c.args.engine.now c.in-Some.field-0 c.group.result c.group.ensures c.in-Some.is

pub returns-in-None : goal.returns-in-None
returns-in-None g c = record {
  call = record { time = passes_none (g.M.Machine.disk c.args.machine.now); unbroken = c.requires; cause = tt };
  forces = λ lo hi p commands names stable h. made_here h (g.met.M.Machine.lawful c.args.machine.now) (none_told c.args.engine.now c.group.result c.group.ensures c.in-None.is);
}

pub returns-in-Some : goal.returns-in-Some
returns-in-Some g c = record { call = c.close.ensures.call; forces = c.close.ensures.forces }
