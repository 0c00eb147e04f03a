use Rattle.std.proofs.Common.{[]}
use Rattle.store_calls.proofs.of_engine.EngineStore.get.Goals as goal

pub returns-clause-value : goal.returns-clause-value
returns-clause-value g c = c.get.ensures.value []
