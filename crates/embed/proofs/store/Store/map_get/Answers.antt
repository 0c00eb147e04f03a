use Rattle.disk_model.specs.Moments.{passes_none}
use Rattle.embed.proofs.store.Store.map_get.Goals as goal

pub returns-then-is_broken-clause-time : goal.returns-then-is_broken-clause-time
returns-then-is_broken-clause-time g c = passes_none _

pub returns-clause-time : goal.returns-clause-time
returns-clause-time g c = c.get.ensures.calls.own.call.time

pub returns-clause-calls : goal.returns-clause-calls
returns-clause-calls g c = λ unbroken. c.get.ensures.calls.own

pub returns-clause-adds : goal.returns-clause-adds
returns-clause-adds g c = λ p commands holds. c.get.ensures.adds p commands holds holds.world holds.shows holds.commands_are
