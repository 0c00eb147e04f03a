use Rattle.disk_model.specs.Moments.{passes_none}
use Rattle.embed.proofs.Passing.{if_ok}
use Rattle.embed.proofs.store.Store.program_run.Goals as goal

pub returns-then-is_broken-clause-time : goal.returns-then-is_broken-clause-time
returns-then-is_broken-clause-time g c = passes_none _

pub returns-clause-time : goal.returns-clause-time
returns-clause-time g c = c.run.ensures.calls.own.call.time

pub returns-clause-calls : goal.returns-clause-calls
returns-clause-calls g c = λ unbroken. c.run.ensures.calls.own

pub returns-clause-adds : goal.returns-clause-adds
returns-clause-adds g c = λ p commands holds. c.run.ensures.adds p commands holds holds.world holds.shows holds.commands_are

pub returns-then-is_broken-clause-of_bytes : goal.returns-then-is_broken-clause-of_bytes
returns-then-is_broken-clause-of_bytes g c = λ p commands holds. tt

pub returns-clause-of_bytes : goal.returns-clause-of_bytes
returns-clause-of_bytes g c = λ p commands holds.
    if_ok c.run.result (λ k runs. c.runs_ask_for_bytes.ensures p commands c.args.app.now.app c.args.app.now.program k holds runs) (c.run.ensures.machine p commands holds)
