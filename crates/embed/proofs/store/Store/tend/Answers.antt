use Rattle.disk_model.specs.Moments.{passes_none}
use Rattle.embed.proofs.Passing.{barred_by_group}
use Rattle.embed.proofs.store.Store.tend.Goals as goal

pub returns-then-is_broken-clause-time : goal.returns-then-is_broken-clause-time
returns-then-is_broken-clause-time g c = passes_none _

pub returns-clause-time : goal.returns-clause-time
returns-clause-time g c = barred_by_group g.M.Machine.disk c.args.self.now.engine c.tend.new.self c.tend.result c.args.self.now.engine.parts.log.next c.args.self.now.engine.group c.tend.ensures.in_group (λ none. (c.tend.ensures.alone none).2.call.time)
