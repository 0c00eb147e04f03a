use Rattle.disk_model.specs.Moments.{passes_none}
use Rattle.embed.proofs.Passing.{left_by_group}
use Rattle.embed.proofs.store.Store.keep_up.Goals as goal

pub returns-then-is_broken-clause-time : goal.returns-then-is_broken-clause-time
returns-then-is_broken-clause-time g c = passes_none _

pub returns-clause-time : goal.returns-clause-time
returns-clause-time g c = left_by_group g.M.Machine.disk c.args.self.now.engine c.keep_up.new.self c.args.pace.now c.keep_up.new.pace c.keep_up.result c.args.self.now.engine.parts.log.next c.args.self.now.engine.group c.keep_up.ensures.in_group (λ none. (c.keep_up.ensures.alone none).done.call.time)
