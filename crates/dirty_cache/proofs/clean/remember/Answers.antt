use Rattle.dirty_cache.proofs.Put.{Puts, puts, put-own, put-known, put-others, put-roomy, put-ordered}
use Rattle.dirty_cache.proofs.clean.remember.Goals as goal

after : (c : goal.After-len-within) → Puts c.args.clean.now c.put.new.self c.args.x c.args.entry
after c =
    puts c.args.clean.now c.put.new.self c.args.x c.args.entry c.put.result c.put.ensures.entries c.put.ensures.err c.put.ensures.succeeds

pub returns-clause-own : goal.returns-clause-own
returns-clause-own c = put-own c.args.clean.now c.put.new.self c.args.x c.args.entry (after c)

pub returns-clause-known : goal.returns-clause-known
returns-clause-known c = put-known c.args.clean.now c.put.new.self c.args.x c.args.entry (after c)

pub returns-clause-others : goal.returns-clause-others
returns-clause-others c = put-others c.args.clean.now c.put.new.self c.args.x c.args.entry (after c)

pub returns-clause-roomy : goal.returns-clause-roomy
returns-clause-roomy c = put-roomy c.args.clean.now c.put.new.self c.args.x c.args.entry (after c)

pub returns-clause-order : goal.returns-clause-order
returns-clause-order c =
    put-ordered c.args.clean.now c.put.new.self c.args.x c.args.entry (after c) c.len-within.ensures.valid.2 c.len-within.ensures.valid.1
