use Rattle.log_blocks.specs.Payloads.{ahead}
use Rattle.store_engine.proofs.Shipped.{HasShipped}
use Rattle.store_engine.proofs.engine.Engine.frames.Given as goal

abbrev pub invariant-loop-payload : goal.invariant-loop-payload
invariant-loop-payload g l = HasShipped g.O.Oper.meaning (g.M.Machine.disk l.fn.machine) (g.M.Machine.disk l.machine) l.fn.self l.self l.from l.reader l.fn.into.items l.into.items

abbrev pub decreases-loop-payload : goal.decreases-loop-payload
decreases-loop-payload g l = ahead l.reader.records.payloads
