use Rattle.log_blocks.specs.Payloads.{ahead}
use Rattle.standby_words.proofs.ShippingLemmas.{IsShipping}
use Rattle.standby_words.proofs.shipping.say_frames.Given as goal

abbrev pub invariant-loop-payload : goal.invariant-loop-payload
invariant-loop-payload g l = IsShipping (g.M.Machine.disk l.fn.machine) (g.M.Machine.disk l.machine) l.fn.engine l.engine l.fn.reader l.reader

abbrev pub decreases-loop-payload : goal.decreases-loop-payload
decreases-loop-payload g l = ahead l.reader.records.payloads
