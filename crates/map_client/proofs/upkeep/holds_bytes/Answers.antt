use Rattle.std.proofs.Common.{arith}
use Rattle.range_calls.specs.Store.{state_of}
use Rattle.map_client.proofs.UpkeepLemmas.{first_held, some_held}
use Rattle.map_client.proofs.upkeep.holds_bytes.Goals as goal

pub returns-in-Some : goal.returns-in-Some
returns-in-Some g c = λ p commands holds within. first_held (state_of p commands) p.objects c.args.object c.in-Some.empty (c.in-Some.ensures p commands holds)

pub returns-in-None : goal.returns-in-None
returns-in-None g c = λ p commands holds within. some_held (state_of p commands c.args.object) (c.in-None.ensures p commands holds c.args.object (omega arith) within)
