use Rattle.formats.specs.Objects.{bounds_of}
use Rattle.running_store.proofs.StartsNow.{starts_now}
use Rattle.running_store.proofs.store_laws.a_checkpoint_taken_now.Goals as goal

pub returns : goal.returns
returns g c p file it w table sound shows objects lsns next = starts_now (g.O.Oper.meaning (bounds_of p)) w it.entries table sound shows.accesses objects lsns next
