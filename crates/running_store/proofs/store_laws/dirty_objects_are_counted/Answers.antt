use Rattle.formats.specs.Objects.{bounds_of}
use Rattle.running_store.proofs.DirtyCount.{dirty_counted}
use Rattle.running_store.proofs.store_laws.dirty_objects_are_counted.Goals as goal

pub returns : goal.returns
returns g c p file it w objects shows are = dirty_counted (g.O.Oper.meaning (bounds_of p)) p file it w shows (g.met.O.Oper.bounded (bounds_of p)).objects objects are
