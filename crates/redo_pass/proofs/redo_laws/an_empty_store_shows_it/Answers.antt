use Rattle.formats.specs.Objects.{bounds_of}
use Rattle.redo_pass.proofs.Begins.{empty_shows}
use Rattle.redo_pass.proofs.redo_laws.an_empty_store_shows_it.Goals as goal

pub returns : goal.returns
returns g c p files slots plan records w it due same none empty = empty_shows (g.O.Oper.meaning (bounds_of p)) p files slots plan records w due it same none empty
