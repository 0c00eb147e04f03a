use Rattle.formats.specs.Objects.{bounds_of}
use Rattle.store_engine.specs.Grouping.{ungrouped}
use Rattle.backup_copy.proofs.beside_a_backup.the_copy_is_explained.Goals as goal

pub returns : goal.returns
returns g c = λ p now engine w t is. c.copy_stands.ensures.explained (bounds_of p) (ungrouped w) is.done is.cells is.shows.shows.running.sound is.copied
