-- What the files of a new store hold.
use Rattle.std.proofs.Common.{◌≡◌, ◌∙◌, ℕ, List, [], refl, inl, inr}
use Rattle.std.specs.Prelude.{nat_lt}
use Rattle.std.proofs.lemmas.Bool.{cases_lt, lt-ltb, le-ltb, cond-true, cond-false}
use Rattle.disk_model.specs.Disk.{Files}
use Rattle.disk_model.specs.declared.machine.FileNo.TheVariants.{Objects, LogA}
use Rattle.oper_core.specs.Cell.{Cell}
use Rattle.oper_core.specs.Meaning.{Meaning}
use Rattle.formats.specs.Log.{new_header}
use Rattle.formats.specs.Objects.{AreSlotsClosed, cell_of}
use Rattle.formats.specs.declared.params.Params.{Params}
use Rattle.log_blocks.specs.Creating.{IsNewLog}
use Rattle.stable_objects.specs.Making.{IsNewFile}
use Rattle.stable_objects.specs.SlotLaws.{closed_cells}
use Rattle.explain_core.specs.World.{new_world}
use Rattle.standing.specs.Standing.{FilesShow, stored}

-- an object without bytes, that no record wrote
abbrev empty : Cell
empty = record { lsn = 0; value = [] }

pub stored_empty : (p : Params) (file : List ℕ) → AreSlotsClosed p file → (x : ℕ) → stored p file x ≡ empty
stored_empty p file closed x = elim (cases_lt x p.objects) [
  | inl below ↦ cond-true (nat_lt x p.objects) (cell_of x file) empty (lt-ltb x p.objects below) ∙ closed_cells p file x closed below
  | inr past ↦ cond-false (nat_lt x p.objects) (cell_of x file) empty (le-ltb x p.objects past)
]

pub new_shown : {O : Type 0} (m : Meaning O) (p : Params) (files : Files) → IsNewFile p (files Objects) → IsNewLog files → FilesShow m p files (new_world O)
new_shown m p files objects log = record {
  objects = objects.whole;
  cells = stored_empty p (files Objects) objects.closed;
  active = LogA;
  header = new_header;
  groups = [];
  log = record { in_force = log.in_force; log = record { log = log.log; placed = tt } };
  base = refl;
  commands_before = refl;
  members = refl;
  tables = refl;
}
