-- What the replacement of an object's value leaves.
use Rattle.std.specs.Prelude.{◌≡◌, ◌≢◌, ◌⊎◌, ◌<◌, ◌≤◌, ◌+◌, ℕ, List, nat_lt, if◌then◌else◌, length, drop}
use Rattle.disk_model.specs.Disk.{Files, Disk, OthersStay}
use Rattle.disk_model.specs.declared.machine.FileNo.TheVariants.{Objects}
use Rattle.formats.specs.Bytes.{byte_at, IsOpenAt, IsClosedAt}
use Rattle.oper_core.specs.Cell.{Cell}
use Rattle.formats.specs.Objects.{IsObjectsFile, cell_of, lsn_at, length_at, value_at}
use Rattle.formats.specs.declared.params.Params.{Params}
use Rattle.stable_objects.specs.SlotsView.{SlotsView, head, lsn_in, length_in}

-- each other object is as it was
abbrev pub OthersKept : Params → ℕ → List ℕ → List ℕ → Type 0
OthersKept p x old new = (y : ℕ) → y < p.objects → y ≢ x → cell_of y new ≡ cell_of y old

-- the object has the new pair, and each other one is as it was
pub record IsReplaced (p : Params) (x : ℕ) (cell : Cell) (old new : List ℕ) : Type 0 where
  pub held : cell_of x new ≡ cell
  pub others : OthersKept p x old new

-- At a moment of a replacement the object has the old pair or the new one, and each other one is as it was. The other
-- files are as they were, and nothing was said.
pub record IsOldOrNew (old : Disk) (p : Params) (x : ℕ) (cell : Cell) (files : Files) (said : List ℕ) : Type 0 where
  pub whole : IsObjectsFile p (files Objects)
  pub held : (cell_of x (files Objects) ≡ cell_of x (old.reads Objects)) ⊎ (cell_of x (files Objects) ≡ cell)
  pub others : OthersKept p x (old.reads Objects) (files Objects)
  pub other_files : OthersStay Objects old.reads files
  pub silent : said ≡ old.said

-- the object has this LSN, and a value of this length, and each other one has what it had
pub record IsRenewed (old new : SlotsView) (x lsn long : ℕ) : Type 0 where
  pub lsn_is : lsn_in new x ≡ lsn
  pub long_is : length_in new x ≡ long
  pub other_lsns : (y : ℕ) → y ≢ x → lsn_in new y ≡ lsn_in old y
  pub other_lengths : (y : ℕ) → y ≢ x → length_in new y ≡ length_in old y

-- which slot of an object doesn't hold it: the next value goes there
abbrev pub spare_in : SlotsView → ℕ → ℕ
spare_in slots x = if nat_lt (head slots x 1) (head slots x 0) then 1 else 0

-- the file lost no byte; each one that it had before these n bytes is as it was, and so is all after them
pub record AgreesOutside (at n : ℕ) (old new : List ℕ) : Type 0 where
  pub no_shorter : length old ≤ length new
  pub before : (j : ℕ) → j < length old → j < at → byte_at j new ≡ byte_at j old
  pub behind : drop (at + n) new ≡ drop (at + n) old

-- after the gate at this place stand this LSN and this value
pub record IsFilled (place lsn : ℕ) (value file : List ℕ) : Type 0 where
  pub is_lsn : lsn_at place file ≡ lsn
  pub long : length_at place file ≡ length value
  pub stands : value_at place file ≡ value
  pub within : place + 13 + length value ≤ length file

-- the slot is filled and its gate is open, and nothing else changed
pub record IsPut (place lsn : ℕ) (value old new : List ℕ) : Type 0 where
  pub agrees : AgreesOutside place (13 + length value) old new
  pub opened : IsOpenAt place new
  pub filled : IsFilled place lsn value new

-- At a moment while a slot is filled its gate is closed, or all of it stands. Nothing else changed, and nothing was said.
pub record IsHalfPut (old : Disk) (place lsn : ℕ) (value : List ℕ) (files : Files) (said : List ℕ) : Type 0 where
  pub agrees : AgreesOutside place (13 + length value) (old.reads Objects) (files Objects)
  pub slot : IsClosedAt place (files Objects) ⊎ IsFilled place lsn value (files Objects)
  pub other_files : OthersStay Objects old.reads files
  pub silent : said ≡ old.said
