-- Slots that are filled behind closed gates: of their flush nothing is left but to open the gates, and several are opened
-- together.
use Rattle.std.specs.Prelude.{◌≡◌, ◌≢◌, ◌⊎◌, ◌<◌, ◌≤◌, ◌^◌, ℕ, List, IsTrue, IsFalse, length}
use Rattle.disk_model.specs.Disk.{Disk, Files, OthersStay}
use Rattle.disk_model.specs.declared.machine.FileNo.TheVariants.{Objects}
use Rattle.oper_core.specs.Cell.{Cell}
use Rattle.oper_core.specs.State.{is_among}
use Rattle.formats.specs.Bytes.{IsOpenAt}
use Rattle.formats.specs.Objects.{IsObjectsFile, cell_of}
use Rattle.formats.specs.declared.params.Params.{Params}
use Rattle.stable_objects.specs.Replacing.{IsFilled, spare_in}
use Rattle.stable_objects.specs.SlotsView.{SlotsView, head, lsn_in, layout_of, length_in}
use Rattle.stable_objects.specs.Spares.{KeepsBut, spare_lsn, spare_place}

-- the slot that doesn't hold the object is closed, and a newer pair stands behind its gate
pub record IsReady (slots : SlotsView) (file : List ℕ) (x : ℕ) (cell : Cell) : Type 0 where
  pub below : x < slots.params.objects
  pub closed : spare_lsn slots x ≡ 0
  pub later : lsn_in slots x < cell.lsn
  pub is_lsn : cell.lsn < 2 ^ 62
  pub short : length cell.value ≤ slots.params.cap
  pub filled : IsFilled (spare_place slots x) cell.lsn cell.value file

-- these objects are ready, each for the pair that it is to have
abbrev pub AreReady : SlotsView → List ℕ → List ℕ → (ℕ → Cell) → Type 0
AreReady slots file objects pairs = (x : ℕ) → IsTrue (is_among x objects) → IsReady slots file x (pairs x)

-- at this place is the gate of the slot that doesn't hold one of these objects
pub record IsGateOf (slots : SlotsView) (objects : List ℕ) (j : ℕ) : Type 0 where
  pub object : ℕ
  pub among : IsTrue (is_among object objects)
  pub below : object < slots.params.objects
  pub here : j ≡ spare_place slots object

-- all stays but these gates
abbrev pub KeepsButGatesOf : SlotsView → List ℕ → List ℕ → List ℕ → Type 0
KeepsButGatesOf slots objects = KeepsBut (layout_of slots) (IsGateOf slots objects)

-- each of these objects has the pair that it had, or the one that it is to have, and each other one has what it had
pub record AreOldOrNew (p : Params) (objects : List ℕ) (pairs : ℕ → Cell) (old new : List ℕ) : Type 0 where
  pub whole : IsObjectsFile p new
  pub each : (x : ℕ) → x < p.objects → IsTrue (is_among x objects) → (cell_of x new ≡ cell_of x old) ⊎ (cell_of x new ≡ pairs x)
  pub others : (x : ℕ) → x < p.objects → IsFalse (is_among x objects) → cell_of x new ≡ cell_of x old

-- At a moment while the gates are opened that is so: any of them is open. The other files are as they were, and nothing was
-- said.
pub record AreOldOrNewSince (old : Disk) (p : Params) (objects : List ℕ) (pairs : ℕ → Cell) (files : Files) (said : List ℕ) : Type 0 where
  pub cells : AreOldOrNew p objects pairs (old.reads Objects) (files Objects)
  pub other_files : OthersStay Objects old.reads files
  pub silent : said ≡ old.said

-- each of these objects has the pair that it is to have, and each other one what it had
pub record AreReplaced (p : Params) (objects : List ℕ) (pairs : ℕ → Cell) (old new : List ℕ) : Type 0 where
  pub each : (x : ℕ) → x < p.objects → IsTrue (is_among x objects) → cell_of x new ≡ pairs x
  pub others : (x : ℕ) → x < p.objects → IsFalse (is_among x objects) → cell_of x new ≡ cell_of x old

-- all these gates are open
abbrev pub AreOpened : SlotsView → List ℕ → List ℕ → Type 0
AreOpened slots objects file = (x : ℕ) → IsTrue (is_among x objects) → IsOpenAt (spare_place slots x) file

-- The slots after these gates were opened: of each of these objects the slot that was spare has the new LSN, and the
-- value its length; all else is as it was.
pub record AreHeld (before after : SlotsView) (objects : List ℕ) (pairs : ℕ → Cell) : Type 0 where
  pub layout : layout_of after ≡ layout_of before
  pub heads : (x : ℕ) → x < before.params.objects → IsTrue (is_among x objects) → head after x (spare_in before x) ≡ (pairs x).lsn
  pub other_slots : (x s : ℕ) → x < before.params.objects → s < 2 → s ≢ spare_in before x → head after x s ≡ head before x s
  pub other_heads : (x s : ℕ) → x < before.params.objects → s < 2 → IsFalse (is_among x objects) → head after x s ≡ head before x s
  pub lengths : (x : ℕ) → x < before.params.objects → IsTrue (is_among x objects) → length_in after x ≡ length (pairs x).value
  pub other_lengths : (x : ℕ) → x < before.params.objects → IsFalse (is_among x objects) → length_in after x ≡ length_in before x

-- The same of one object, with this LSN and a value of this length.
pub record IsHeld (before after : SlotsView) (x lsn long : ℕ) : Type 0 where
  pub layout : layout_of after ≡ layout_of before
  pub opened : head after x (spare_in before x) ≡ lsn
  pub other_heads : (y s : ℕ) → s < 2 → (y ≢ x) ⊎ (s ≢ spare_in before x) → head after y s ≡ head before y s
  pub long_is : length_in after x ≡ long
  pub other_lengths : (y : ℕ) → y ≢ x → length_in after y ≡ length_in before y
