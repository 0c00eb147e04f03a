-- What is done to the slots that hold no object before a gate is opened, so that no reader of the objects sees it.
use Rattle.std.specs.Prelude.{◌≡◌, ◌≢◌, ◌⊎◌, ◌<◌, ◌≤◌, ◌+◌, ℕ, List, length}
use Rattle.disk_model.specs.Disk.{Disk, Files, OthersStay}
use Rattle.disk_model.specs.declared.machine.FileNo.TheVariants.{Objects}
use Rattle.formats.specs.Bytes.{byte_at}
use Rattle.formats.specs.Objects.{IsObjectsFile, last_slot, cell_of}
use Rattle.formats.specs.declared.layout.Layout.{Layout}
use Rattle.formats.specs.declared.params.Params.{Params}
use Rattle.stable_objects.specs.Replacing.{IsFilled, spare_in}
use Rattle.stable_objects.specs.SlotsView.{SlotsView, head, lsn_in, layout_of, place_of}

-- where the slot stands that doesn't hold an object
abbrev pub spare_place : SlotsView → ℕ → ℕ
spare_place slots x = place_of slots x (spare_in slots x)

-- and the LSN in it, 0 where it is closed
abbrev pub spare_lsn : SlotsView → ℕ → ℕ
spare_lsn slots x = head slots x (spare_in slots x)

-- at this place is the gate of a spare slot that is open
pub record IsSpareGate (slots : SlotsView) (j : ℕ) : Type 0 where
  pub object : ℕ
  pub below : object < slots.params.objects
  pub is_open : spare_lsn slots object ≢ 0
  pub here : j ≡ spare_place slots object

-- or a byte behind the gate of one that is closed
pub record IsSpareByte (slots : SlotsView) (j : ℕ) : Type 0 where
  pub object : ℕ
  pub below : object < slots.params.objects
  pub closed : spare_lsn slots object ≡ 0
  pub behind : spare_place slots object < j
  pub within : j < spare_place slots object + (13 + slots.params.cap)

-- the file lost no byte; if it had all gates of the slots, each byte stays that is not free
pub record KeepsBut (layout : Layout) (free : ℕ → Type 0) (old new : List ℕ) : Type 0 where
  pub no_shorter : length old ≤ length new
  pub same : last_slot layout < length old → (j : ℕ) → (free j → ⊥) → byte_at j new ≡ byte_at j old

-- all stays but the gates of open spare slots
-- (gates and what stands behind them are two sets of free bytes with a sync between: else a torn write could open a gate over
-- bytes that an image before had changed)
abbrev pub KeepsButGates : SlotsView → List ℕ → List ℕ → Type 0
KeepsButGates slots = KeepsBut (layout_of slots) (IsSpareGate slots)

-- all stays but what closed spare slots have behind their gates
abbrev pub KeepsButSpares : SlotsView → List ℕ → List ℕ → Type 0
KeepsButSpares slots = KeepsBut (layout_of slots) (IsSpareByte slots)

-- what a spare slot of another object is filled with stays in it
abbrev pub KeepsFilledBut : SlotsView → ℕ → List ℕ → List ℕ → Type 0
KeepsFilledBut slots x old new = (y lsn : ℕ) (value : List ℕ) → y < slots.params.objects → y ≢ x → length value ≤ slots.params.cap
    → IsFilled (spare_place slots y) lsn value old → IsFilled (spare_place slots y) lsn value new

-- some spare slots are closed, and all else is as it was
pub record IsClosing (before after : SlotsView) : Type 0 where
  pub layout : layout_of after ≡ layout_of before
  pub lsns_kept : (x : ℕ) → lsn_in after x ≡ lsn_in before x
  pub lengths : after.lengths ≡ before.lengths
  pub spares : (x : ℕ) → spare_in after x ≡ spare_in before x
  pub spare_lsns : (x : ℕ) → (spare_lsn after x ≡ spare_lsn before x) ⊎ (spare_lsn after x ≡ 0)

-- the file is one of these objects, and each has the pair that it had
pub record IsUnseen (p : Params) (old new : List ℕ) : Type 0 where
  pub whole : IsObjectsFile p new
  pub cells : (x : ℕ) → x < p.objects → cell_of x new ≡ cell_of x old

-- At a moment while spare slots are closed or filled each object has the pair that it had. The other files are as they were,
-- and nothing was said.
pub record IsUnseenSince (old : Disk) (p : Params) (files : Files) (said : List ℕ) : Type 0 where
  pub unseen : IsUnseen p (old.reads Objects) (files Objects)
  pub other_files : OthersStay Objects old.reads files
  pub silent : said ≡ old.said
