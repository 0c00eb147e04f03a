-- What a reader of the objects file finds, why it fails, and why a store is not opened.
use Rattle.std.specs.Prelude.{◌≡◌, ◌<◌, ◌≤◌, ◌+◌, ⊤, ℕ, List, length, take, drop, codes}
use Rattle.disk_model.specs.declared.machine.FileNo.{FileNo}
use Rattle.disk_model.specs.declared.machine.FileNo.TheVariants.{Objects}
use Rattle.formats.specs.Bytes.{IsOpenAt}
use Rattle.formats.specs.Objects.{BeginsStore, IsInRange, IsInForm, form_in, layout_in, last_slot, length_at}
use Rattle.formats.specs.FirstFault.{IsFirstObjectsFault}
use Rattle.formats.specs.declared.form.Form.{Form}
use Rattle.formats.specs.declared.layout.Layout.{Layout}
use Rattle.formats.specs.declared.read_err.ReadErr.{ReadErr}
use Rattle.formats.specs.declared.read_err.ReadErr.TheVariants as of_read
use Rattle.stable_objects.specs.Layouts.{IsForm}
use Rattle.stable_objects.specs.declared.open_err.OpenErr.{OpenErr}
use Rattle.stable_objects.specs.declared.open_err.OpenErr.TheVariants.{NotAStore, DiskFault, Damaged, Memory}

-- a store that could not be read
abbrev pub open_from_read : ReadErr → OpenErr
open_from_read of_read.DiskFault = DiskFault
open_from_read (of_read.Damaged file place) = Damaged file place
open_from_read of_read.Memory = Memory

-- why a store is not opened: since its objects gate is closed, or as a call that reads fails
abbrev pub OpensNot : Type 0 → (ReadErr → Type 0) → OpenErr → Type 0
OpensNot closed fails NotAStore = closed
OpensNot closed fails DiskFault = fails of_read.DiskFault
OpensNot closed fails (Damaged file place) = fails (of_read.Damaged file place)
OpensNot closed fails Memory = fails of_read.Memory

-- a store is not opened where a call that reads failed
pub opens_not : (closed : Type 0) (fails : ReadErr → Type 0) (e : ReadErr) → fails e → OpensNot closed fails (open_from_read e)
opens_not closed fails of_read.DiskFault told = told
opens_not closed fails (of_read.Damaged file place) told = told
opens_not closed fails of_read.Memory told = told

-- a fault in the objects file
abbrev pub FailsAt : (ℕ → Type 0) → FileNo → ℕ → Type 0
FailsAt fault file place = (file ≡ Objects) × fault place

-- it is neither no store nor damaged: the disk failed, or memory was refused
abbrev pub IsNoDamage : OpenErr → Type 0
IsNoDamage NotAStore = ⊥
IsNoDamage (Damaged file place) = ⊥
IsNoDamage e = ⊤

-- the objects gate is open, and the first check of the file that fails is reported at this place
pub record IsDamagedAt (file : List ℕ) (place : ℕ) : Type 0 where
  pub gate : IsOpenAt 0 file
  pub fault : IsFirstObjectsFault file place

-- the file has the magic and this form, and its header no fault
pub record HasForm (file : List ℕ) (form : Form) : Type 0 where
  pub magic : take 7 (drop 1 file) ≡ codes "RDOOBJ0"
  pub is : form ≡ form_in file
  pub known : IsForm form

-- an open gate, the magic and the numbers, with the slots where this layout says; the file reaches to the last slot's gate
pub record HasHeader (layout : Layout) (file : List ℕ) : Type 0 where
  pub begins : BeginsStore file
  pub is : layout_in file ≡ layout
  pub in_range : IsInRange layout.params
  pub in_form : IsInForm (form_in file) layout.params
  pub whole : last_slot layout < length file

-- the place after a slot's LSN, where its length stands; the value is longer than CAP, or not within the file
pub record IsLongValue (cap place : ℕ) (file : List ℕ) (at : ℕ) : Type 0 where
  pub here : at ≡ place + 9
  pub long : length_at place file ≤ cap → (0 < length_at place file → place + 13 + length_at place file ≤ length file) → ⊥
