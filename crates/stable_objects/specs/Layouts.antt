-- Which layouts there are, and that of a new store.
use Rattle.std.specs.Prelude.{◌≡◌, ◌≤◌, ◌<◌, ◌+◌, ◌&&◌, ◌^◌, Bool, false, nat_le, not, if◌then◌else◌}
use Rattle.oper_core.specs.declared.bounds.Bounds.{Bounds}
use Rattle.formats.specs.Objects.{IsInRange, first_form, second_form}
use Rattle.formats.specs.declared.form.Form.{Form}
use Rattle.formats.specs.declared.layout.Layout.{Layout}
use Rattle.formats.specs.declared.params.Params.{Params}

-- A file may have this form: the numbers stand behind the version's byte, and the slots behind them, not far from the file's
-- start.
pub record IsForm (form : Form) : Type 0 where
  pub older_objects : form.older.objects ≤ 4096
  pub older_cap : form.older.cap ≤ 16384
  pub most_objects : form.most.objects ≤ 65535
  pub most_cap : form.most.cap ≤ 1048576
  pub behind : 9 ≤ form.numbers
  pub between : form.numbers + 12 ≤ form.first
  pub header : 32 ≤ form.first
  pub near : form.first < 2 ^ 28
  -- where the slots begin at 32 the file is of version 1
  pub small : form.first ≡ 32 → (form.most.objects ≤ 4096) × (form.most.cap ≤ 16384) × (form.most.more ≡ false)

-- The slots of a store may stand so: behind the header, and not far from the file's start.
pub record IsLayout (layout : Layout) : Type 0 where
  pub in_range : IsInRange layout.params
  pub behind : 32 ≤ layout.first
  pub near : layout.first < 2 ^ 28
  -- where they begin at 32 the file is of version 1
  pub small : layout.first ≡ 32 → (layout.params.objects ≤ 4096) × (layout.params.cap ≤ 16384) × (layout.params.more ≡ false)

-- version 1 has room for these numbers, and a store with them does not admit the further families of operations
abbrev pub fits_first : Params → Bool
fits_first p = nat_le p.objects 4096 && nat_le p.cap 16384 && not p.more

-- no store was there before
abbrev pub no_store : Bounds
no_store = record { objects = 0; cap = 0; more = false }

-- the form of a new store's file: version 1 where that is enough, else version 2 or 3
abbrev pub new_form : Params → Form
new_form p = if fits_first p then first_form else second_form no_store

-- and where its slots stand
abbrev pub new_layout : Params → Layout
new_layout p = record { params = p; first = (new_form p).first }
