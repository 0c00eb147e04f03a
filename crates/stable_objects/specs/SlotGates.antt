-- The slots of all objects, counted through the file.
use Rattle.std.specs.Prelude.{◌+◌, ◌*◌, ℕ}
use Rattle.formats.specs.declared.layout.Layout.{Layout}

-- the place of the gate of a slot: slots 2x and 2x + 1 are those of object x
abbrev pub slot_gate : Layout → ℕ → ℕ
slot_gate layout slot = layout.first + slot * (13 + layout.params.cap)
