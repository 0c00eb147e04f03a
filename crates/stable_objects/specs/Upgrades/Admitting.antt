-- A store of version 2 that admits the further families of operations becomes one of version 3, by one byte.
use Rattle.std.specs.Prelude.{◌≢◌, ◌+◌, ◌-◌, ℕ, true}
use Rattle.formats.specs.declared.params.Params.{Params}
use Rattle.stable_objects.specs.SlotsView.{SlotsView}

-- the file is of version 2 or 3
abbrev pub IsSecond : SlotsView → Type 0
IsSecond slots = slots.first ≢ 32

-- the same numbers, with the further families
abbrev pub with_more : Params → Params
with_more p = record { objects = p.objects; cap = p.cap; limit = p.limit; more = true }

-- the place of the byte that admits them: the numbers stand 32 bytes before the first slot, and the byte is their fourth
abbrev pub switch_place : SlotsView → ℕ
switch_place slots = slots.first - 32 + 3
