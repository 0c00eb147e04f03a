-- Which offsets of a file no sync has reached, and what a crash that fills them leaves.
use Rattle.std.specs.Prelude.{◌≡◌, ◌≢◌, ◌⊎◌, ℕ, ◌+◌, ◌<◌, ◌≤◌, List, [], ◌∷◌, length, get_or}
use Rattle.disk_model.specs.Call.{Call, Write, Sync, Say}
use Rattle.disk_model.specs.declared.machine.FileNo.{FileNo}

-- none of these calls syncs the file
abbrev pub NoSync : FileNo → List Call → Type 0
NoSync file [] = Unit {0}
NoSync file (Write other at bytes ∷ calls) = NoSync file calls
NoSync file (Sync other ∷ calls) = (file ≢ other) × NoSync file calls
NoSync file (Say bytes ∷ calls) = NoSync file calls

-- some write since the file's last sync has this offset in its range
abbrev pub IsUnsynced : FileNo → ℕ → List Call → Type 0
IsUnsynced file i [] = ⊥
IsUnsynced file i (Write other at bytes ∷ calls) = ((file ≡ other) × (at ≤ i) × (i < at + length bytes) × NoSync file calls) ⊎ IsUnsynced file i calls
IsUnsynced file i (Sync other ∷ calls) = IsUnsynced file i calls
IsUnsynced file i (Say bytes ∷ calls) = IsUnsynced file i calls

-- a file as long as old, with this byte at the unsynced offsets and old elsewhere
pub record IsFilled (byte : ℕ) (unsynced : ℕ → Type 0) (old new : List ℕ) : Type 0 where
  pub size : length new ≡ length old
  pub filled : (i : ℕ) → i < length old → unsynced i → get_or new i 0 ≡ byte
  pub kept : (i : ℕ) → (unsynced i → ⊥) → get_or new i 0 ≡ get_or old i 0
