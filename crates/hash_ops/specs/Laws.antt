-- What a split keeps.
use Rattle.std.specs.Prelude.{◌≡◌, ℕ, ◌%◌, ◌^◌, ◌<◌, true, false, None, List, if◌then◌else◌, slice_index_or}
use Rattle.std.specs.FinMap.Entries.{find}
use Rattle.key_entries.specs.Entries.{byte_order}
use Rattle.hash_ops.specs.Hash.{hash, has_bit}
use Rattle.hash_ops.specs.Blocks.{IsDirectory}
use Rattle.hash_ops.specs.Effects.{half, renamed_at}
use Rattle.hash_ops.specs.declared.directory.Directory.{Directory}

-- the entry of this number
abbrev pub entry : Directory → ℕ → ℕ
entry d i = slice_index_or d.entries.items i 0

-- each pair stands in the half that its key's number tells, with its value, and neither half has another pair
pub record SplitsPairs (place : ℕ) (pairs : List (List ℕ × List ℕ)) : Type 0 where
  pub upper : (key : List ℕ) → find byte_order key (half true place pairs) ≡ (if has_bit place (hash key) then find byte_order key pairs else None)
  pub lower : (key : List ℕ) → find byte_order key (half false place pairs) ≡ (if has_bit place (hash key) then None else find byte_order key pairs)

-- After a split the directory is as deep as the new buckets at least. Each entry names what the entry of its low bits named,
-- but for those of the old bucket whose number has the bit: they name the new one.
pub record SplitsEntries (place old new : ℕ) (d after : Directory) : Type 0 where
  pub good : IsDirectory after
  pub deep : place < after.depth
  pub entries : (i : ℕ) → i < 2 ^ after.depth → entry after i ≡ renamed_at place old new i (entry d (i % 2 ^ d.depth))
