-- The bucket in which a key stands, over the values of the objects.
use Rattle.std.specs.Prelude.{ℕ, ◌%◌, ◌^◌, Bool, ◌&&◌, Option, None, Some, List, [], ◌∷◌, nat_le, nat_lt, if◌then◌else◌, slice_index_or}
use Rattle.oper_core.specs.State.{State}
use Rattle.hash_ops.specs.Hash.{hash}
use Rattle.hash_ops.specs.Blocks.{directory_in, bucket_in}
use Rattle.hash_ops.specs.declared.directory.Directory.{Directory}
use Rattle.hash_ops.specs.declared.bucket.Bucket.{Bucket}

-- a range of objects, its first one and its last
pub record Range : Type 0 where
  pub lo : ℕ
  pub hi : ℕ

-- the object that an entry names
abbrev pub named_at : Directory → ℕ → ℕ
named_at d i = slice_index_or d.entries.items i 0

-- that of the key's entry: its number is the low bits of the key's
abbrev pub object_for : Directory → List ℕ → ℕ
object_for d key = named_at d (hash key % 2 ^ d.depth)

-- what is met where a key is looked for: no hash file, since the range is not begun, or an object that is not what it should be, or the key's bucket
pub data Met : Type 0 where
  unused : Met
  bad : ℕ → Met
  found : ℕ → Bucket → Met

module _ (lo hi : ℕ) where
  -- the object stands in the range behind the directory
  abbrev pub is_inside : ℕ → Bool
  is_inside x = nat_lt lo x && nat_le x hi

  abbrev pub met_bucket : Directory → ℕ → Option Bucket → Met
  met_bucket d x None = bad x
  met_bucket d x (Some b) = if is_inside x && nat_le b.depth d.depth then found x b else bad x

  abbrev pub met_directory : State → List ℕ → Option Directory → Met
  met_directory s key None = bad lo
  met_directory s key (Some d) = met_bucket d (object_for d key) (bucket_in (s (object_for d key)))

  abbrev pub met_with : State → List ℕ → List ℕ → Met
  met_with s key [] = unused
  met_with s key (b ∷ bytes) = met_directory s key (directory_in (b ∷ bytes))

  abbrev pub find_bucket : State → List ℕ → Met
  find_bucket s key = met_with s key (s lo)
