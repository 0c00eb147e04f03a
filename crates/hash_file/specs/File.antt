-- Hash files in a range of objects, and the map that one stands for.
use Rattle.std.specs.Prelude.{◌≡◌, ◌⊎◌, ℕ, ◌%◌, ◌^◌, ◌<◌, ◌≤◌, All, Option, None, Some, List, [], flat_map}
use Rattle.std.specs.FinMap.{FinMap, from_entries, empty}
use Rattle.oper_core.specs.State.{State}
use Rattle.key_entries.specs.Entries.{byte_order}
use Rattle.hash_ops.specs.Blocks.{directory_in, bucket_in}
use Rattle.hash_ops.specs.declared.directory.Directory.{Directory}
use Rattle.hash_ops.specs.declared.bucket.Bucket.{Bucket}
use Rattle.hash_file.specs.Find.{named_at, object_for}

-- both or neither
abbrev pub SameTruth : Type 0 → Type 0 → Type 0
SameTruth P Q = (P → Q) × (Q → P)

module _ (lo hi : ℕ) (s : State) where
  -- An entry names an object behind the directory, a bucket at most as deep as the directory. The entries that name it are
  -- those whose number has the same low bits, as many as the bucket is deep, and each of its keys belongs there.
  pub record IsEntry (d : Directory) (i : ℕ) : Type 0 where
    pub inside : (lo < named_at d i) × (named_at d i ≤ hi)
    pub bucket : Bucket
    pub is : bucket_in (s (named_at d i)) ≡ Some bucket
    pub shallow : bucket.depth ≤ d.depth
    pub alike : (j : ℕ) → j < 2 ^ d.depth → SameTruth (named_at d j ≡ named_at d i) (j % 2 ^ bucket.depth ≡ i % 2 ^ bucket.depth)
    pub keys : All (λ p. object_for d p.0 ≡ named_at d i) bucket.pairs.items

  -- a directory at the first object, each of whose entries is good
  pub record HasDirectory : Type 0 where
    pub directory : Directory
    pub is : directory_in (s lo) ≡ Some directory
    pub entries : (i : ℕ) → i < 2 ^ directory.depth → IsEntry directory i

  -- the range is not begun, or it has a directory
  abbrev pub IsHash : Type 0
  IsHash = (s lo ≡ []) ⊎ HasDirectory

abbrev pub pairs_in : Option Bucket → List (List ℕ × List ℕ)
pairs_in None = []
pairs_in (Some b) = b.pairs.items

-- the pairs of all buckets that a directory names (of one that is named more than once more than once, which changes no map)
abbrev pub map_of : State → Option Directory → FinMap byte_order (List ℕ)
map_of s None = empty
map_of s (Some d) = from_entries (flat_map (λ x. pairs_in (bucket_in (s x))) d.entries.items)

-- the map of all pairs
abbrev pub content_of : ℕ → State → FinMap byte_order (List ℕ)
content_of lo s = map_of s (directory_in (s lo))
