-- The values of a hash file: a directory, and buckets.
use Rattle.std.specs.Prelude.{◌≡◌, ℕ, ◌*◌, ◌^◌, ◌<◌, ◌≤◌, ◌==◌, ◌&&◌, All, Option, None, Some, List, [], ◌∷◌, length, flat_map, nat_le, if◌then◌else◌, option_map, option_and_then}
use Rattle.byteorder.specs.Endian.{little_bytes, little_number}
use Rattle.key_entries.specs.Entries.{AreEntries, short_field, entries_code, entries_in, rising}
use Rattle.hash_ops.specs.declared.directory.Directory.{Directory}
use Rattle.hash_ops.specs.declared.bucket.Bucket.{Bucket}

-- a directory of this depth, and the object of the bucket of each entry
abbrev pub directory : ℕ → List ℕ → Directory
directory depth entries = record { depth = depth; entries = record { items = entries } }

-- a bucket of this local depth, with these pairs of a key and a value
abbrev pub bucket : ℕ → List (List ℕ × List ℕ) → Bucket
bucket depth pairs = record { depth = depth; pairs = record { items = pairs } }

-- a directory of depth g has 2^g entries, and g is at most 6
pub record IsDirectory (d : Directory) : Type 0 where
  pub shallow : d.depth ≤ 6
  pub count : length d.entries.items ≡ 2 ^ d.depth
  pub fit : All (λ x. x < 2 ^ 32) d.entries.items

-- a bucket has at most 7 pairs, whose keys rise, and a local depth of at most 6
pub record IsBucket (b : Bucket) : Type 0 where
  pub shallow : b.depth ≤ 6
  pub pairs : AreEntries short_field b.pairs.items

-- its bytes: kind 3, depth, and the entries
abbrev pub directory_code : Directory → List ℕ
directory_code d = 3 ∷ d.depth ∷ flat_map (little_bytes 4) d.entries.items

-- its bytes: kind 4, local depth, count, and the pairs
abbrev pub bucket_code : Bucket → List ℕ
bucket_code b = 4 ∷ b.depth ∷ length b.pairs.items ∷ entries_code short_field b.pairs.items

-- the numbers of four bytes each that the bytes are, without what is left at their end
abbrev pub numbers_in : List ℕ → List ℕ
numbers_in (a ∷ b ∷ c ∷ d ∷ bytes) = little_number 4 (a ∷ b ∷ c ∷ d ∷ bytes) ∷ numbers_in bytes
numbers_in others = []

-- the directory that the bytes are
abbrev pub directory_in : List ℕ → Option Directory
directory_in (kind ∷ depth ∷ body) = if kind == 3 && (nat_le depth 6 && length body == 4 * 2 ^ depth) then Some (directory depth (numbers_in body)) else None
directory_in (kind ∷ []) = None
directory_in [] = None

-- the bucket that they are
abbrev pub bucket_in : List ℕ → Option Bucket
bucket_in (kind ∷ depth ∷ count ∷ body) =
    if kind == 4 && (nat_le depth 6 && nat_le count 7) then option_map (bucket depth) (option_and_then rising (entries_in short_field count body)) else None
bucket_in (kind ∷ depth ∷ []) = None
bucket_in (kind ∷ []) = None
bucket_in [] = None
