-- A reader of directories and buckets finds exactly those whose bytes they are, and the halves of a bucket are buckets.
use Rattle.std.proofs.Common.{◌≡◌, ◌≤◌, ◌<◌, ℕ, zero, suc, ◌+◌, ◌*◌, ◌^◌, ◌==◌, Bool, true, false, not, ◌&&◌, cond, if◌then◌else◌, Option, None, Some, List, [], ◌∷◌, ◌++◌, All, length, flat_map, slice_index_or, refl, sym, ap, ◌∙◌, subst, arith, inl, inr, true≢false, option_map, option_and_then, length-append}
use Rattle.std.specs.Prelude.{IsTrue, nat_le}
use Rattle.std.specs.FinMap.Entries.{find, find-where_key, is_sorted-where_key}
use Rattle.std.proofs.lemmas.List.Elements.{All-cons, All-nil, All-head, All-tail, All-filter}
use Rattle.std.proofs.lemmas.Bool.{le-leb, leb-true}
use Rattle.std.proofs.lemmas.Bool.Decides.{eqb_tells}
use Rattle.byteorder.specs.Endian.{little_bytes, little_number}
use Rattle.byteorder.specs.Numbers.{little_from-lt}
use Rattle.oper_core.specs.LittleEndian.{length-little_bytes, little_number-little_bytes, little_bytes-front}
use Rattle.key_entries.specs.Short.{is_short}
use Rattle.key_entries.specs.Entries.{byte_order, short_field, entries_code, entries_in, rising}
use Rattle.key_entries.specs.EntryLaws.{AreBytes, bytes_behind, both_true, true_both, if_some, if_true, map_some, same_some, short_exact}
use Rattle.key_entries.specs.KeyLaws.{same_key}
use Rattle.key_entries.specs.PairLaws.{fewer}
use Rattle.key_entries.specs.RisingLaws.{rising_found, rising_read, pairs_known}
use Rattle.hash_ops.specs.Hash.{hash, has_bit}
use Rattle.hash_ops.specs.Blocks.{IsBucket, IsDirectory, bucket, bucket_code, bucket_in, directory, directory_code, directory_in, numbers_in}
use Rattle.hash_ops.specs.Effects.{half, is_in_half}
use Rattle.hash_ops.specs.Laws.{SplitsPairs}
use Rattle.hash_ops.specs.declared.bucket.Bucket.{Bucket}
use Rattle.hash_ops.specs.declared.directory.Directory.{Directory}

pub is_same : (n m : ℕ) → n ≡ m → IsTrue (n == m)
is_same n m same = elim (eqb_tells n m) [ inl e ↦ e.0 | inr e ↦ absurd (e.1 same) ]

pub same_is : (n m : ℕ) → IsTrue (n == m) → n ≡ m
same_is n m e = elim (eqb_tells n m) [ inl same ↦ same.1 | inr other ↦ absurd (true≢false (sym e ∙ other.0)) ]

-- numbers and their bytes

numbers_found : (xs : List ℕ) → All (λ x. x < 2 ^ 32) xs → numbers_in (flat_map (little_bytes 4) xs) ≡ xs
numbers_found [] all = refl
numbers_found (x ∷ xs) all =
    let rest : List ℕ = flat_map (little_bytes 4) xs in
    ap (λ (y : ℕ). y ∷ numbers_in rest) (little_number-little_bytes 4 x rest (All-head (λ x. x < 2 ^ 32) x xs all))
    ∙ ap (λ (ys : List ℕ). x ∷ ys) (numbers_found xs (All-tail (λ x. x < 2 ^ 32) x xs all))

pub numbers_size : (xs : List ℕ) → length (flat_map (little_bytes 4) xs) ≡ 4 * length xs
numbers_size [] = refl
numbers_size (x ∷ xs) = omega (arith, length-append (little_bytes 4 x) (flat_map (little_bytes 4) xs), length-little_bytes 4 x, numbers_size xs)

-- bytes that are so many numbers
record AreNumbers (n : ℕ) (bytes : List ℕ) : Type 0 where
  count : length (numbers_in bytes) ≡ n
  split : bytes ≡ flat_map (little_bytes 4) (numbers_in bytes)
  fit : All (λ x. x < 2 ^ 32) (numbers_in bytes)

are_numbers : (n : ℕ) (bytes : List ℕ) → AreBytes bytes → length bytes ≡ 4 * n → AreNumbers n bytes
are_numbers zero [] are size = record { count = refl; split = refl; fit = All-nil (λ x. x < 2 ^ 32) }
are_numbers zero (b ∷ bytes) are size = absurd (omega (arith, size))
are_numbers (suc n) (a ∷ b ∷ c ∷ d ∷ bytes) are size =
    let whole : List ℕ = a ∷ b ∷ c ∷ d ∷ bytes in
    let rest = are_numbers n bytes (bytes_behind 4 whole are) (omega (arith, size)) in
    record {
      count = ap suc rest.count;
      split = little_bytes-front 4 whole (omega arith) are ∙ ap (λ (l : List ℕ). little_bytes 4 (little_number 4 whole) ++ l) rest.split;
      fit = All-cons (λ x. x < 2 ^ 32) (little_number 4 whole) (numbers_in bytes) (little_from-lt 0 4 whole are) rest.fit;
    }
are_numbers (suc n) (a ∷ b ∷ c ∷ []) are size = absurd (omega (arith, size))
are_numbers (suc n) (a ∷ b ∷ []) are size = absurd (omega (arith, size))
are_numbers (suc n) (a ∷ []) are size = absurd (omega (arith, size))
are_numbers (suc n) [] are size = absurd (omega (arith, size))

-- directories

-- a number that has four bytes is read back, whatever the others are
pub number_at : (xs : List ℕ) (i : ℕ) → i < length xs → slice_index_or xs i 0 < 2 ^ 32 → slice_index_or (numbers_in (flat_map (little_bytes 4) xs)) i 0 ≡ slice_index_or xs i 0
number_at [] i within fits = absurd (omega (arith, within))
number_at (x ∷ xs) zero within fits = little_number-little_bytes 4 x (flat_map (little_bytes 4) xs) fits
number_at (x ∷ xs) (suc i) within fits = number_at xs i (omega (arith, within)) fits

-- the directory as its bytes tell it, where its numbers need not have four bytes
abbrev pub reread : Directory → Directory
reread d = directory d.depth (numbers_in (flat_map (little_bytes 4) d.entries.items))

pub directory_again : (d : Directory) → d.depth ≤ 6 → length d.entries.items ≡ 2 ^ d.depth → directory_in (directory_code d) ≡ Some (reread d)
directory_again d shallow count =
    let body : List ℕ = flat_map (little_bytes 4) d.entries.items in
    let size : length body ≡ 4 * 2 ^ d.depth = omega (arith, numbers_size d.entries.items, count) in
    if_true (nat_le d.depth 6 && length body == 4 * 2 ^ d.depth) (Some (directory d.depth (numbers_in body))) None
    (true_both (nat_le d.depth 6) (length body == 4 * 2 ^ d.depth) (le-leb d.depth 6 shallow) (is_same (length body) (4 * 2 ^ d.depth) size))

pub directory_found : (d : Directory) → IsDirectory d → directory_in (directory_code d) ≡ Some d
directory_found d is = directory_again d is.shallow is.count ∙ ap (λ (xs : List ℕ). Some (directory d.depth xs)) (numbers_found d.entries.items is.fit)

-- what the tests of a directory's bytes tell
pub record IsReadDirectory (kind depth : ℕ) (body : List ℕ) (d : Directory) : Type 0 where
  pub kind_is : kind ≡ 3
  pub shallow : depth ≤ 6
  pub size : length body ≡ 4 * 2 ^ depth
  pub is : directory depth (numbers_in body) ≡ d

directory_tells : (kind depth : ℕ) (body : List ℕ) (d : Directory) → directory_in (kind ∷ depth ∷ body) ≡ Some d → IsReadDirectory kind depth body d
directory_tells kind depth body d is =
    let tests = if_some (kind == 3 && (nat_le depth 6 && length body == 4 * 2 ^ depth)) (Some (directory depth (numbers_in body))) d is in
    let kinds = both_true (kind == 3) (nat_le depth 6 && length body == 4 * 2 ^ depth) tests.0 in
    let sizes = both_true (nat_le depth 6) (length body == 4 * 2 ^ depth) kinds.1 in
    record {
      kind_is = same_is kind 3 kinds.0;
      shallow = leb-true depth 6 sizes.0;
      size = same_is (length body) (4 * 2 ^ depth) sizes.1;
      is = same_some (directory depth (numbers_in body)) d tests.1;
    }

pub directory_only : (bytes : List ℕ) (d : Directory) → AreBytes bytes → directory_in bytes ≡ Some d → IsDirectory d × (bytes ≡ directory_code d)
directory_only [] d are is = cc
directory_only (kind ∷ []) d are is = cc
directory_only (kind ∷ depth ∷ body) d are is =
    let read = directory_tells kind depth body d is in
    let numbers = are_numbers (2 ^ depth) body (bytes_behind 2 (kind ∷ depth ∷ body) are) read.size in
    subst (λ (d : Directory). IsDirectory d × (kind ∷ depth ∷ body ≡ directory_code d)) read.is (
      record { shallow = read.shallow; count = numbers.count; fit = numbers.fit },
      ap (λ (k : ℕ). k ∷ depth ∷ body) read.kind_is ∙ ap (λ (l : List ℕ). 3 ∷ depth ∷ l) numbers.split,
    )

-- so many numbers are read of so many bytes, whatever they are
pub numbers_count : (n : ℕ) (bytes : List ℕ) → length bytes ≡ 4 * n → length (numbers_in bytes) ≡ n
numbers_count zero [] size = refl
numbers_count zero (b ∷ bytes) size = absurd (omega (arith, size))
numbers_count (suc n) (a ∷ b ∷ c ∷ d ∷ bytes) size = ap suc (numbers_count n bytes (omega (arith, size)))
numbers_count (suc n) (a ∷ b ∷ c ∷ []) size = absurd (omega (arith, size))
numbers_count (suc n) (a ∷ b ∷ []) size = absurd (omega (arith, size))
numbers_count (suc n) (a ∷ []) size = absurd (omega (arith, size))
numbers_count (suc n) [] size = absurd (omega (arith, size))

pub directory_count : (bytes : List ℕ) (d : Directory) → directory_in bytes ≡ Some d → length d.entries.items ≡ 2 ^ d.depth
directory_count [] d is = cc
directory_count (kind ∷ []) d is = cc
directory_count (kind ∷ depth ∷ body) d is =
    let read = directory_tells kind depth body d is in
    subst (λ (d : Directory). length d.entries.items ≡ 2 ^ d.depth) read.is (numbers_count (2 ^ depth) body read.size)

pub directory_shallow : (bytes : List ℕ) (d : Directory) → directory_in bytes ≡ Some d → d.depth ≤ 6
directory_shallow [] d is = cc
directory_shallow (kind ∷ []) d is = cc
directory_shallow (kind ∷ depth ∷ body) d is = let read = directory_tells kind depth body d is in subst (λ (d : Directory). d.depth ≤ 6) read.is read.shallow

-- buckets

pub bucket_found : (b : Bucket) → IsBucket b → bucket_in (bucket_code b) ≡ Some b
bucket_found b is =
    let count : ℕ = length b.pairs.items in
    if_true (nat_le b.depth 6 && nat_le count 7) (option_map (bucket b.depth) (option_and_then rising (entries_in short_field count (entries_code short_field b.pairs.items)))) None
    (true_both (nat_le b.depth 6) (nat_le count 7) (le-leb b.depth 6 is.shallow) (le-leb count 7 is.pairs.few))
    ∙ ap (λ (o : Option (List (List ℕ × List ℕ))). option_map (bucket b.depth) o) (rising_found short_field short_exact b.pairs.items is.pairs)

-- what the tests of a bucket's bytes tell
pub record IsReadBucket (kind depth count : ℕ) (body : List ℕ) (b : Bucket) : Type 0 where
  pub kind_is : kind ≡ 4
  pub shallow : depth ≤ 6
  pub few : count ≤ 7
  pub pairs : List (List ℕ × List ℕ)
  pub read : option_and_then rising (entries_in short_field count body) ≡ Some pairs
  pub is : bucket depth pairs ≡ b

pub bucket_tells : (kind depth count : ℕ) (body : List ℕ) (b : Bucket) → bucket_in (kind ∷ depth ∷ count ∷ body) ≡ Some b → IsReadBucket kind depth count body b
bucket_tells kind depth count body b is =
    let tests = if_some (kind == 4 && (nat_le depth 6 && nat_le count 7)) (option_map (bucket depth) (option_and_then rising (entries_in short_field count body))) b is in
    let kinds = both_true (kind == 4) (nat_le depth 6 && nat_le count 7) tests.0 in
    let sizes = both_true (nat_le depth 6) (nat_le count 7) kinds.1 in
    let pairs = map_some (bucket depth) (option_and_then rising (entries_in short_field count body)) b tests.1 in
    record { kind_is = same_is kind 4 kinds.0; shallow = leb-true depth 6 sizes.0; few = leb-true count 7 sizes.1; pairs = pairs.0; read = pairs.1; is = pairs.2 }

pub bucket_only : (bytes : List ℕ) (b : Bucket) → AreBytes bytes → bucket_in bytes ≡ Some b → IsBucket b × (bytes ≡ bucket_code b)
bucket_only [] b are is = cc
bucket_only (kind ∷ []) b are is = cc
bucket_only (kind ∷ depth ∷ []) b are is = cc
bucket_only (kind ∷ depth ∷ count ∷ body) b are is =
    let told = bucket_tells kind depth count body b is in
    let read = rising_read short_field short_exact count body told.pairs told.few (bytes_behind 3 (kind ∷ depth ∷ count ∷ body) are) told.read in
    subst (λ (b : Bucket). IsBucket b × (kind ∷ depth ∷ count ∷ body ≡ bucket_code b)) told.is (
      record { shallow = told.shallow; pairs = read.entries },
      ap (λ (k : ℕ). k ∷ depth ∷ count ∷ body) told.kind_is ∙ ap (λ (n : ℕ). 4 ∷ depth ∷ n ∷ body) (sym read.count) ∙ ap (λ (l : List ℕ). 4 ∷ depth ∷ length told.pairs ∷ l) read.split,
    )

-- what is read is a bucket, whatever numbers stand where bytes should
pub bucket_known : (bytes : List ℕ) (b : Bucket) → bucket_in bytes ≡ Some b → IsBucket b
bucket_known [] b is = cc
bucket_known (kind ∷ []) b is = cc
bucket_known (kind ∷ depth ∷ []) b is = cc
bucket_known (kind ∷ depth ∷ count ∷ body) b is =
    let told = bucket_tells kind depth count body b is in
    subst (λ (b : Bucket). IsBucket b) told.is (record { shallow = told.shallow; pairs = pairs_known count body told.pairs told.few told.read })

-- halves

half_find : (upper : Bool) (place : ℕ) (pairs : List (List ℕ × List ℕ)) (key : List ℕ) → find byte_order key (half upper place pairs) ≡ cond (is_in_half upper place key) (find byte_order key pairs) None
half_find upper place pairs key =
    find-where_key byte_order (λ x. is_in_half upper place x) key (λ x same. ap (λ (k : List ℕ). is_in_half upper place k) (sym (same_key key x same))) pairs

if_in : (b : Bool) (o : Option (List ℕ)) → cond b o None ≡ (if b then o else None)
if_in true o = refl
if_in false o = refl

if_out : (b : Bool) (o : Option (List ℕ)) → cond (not b) o None ≡ (if b then None else o)
if_out true o = refl
if_out false o = refl

pub splits_pairs : (place : ℕ) (pairs : List (List ℕ × List ℕ)) → SplitsPairs place pairs
splits_pairs place pairs = record {
  upper = λ key. half_find true place pairs key ∙ if_in (has_bit place (hash key)) (find byte_order key pairs);
  lower = λ key. half_find false place pairs key ∙ if_out (has_bit place (hash key)) (find byte_order key pairs);
}

pub half_keeps : (upper : Bool) (b : Bucket) → IsBucket b → b.depth < 6 → IsBucket (bucket (suc b.depth) (half upper b.depth b.pairs.items))
half_keeps upper b is deep = record {
  shallow = omega (arith, deep);
  pairs = record {
    few = omega (arith, fewer (λ (e : List ℕ × List ℕ). is_in_half upper b.depth e.0) b.pairs.items, is.pairs.few);
    short = All-filter (λ e. is_in_half upper b.depth e.0) (λ e. IsTrue (is_short e.0)) b.pairs.items is.pairs.short;
    fit = All-filter (λ e. is_in_half upper b.depth e.0) (λ e. IsTrue (is_short e.1)) b.pairs.items is.pairs.fit;
    rise = is_sorted-where_key byte_order (λ x. is_in_half upper b.depth x) b.pairs.items is.pairs.rise;
  };
}
