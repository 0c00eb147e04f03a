-- What a hash file holds at a key is what the bucket of the key's entry holds.
use Rattle.std.proofs.Common.{◌≡◌, ◌≢◌, ◌<◌, ◌⊎◌, ℕ, zero, suc, ◌%◌, ◌^◌, ◌==◌, Bool, true, false, ◌||◌, cond, if◌then◌else◌, Option, None, Some, is_some, List, [], ◌∷◌, ◌++◌, All, length, flat_map, slice_index_or, Ordering, Less, Equal, Greater, is_eq, refl, sym, ap, ◌∙◌, arith, inl, inr, true≢false}
use Rattle.std.specs.Ordering.{eq_by_cmp}
use Rattle.std.specs.Cmp.Lexicographic.{nat_list_cmp_total}
use Rattle.std.specs.FinMap.{get, empty, get-from_entries}
use Rattle.std.specs.FinMap.Entries.{find}
use Rattle.std.proofs.Math.Nat.{mod-lt}
use Rattle.std.proofs.lemmas.List.Elements.{All-head, All-tail, All-from_get_or}
use Rattle.std.proofs.lemmas.Bool.Decides.{eqb_tells}
use Rattle.oper_core.specs.State.{State, is_among}
use Rattle.key_entries.specs.Entries.{byte_order}
use Rattle.key_entries.specs.KeyLaws.{same_key}
use Rattle.key_entries.specs.ValueLaws.{same_test}
use Rattle.hash_ops.specs.Hash.{hash}
use Rattle.hash_ops.specs.Blocks.{bucket_in, directory_in}
use Rattle.hash_ops.specs.BlockLaws.{directory_count, is_same}
use Rattle.hash_ops.specs.declared.bucket.Bucket.{Bucket}
use Rattle.hash_ops.specs.declared.directory.Directory.{Directory}
use Rattle.hash_file.specs.Find.{named_at, object_for}
use Rattle.hash_file.specs.File.{IsEntry, HasDirectory, pairs_in, map_of, content_of}
use Rattle.hash_file.proofs.BitLemmas.{power_some}

either_true : (a b : Bool) → b ≡ true → (a || b) ≡ true
either_true true b e = refl
either_true false b e = e

pub among_at : (xs : List ℕ) (i : ℕ) → i < length xs → is_among (slice_index_or xs i 0) xs ≡ true
among_at [] i within = absurd (omega (arith, within))
among_at (x ∷ xs) zero within = ap (λ (t : Bool). t || is_among x xs) (same_test x)
among_at (x ∷ xs) (suc i) within = either_true (slice_index_or xs i 0 == x) (is_among (slice_index_or xs i 0) xs) (among_at xs i (omega (arith, within)))

-- lists of pairs, one after the other

find_front : (key : List ℕ) (es fs : List (List ℕ × List ℕ)) (v : List ℕ) → find byte_order key es ≡ Some v → find byte_order key (es ++ fs) ≡ Some v
find_front key [] fs v e = cc
find_front key (p ∷ es) fs v e =
    elim (eq_by_cmp byte_order key p.0) as (λ t. cond t (Some p.1) (find byte_order key es) ≡ Some v → cond t (Some p.1) (find byte_order key (es ++ fs)) ≡ Some v) [
      | true ↦ λ e. e
      | false ↦ λ e. find_front key es fs v e
    ] e

find_behind : (key : List ℕ) (es fs : List (List ℕ × List ℕ)) → find byte_order key es ≡ None → find byte_order key (es ++ fs) ≡ find byte_order key fs
find_behind key [] fs e = refl
find_behind key (p ∷ es) fs e =
    elim (eq_by_cmp byte_order key p.0) as (λ t. cond t (Some p.1) (find byte_order key es) ≡ None → cond t (Some p.1) (find byte_order key (es ++ fs)) ≡ find byte_order key fs) [
      | true ↦ λ e. cc
      | false ↦ λ e. find_behind key es fs e
    ] e

if_none : (t : Bool) (o : Option (List ℕ)) → o ≡ None → (if t then o else None) ≡ None
if_none true o e = e
if_none false o e = refl

module _ (f : ℕ → List (List ℕ × List ℕ)) (key : List ℕ) (home : ℕ) where
  -- of all objects the home alone may have the key
  abbrev pub HasAtHome : ℕ → Type 0
  HasAtHome x = (x ≡ home) ⊎ (find byte_order key (f x) ≡ None)

  at_home : (x : ℕ) (v : List ℕ) → HasAtHome x → find byte_order key (f x) ≡ Some v → x ≡ home
  at_home x v (inl same) some = same
  at_home x v (inr none) some = cc

  pub find_home : (xs : List ℕ) → All HasAtHome xs → find byte_order key (flat_map f xs) ≡ (if is_among home xs then find byte_order key (f home) else None)
  find_home [] all = refl
  find_home (x ∷ xs) all =
      let among : Bool = is_among home xs in
      let there : Option (List ℕ) = find byte_order key (f home) in
      elim (find byte_order key (f x)) as (λ o. find byte_order key (f x) ≡ o → find byte_order key (f x ++ flat_map f xs) ≡ (if (home == x) || among then there else None)) [
        | None ↦ λ none.
            find_behind key (f x) (flat_map f xs) none ∙ find_home xs (All-tail HasAtHome x xs all)
            ∙ elim (eqb_tells home x) [
              | inl same ↦ let gone : there ≡ None = ap (λ (y : ℕ). find byte_order key (f y)) same.1 ∙ none in if_none among there gone ∙ sym (if_none ((home == x) || among) there gone)
              | inr other ↦ ap (λ (t : Bool). if t || among then there else None) (sym other.0)
            ]
        | Some v ↦ λ some.
            let same : x ≡ home = at_home x v (All-head HasAtHome x xs all) some in
            let found : there ≡ Some v = ap (λ (y : ℕ). find byte_order key (f y)) (sym same) ∙ some in
            find_front key (f x) (flat_map f xs) v some ∙ sym found ∙ ap (λ (t : Bool). if t || among then there else None) (sym (is_same home x (sym same)))
      ] refl

-- a key that pairs of an object have belongs to it

pub equal_if : (o : Ordering) → is_eq o ≡ true → o ≡ Equal
equal_if Less e = absurd (true≢false (sym e))
equal_if Equal e = refl
equal_if Greater e = absurd (true≢false (sym e))

key_home : (d : Directory) (key : List ℕ) (x : ℕ) (pairs : List (List ℕ × List ℕ)) → All (λ p. object_for d p.0 ≡ x) pairs → (v : List ℕ) → find byte_order key pairs ≡ Some v → object_for d key ≡ x
key_home d key x [] all v e = cc
key_home d key x (p ∷ pairs) all v e =
    elim (eq_by_cmp byte_order key p.0) as (λ t. eq_by_cmp byte_order key p.0 ≡ t → cond t (Some p.1) (find byte_order key pairs) ≡ Some v → object_for d key ≡ x) [
      | true ↦ λ same e. ap (λ (k : List ℕ). object_for d k) (same_key key p.0 (equal_if (byte_order key p.0) same)) ∙ All-head (λ p. object_for d p.0 ≡ x) p pairs all
      | false ↦ λ other e. key_home d key x pairs (All-tail (λ p. object_for d p.0 ≡ x) p pairs all) v e
    ] refl e

-- an empty object is no bucket
pub bucket_apart : (s : State) (x new : ℕ) (b : Bucket) → s new ≡ [] → bucket_in (s x) ≡ Some b → x ≢ new
bucket_apart s x new b empty is same = true≢false (ap is_some (sym is ∙ ap (λ (z : ℕ). bucket_in (s z)) same ∙ ap bucket_in empty))

pub content_empty : (lo : ℕ) (s : State) → s lo ≡ [] → content_of lo s ≡ empty
content_empty lo s e = ap (λ (v : List ℕ). map_of s (directory_in v)) e

module _ (lo hi : ℕ) (s : State) (h : HasDirectory lo hi s) where
  -- the number of the key's entry
  abbrev pub index_of : List ℕ → ℕ
  index_of key = hash key % 2 ^ h.directory.depth

  pub index_small : (key : List ℕ) → index_of key < 2 ^ h.directory.depth
  index_small key = mod-lt (hash key) (power_some h.directory.depth)

  -- the key's entry
  abbrev pub entry_of : (key : List ℕ) → IsEntry lo hi s h.directory (index_of key)
  entry_of key = h.entries (index_of key) (index_small key)

  pub count : length h.directory.entries.items ≡ 2 ^ h.directory.depth
  count = directory_count (s lo) h.directory h.is

  abbrev pub pairs_at : ℕ → List (List ℕ × List ℕ)
  pairs_at x = pairs_in (bucket_in (s x))

  others_lack : (key : List ℕ) (i : ℕ) → i < 2 ^ h.directory.depth → HasAtHome pairs_at key (object_for h.directory key) (named_at h.directory i)
  others_lack key i within =
      let e = h.entries i within in
      let here : List (List ℕ × List ℕ) = e.bucket.pairs.items in
      let same : find byte_order key (pairs_at (named_at h.directory i)) ≡ find byte_order key here = ap (λ (o : Option Bucket). find byte_order key (pairs_in o)) e.is in
      elim (find byte_order key here) as (λ o. find byte_order key here ≡ o → HasAtHome pairs_at key (object_for h.directory key) (named_at h.directory i)) [
        | None ↦ λ none. inr (same ∙ none)
        | Some v ↦ λ some. inl (sym (key_home h.directory key (named_at h.directory i) here e.keys v some))
      ] refl

  pub content_get : (key : List ℕ) → get (content_of lo s) key ≡ find byte_order key (pairs_at (object_for h.directory key))
  content_get key =
      let xs : List ℕ = h.directory.entries.items in
      let home : ℕ = object_for h.directory key in
      let all : All (HasAtHome pairs_at key home) xs = All-from_get_or (HasAtHome pairs_at key home) xs 0 (λ i within. others_lack key i (omega (arith, within, count))) in
      let within : index_of key < length xs = omega (arith, index_small key, count) in
      ap (λ (o : Option Directory). get (map_of s o) key) h.is ∙ get-from_entries nat_list_cmp_total (flat_map pairs_at xs) key ∙ find_home pairs_at key home xs all
      ∙ ap (λ (t : Bool). if t then find byte_order key (pairs_at home) else None) (among_at xs (index_of key) within)
