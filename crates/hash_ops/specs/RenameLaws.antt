-- What the entries of a directory name after a split.
use Rattle.std.proofs.Common.{◌≡◌, ◌≤◌, ◌<◌, ℕ, zero, suc, ◌+◌, ◌-◌, ◌*◌, ◌%◌, ◌^◌, ◌==◌, Bool, true, false, ◌&&◌, ◌⊎◌, if◌then◌else◌, List, [], ◌∷◌, ◌++◌, All, length, slice_index_or, refl, sym, ap, ◌∙◌, arith, inl, inr, true≢false, length-append}
use Rattle.std.proofs.Math.Nat.{mod-eq_of_lt, pow-succ'}
use Rattle.std.proofs.lemmas.List.{get_or_append_left, get_or-append_right}
use Rattle.std.proofs.lemmas.List.Elements.{All-cons, All-nil, All-head, All-tail}
use Rattle.std.proofs.lemmas.Bool.Decides.{eqb_tells}
use Rattle.hash_ops.specs.Hash.{has_bit}
use Rattle.hash_ops.specs.Blocks.{IsDirectory, directory}
use Rattle.hash_ops.specs.Effects.{deep_enough, renamed, renamed_at, with_new}
use Rattle.hash_ops.specs.Laws.{SplitsEntries, entry}
use Rattle.hash_ops.specs.declared.directory.Directory.{Directory}

pub below_or_not : (i n : ℕ) → (i < n) ⊎ (n ≤ i)
below_or_not i zero = inr (omega arith)
below_or_not zero (suc n) = inl (omega arith)
below_or_not (suc i) (suc n) = elim (below_or_not i n) [ inl low ↦ inl (omega (arith, low)) | inr high ↦ inr (omega (arith, high)) ]

-- the low bits of a number in the upper half
upper_bits : (g i : ℕ) → g < 6 → 2 ^ g ≤ i → i < 2 ^ suc g → i % 2 ^ g ≡ i - 2 ^ g
upper_bits zero i few low high = omega (arith, low, high)
upper_bits (suc zero) i few low high = omega (arith, low, high)
upper_bits (suc (suc zero)) i few low high = omega (arith, low, high)
upper_bits (suc (suc (suc zero))) i few low high = omega (arith, low, high)
upper_bits (suc (suc (suc (suc zero)))) i few low high = omega (arith, low, high)
upper_bits (suc (suc (suc (suc (suc zero))))) i few low high = omega (arith, low, high)
upper_bits (suc (suc (suc (suc (suc (suc g)))))) i few low high = absurd (omega (arith, few))

abbrev IsU32 : ℕ → Type 0
IsU32 x = x < 2 ^ 32

all_both : (xs ys : List ℕ) → All IsU32 xs → All IsU32 ys → All IsU32 (xs ++ ys)
all_both [] ys all more = more
all_both (x ∷ xs) ys all more = All-cons IsU32 x (xs ++ ys) (All-head IsU32 x xs all) (all_both xs ys (All-tail IsU32 x xs all) more)

module _ (place old new : ℕ) where
  renamed_index : (k : ℕ) (xs : List ℕ) (i : ℕ) → i < length xs → slice_index_or (renamed place old new k xs) i 0 ≡ renamed_at place old new (k + i) (slice_index_or xs i 0)
  renamed_index k [] i within = absurd (omega (arith, within))
  renamed_index k (x ∷ xs) zero within = let same : k ≡ k + 0 = omega arith in ap (λ (n : ℕ). renamed_at place old new n x) same
  renamed_index k (x ∷ xs) (suc i) within =
      let same : suc k + i ≡ k + suc i = omega arith in
      renamed_index (suc k) xs i (omega (arith, within)) ∙ ap (λ (n : ℕ). renamed_at place old new n (slice_index_or xs i 0)) same

  pub renamed_size : (k : ℕ) (xs : List ℕ) → length (renamed place old new k xs) ≡ length xs
  renamed_size k [] = refl
  renamed_size k (x ∷ xs) = ap suc (renamed_size (suc k) xs)

  either_fits : (t : Bool) (x : ℕ) → x < 2 ^ 32 → new < 2 ^ 32 → (if t then new else x) < 2 ^ 32
  either_fits true x fits more = more
  either_fits false x fits more = fits

  renamed_fit : (k : ℕ) (xs : List ℕ) → new < 2 ^ 32 → All IsU32 xs → All IsU32 (renamed place old new k xs)
  renamed_fit k [] fits all = All-nil IsU32
  renamed_fit k (x ∷ xs) fits all =
      All-cons IsU32 (renamed_at place old new k x) (renamed place old new (suc k) xs) (either_fits (x == old && has_bit place k) x (All-head IsU32 x xs all) fits)
      (renamed_fit (suc k) xs fits (All-tail IsU32 x xs all))

-- it has as many entries as its depth tells, whatever numbers they are
pub record HasEntries (d : Directory) : Type 0 where
  pub shallow : d.depth ≤ 6
  pub count : length d.entries.items ≡ 2 ^ d.depth

-- a directory that is deep enough for a bucket of this depth, whose entries are those of the low bits
record IsDeep (place : ℕ) (d deep : Directory) : Type 0 where
  shape : HasEntries deep
  deeper : place < deep.depth
  grows : d.depth ≤ deep.depth
  fit : All IsU32 d.entries.items → All IsU32 deep.entries.items
  entries : (i : ℕ) → i < 2 ^ deep.depth → entry deep i ≡ entry d (i % 2 ^ d.depth)

doubled_is_deep : (place : ℕ) (d : Directory) → HasEntries d → place ≡ d.depth → place < 6 → IsDeep place d (directory (suc d.depth) (d.entries.items ++ d.entries.items))
doubled_is_deep place d is same few =
    let xs : List ℕ = d.entries.items in
    let power : 2 ^ suc d.depth ≡ 2 * 2 ^ d.depth = pow-succ' 2 d.depth in
    record {
      shape = record { shallow = omega (arith, same, few); count = omega (arith, length-append xs xs, is.count, power) };
      deeper = omega (arith, same);
      grows = omega arith;
      fit = λ all. all_both xs xs all all;
      entries = λ i within. elim (below_or_not i (2 ^ d.depth)) [
        | inl low ↦ get_or_append_left xs xs 0 i (omega (arith, low, is.count)) ∙ sym (ap (λ (k : ℕ). entry d k) (mod-eq_of_lt low))
        | inr high ↦
            get_or-append_right xs xs (2 ^ d.depth) i 0 is.count high
            ∙ sym (ap (λ (k : ℕ). entry d k) (upper_bits d.depth i (omega (arith, same, few)) high within))
      ];
    }

same_is_deep : (place : ℕ) (d : Directory) → HasEntries d → place < d.depth → IsDeep place d d
same_is_deep place d is below = record { shape = is; deeper = below; grows = omega arith; fit = λ all. all; entries = λ i within. sym (ap (λ (k : ℕ). entry d k) (mod-eq_of_lt within)) }

less : (x y : ℕ) → x ≤ y → (x ≡ y → ⊥) → x < y
less x y below apart = elim (below_or_not x y) [ inl low ↦ low | inr high ↦ absurd (apart (omega (arith, below, high))) ]

deep_is : (place : ℕ) (d : Directory) → HasEntries d → place ≤ d.depth → place < 6 → IsDeep place d (deep_enough place d)
deep_is place d is below few =
    elim (place == d.depth) as (λ t. (place == d.depth) ≡ t → IsDeep place d (if t then directory (suc d.depth) (d.entries.items ++ d.entries.items) else d)) [
      | true ↦ λ e. doubled_is_deep place d is (elim (eqb_tells place d.depth) [ inl same ↦ same.1 | inr other ↦ absurd (true≢false (sym e ∙ other.0)) ]) few
      | false ↦ λ e.
          same_is_deep place d is
          (elim (eqb_tells place d.depth) [ inl same ↦ absurd (true≢false (sym same.0 ∙ e)) | inr other ↦ less place d.depth below other.1 ])
    ] refl

-- what a split makes of a directory, whatever numbers its entries are
pub record IsRenamed (place old new : ℕ) (d after : Directory) : Type 0 where
  pub shape : HasEntries after
  pub deep : place < after.depth
  pub grows : d.depth ≤ after.depth
  pub fit : new < 2 ^ 32 → All IsU32 d.entries.items → All IsU32 after.entries.items
  pub entries : (i : ℕ) → i < 2 ^ after.depth → entry after i ≡ renamed_at place old new i (entry d (i % 2 ^ d.depth))

pub renames_entries : (place old new : ℕ) (d : Directory) → HasEntries d → place ≤ d.depth → place < 6 → IsRenamed place old new d (with_new place old new (deep_enough place d))
renames_entries place old new d is below few =
    let deep = deep_is place d is below few in
    let xs : List ℕ = (deep_enough place d).entries.items in
    record {
      shape = record { shallow = deep.shape.shallow; count = renamed_size place old new 0 xs ∙ deep.shape.count };
      deep = deep.deeper;
      grows = deep.grows;
      fit = λ small all. renamed_fit place old new 0 xs small (deep.fit all);
      entries = λ i within.
          let same : 0 + i ≡ i = omega arith in
          renamed_index place old new 0 xs i (omega (arith, within, deep.shape.count)) ∙ ap (λ (k : ℕ). renamed_at place old new k (slice_index_or xs i 0)) same
          ∙ ap (λ (x : ℕ). renamed_at place old new i x) (deep.entries i within);
    }

pub splits_entries : (place old new : ℕ) (d : Directory) → IsDirectory d → place ≤ d.depth → place < 6 → new < 2 ^ 32 → SplitsEntries place old new d (with_new place old new (deep_enough place d))
splits_entries place old new d is below few fits =
    let after = renames_entries place old new d (record { shallow = is.shallow; count = is.count }) below few in
    record { good = record { shallow = after.shape.shallow; count = after.shape.count; fit = after.fit fits is.fit }; deep = after.deep; entries = after.entries }
