-- What a put and a delete make of a leaf, from the spot of the key in its bytes.
use Rattle.std.proofs.Common.{◌≡◌, ◌≤◌, ◌<◌, ◌≢◌, ℕ, suc, ◌+◌, ◌==◌, Bool, true, false, not, ◌&&◌, cond, if◌then◌else◌, T, Option, None, Some, Ok, Err, List, [], ◌∷◌, length, refl, sym, ap, ◌∙◌, arith, option_map, inl, inr}
use Rattle.std.specs.Prelude.{⊤, nat_lt}
use Rattle.std.specs.Result.{result_err}
use Rattle.std.specs.Cmp.Lexicographic.{nat_list_cmp_total}
use Rattle.std.specs.FinMap.Entries.{put, is_sorted, length-put, length_without}
use Rattle.std.proofs.lemmas.Bool.{le-ltb, lt-ltb}
use Rattle.std.proofs.lemmas.Bool.Decides.{eqb_tells}
use Rattle.oper_core.specs.declared.refusal.Refusal.TheVariants.{NoKey, NodeFull}
use Rattle.key_entries.specs.Entries.{byte_order, short_field, entry_code, entries_code}
use Rattle.key_entries.specs.Objects.{values_of}
use Rattle.key_entries.specs.Pairs.{has, without}
use Rattle.key_entries.specs.RisingLaws.{rising_known}
use Rattle.key_entries.specs.Spots.{IsSpot, pairs_in}
use Rattle.key_entries.specs.declared.spot.Spot.{Spot}
use Rattle.btree_ops.specs.Node.{leaf}
use Rattle.btree_ops.specs.Head.{leaf_with_pair}
use Rattle.btree_ops.specs.Effects.{pairs_of, put_made, delete_made}
use Rattle.btree_ops.specs.Operation.{bytes_of}
use Rattle.btree_ops.specs.declared.made.Made.TheVariants.{One}

abbrev Pairs : Type 0
Pairs = List (List ℕ × List ℕ)

pub leaf_pairs : (o : Option Pairs) → pairs_of (option_map leaf o) ≡ o
leaf_pairs None = refl
leaf_pairs (Some pairs) = refl

apart : (a b : ℕ) → a ≤ b → nat_lt a b ≡ not (a == b)
apart a b low =
    elim (eqb_tells a b) [
      | inl same ↦ le-ltb a b (omega (arith, same.1)) ∙ ap not (sym same.0)
      | inr other ↦ lt-ltb a b (less other.1) ∙ ap not (sym other.0)
    ]
  where
    less : (a ≢ b) → a < b
    less other = omega (arith, low, other)

module _ (key : List ℕ) (o : Option Pairs) (count : ℕ) (bytes : List ℕ) (spot : Spot) (head : o ≡ pairs_in count bytes)
    (found : (pairs : Pairs) × (pairs_in count bytes ≡ Some pairs) × IsSpot key pairs bytes spot) where
  abbrev pairs : Pairs
  pairs = found.0

  is : o ≡ Some pairs
  is = head ∙ found.1

  known : (length pairs ≡ count) × T (is_sorted byte_order pairs)
  known = let all = rising_known short_field (λ v. ⊤) (λ bytes x e. tt) count bytes found.0 found.1 in (all.0.count, all.1)

  there : has key pairs ≡ not (spot.start == spot.end)
  there = found.2.there ∙ apart spot.start spot.end found.2.order

  pub put_full : count ≤ 7 → (n : ℕ) → n ≡ (if spot.start == spot.end then suc count else count) → 7 < n → (new : List ℕ) → put_made key new o ≡ Err NodeFull
  put_full few n is_n many new =
      ap (put_made key new) is
      ∙ ap (λ (b : Bool). if not b && length pairs == 7 then Err NodeFull else Ok (One (leaf (put byte_order key new pairs)))) there
      ∙ elim (spot.start == spot.end) as (λ b. n ≡ (if b then suc count else count) → (if not (not b) && length pairs == 7 then Err NodeFull else Ok (One (leaf (put byte_order key new pairs)))) ≡ Err NodeFull) [
        | true ↦ λ is_n. elim (eqb_tells (length pairs) 7) [
          | inl same ↦ ap (λ (b : Bool). if b then Err NodeFull else Ok (One (leaf (put byte_order key new pairs)))) same.0
          | inr other ↦ absurd (other.1 (omega (arith, known.0, few, many, is_n)))
        ]
        | false ↦ λ is_n. absurd (omega (arith, few, many, is_n))
      ] is_n

  -- once a pair is put
  abbrev PutDone : ℕ → List ℕ → Type 0
  PutDone n new = (put_made key new o ≡ Ok (One (leaf (put byte_order key new pairs)))) × (length (put byte_order key new pairs) ≡ n)

  put_one : (n : ℕ) → n ≡ (if spot.start == spot.end then suc count else count) → n ≤ 7 → (new : List ℕ) → PutDone n new
  put_one n is_n few new =
      let made = Ok (One (leaf (put byte_order key new pairs))) in
      let size : length (put byte_order key new pairs) ≡ cond (has key pairs) (length pairs) (length pairs + 1) = length-put byte_order nat_list_cmp_total key new pairs known.1 in
      elim (spot.start == spot.end) as (λ b. has key pairs ≡ not b → n ≡ (if b then suc count else count) → (put_made key new o ≡ made) × (length (put byte_order key new pairs) ≡ n)) [
        | true ↦ λ has is_n. (
          ap (put_made key new) is ∙ ap (λ (b : Bool). if not b && length pairs == 7 then Err NodeFull else made) has
              ∙ elim (eqb_tells (length pairs) 7) [
                | inl same ↦ absurd (omega (arith, same.1, known.0, is_n, few))
                | inr other ↦ ap (λ (b : Bool). if b then Err NodeFull else made) other.0
              ],
          size ∙ ap (λ (b : Bool). cond b (length pairs) (length pairs + 1)) has ∙ omega (arith, known.0, is_n),
        )
        | false ↦ λ has is_n. (
          ap (put_made key new) is ∙ ap (λ (b : Bool). if not b && length pairs == 7 then Err NodeFull else made) has,
          size ∙ ap (λ (b : Bool). cond b (length pairs) (length pairs + 1)) has ∙ known.0 ∙ sym is_n,
        )
      ] there is_n

  pub put_accepted : (n : ℕ) → n ≡ (if spot.start == spot.end then suc count else count) → n ≤ 7 → (new : List ℕ) → result_err (put_made key new o) ≡ None
  put_accepted n is_n few new = ap result_err (put_one n is_n few new).0

  pub put_bytes : (n : ℕ) → n ≡ (if spot.start == spot.end then suc count else count) → n ≤ 7 → (x : ℕ) (new : List ℕ)
      → values_of bytes_of (x ∷ []) (put_made key new o) ≡ leaf_with_pair n bytes spot (entry_code short_field (key, new)) ∷ []
  put_bytes n is_n few x new =
      let done = put_one n is_n few new in
      ap (values_of bytes_of (x ∷ [])) done.0
      ∙ ap (λ (n : ℕ). (1 ∷ n ∷ entries_code short_field (put byte_order key new found.0)) ∷ []) done.1
      ∙ ap (λ (l : List ℕ). (1 ∷ n ∷ l) ∷ []) (found.2.after_put new)

  -- and once a key is deleted
  pub delete_absent : true ≡ (spot.start == spot.end) → delete_made key o ≡ Err NoKey
  delete_absent none =
      ap (delete_made key) is ∙ ap (λ (b : Bool). if b then Ok (One (leaf (without key pairs))) else Err NoKey) (there ∙ ap not (sym none))

  one_less : false ≡ (spot.start == spot.end) → suc (length (without key pairs)) ≡ count
  one_less some =
      let size : cond (has key pairs) 1 0 + length (without key pairs) ≡ length pairs = length_without byte_order nat_list_cmp_total key pairs known.1 in
      omega (arith, ap (λ (b : Bool). cond b 1 0 + length (without key pairs)) (there ∙ ap not (sym some)), size, known.0)

  pub some_pairs : false ≡ (spot.start == spot.end) → 1 ≤ count
  some_pairs some = omega (arith, one_less some)

  delete_one : false ≡ (spot.start == spot.end) → delete_made key o ≡ Ok (One (leaf (without key pairs)))
  delete_one some =
      ap (delete_made key) is ∙ ap (λ (b : Bool). if b then Ok (One (leaf (without key pairs))) else Err NoKey) (there ∙ ap not (sym some))

  pub delete_accepted : false ≡ (spot.start == spot.end) → result_err (delete_made key o) ≡ None
  delete_accepted some = ap result_err (delete_one some)

  pub delete_bytes : false ≡ (spot.start == spot.end) → (n : ℕ) → suc n ≡ count → (x : ℕ)
      → values_of bytes_of (x ∷ []) (delete_made key o) ≡ leaf_with_pair n bytes spot [] ∷ []
  delete_bytes some n less x =
      let size : length (without key found.0) ≡ n = omega (arith, one_less some, less) in
      ap (values_of bytes_of (x ∷ [])) (delete_one some)
      ∙ ap (λ (n : ℕ). (1 ∷ n ∷ entries_code short_field (without key found.0)) ∷ []) size
      ∙ ap (λ (l : List ℕ). (1 ∷ n ∷ l) ∷ []) found.2.after_delete
