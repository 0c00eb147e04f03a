-- What a put and a delete make of pairs, and how many bytes the pairs have then.
use Rattle.std.proofs.Common.{◌≡◌, ◌≢◌, ◌≤◌, ◌⊎◌, inl, inr, ℕ, suc, ◌+◌, Bool, true, false, not, cond, if◌then◌else◌, Option, None, Some, List, [], ◌∷◌, ◌++◌, All, length, filter, refl, sym, ap, ◌∙◌, arith, length-append, Ordering, Less, Equal, Greater, is_eq}
use Rattle.std.specs.Prelude.{IsTrue}
use Rattle.std.specs.Ordering.{eq_by_cmp, ordering_reverse}
use Rattle.std.specs.Cmp.Lexicographic.{nat_list_cmp_total}
use Rattle.std.specs.FinMap.Entries.{by_order, put, find, find-put, find-where_key, is_sorted-put, is_sorted-where_key, length-put}
use Rattle.std.proofs.lemmas.List.Elements.{All-cons, All-nil, All-head, All-tail, All-filter}
use Rattle.key_entries.specs.Short.{is_short, short_code}
use Rattle.key_entries.specs.Entries.{AreEntries, byte_order, short_field, entry_code, entries_code}
use Rattle.key_entries.specs.KeyLaws.{same_key}
use Rattle.key_entries.specs.Pairs.{has, without, IsUpdate}

-- the entries with one put have at most its bytes more
pub put_small : (key value : List ℕ) (es : List (List ℕ × List ℕ))
    → length (entries_code short_field (put byte_order key value es)) ≤ length (entries_code short_field es) + length (entry_code short_field (key, value))
put_small key value [] = omega (arith, length-append (entry_code short_field (key, value)) [])
put_small key value (e ∷ es) =
    let new : List ℕ = entry_code short_field (key, value) in
    let first : List ℕ = entry_code short_field e in
    let rest : List ℕ = entries_code short_field es in
    let so_far = put_small key value es in
    let whole = length-append first rest in
    elim (byte_order key e.0) as (λ o. length (entries_code short_field (by_order o ((key, value) ∷ e ∷ es) ((e.0, value) ∷ es) (e ∷ put byte_order key value es))) ≤ length (first ++ rest) + length new) [
      | Less ↦ omega (arith, length-append new (first ++ rest))
      | Equal ↦ omega (arith, length-append (entry_code short_field (e.0, value)) rest, length-append (short_code e.0) (short_code value), length-append (short_code e.0) (short_code e.1), length-append (short_code key) (short_code value), whole)
      | Greater ↦ omega (arith, length-append first (entries_code short_field (put byte_order key value es)), so_far, whole)
    ]

-- some of the entries have no bytes more than all
pub kept_small : (p : List ℕ × List ℕ → Bool) (es : List (List ℕ × List ℕ)) → length (entries_code short_field (filter p es)) ≤ length (entries_code short_field es)
kept_small p [] = omega arith
kept_small p (e ∷ es) =
    let first : List ℕ = entry_code short_field e in
    let so_far = kept_small p es in
    let whole = length-append first (entries_code short_field es) in
    elim (p e) as (λ b. length (entries_code short_field (cond b (e ∷ filter p es) (filter p es))) ≤ length (first ++ entries_code short_field es)) [
      | true ↦ omega (arith, length-append first (entries_code short_field (filter p es)), so_far, whole)
      | false ↦ omega (arith, so_far, whole)
    ]

-- what a put and a delete make of a map

pub put_updates : (key value : List ℕ) (pairs : List (List ℕ × List ℕ)) → IsUpdate key (Some value) pairs (put byte_order key value pairs)
put_updates key value pairs q = find-put byte_order nat_list_cmp_total q key value pairs

reversed : (o : Ordering) → is_eq (ordering_reverse o) ≡ is_eq o
reversed Less = refl
reversed Equal = refl
reversed Greater = refl

turned : (b : Bool) (o : Option (List ℕ)) → cond (not b) o None ≡ (if b then None else o)
turned true o = refl
turned false o = refl

pub delete_updates : (key : List ℕ) (pairs : List (List ℕ × List ℕ)) → IsUpdate key None pairs (without key pairs)
delete_updates key pairs q =
    let turn : eq_by_cmp byte_order key q ≡ eq_by_cmp byte_order q key = ap is_eq (nat_list_cmp_total.antisymm key q) ∙ reversed (byte_order q key) in
    find-where_key byte_order (λ x. not (eq_by_cmp byte_order key x)) q (λ x same. ap (λ (k : List ℕ). not (eq_by_cmp byte_order key k)) (sym (same_key q x same))) pairs
    ∙ turned (eq_by_cmp byte_order key q) (find byte_order q pairs)
    ∙ ap (λ (b : Bool). if b then None else find byte_order q pairs) turn

pub all_put : (P : List ℕ × List ℕ → Type 0) (key value : List ℕ) → P (key, value) → ((e : List ℕ × List ℕ) → P e → P (e.0, value))
    → (es : List (List ℕ × List ℕ)) → All P es → All P (put byte_order key value es)
all_put P key value new changed [] all = All-cons P (key, value) [] new (All-nil P)
all_put P key value new changed (e ∷ es) all =
    let here = All-head P e es all in
    let rest = All-tail P e es all in
    elim (byte_order key e.0) as (λ o. All P (by_order o ((key, value) ∷ e ∷ es) ((e.0, value) ∷ es) (e ∷ put byte_order key value es))) [
      | Less ↦ All-cons P (key, value) (e ∷ es) new all
      | Equal ↦ All-cons P (e.0, value) es (changed e here) rest
      | Greater ↦ All-cons P e (put byte_order key value es) here (all_put P key value new changed es rest)
    ]

few_put : (there : Bool) (n : ℕ) → n ≤ 7 → IsTrue there ⊎ (n ≢ 7) → cond there n (n + 1) ≤ 7
few_put true n few room = few
few_put false n few (inl there) = cc
few_put false n few (inr room) = omega (arith, few, room)

pub put_keeps : (key value : List ℕ) (pairs : List (List ℕ × List ℕ)) → AreEntries short_field pairs → IsTrue (is_short key) → IsTrue (is_short value)
    → IsTrue (has key pairs) ⊎ (length pairs ≢ 7) → AreEntries short_field (put byte_order key value pairs)
put_keeps key value pairs are short fits room = record {
  few = omega (arith, length-put byte_order nat_list_cmp_total key value pairs are.rise, few_put (has key pairs) (length pairs) are.few room);
  short = all_put (λ e. IsTrue (is_short e.0)) key value short (λ e s. s) pairs are.short;
  fit = all_put (λ e. IsTrue (is_short e.1)) key value fits (λ e s. fits) pairs are.fit;
  rise = is_sorted-put byte_order nat_list_cmp_total key value pairs are.rise;
}

pub fewer : {X : Type 0} (p : X → Bool) (xs : List X) → length (filter p xs) ≤ length xs
fewer p [] = omega arith
fewer p (x ∷ xs) =
    let rest = fewer p xs in
    elim (p x) as (λ b. length (cond b (x ∷ filter p xs) (filter p xs)) ≤ suc (length xs)) [ true ↦ omega (arith, rest) | false ↦ omega (arith, rest) ]

pub delete_keeps : (key : List ℕ) (pairs : List (List ℕ × List ℕ)) → AreEntries short_field pairs → AreEntries short_field (without key pairs)
delete_keeps key pairs are = record {
  few = omega (arith, fewer (λ (e : List ℕ × List ℕ). not (eq_by_cmp byte_order key e.0)) pairs, are.few);
  short = All-filter (λ e. not (eq_by_cmp byte_order key e.0)) (λ e. IsTrue (is_short e.0)) pairs are.short;
  fit = All-filter (λ e. not (eq_by_cmp byte_order key e.0)) (λ e. IsTrue (is_short e.1)) pairs are.fit;
  rise = is_sorted-where_key byte_order (λ x. not (eq_by_cmp byte_order key x)) pairs are.rise;
}
