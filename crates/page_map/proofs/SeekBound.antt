-- A search finds no place behind the last one.
use Rattle.std.proofs.Common.{◌≡◌, ℕ, zero, suc, ◌+◌, ◌/◌, ◌<◌, ◌≤◌, true, false, if◌then◌else◌, Option, None, Some, List, is_lt, refl, subst, arith}
use Rattle.std.specs.Prelude.{nat_lt}
use Rattle.std.proofs.lemmas.Bool.{ltb-true}
use Rattle.key_entries.specs.Entries.{byte_order}
use Rattle.key_entries.specs.EntryLaws.{same_some}
use Rattle.page_ops.specs.Reading.{count_in, has_cell, key_of, seek, seek_from}
use Rattle.page_map.specs.Steps.{front_in}

seek_low : (n : ℕ) (bytes key : List ℕ) (lo hi i : ℕ) → lo ≤ hi → seek_from n bytes key lo hi ≡ Some i → i ≤ hi
seek_low zero bytes key lo hi i order e = subst (λ (k : ℕ). k ≤ hi) (same_some lo i e) order
seek_low (suc n) bytes key lo hi i order e =
    let m : ℕ = (lo + hi) / 2 in
    elim (nat_lt lo hi) as (λ t. nat_lt lo hi ≡ t → (if t then (if has_cell bytes m then (if is_lt (byte_order (key_of bytes m) key) then seek_from n bytes key (suc m) hi else seek_from n bytes key lo m) else None) else Some lo) ≡ Some i → i ≤ hi) [
      | true ↦ λ less.
          let inside : lo < hi = ltb-true lo hi less in
          elim (has_cell bytes m) as (λ t. (if t then (if is_lt (byte_order (key_of bytes m) key) then seek_from n bytes key (suc m) hi else seek_from n bytes key lo m) else None) ≡ Some i → i ≤ hi) [
            | true ↦
                elim (is_lt (byte_order (key_of bytes m) key)) as (λ t. (if t then seek_from n bytes key (suc m) hi else seek_from n bytes key lo m) ≡ Some i → i ≤ hi) [
                  | true ↦ λ f. seek_low n bytes key (suc m) hi i (omega (arith, inside)) f
                  | false ↦ λ f. let near : i ≤ m = seek_low n bytes key lo m i (omega (arith, inside)) f in omega (arith, near, inside)
                ]
            | false ↦ λ f. cc
          ]
      | false ↦ λ less f. subst (λ (k : ℕ). k ≤ hi) (same_some lo i f) order
    ] refl e

pub place_low : (bytes key : List ℕ) (i : ℕ) → seek bytes key ≡ Some i → i ≤ count_in bytes
place_low bytes key i e = seek_low (count_in bytes) bytes key 0 (count_in bytes) i (omega arith) e

pub front_low : (bytes : List ℕ) (end : Option (List ℕ)) (n : ℕ) → front_in bytes end ≡ Some n → n ≤ count_in bytes
front_low bytes None n e = omega (arith, same_some (count_in bytes) n e)
front_low bytes (Some end) n e = place_low bytes end n e
