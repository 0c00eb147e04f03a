-- Single pairs of a map, and those with a prefix, are ranges of it.
use Rattle.std.proofs.Common.{◌≡◌, ℕ, zero, suc, ◌<◌, ◌==◌, Bool, true, false, cond, not, ◌&&◌, if◌then◌else◌, Option, None, Some, List, [], ◌∷◌, ◌++◌, take, reverse, slice_get, filter, find, Ordering, Less, Equal, Greater, is_lt, nat_cmp, refl, sym, ap, ◌∙◌, arith}
use Rattle.std.specs.Prelude.{IsTrue, nat_lt}
use Rattle.std.specs.List.{list_all}
use Rattle.std.specs.Ordering.{ordering_reverse, ordering_then}
use Rattle.std.specs.Cmp.{nat_cmp_is, nat_cmp_total, ranked}
use Rattle.std.specs.FinMap.{FinMap, entries}
use Rattle.std.proofs.lemmas.List.{append-nil, reverse-append}
use Rattle.std.proofs.lemmas.List.Elements.{filter-append}
use Rattle.std.proofs.lemmas.Bool.{eq-eqb, eqb-true, ltb-true, ne_eqb}
use Rattle.key_entries.specs.Entries.{byte_order}
use Rattle.key_entries.specs.EntryLaws.{both_true}
use Rattle.page_ops.specs.Page.{Cell}
use Rattle.page_map.specs.Map.{all_keys, is_below, is_within}
use Rattle.page_map.specs.Reads.{above, are_bytes, back_of, begins_with, below, first_of, last_of, next_of, pairs_of, prefix_end, prefix_of, prefix_span, prev_of, raised, range_of}
use Rattle.page_map.proofs.MapLemmas.{in_all}
use Rattle.page_map.proofs.CutLemmas.{not_below_none}

-- ---- lists

module _ {A : Type 0} where
  first_taken : (l : List A) → slice_get l 0 ≡ slice_get (take 1 l) 0
  first_taken [] = refl
  first_taken (x ∷ l) = refl

  found_first : (test : A → Bool) (l : List A) → find test l ≡ slice_get (filter test l) 0
  found_first test [] = refl
  found_first test (x ∷ l) =
      elim (test x) as (λ t. cond t (Some x) (find test l) ≡ slice_get (cond t (x ∷ filter test l) (filter test l)) 0) [
        | true ↦ refl
        | false ↦ found_first test l
      ]

  filter_back : (test : A → Bool) (l : List A) → filter test (reverse l) ≡ reverse (filter test l)
  filter_back test [] = refl
  filter_back test (x ∷ l) =
      ap (filter test) (reverse-append (x ∷ []) l) ∙ filter-append test (reverse l) (x ∷ []) ∙ ap (λ (m : List A). m ++ cond (test x) (x ∷ []) []) (filter_back test l)
      ∙ elim (test x) as (λ t. reverse (filter test l) ++ cond t (x ∷ []) [] ≡ reverse (cond t (x ∷ filter test l) (filter test l))) [
        | true ↦ sym (reverse-append (x ∷ []) (filter test l))
        | false ↦ append-nil (reverse (filter test l))
      ]

  filter_same : (test other : A → Bool) → ((x : A) → test x ≡ other x) → (l : List A) → filter test l ≡ filter other l
  filter_same test other same [] = refl
  filter_same test other same (x ∷ l) = λ k. cond (same x k) (x ∷ filter_same test other same l k) (filter_same test other same l k)

  filter_all : (test : A → Bool) → ((x : A) → test x ≡ true) → (l : List A) → filter test l ≡ l
  filter_all test same [] = refl
  filter_all test same (x ∷ l) = ap (λ (t : Bool). cond t (x ∷ filter test l) (filter test l)) (same x) ∙ ap (λ (m : List A). x ∷ m) (filter_all test same l)

-- ---- spans

below_is : (end key : List ℕ) → is_within (below end) key ≡ is_lt (byte_order key end)
below_is end key = ap (λ (t : Bool). not t && is_lt (byte_order key end)) (not_below_none key)

turned : (a b : ℕ) (o : Ordering) → nat_cmp b a ≡ o → nat_cmp a b ≡ ordering_reverse o
turned a b o e = nat_cmp_total.antisymm a b ∙ ap ordering_reverse e

-- a key is below another with a byte 0 behind it where it is not above that
not_above : (key k : List ℕ) → is_lt (byte_order k (key ++ 0 ∷ [])) ≡ not (is_lt (byte_order key k))
not_above [] [] = refl
not_above [] (zero ∷ k) = not_below_none k
not_above [] (suc b ∷ k) = ap (λ (p : Ordering). is_lt (ordering_then p (byte_order k []))) (sym (nat_cmp_is (suc b) 0 Greater (omega arith)))
not_above (a ∷ key) [] = refl
not_above (a ∷ key) (b ∷ k) =
    elim (nat_cmp b a) as (λ o. nat_cmp b a ≡ o → is_lt (ordering_then o (byte_order k (key ++ 0 ∷ []))) ≡ not (is_lt (ordering_then (nat_cmp a b) (byte_order key k)))) [
      | Less ↦ λ e. sym (ap (λ (o : Ordering). not (is_lt (ordering_then o (byte_order key k)))) (turned a b Less e))
      | Equal ↦ λ e. not_above key k ∙ sym (ap (λ (o : Ordering). not (is_lt (ordering_then o (byte_order key k)))) (turned a b Equal e))
      | Greater ↦ λ e. sym (ap (λ (o : Ordering). not (is_lt (ordering_then o (byte_order key k)))) (turned a b Greater e))
    ] refl

not_not : (t : Bool) → not (not t) && true ≡ t
not_not true = refl
not_not false = refl

above_is : (key k : List ℕ) → is_within (above key) k ≡ is_lt (byte_order key k)
above_is key k = ap (λ (t : Bool). not t && true) (not_above key k) ∙ not_not (is_lt (byte_order key k))

-- ---- prefixes

-- the bytes of the prefix are those of the key so far
same_so_far : (b : ℕ) (key bytes : List ℕ) (o : Option (List ℕ)) → begins_with bytes key ≡ is_within (record { from = bytes; to = o }) key
    → begins_with bytes key ≡ (not (is_lt (byte_order key bytes)) && is_below (b ∷ key) (raised b o))
same_so_far b key bytes (Some end) same =
    same ∙ ap (λ (p : Ordering). not (is_lt (byte_order key bytes)) && is_lt (ordering_then p (byte_order key end))) (nat_cmp_is b b Equal refl)
same_so_far b key bytes None same =
    same
    ∙ elim (b == 255) as (λ t. (not (is_lt (byte_order key bytes)) && true) ≡ (not (is_lt (byte_order key bytes)) && is_below (b ∷ key) (if t then None else Some (suc b ∷ [])))) [
      | true ↦ refl
      | false ↦ ap (λ (p : Ordering). not (is_lt (byte_order key bytes)) && is_lt (ordering_then p (byte_order key []))) (nat_cmp_is b (suc b) Less (omega arith))
    ]

-- a greater byte stands past the end of the prefix
past_prefix : (b c : ℕ) (key : List ℕ) (o : Option (List ℕ)) → b < c → c < 256 → is_below (c ∷ key) (raised b o) ≡ false
past_prefix b c key (Some end) more low = ap (λ (p : Ordering). is_lt (ordering_then p (byte_order key end))) (sym (nat_cmp_is c b Greater more))
past_prefix b c key None more low =
    elim (b == 255) as (λ t. (b == 255) ≡ t → is_below (c ∷ key) (if t then None else Some (suc b ∷ [])) ≡ false) [
      | true ↦ λ e. absurd (omega (arith, eqb-true b 255 e, more, low))
      | false ↦ λ e.
          elim (nat_cmp c (suc b)) as (λ p. nat_cmp c (suc b) ≡ p → is_lt (ordering_then p (byte_order key [])) ≡ false) [
            | Less ↦ λ f. absurd (omega (arith, ranked c (suc b) Less (sym f), more))
            | Equal ↦ λ f. not_below_none key
            | Greater ↦ λ f. refl
          ] refl
    ] refl

prefix_is : (bytes key : List ℕ) → IsTrue (are_bytes key) → begins_with bytes key ≡ is_within (prefix_span bytes) key
prefix_is [] key are = sym (in_all key)
prefix_is (b ∷ bytes) [] are = refl
prefix_is (b ∷ bytes) (c ∷ key) are =
    let parts = both_true (nat_lt c 256) (are_bytes key) are in
    elim (nat_cmp c b) as (λ o. nat_cmp c b ≡ o
    → ((b == c) && begins_with bytes key) ≡ (not (is_lt (ordering_then o (byte_order key bytes))) && is_below (c ∷ key) (raised b (prefix_end bytes)))) [
      | Less ↦ λ e. ap (λ (t : Bool). t && begins_with bytes key) (ne_eqb b c (λ f. absurd (omega (arith, ranked c b Less (sym e), f))))
      | Equal ↦ λ e.
          let same : c ≡ b = ranked c b Equal (sym e) in
          ap (λ (t : Bool). t && begins_with bytes key) (eq-eqb b c (sym same)) ∙ same_so_far b key bytes (prefix_end bytes) (prefix_is bytes key parts.1)
          ∙ ap (λ (x : ℕ). not (is_lt (byte_order key bytes)) && is_below (x ∷ key) (raised b (prefix_end bytes))) (sym same)
      | Greater ↦ λ e.
          let more : b < c = ranked c b Greater (sym e) in
          ap (λ (t : Bool). t && begins_with bytes key) (ne_eqb b c (λ f. absurd (omega (arith, more, f))))
          ∙ sym (past_prefix b c key (prefix_end bytes) more (ltb-true c 256 parts.0))
    ] refl

prefixes : (bytes : List ℕ) (cells : List Cell) → IsTrue (list_all (λ c. are_bytes c.0) cells) → filter (λ c. begins_with bytes c.0) cells ≡ filter (λ c. is_within (prefix_span bytes) c.0) cells
prefixes bytes [] are = refl
prefixes bytes (c ∷ cells) are =
    let parts = both_true (are_bytes c.0) (list_all (λ c. are_bytes c.0) cells) are in
    λ k. cond (prefix_is bytes c.0 parts.0 k) (c ∷ prefixes bytes cells parts.1 k) (prefixes bytes cells parts.1 k)

-- ---- reads

module _ (m : FinMap byte_order (List ℕ)) where
  pub first_is : first_of m ≡ slice_get (range_of m all_keys 1) 0
  first_is = first_taken (entries m) ∙ ap (λ (l : List Cell). slice_get (take 1 l) 0) (sym (filter_all (λ c. is_within all_keys c.0) (λ c. in_all c.0) (entries m)))

  pub last_is : last_of m ≡ slice_get (back_of m all_keys 1) 0
  last_is =
      first_taken (reverse (entries m))
      ∙ ap (λ (l : List Cell). slice_get (take 1 (reverse l)) 0) (sym (filter_all (λ c. is_within all_keys c.0) (λ c. in_all c.0) (entries m)))

  pub next_is : (key : List ℕ) → next_of m key ≡ slice_get (range_of m (above key) 1) 0
  next_is key =
      found_first (λ c. is_lt (byte_order key c.0)) (entries m)
      ∙ ap (λ (l : List Cell). slice_get l 0) (filter_same (λ c. is_lt (byte_order key c.0)) (λ c. is_within (above key) c.0) (λ c. sym (above_is key c.0)) (entries m))
      ∙ first_taken (pairs_of m (above key))

  pub prev_is : (key : List ℕ) → prev_of m key ≡ slice_get (back_of m (below key) 1) 0
  prev_is key =
      found_first (λ c. is_lt (byte_order c.0 key)) (reverse (entries m))
      ∙ ap (λ (l : List Cell). slice_get l 0)
      (filter_back (λ (c : Cell). is_lt (byte_order c.0 key)) (entries m)
      ∙ ap (λ (l : List Cell). reverse l) (filter_same (λ c. is_lt (byte_order c.0 key)) (λ c. is_within (below key) c.0) (λ c. sym (below_is key c.0)) (entries m)))
      ∙ first_taken (reverse (pairs_of m (below key)))

  pub with_prefix_is : (bytes : List ℕ) → IsTrue (list_all (λ c. are_bytes c.0) (entries m)) → prefix_of m bytes ≡ pairs_of m (prefix_span bytes)
  with_prefix_is bytes are = prefixes bytes (entries m) are
