-- The cells of a page that is met, one after the other.
use Rattle.std.proofs.Common.{◌≡◌, ◌≢◌, ℕ, zero, suc, ◌+◌, ◌-◌, ◌<◌, ◌≤◌, Bool, true, false, ◌&&◌, if◌then◌else◌, Option, None, Some, List, [], ◌∷◌, ◌++◌, length, drop, drop-cons, drop_of_length-le, take_all, reverse, is_eq, is_some, refl, sym, ap, ◌∙◌, arith, slice_index_or}
use Rattle.std.specs.Prelude.{IsTrue, nat_lt, nat_le}
use Rattle.std.specs.List.{list_all}
use Rattle.std.proofs.lemmas.Bool.{le-leb, lt-ltb}
use Rattle.std.proofs.lemmas.List.{reverse-append}
use Rattle.byteorder.specs.Endian.{little_bytes, little_number}
use Rattle.oper_core.specs.LittleEndian.{length-little_bytes, little_bytes-little_number}
use Rattle.key_entries.specs.Entries.{byte_order}
use Rattle.key_entries.specs.EntryLaws.{AreBytes, same_some, true_both}
use Rattle.page_ops.specs.Page.{Cell}
use Rattle.page_ops.specs.OnCells.{beside_at, key_at}
use Rattle.page_map.specs.Checks.{child_beside, children_of, has_child, next_key}
use Rattle.page_map.specs.Map.{Range, is_child}
use Rattle.page_map.specs.declared.awaited.Awaited.{Awaited}
use Rattle.page_map.proofs.CellLemmas.{no_cell}
use Rattle.page_map.proofs.PageLemmas.{eq_itself, eq_same}

-- ---- the child that a cell names

module _ (range : Range) (bytes : List ℕ) where
  abbrev code : Bool
  code = is_eq (byte_order bytes (little_bytes 4 (little_number 4 bytes)))

  abbrev there : Bool
  there = is_child range.lo range.hi (little_number 4 bytes)

  pub no_child : length bytes ≢ 4 → None ≡ child_beside range bytes
  no_child apart =
      elim code as (λ t. code ≡ t → None ≡ (if t && there then Some (little_number 4 bytes) else None)) [
        | true ↦ λ e. absurd (apart (ap (λ (l : List ℕ). length l) (eq_same bytes (little_bytes 4 (little_number 4 bytes)) e) ∙ length-little_bytes 4 (little_number 4 bytes)))
        | false ↦ λ e. refl
      ] refl

  pub child_told : length bytes ≡ 4 → AreBytes bytes → (child : ℕ) → child ≡ little_number 4 bytes → range.lo < child → child ≤ range.hi → Some child ≡ child_beside range bytes
  child_told four small child is above low =
      let same : little_bytes 4 (little_number 4 bytes) ≡ bytes = little_bytes-little_number 4 bytes (omega (arith, four)) small ∙ take_all 4 bytes (omega (arith, four)) in
      let coded : code ≡ true = ap (λ (l : List ℕ). is_eq (byte_order bytes l)) same ∙ eq_itself bytes in
      let inside : there ≡ true =
      true_both (nat_lt range.lo (little_number 4 bytes)) (nat_le (little_number 4 bytes) range.hi) (lt-ltb range.lo (little_number 4 bytes) (omega (arith, is, above))) (le-leb (little_number 4 bytes) range.hi (omega (arith, is, low))) in
      ap (λ (x : ℕ). Some x) is ∙ sym (λ k. if coded k && inside k then Some (little_number 4 bytes) else None)

  -- what is told is the number
  pub told_is : (child : ℕ) → Some child ≡ child_beside range bytes → (child ≡ little_number 4 bytes) × IsTrue (is_some (child_beside range bytes))
  told_is child e =
      let named : IsTrue (is_some (child_beside range bytes)) = ap (λ (o : Option ℕ). is_some o) (sym e) in
      (by_test (code && there) e, named)
    where
      by_test : (t : Bool) → Some child ≡ (if t then Some (little_number 4 bytes) else None) → child ≡ little_number 4 bytes
      by_test true e = same_some child (little_number 4 bytes) e
      by_test false e = cc

-- ---- children that are awaited

one_lacks : (test : Cell → Bool) (cells : List Cell) (i : ℕ) → i < length cells → test (slice_index_or cells i no_cell) ≡ false → list_all test cells ≡ false
one_lacks test [] i low lacks = absurd (omega (arith, low))
one_lacks test (c ∷ cells) zero low lacks = ap (λ (t : Bool). t && list_all test cells) lacks
one_lacks test (c ∷ cells) (suc i) low lacks =
    ap (λ (t : Bool). test c && t) (one_lacks test cells i (omega (arith, low)) lacks) ∙ elim (test c) as (λ t. (t && false) ≡ false) [ true ↦ refl | false ↦ refl ]

module _ (range : Range) (cells : List Cell) where
  pub nameless : (i : ℕ) → i < length cells → None ≡ child_beside range (beside_at cells i) → list_all (has_child range) cells ≡ false
  nameless i low none = one_lacks (has_child range) cells i low (ap (λ (o : Option ℕ). is_some o) (sym none))

  -- what is kept while the children from a place on are pushed, the last one first
  pub record ArePushed (level : ℕ) (to : Option (List ℕ)) (old now : List Awaited) (end : Option (List ℕ)) (left : ℕ) : Type 0 where
    pub few : left ≤ length cells
    pub named : list_all (has_child range) (drop left cells) ≡ true
    pub ends : end ≡ next_key to (drop left cells)
    pub same : reverse now ≡ children_of level to (drop left cells) ++ reverse old

  pub none_pushed : (level : ℕ) (to : Option (List ℕ)) (old : List Awaited) (n : ℕ) → n ≡ length cells → ArePushed level to old old to n
  none_pushed level to old n all =
      let none : drop n cells ≡ [] = drop_of_length-le cells (omega (arith, all)) in
      record {
        few = omega (arith, all);
        named = ap (λ (l : List Cell). list_all (has_child range) l) none;
        ends = sym (ap (next_key to) none);
        same = sym (ap (λ (l : List Cell). children_of level to l ++ reverse old) none);
      }

  pub one_pushed : (level : ℕ) (to : Option (List ℕ)) (old now next : List Awaited) (end : Option (List ℕ)) (left i object : ℕ) (key : List ℕ) → ArePushed level to old now end left → suc i ≡ left
      → Some object ≡ child_beside range (beside_at cells i) → key ≡ key_at cells i → next ≡ now ++ record { object = object; level = level; from = key; to = end } ∷ []
      → ArePushed level to old next (Some key) i
  one_pushed level to old now next end left i object key are place found key_is pushed =
      let low : i < length cells = omega (arith, place, are.few) in
      let cell : Cell = slice_index_or cells i no_cell in
      let here : drop i cells ≡ cell ∷ drop left cells = drop-cons cells i no_cell low ∙ ap (λ (n : ℕ). cell ∷ drop n cells) place in
      let told = told_is range (beside_at cells i) object found in
      let child : Awaited = record { object = object; level = level; from = key; to = end } in
      record {
        few = omega (arith, low);
        named = ap (λ (l : List Cell). list_all (has_child range) l) here ∙ true_both (has_child range cell) (list_all (has_child range) (drop left cells)) told.1 are.named;
        ends = ap (λ (k : List ℕ). Some k) key_is ∙ sym (ap (next_key to) here);
        same =
            ap (λ (l : List Awaited). reverse l) pushed ∙ reverse-append now (child ∷ [])
            ∙ (λ k. record { object = told.0 k; level = level; from = key_is k; to = are.ends k } ∷ are.same k) ∙ sym (ap (λ (l : List Cell). children_of level to l ++ reverse old) here);
      }
