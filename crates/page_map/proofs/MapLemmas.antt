-- The way to a key leads to the leaf that has it, where any has.
use Rattle.std.proofs.Common.{◌≡◌, ◌≢◌, ◌⊎◌, inl, inr, ℕ, zero, suc, ◌+◌, ◌^◌, ◌<◌, ◌≤◌, ◌==◌, Bool, true, false, cond, not, ◌&&◌, if◌then◌else◌, Option, None, Some, Ok, Err, List, [], ◌∷◌, ◌++◌, T, map, flat_map, length, Ordering, Less, Equal, Greater, is_lt, is_eq, refl, sym, ap, ◌∙◌, subst, arith, append_assoc, length-append, true≢false}
use Rattle.std.specs.Prelude.{⊤, IsTrue, nat_lt, nat_le}
use Rattle.std.specs.List.{list_all}
use Rattle.std.specs.Ordering.{ordering_reverse}
use Rattle.std.specs.Cmp.Lexicographic.{nat_list_cmp_total}
use Rattle.std.specs.FinMap.{get, get-from_entries}
use Rattle.std.specs.FinMap.Entries.{find, is_sorted}
use Rattle.std.proofs.lemmas.List.{append-nil}
use Rattle.std.proofs.lemmas.Bool.{leb-true, le-leb, eq-eqb}
use Rattle.byteorder.specs.Endian.{little_bytes, little_number}
use Rattle.oper_core.specs.LittleEndian.{length-little_bytes, little_number-little_bytes}
use Rattle.oper_core.specs.State.{State}
use Rattle.key_entries.specs.Entries.{byte_order}
use Rattle.key_entries.specs.EntryLaws.{both_true, same_some, true_both}
use Rattle.key_entries.specs.KeyLaws.{same_key}
use Rattle.page_ops.specs.Page.{Cell, Page, page_code, page_of, AreShort}
use Rattle.page_ops.specs.Reading.{has_cell, opens, level_in, under, beside_of, child_of, found_in}
use Rattle.page_ops.specs.Seen.{child_cell}
use Rattle.page_ops.specs.OnCells.{beside_at}
use Rattle.page_ops.specs.Search.{last_under, next_under}
use Rattle.page_map.specs.Map.{Span, is_below, is_within, Leaf, Tree, root_of, pairs_in, cells_in, IsHeld, Each, bytes_at, is_child, Holds, all_within, all_past, Share, StandIn, all_keys, IsMap, content_of, objects_in, one_if, times}
use Rattle.page_map.specs.Deletes.{NoneIsEmpty}
use Rattle.page_map.specs.Sets.{AreShortPairs, is_short_key, is_short_pair}
use Rattle.page_map.specs.Walk.{is_on, names_child, child_in, child_for, on_from, walk_from, walk, get_in, get_at, get_answer}

-- ---- the order of keys

pub turned : (x y : List ℕ) → byte_order x y ≡ ordering_reverse (byte_order y x)
turned x y = nat_list_cmp_total.antisymm x y

pub less_is : (o : Ordering) → is_lt o ≡ true → o ≡ Less
less_is Less e = refl
less_is Equal e = cc
less_is Greater e = cc

-- a key below one that is not above another is below that
pub below_through : (x y z : List ℕ) → is_lt (byte_order x y) ≡ true → is_lt (byte_order z y) ≡ false → is_lt (byte_order x z) ≡ true
below_through x y z one two =
    elim (byte_order z y) as (λ o. byte_order z y ≡ o → is_lt o ≡ false → is_lt (byte_order x z) ≡ true) [
      | Less ↦ λ e f. absurd (true≢false f)
      | Equal ↦ λ e f. ap (λ (k : List ℕ). is_lt (byte_order x k)) (same_key z y e) ∙ one
      | Greater ↦ λ e f. ap is_lt (nat_list_cmp_total.trans x y z (less_is (byte_order x y) one) (turned y z ∙ ap ordering_reverse e))
    ] refl two

pub below_both : (x y z : List ℕ) → is_lt (byte_order x y) ≡ true → is_lt (byte_order y z) ≡ true → is_lt (byte_order x z) ≡ true
below_both x y z one two = ap is_lt (nat_list_cmp_total.trans x y z (less_is (byte_order x y) one) (less_is (byte_order y z) two))

pub not_below_itself : (x : List ℕ) → is_lt (byte_order x x) ≡ false
not_below_itself x =
    elim (byte_order x x) as (λ o. byte_order x x ≡ o → is_lt o ≡ false) [
      | Less ↦ λ e. absurd (true≢false (ap is_lt (sym e ∙ turned x x ∙ ap ordering_reverse e)))
      | Equal ↦ λ e. refl
      | Greater ↦ λ e. refl
    ] refl

pub not_both : (x y : List ℕ) → is_lt (byte_order x y) ≡ true → is_lt (byte_order y x) ≡ false
not_both x y one = ap is_lt (turned y x ∙ ap ordering_reverse (less_is (byte_order x y) one))

pub not_true : (b : Bool) → IsTrue (not b) → b ≡ false
not_true false e = refl
not_true true e = cc

pub true_not : (b : Bool) → b ≡ false → IsTrue (not b)
true_not false e = refl
true_not true e = cc

-- what is within a span
pub within_parts : (span : Span) (key : List ℕ) → IsTrue (is_within span key) → (is_lt (byte_order key span.from) ≡ false) × IsTrue (is_below key span.to)
within_parts span key e =
    let both = both_true (not (is_lt (byte_order key span.from))) (is_below key span.to) e in
    (not_true (is_lt (byte_order key span.from)) both.0, both.1)

pub parts_within : (span : Span) (key : List ℕ) → is_lt (byte_order key span.from) ≡ false → IsTrue (is_below key span.to) → IsTrue (is_within span key)
parts_within span key one two = true_both (not (is_lt (byte_order key span.from))) (is_below key span.to) (true_not (is_lt (byte_order key span.from)) one) two

pub in_all : (key : List ℕ) → IsTrue (is_within all_keys key)
in_all [] = refl
in_all (b ∷ key) = refl

-- a key below one within a span ends there too
pub ends_too : (key other : List ℕ) (to : Option (List ℕ)) → is_lt (byte_order key other) ≡ true → IsTrue (is_below other to) → IsTrue (is_below key to)
ends_too key other None one two = refl
ends_too key other (Some end) one two = below_both key other end one two

-- a key that is below what ends a span is below what stands past it
pub past_is_above : (key other : List ℕ) (to : Option (List ℕ)) → IsTrue (is_below key to) → IsTrue (not (is_below other to)) → is_lt (byte_order key other) ≡ true
past_is_above key other None one two = cc
past_is_above key other (Some end) one two = below_through key end other one (not_true (is_lt (byte_order other end)) two)

-- ---- what is found

pub find_behind : (key : List ℕ) (a b : List Cell) → find byte_order key a ≡ None → find byte_order key (a ++ b) ≡ find byte_order key b
find_behind key [] b none = refl
find_behind key (c ∷ a) b none =
    elim (is_eq (byte_order key c.0)) as (λ t. cond t (Some c.1) (find byte_order key a) ≡ None → cond t (Some c.1) (find byte_order key (a ++ b)) ≡ find byte_order key b) [
      | true ↦ λ e. cc
      | false ↦ λ e. find_behind key a b e
    ] none

pub find_before : (key : List ℕ) (a b : List Cell) → find byte_order key b ≡ None → find byte_order key (a ++ b) ≡ find byte_order key a
find_before key [] b none = none
find_before key (c ∷ a) b none = ap (λ (o : Option (List ℕ)). cond (is_eq (byte_order key c.0)) (Some c.1) o) (find_before key a b none)

-- a key is not found where no cell has it
other_key : (key : List ℕ) (test : List ℕ → Bool) (cells : List Cell) → IsTrue (list_all (λ c. test c.0) cells) → test key ≡ false → find byte_order key cells ≡ None
other_key key test [] all fails = refl
other_key key test (c ∷ cells) all fails =
    let parts = both_true (test c.0) (list_all (λ c. test c.0) cells) all in
    elim (byte_order key c.0) as (λ o. byte_order key c.0 ≡ o → cond (is_eq o) (Some c.1) (find byte_order key cells) ≡ None) [
      | Less ↦ λ e. other_key key test cells parts.1 fails
      | Equal ↦ λ e. absurd (true≢false (sym parts.0 ∙ ap test (sym (same_key key c.0 e)) ∙ fails))
      | Greater ↦ λ e. other_key key test cells parts.1 fails
    ] refl

-- ---- spans

pub wider : (test other : List ℕ → Bool) → ((key : List ℕ) → IsTrue (test key) → IsTrue (other key)) → (cells : List Cell) → IsTrue (list_all (λ c. test c.0) cells) → IsTrue (list_all (λ c. other c.0) cells)
wider test other goes [] all = refl
wider test other goes (c ∷ cells) all =
    let parts = both_true (test c.0) (list_all (λ c. test c.0) cells) all in
    true_both (other c.0) (list_all (λ c. other c.0) cells) (goes c.0 parts.0) (wider test other goes cells parts.1)

pub all_both : (test : List ℕ → Bool) (a b : List Cell) → IsTrue (list_all (λ c. test c.0) a) → IsTrue (list_all (λ c. test c.0) b) → IsTrue (list_all (λ c. test c.0) (a ++ b))
all_both test [] b one two = two
all_both test (c ∷ a) b one two =
    let parts = both_true (test c.0) (list_all (λ c. test c.0) a) one in
    true_both (test c.0) (list_all (λ c. test c.0) (a ++ b)) parts.0 (all_both test a b parts.1 two)

abbrev pub lower : Span → List ℕ → Span
lower span key = record { from = span.from; to = Some key }

abbrev pub upper : Span → List ℕ → Span
upper span key = record { from = key; to = span.to }

pub lower_within : (span : Span) (d key : List ℕ) → IsTrue (is_within span d) → IsTrue (is_within (lower span d) key) → IsTrue (is_within span key)
lower_within span d key stands e =
    let here = within_parts (lower span d) key e in
    parts_within span key here.0 (ends_too key d span.to here.1 (within_parts span d stands).1)

-- a key from another on, which is not below a third, is not below that
pub not_below_through : (key d from : List ℕ) → is_lt (byte_order key d) ≡ false → is_lt (byte_order d from) ≡ false → is_lt (byte_order key from) ≡ false
not_below_through key d from one two =
    elim (is_lt (byte_order key from)) as (λ t. is_lt (byte_order key from) ≡ t → t ≡ false) [
      | true ↦ λ e. sym (below_through key from d e two) ∙ one
      | false ↦ λ e. refl
    ] refl

pub upper_within : (span : Span) (d key : List ℕ) → IsTrue (is_within span d) → IsTrue (is_within (upper span d) key) → IsTrue (is_within span key)
upper_within span d key stands e =
    let here = within_parts (upper span d) key e in
    parts_within span key (not_below_through key d span.from here.0 (within_parts span d stands).0) here.1

-- a key that is not below the end of a span is not in it
ends_false : (key : List ℕ) (span : Span) (d : List ℕ) → is_lt (byte_order key d) ≡ false → is_within (lower span d) key ≡ false
ends_false key span d past =
    elim (is_lt (byte_order key span.from)) as (λ t. (not t && is_lt (byte_order key d)) ≡ false) [ true ↦ refl | false ↦ past ]

-- the pairs of children stand in the span that they share
module _ {Child : Type 0} (In : Span → Child → Type 0) (pairs : Child → List Cell) (inside : (span : Span) (child : Child) → In span child → IsTrue (all_within span (pairs child))) where
  shared_within : (span : Span) (children : List (List ℕ × Child)) → Share In span children → IsTrue (all_within span (flat_map (λ c. pairs c.1) children))
  shared_within span [] share = absurd share
  shared_within span (c ∷ []) share = all_both (is_within span) (pairs c.1) [] (inside span c.1 share.1) refl
  shared_within span (c ∷ d ∷ children) share =
      all_both (is_within span) (pairs c.1) (flat_map (λ c. pairs c.1) (d ∷ children))
      (wider (is_within (lower span d.0)) (is_within span) (λ key e. lower_within span d.0 key share.1 e) (pairs c.1) (inside (lower span d.0) c.1 share.2))
      (wider (is_within (upper span d.0)) (is_within span) (λ key e. upper_within span d.0 key share.1 e) (flat_map (λ c. pairs c.1) (d ∷ children)) (shared_within (upper span d.0) (d ∷ children) share.3))

pub pairs_within : (level : ℕ) (span : Span) (t : Tree level) → StandIn level span t → IsTrue (all_within span (pairs_in level t))
pairs_within zero span t stands = stands.0
pairs_within (suc level) span t stands = shared_within (StandIn level) (pairs_in level) (pairs_within level) span t.children stands.0

-- ---- children by their places

-- the child at a place
abbrev pub IsAt : {Child : Type 0} → ℕ → Child → List (List ℕ × Child) → Type 0
IsAt i child [] = ⊥
IsAt zero child (c ∷ children) = c.1 ≡ child
IsAt (suc i) child (c ∷ children) = IsAt i child children

-- its span
abbrev pub span_of : {Child : Type 0} → Span → List (List ℕ × Child) → ℕ → Span
span_of span [] i = span
span_of span (c ∷ []) i = span
span_of span (c ∷ d ∷ children) zero = lower span d.0
span_of span (c ∷ d ∷ children) (suc i) = span_of (upper span d.0) (d ∷ children) i

-- another child in its place
abbrev pub with_child : {Child : Type 0} → ℕ → Child → List (List ℕ × Child) → List (List ℕ × Child)
with_child i other [] = []
with_child zero other (c ∷ children) = (c.0, other) ∷ children
with_child (suc i) other (c ∷ children) = c ∷ with_child i other children

pub times_both : (x : ℕ) (a b : List ℕ) → times x (a ++ b) ≡ times x a + times x b
times_both x [] b = omega arith
times_both x (y ∷ a) b = let rest = times_both x a b in omega (arith, rest)

module _ {Child : Type 0} where
  pub each_at : (P : Child → Type 0) (children : List (List ℕ × Child)) (i : ℕ) (child : Child) → IsAt i child children → Each P children → P child
  each_at P [] i child at all = absurd at
  each_at P (c ∷ children) zero child at all = subst P at all.0
  each_at P (c ∷ children) (suc i) child at all = each_at P children i child at all.1

  pub each_with : (P : Child → Type 0) (children : List (List ℕ × Child)) (i : ℕ) (other : Child) → Each P children → P other → Each P (with_child i other children)
  each_with P [] i other all new = tt
  each_with P (c ∷ children) zero other all new = (new, all.1)
  each_with P (c ∷ children) (suc i) other all new = (all.0, each_with P children i other all.1 new)

  pub keys_with : (test : List ℕ → Bool) (children : List (List ℕ × Child)) (i : ℕ) (other : Child) → IsTrue (list_all (λ c. test c.0) children) → IsTrue (list_all (λ c. test c.0) (with_child i other children))
  keys_with test [] i other all = refl
  keys_with test (c ∷ children) zero other all = all
  keys_with test (c ∷ children) (suc i) other all =
      let parts = both_true (test c.0) (list_all (λ c. test c.0) children) all in
      true_both (test c.0) (list_all (λ c. test c.0) (with_child i other children)) parts.0 (keys_with test children i other parts.1)

  pub shared_again : (In : Span → Child → Type 0) (span : Span) (children : List (List ℕ × Child)) (i : ℕ) (child other : Child) → IsAt i child children → Share In span children
      → In (span_of span children i) other → Share In span (with_child i other children)
  shared_again In span [] i child other at share stands = absurd share
  shared_again In span (c ∷ []) zero child other at share stands = (share.0, stands)
  shared_again In span (c ∷ []) (suc i) child other at share stands = absurd at
  shared_again In span (c ∷ d ∷ children) zero child other at share stands = (share.0, share.1, stands, share.3)
  shared_again In span (c ∷ d ∷ children) (suc zero) child other at share stands =
      (share.0, share.1, share.2, shared_again In (upper span d.0) (d ∷ children) zero child other at share.3 stands)
  shared_again In span (c ∷ d ∷ children) (suc (suc i)) child other at share stands =
      (share.0, share.1, share.2, shared_again In (upper span d.0) (d ∷ children) (suc i) child other at share.3 stands)

  pub cells_again : (root : Child → ℕ) (children : List (List ℕ × Child)) (i : ℕ) (child other : Child) → IsAt i child children → root other ≡ root child
      → map (λ c. child_cell c.0 (root c.1)) (with_child i other children) ≡ map (λ c. child_cell c.0 (root c.1)) children
  cells_again root [] i child other at same = refl
  cells_again root (c ∷ children) zero child other at same = ap (λ (x : ℕ). child_cell c.0 x ∷ map (λ c. child_cell c.0 (root c.1)) children) (same ∙ ap root (sym at))
  cells_again root (c ∷ children) (suc i) child other at same = ap (λ (l : List Cell). child_cell c.0 (root c.1) ∷ l) (cells_again root children i child other at same)

  module _ (objects : Child → List ℕ) where
    abbrev all_objects : List (List ℕ × Child) → List ℕ
    all_objects children = flat_map (λ c. objects c.1) children

    pub objects_again : (children : List (List ℕ × Child)) (i : ℕ) (child other : Child) → IsAt i child children → objects other ≡ objects child
        → all_objects (with_child i other children) ≡ all_objects children
    objects_again [] i child other at same = refl
    objects_again (c ∷ children) zero child other at same = ap (λ (l : List ℕ). l ++ all_objects children) (same ∙ ap objects (sym at))
    objects_again (c ∷ children) (suc i) child other at same = ap (λ (l : List ℕ). objects c.1 ++ l) (objects_again children i child other at same)

    -- an object of the child is one of all
    pub among : (x : ℕ) (children : List (List ℕ × Child)) (i : ℕ) (child : Child) → IsAt i child children → times x (objects child) ≤ times x (all_objects children)
    among x [] i child at = absurd at
    among x (c ∷ children) zero child at = omega (arith, times_both x (objects c.1) (all_objects children), ap (λ (k : Child). times x (objects k)) at)
    among x (c ∷ children) (suc i) child at = omega (arith, times_both x (objects c.1) (all_objects children), among x children i child at)

    module _ (Held Held' : Child → Type 0) (x : ℕ) (moves : (child : Child) → times x (objects child) ≡ 0 → Held child → Held' child) where
      pub each_moved : (children : List (List ℕ × Child)) → times x (all_objects children) ≡ 0 → Each Held children → Each Held' children
      each_moved [] none held = tt
      each_moved (c ∷ children) none held =
          let both = times_both x (objects c.1) (all_objects children) in
          (moves c.1 (omega (arith, both, none)) held.0, each_moved children (omega (arith, both, none)) held.1)

      each_again : (children : List (List ℕ × Child)) (i : ℕ) (child other : Child) → IsAt i child children → times x (all_objects children) ≤ 1 → 1 ≤ times x (objects child)
          → Held' other → Each Held children → Each Held' (with_child i other children)
      each_again [] i child other at once there new held = tt
      each_again (c ∷ children) zero child other at once there new held =
          (new, each_moved children (omega (arith, once, there, times_both x (objects c.1) (all_objects children), ap (λ (k : Child). times x (objects k)) at)) held.1)
      each_again (c ∷ children) (suc i) child other at once there new held =
          let both = times_both x (objects c.1) (all_objects children) in
          let inside = among x children i child at in
          (moves c.1 (omega (arith, both, once, there, inside)) held.0, each_again children i child other at (omega (arith, both, once)) there new held.1)

  pub at_same : (children : List (List ℕ × Child)) (i : ℕ) (a b : Child) → IsAt i a children → IsAt i b children → a ≡ b
  at_same [] i a b one two = absurd one
  at_same (c ∷ children) zero a b one two = sym one ∙ two
  at_same (c ∷ children) (suc i) a b one two = at_same children i a b one two

  -- the new child, and those that stay
  pub at_new : (children : List (List ℕ × Child)) (i : ℕ) (new kid : Child) → IsAt i kid (with_child i new children) → new ≡ kid
  at_new [] i new kid at = absurd at
  at_new (c ∷ children) zero new kid at = at
  at_new (c ∷ children) (suc i) new kid at = at_new children i new kid at

  pub with_all : (P : Child → Type 0) (children : List (List ℕ × Child)) (i j : ℕ) (new kid : Child) → IsAt j kid (with_child i new children) → P new → (IsAt j kid children → P kid) → P kid
  with_all P [] i j new kid at one two = absurd at
  with_all P (c ∷ children) zero zero new kid at one two = subst P at one
  with_all P (c ∷ children) zero (suc j) new kid at one two = two at
  with_all P (c ∷ children) (suc i) zero new kid at one two = two at
  with_all P (c ∷ children) (suc i) (suc j) new kid at one two = with_all P children i j new kid at one two

  pub at_other : (children : List (List ℕ × Child)) (i j : ℕ) (new kid : Child) → IsAt j kid (with_child i new children) → j ≢ i → IsAt j kid children
  at_other [] i j new kid at apart = absurd at
  at_other (c ∷ children) zero zero new kid at apart = absurd (apart refl)
  at_other (c ∷ children) zero (suc j) new kid at apart = at
  at_other (c ∷ children) (suc i) zero new kid at apart = at
  at_other (c ∷ children) (suc i) (suc j) new kid at apart = at_other children i j new kid at (λ e. apart (ap suc e))

  pub length_with : (children : List (List ℕ × Child)) (i : ℕ) (new : Child) → length (with_child i new children) ≡ length children
  length_with [] i new = refl
  length_with (c ∷ children) zero new = refl
  length_with (c ∷ children) (suc i) new = ap suc (length_with children i new)

  -- each child, with another one in the place of one
  each_new : (P : Child → Type 0) (children : List (List ℕ × Child)) (i : ℕ) (new : Child) → P new → ((j : ℕ) (kid : Child) → IsAt j kid children → j ≢ i → P kid) → Each P (with_child i new children)
  each_new P [] i new here others = tt
  each_new P (c ∷ children) zero new here others = (here, each_behind children (λ j kid at. others (suc j) kid at (λ e. absurd (omega (arith, e)))))
    where
      each_behind : (children : List (List ℕ × Child)) → ((j : ℕ) (kid : Child) → IsAt j kid children → P kid) → Each P children
      each_behind [] all = tt
      each_behind (d ∷ children) all = (all 0 d.1 refl, each_behind children (λ j kid at. all (suc j) kid at))
  each_new P (c ∷ children) (suc i) new here others =
      (others 0 c.1 refl (λ e. absurd (omega (arith, e))), each_new P children i new here (λ j kid at apart. others (suc j) kid at (λ e. apart (omega (arith, e)))))

-- a leaf has cells, or the leaves below a page do
abbrev pub HasCells : (level : ℕ) → Tree level → Type 0
HasCells zero leaf = 0 < length leaf.cells
HasCells (suc level) page = NoneIsEmpty (suc level) page

-- ---- how many turns tidy the way to a key

module _ (key : List ℕ) where
  -- each leaf but that of the key has a cell, or is an only child
  abbrev pub Others : Tree 1 → Type 0
  Others page = (length page.children ≤ 1) ⊎ ((i : ℕ) (leaf : Leaf) → IsAt i leaf page.children → last_under key (cells_in 1 page) ≢ Some i → 0 < length leaf.cells)

  -- the one before it has no cells past its span
  abbrev pub Trimmed : Tree 1 → Type 0
  Trimmed page = (i : ℕ) (first : Leaf) → IsAt i first page.children → last_under key (cells_in 1 page) ≡ Some (suc i) → first.past ≡ []

  -- so many turns are enough until that has one, too
  abbrev pub NeedsHere : ℕ → Tree 1 → Type 0
  NeedsHere zero page = NoneIsEmpty 1 page
  NeedsHere (suc zero) page = Others page × Trimmed page
  NeedsHere (suc (suc n)) page = Others page

  abbrev pub Needs : ℕ → (level : ℕ) → Tree level → Type 0
  Needs n zero leaf = ⊤
  Needs n (suc zero) page = NeedsHere n page
  Needs n (suc (suc level)) page =
      (i : ℕ) (child : Tree (suc level)) → IsAt i child page.children
      → (last_under key (cells_in (suc (suc level)) page) ≡ Some i → Needs n (suc level) child) × (last_under key (cells_in (suc (suc level)) page) ≢ Some i → NoneIsEmpty (suc level) child)

  pub full_needs : (level : ℕ) (t : Tree level) → NoneIsEmpty level t → Needs 0 level t
  full_needs zero t full = tt
  full_needs (suc zero) t full = full
  full_needs (suc (suc level)) t full = λ i child at.
      let below = each_at (NoneIsEmpty (suc level)) t.children i child at full in
      (λ here. full_needs (suc level) child below, λ apart. below)

  -- another child in the place of that of the key
  pub needs_below : (n level : ℕ) (t : Tree (suc (suc level))) (i : ℕ) (child new : Tree (suc level)) → IsAt i child t.children → root_of (suc level) new ≡ root_of (suc level) child
      → last_under key (cells_in (suc (suc level)) t) ≡ Some i
      → ((j : ℕ) (kid : Tree (suc level)) → IsAt j kid t.children → last_under key (cells_in (suc (suc level)) t) ≢ Some j → NoneIsEmpty (suc level) kid) → Needs n (suc level) new
      → Needs n (suc (suc level)) (record { object = t.object; children = with_child i new t.children; past = t.past })
  needs_below n level t i child new at root under others needs = λ j kid there.
      let cells = ap (λ (l : List Cell). last_under key (l ++ t.past)) (cells_again (root_of (suc level)) t.children i child new at root) in (
        λ here.
            let same : j ≡ i = same_some j i (sym here ∙ cells ∙ under) in
            subst (Needs n (suc level)) (at_new t.children i new kid (subst (λ (p : ℕ). IsAt p kid (with_child i new t.children)) same there)) needs,
        λ apart.
            others j kid (at_other t.children i j new kid there (λ e. apart (cells ∙ under ∙ ap (λ (p : ℕ). Some p) (sym e)))) (λ e. apart (cells ∙ e)),
      )

  -- where none but only children were empty, and another leaf of the key has come in
  needs_changed : (level : ℕ) (t : Tree (suc level)) (i : ℕ) (child new : Tree level) → IsAt i child t.children → root_of level new ≡ root_of level child → last_under key (cells_in (suc level) t) ≡ Some i
      → (NoneIsEmpty level child → Needs 2 level new) → NoneIsEmpty (suc level) t → Needs 2 (suc level) (record { object = t.object; children = with_child i new t.children; past = t.past })
  needs_changed zero t i child new at root under below (inl few) = inl (omega (arith, few, length_with t.children i new))
  needs_changed zero t i child new at root under below (inr each) = inr (λ j leaf there apart.
      let cells = ap (λ (l : List Cell). last_under key (l ++ t.past)) (cells_again (root_of zero) t.children i child new at root) in
      each_at (λ (leaf : Leaf). 0 < length leaf.cells) t.children j leaf (at_other t.children i j new leaf there (λ e. apart (cells ∙ under ∙ ap (λ (p : ℕ). Some p) (sym e)))) each)
  needs_changed (suc level) t i child new at root under below none =
      needs_below 2 level t i child new at root under (λ j kid there apart. each_at (NoneIsEmpty (suc level)) t.children j kid there none) (below (each_at (NoneIsEmpty (suc level)) t.children i child at none))

  -- where only the leaf of the key may be empty, and one with cells has come in
  full_changed : (level : ℕ) (t : Tree (suc level)) (i : ℕ) (child new : Tree level) → IsAt i child t.children → last_under key (cells_in (suc level) t) ≡ Some i → (Needs 2 level child → HasCells level new) → Needs 2 (suc level) t
      → NoneIsEmpty (suc level) (record { object = t.object; children = with_child i new t.children; past = t.past })
  full_changed zero t i child new at under goes (inl few) = inl (omega (arith, few, length_with t.children i new))
  full_changed zero t i child new at under goes (inr each) =
      inr (each_new (λ (leaf : Leaf). 0 < length leaf.cells) t.children i new (goes tt) (λ j leaf there apart. each j leaf there (λ e. apart (same_some j i (sym e ∙ under)))))
  full_changed (suc level) t i child new at under goes needs =
      each_new (NoneIsEmpty (suc level)) t.children i new (goes ((needs i child at).0 under)) (λ j kid there apart. (needs j kid there).1 (λ e. apart (same_some j i (sym e ∙ under))))

-- ---- the child under which a key stands

past_none : (key : List ℕ) (span : Span) (past : List Cell) → IsTrue (is_below key span.to) → IsTrue (all_past span past) → last_under key past ≡ None
past_none key span [] below all = refl
past_none key span (c ∷ past) below all =
    let first = (both_true (not (is_below c.0 span.to)) (all_past span past) all).0 in
    ap (λ (t : Bool). if t then None else next_under (last_under key past)) (past_is_above key c.0 span.to below first)

module _ {Child : Type 0} (In : Span → Child → Type 0) (Held : Child → Type 0) (root : Child → ℕ) (pairs : Child → List Cell)
    (standing : (span : Span) (child : Child) → In span child → IsTrue (all_within span (pairs child))) (key : List ℕ) where
  abbrev cell_of : List ℕ × Child → Cell
  cell_of c = child_cell c.0 (root c.1)

  abbrev pairs_of : List (List ℕ × Child) → List Cell
  pairs_of children = flat_map (λ c. pairs c.1) children

  -- the child of the key, at its place among the cells, with its span; the pairs of the others do not have the key
  pub record IsChildFor (outer : Span) (children : List (List ℕ × Child)) (cells : List Cell) : Type 0 where
    pub place : ℕ
    pub inside : place < length cells
    pub child : Child
    pub at : IsAt place child children
    pub under : last_under key cells ≡ Some place
    pub beside : beside_at cells place ≡ little_bytes 4 (root child)
    pub held : Held child
    pub stands : In (span_of outer children place) child
    pub within : IsTrue (is_within (span_of outer children place) key)
    pub before : List Cell
    pub after : List Cell
    pub split : pairs_of children ≡ before ++ (pairs child ++ after)
    pub again : (other : Child) → pairs_of (with_child place other children) ≡ before ++ (pairs other ++ after)
    pub none_before : find byte_order key before ≡ None
    pub none_after : find byte_order key after ≡ None

  -- the key is not below the first of the cells
  from_first : (c : List ℕ × Child) (cells : List Cell) (o : Option ℕ) (span : Span) → c.0 ≡ span.from → IsTrue (is_within span key) → last_under key cells ≡ o
      → last_under key (cell_of c ∷ cells) ≡ next_under o
  from_first c cells o span from within is =
      let reached : is_lt (byte_order key c.0) ≡ false = ap (λ (k : List ℕ). is_lt (byte_order key k)) from ∙ (within_parts span key within).0 in
      (λ k. if reached k then None else next_under (is k))

  pub child_found : (span : Span) (children : List (List ℕ × Child)) (past : List Cell) → Share In span children → Each Held children → IsTrue (all_past span past) → IsTrue (is_within span key)
      → IsChildFor span children (map cell_of children ++ past)
  child_found span [] past share held all within = absurd share
  child_found span (c ∷ []) past share held all within = record {
    place = 0;
    inside = omega arith;
    child = c.1;
    at = refl;
    under = from_first c past None span share.0 within (past_none key span past (within_parts span key within).1 all);
    beside = refl;
    held = held.0;
    stands = share.1;
    within = within;
    before = [];
    after = [];
    split = refl;
    again = λ other. refl;
    none_before = refl;
    none_after = refl;
  }
  child_found span (c ∷ d ∷ children) past share held all within =
      elim (is_lt (byte_order key d.0)) as (λ t. is_lt (byte_order key d.0) ≡ t → IsChildFor span (c ∷ d ∷ children) (map cell_of (c ∷ d ∷ children) ++ past)) [
        | true ↦ λ below. record {
          place = 0;
          inside = omega arith;
          child = c.1;
          at = refl;
          under =
              from_first c (map cell_of (d ∷ children) ++ past) None span share.0 within
              (ap (λ (t : Bool). if t then None else next_under (last_under key (map cell_of children ++ past))) below);
          beside = refl;
          held = held.0;
          stands = share.2;
          within = parts_within (lower span d.0) key (within_parts span key within).0 below;
          before = [];
          after = pairs_of (d ∷ children);
          split = refl;
          again = λ other. refl;
          none_before = refl;
          none_after =
              other_key key (is_within (upper span d.0)) (pairs_of (d ∷ children)) (shared_within In pairs standing (upper span d.0) (d ∷ children) share.3)
              (ap (λ (t : Bool). not t && is_below key span.to) below);
        }
        | false ↦ λ reached.
            let rest = child_found (upper span d.0) (d ∷ children) past share.3 held.1 all (parts_within (upper span d.0) key reached (within_parts span key within).1) in
            record {
              place = suc rest.place;
              inside = omega (arith, rest.inside);
              child = rest.child;
              at = rest.at;
              under = from_first c (map cell_of (d ∷ children) ++ past) (Some rest.place) span share.0 within rest.under;
              beside = rest.beside;
              held = rest.held;
              stands = rest.stands;
              within = rest.within;
              before = pairs c.1 ++ rest.before;
              after = rest.after;
              split = ap (λ (l : List Cell). pairs c.1 ++ l) rest.split ∙ sym (append_assoc (pairs c.1) rest.before (pairs rest.child ++ rest.after));
              again = λ other. ap (λ (l : List Cell). pairs c.1 ++ l) (rest.again other) ∙ sym (append_assoc (pairs c.1) rest.before (pairs other ++ rest.after));
              none_before =
                  find_behind key (pairs c.1) rest.before
                  (other_key key (is_within (lower span d.0)) (pairs c.1) (standing (lower span d.0) c.1 share.2) (ends_false key span d.0 reached))
                  ∙ rest.none_before;
              none_after = rest.none_after;
            }
      ] refl

-- the same cells in the bytes of another state
pub held_again : (level : ℕ) (bytes new : List ℕ) (cells others : List Cell) → IsHeld level bytes cells → new ≡ bytes → others ≡ cells → IsHeld level new others
held_again level bytes new cells others held same is = record {
  code = same ∙ held.code ∙ ap (λ (l : List Cell). page_of level l) (sym is);
  short = subst (λ (l : List Cell). AreShort l) (sym is) held.short;
  rise = subst (λ (l : List Cell). T (is_sorted byte_order l)) (sym is) held.rise;
}

-- ---- objects that are not reached

pub one_here : (x : ℕ) (rest : List ℕ) → times x (x ∷ rest) ≡ 1 + times x rest
one_here x rest = ap (λ (t : Bool). one_if t + times x rest) (eq-eqb x x refl)

pub not_twice : (y x : ℕ) (rest : List ℕ) → times x (y ∷ rest) ≤ 1 → 1 ≤ times x rest → y ≡ x → ⊥
not_twice y x rest once there same = absurd (omega (arith, once, there, ap (λ (z : ℕ). times x (z ∷ rest)) same, one_here x rest))

pub absent_here : (y x : ℕ) (rest : List ℕ) → times x (y ∷ rest) ≡ 0 → y ≡ x → ⊥
absent_here y x rest none same = absurd (omega (arith, none, ap (λ (z : ℕ). times x (z ∷ rest)) same, one_here x rest))

module _ (lo hi : ℕ) (s : State) where
  -- pages whose objects do not change are held as before
  pub moved : (new : State) (x : ℕ) → ((y : ℕ) → y ≢ x → bytes_at lo new y ≡ bytes_at lo s y) → (level : ℕ) (t : Tree level) → times x (objects_in level t) ≡ 0 → Holds lo hi s level t → Holds lo hi new level t
  moved new x same zero t none holds =
      held_again 0 (bytes_at lo s t.object) (bytes_at lo new t.object) (cells_in 0 t) (cells_in 0 t) holds (same t.object (λ e. absent_here t.object x [] none e)) refl
  moved new x same (suc level) t none holds = (
    held_again (suc level) (bytes_at lo s t.object) (bytes_at lo new t.object) (cells_in (suc level) t) (cells_in (suc level) t) holds.0 (same t.object (λ e. absent_here t.object x _ none e)) refl,
    each_moved (objects_in level) (λ child. IsTrue (is_child lo hi (root_of level child)) × Holds lo hi s level child) (λ child. IsTrue (is_child lo hi (root_of level child)) × Holds lo hi new level child) x
        (λ child none held. (held.0, moved new x same level child none held.1)) t.children (omega (arith, none)) holds.1,
  )

-- ---- the way

-- what holds of a search in a page
pub record Searches : Type 0 where
  pub opens : (page : Page) → AreShort page.cells → opens (page_code page) ≡ true
  pub under : (page : Page) (key : List ℕ) → AreShort page.cells → T (is_sorted byte_order page.cells) → under (page_code page) key ≡ last_under key page.cells
  pub cell : (page : Page) (i : ℕ) → AreShort page.cells → i < length page.cells → has_cell (page_code page) i ≡ true
  pub beside : (page : Page) (i : ℕ) → AreShort page.cells → i < length page.cells → beside_of (page_code page) i ≡ beside_at page.cells i
  pub got : (page : Page) (key : List ℕ) → AreShort page.cells → T (is_sorted byte_order page.cells) → found_in (page_code page) key ≡ Some (find byte_order key page.cells)

-- the child of a cell is the one that the bytes name
pub child_in_held : (searches : Searches) (lo hi : ℕ) → hi < 2 ^ 32 → (level : ℕ) (bytes : List ℕ) (cells : List Cell) (i child : ℕ) → IsHeld level bytes cells → i < length cells
    → beside_at cells i ≡ little_bytes 4 child → IsTrue (is_child lo hi child) → child_in lo hi bytes i ≡ Some child
child_in_held searches lo hi small level bytes cells i child held inside beside there =
    let page : Page = record { level = level; cells = cells } in
    let below : child < 2 ^ 32 = omega (arith, small, leb-true child hi (both_true (nat_lt lo child) (nat_le child hi) there).1) in
    let value : beside_of bytes i ≡ little_bytes 4 child ++ [] =
    ap (λ (b : List ℕ). beside_of b i) held.code ∙ searches.beside page i held.short inside ∙ beside ∙ sym (append-nil (little_bytes 4 child)) in
    let named : child_of bytes i ≡ child = ap (little_number 4) value ∙ little_number-little_bytes 4 child [] below in
    let four : 4 ≤ length (beside_of bytes i) = omega (arith, ap (λ (l : List ℕ). length l) value, length-append (little_bytes 4 child) [], length-little_bytes 4 child) in
    let names : names_child bytes i ≡ true =
    ap (λ (b : List ℕ). has_cell b i && nat_le 4 (length (beside_of bytes i))) held.code
    ∙ ap (λ (t : Bool). t && nat_le 4 (length (beside_of bytes i))) (searches.cell page i held.short inside) ∙ le-leb 4 (length (beside_of bytes i)) four in
    (λ k. if names k && is_child lo hi (named k) then Some (named k) else None) ∙ ap (λ (t : Bool). if t then Some child else None) there

module _ (searches : Searches) (lo hi : ℕ) (small : hi < 2 ^ 32) (s : State) (key : List ℕ) where
  pub on_level : (level : ℕ) (bytes : List ℕ) (cells : List Cell) → IsHeld level bytes cells → is_on level bytes ≡ true
  on_level level bytes cells held =
      ap (λ (b : List ℕ). is_on level b) held.code
      ∙ ap (λ (t : Bool). t && (level == level)) (searches.opens (record { level = level; cells = cells }) held.short) ∙ eq-eqb level level refl

  -- the pages of another state: the same objects, with these pairs
  pub record IsChanged (new : State) (level : ℕ) (outer : Span) (t : Tree level) (cells pairs : List Cell) : Type 0 where
    pub tree : Tree level
    pub root : root_of level tree ≡ root_of level t
    pub objects : objects_in level tree ≡ objects_in level t
    pub holds : Holds lo hi new level tree
    pub stand : StandIn level outer tree
    pub pairs_are : pairs_in level tree ≡ pairs
    pub short : (room : ℕ) → IsTrue (list_all (is_short_pair room) cells) → AreShortPairs room level t → AreShortPairs room level tree
    pub needs : NoneIsEmpty level t → Needs key 2 level tree
    pub full : 0 < length cells → Needs key 2 level t → HasCells level tree

  -- the leaf of the key: the pairs of the other leaves do not have it, and another state may have others in it
  pub record IsLeafFor (level : ℕ) (outer : Span) (t : Tree level) : Type 0 where
    pub leaf : Leaf
    pub leaf_span : Span
    pub within : IsTrue (is_within leaf_span key)
    pub stands : IsTrue (all_within leaf_span leaf.cells)
    pub in_range : root_of level t ≤ hi → leaf.object ≤ hi
    pub reached : 1 ≤ times leaf.object (objects_in level t)
    pub walk : walk_from lo hi s key level (root_of level t) ≡ Ok leaf.object
    pub held : IsHeld 0 (bytes_at lo s leaf.object) (leaf.cells ++ leaf.past)
    pub none_past : find byte_order key leaf.past ≡ None
    pub before : List Cell
    pub after : List Cell
    pub split : pairs_in level t ≡ before ++ (leaf.cells ++ after)
    pub none_before : find byte_order key before ≡ None
    pub none_after : find byte_order key after ≡ None
    pub past_too : IsTrue (all_past leaf_span leaf.past)
    pub again : ((x : ℕ) → times x (objects_in level t) ≤ 1) → (cells : List Cell) → IsTrue (all_within leaf_span cells) → (new : State)
        → ((x : ℕ) → x ≢ leaf.object → bytes_at lo new x ≡ bytes_at lo s x) → IsHeld 0 (bytes_at lo new leaf.object) (cells ++ leaf.past)
        → IsChanged new level outer t cells (before ++ (cells ++ after))
    pub short_there : (room : ℕ) → AreShortPairs room level t → IsTrue (list_all (is_short_pair room) leaf.cells)

  -- the child of the key is the one that the bytes name
  pub child_named : (level : ℕ) (bytes : List ℕ) (cells : List Cell) (i child : ℕ) → IsHeld level bytes cells → last_under key cells ≡ Some i → i < length cells
      → beside_at cells i ≡ little_bytes 4 child → IsTrue (is_child lo hi child) → child_for lo hi bytes (under bytes key) ≡ Some child
  child_named level bytes cells i child held is inside beside there =
      ap (child_for lo hi bytes) (ap (λ (b : List ℕ). under b key) held.code ∙ searches.under (record { level = level; cells = cells }) key held.short held.rise ∙ is)
      ∙ child_in_held searches lo hi small level bytes cells i child held inside beside there

  joined : (front first cells last back pairs mid : List Cell) → pairs ≡ front ++ (mid ++ back) → mid ≡ first ++ (cells ++ last) → pairs ≡ (front ++ first) ++ (cells ++ (last ++ back))
  joined front first cells last back pairs mid one two =
      one ∙ ap (λ (l : List Cell). front ++ l)
      (ap (λ (l : List Cell). l ++ back) two ∙ append_assoc first (cells ++ last) back ∙ ap (λ (l : List Cell). first ++ l) (append_assoc cells last back))
      ∙ sym (append_assoc front first (cells ++ (last ++ back)))

  pub leaf_found : (level : ℕ) (span : Span) (t : Tree level) → Holds lo hi s level t → StandIn level span t → IsTrue (is_within span key) → IsLeafFor level span t
  leaf_found zero span t holds stands within = record {
    leaf = t;
    leaf_span = span;
    within = within;
    stands = stands.0;
    past_too = stands.1;
    in_range = λ low. low;
    reached = omega (arith, one_here t.object []);
    again = λ once cells there new same held'. record {
      tree = record { object = t.object; cells = cells; past = t.past };
      root = refl;
      objects = refl;
      holds = held';
      stand = (there, stands.1);
      pairs_are = sym (append-nil cells);
      short = λ room there short. there;
      needs = λ none. tt;
      full = λ some needs. some;
    };
    short_there = λ room short. short;
    walk = ap (λ (b : Bool). if b then Ok t.object else Err t.object) (on_level 0 (bytes_at lo s t.object) (t.cells ++ t.past) holds);
    held = holds;
    none_past = other_key key (λ k. not (is_below k span.to)) t.past stands.1 (ap not (within_parts span key within).1);
    before = [];
    after = [];
    split = sym (append-nil t.cells);
    none_before = refl;
    none_after = refl;
  }
  leaf_found (suc level) span t holds stands within =
      let bytes : List ℕ = bytes_at lo s t.object in
      let found =
      child_found (StandIn level) (λ child. IsTrue (is_child lo hi (root_of level child)) × Holds lo hi s level child) (root_of level) (pairs_in level) (pairs_within level) key
      span t.children t.past stands.0 holds.1 stands.1 within in
      let inner : Span = span_of span t.children found.place in
      let rest = leaf_found level inner found.child found.held.1 found.stands found.within in
      let below : (x : ℕ) → times x (objects_in level found.child) ≤ times x (flat_map (λ c. objects_in level c.1) t.children) =
      λ x. among (objects_in level) x t.children found.place found.child found.at in
      record {
        leaf = rest.leaf;
        leaf_span = rest.leaf_span;
        within = rest.within;
        stands = rest.stands;
        past_too = rest.past_too;
        in_range = λ low. rest.in_range (leb-true (root_of level found.child) hi (both_true (nat_lt lo (root_of level found.child)) (nat_le (root_of level found.child) hi) found.held.0).1);
        reached = omega (arith, rest.reached, below rest.leaf.object);
        again = λ once cells there new same held'.
            let x : ℕ = rest.leaf.object in
            let apart : t.object ≢ x = λ e. not_twice t.object x (flat_map (λ c. objects_in level c.1) t.children) (once x) (omega (arith, rest.reached, below x)) e in
            let changed = rest.again (λ y. omega (arith, once y, below y)) cells there new same held' in
            record {
              tree = record { object = t.object; children = with_child found.place changed.tree t.children; past = t.past };
              root = refl;
              objects = ap (λ (l : List ℕ). t.object ∷ l) (objects_again (objects_in level) t.children found.place found.child changed.tree found.at changed.objects);
              holds = (
                held_again (suc level) bytes (bytes_at lo new t.object) (cells_in (suc level) t) _ holds.0 (same t.object apart)
                    (ap (λ (l : List Cell). l ++ t.past) (cells_again (root_of level) t.children found.place found.child changed.tree found.at changed.root)),
                each_again (objects_in level) (λ child. IsTrue (is_child lo hi (root_of level child)) × Holds lo hi s level child) (λ child. IsTrue (is_child lo hi (root_of level child)) × Holds lo hi new level child) x
                    (λ child none held. (held.0, moved lo hi s new x same level child none held.1)) t.children found.place found.child changed.tree found.at (omega (arith, once x)) rest.reached
                    (subst (λ (y : ℕ). IsTrue (is_child lo hi y)) (sym changed.root) found.held.0, changed.holds) holds.1,
              );
              stand = (shared_again (StandIn level) span t.children found.place found.child changed.tree found.at stands.0 changed.stand, stands.1);
              pairs_are = joined found.before rest.before cells rest.after found.after _ _ (found.again changed.tree) changed.pairs_are;
              short = λ room there short. (
                keys_with (is_short_key room) t.children found.place changed.tree short.0,
                each_with (AreShortPairs room level) t.children found.place changed.tree short.1 (changed.short room there (each_at (AreShortPairs room level) t.children found.place found.child found.at short.1)),
              );
              needs = needs_changed key level t found.place found.child changed.tree found.at changed.root found.under changed.needs;
              full = λ some. full_changed key level t found.place found.child changed.tree found.at found.under (changed.full some);
            };
        short_there = λ room short. rest.short_there room (each_at (AreShortPairs room level) t.children found.place found.child found.at short.1);
        walk =
            ap (λ (b : Bool). if b then on_from (walk_from lo hi s key level) t.object (child_for lo hi bytes (under bytes key)) else Err t.object)
            (on_level (suc level) bytes (cells_in (suc level) t) holds.0)
            ∙ ap (on_from (walk_from lo hi s key level) t.object)
            (child_named (suc level) bytes (cells_in (suc level) t) found.place (root_of level found.child) holds.0 found.under found.inside found.beside found.held.0)
            ∙ rest.walk;
        held = rest.held;
        none_past = rest.none_past;
        before = found.before ++ rest.before;
        after = rest.after ++ found.after;
        split = joined found.before rest.before rest.leaf.cells rest.after found.after (pairs_in (suc level) t) (pairs_in level found.child) found.split rest.split;
        none_before = find_behind key found.before rest.before found.none_before ∙ rest.none_before;
        none_after = find_behind key rest.after found.after rest.none_after ∙ found.none_after;
      }

  pub root_held : (level : ℕ) (t : Tree level) → Holds lo hi s level t → IsHeld level (bytes_at lo s (root_of level t)) (cells_in level t)
  root_held zero t holds = holds
  root_held (suc level) t holds = holds.0

  pub map_leaf : (is : IsMap lo hi s) → IsLeafFor is.level all_keys is.tree
  map_leaf is = leaf_found is.level all_keys is.tree is.holds is.stand (in_all key)

  -- the way from the root
  pub walk_is : (is : IsMap lo hi s) → walk lo hi s key ≡ Ok (map_leaf is).leaf.object
  walk_is is =
      let held = root_held is.level is.tree is.holds in
      let level : level_in (bytes_at lo s lo) ≡ is.level = ap (λ (x : ℕ). level_in (bytes_at lo s x)) (sym is.root) ∙ ap level_in held.code in
      (λ k. walk_from lo hi s key (level k) (sym is.root k)) ∙ (map_leaf is).walk

  -- what the leaf has is what the map has
  pub leaf_tells : (is : IsMap lo hi s) → get (content_of is) key ≡ find byte_order key ((map_leaf is).leaf.cells ++ (map_leaf is).leaf.past)
  leaf_tells is =
      let at = map_leaf is in
      get-from_entries nat_list_cmp_total (pairs_in is.level is.tree) key ∙ ap (find byte_order key) at.split
      ∙ find_behind key at.before (at.leaf.cells ++ at.after) at.none_before ∙ find_before key at.leaf.cells at.after at.none_after
      ∙ sym (find_before key at.leaf.cells at.leaf.past at.none_past)

  pub get_is : (is : IsMap lo hi s) → get_answer lo hi s key ≡ Ok (get (content_of is) key)
  get_is is =
      let at = map_leaf is in
      let cells : List Cell = at.leaf.cells ++ at.leaf.past in
      let found : found_in (bytes_at lo s at.leaf.object) key ≡ Some (find byte_order key cells) =
      ap (λ (b : List ℕ). found_in b key) at.held.code ∙ searches.got (record { level = 0; cells = cells }) key at.held.short at.held.rise in
      ap (get_at lo s key) (walk_is is) ∙ ap (get_in key at.leaf.object) found ∙ ap (λ (o : Option (List ℕ)). Ok o) (sym (leaf_tells is))
