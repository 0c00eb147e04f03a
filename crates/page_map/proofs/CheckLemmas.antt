-- A check comes to the end exactly where the range is a map.
use Rattle.std.proofs.Common.{◌≡◌, ℕ, zero, suc, ◌+◌, ◌-◌, ◌^◌, ◌<◌, ◌≤◌, ◌==◌, Bool, true, false, not, ◌&&◌, if◌then◌else◌, Option, None, Some, Result, Ok, Err, List, [], ◌∷◌, ◌++◌, T, map, flat_map, is_some, length, drop, is_eq, is_lt, refl, sym, ap, ◌∙◌, subst, arith, append_assoc, length-append, length-drop}
use Rattle.std.specs.Prelude.{IsTrue, nat_lt, nat_le}
use Rattle.std.specs.List.{list_all}
use Rattle.std.specs.FinMap.Entries.{below_all, is_sorted}
use Rattle.std.proofs.lemmas.Bool.{eq-eqb, eqb-true, le-leb, leb-true, ltb-true}
use Rattle.std.proofs.lemmas.List.{append-nil}
use Rattle.byteorder.specs.Endian.{little_bytes, little_number}
use Rattle.oper_core.specs.LittleEndian.{little_number-little_bytes}
use Rattle.oper_core.specs.State.{State}
use Rattle.key_entries.specs.Entries.{byte_order}
use Rattle.key_entries.specs.EntryLaws.{both_true, true_both}
use Rattle.key_entries.specs.KeyLaws.{first, second}
use Rattle.page_ops.specs.Page.{Cell, page_of}
use Rattle.page_ops.specs.Reading.{level_in}
use Rattle.page_ops.specs.Seen.{child_cell}
use Rattle.page_map.specs.Checks.{Checking, Met, and_then, before, begin_from, begin_with, begun, below, bytes_of, check, check_from, children_of, fits, has_child, is_met, is_new, is_page, keys_of, meet, meet_all, meet_each, meet_one, met_on, next_key, past_in, stand, taken, with_page}
use Rattle.page_map.specs.Map.{Range, Span, is_below, is_within, all_keys, all_within, Tree, root_of, objects_in, pairs_in, cells_in, IsHeld, Each, bytes_at, is_child, Holds, Share, StandIn, IsMap, one_if, times}
use Rattle.page_map.specs.Splits.{cells_read, front_of}
use Rattle.page_map.specs.declared.awaited.Awaited.{Awaited}
use Rattle.page_map.proofs.CutLemmas.{ReadsCells, all_together, front_is, not_below_behind, sorted_parts}
use Rattle.page_map.proofs.MapLemmas.{held_again, not_both, not_true, one_here, parts_within, times_both, true_not, upper, wider, within_parts}
use Rattle.page_map.proofs.PageLemmas.{cells_held_are, eq_itself, eq_same, held_page, page_held, truly}
use Rattle.page_map.proofs.StepLemmas.{past_behind}

-- ---- one after the other

came : {A B : Type 0} (f : A → Result B ℕ) (r : Result A ℕ) (b : B) → and_then f r ≡ Ok b → (a : A) × (r ≡ Ok a) × (f a ≡ Ok b)
came f (Ok a) b e = (a, refl, e)
came f (Err bad) b e = cc

nothing_behind : (r : Result Met ℕ) → and_then (λ met. Ok met) r ≡ r
nothing_behind (Ok met) = refl
nothing_behind (Err bad) = refl

each_both : (meet : Awaited → Met → Result Met ℕ) (xs ys : List Awaited) (r : Result Met ℕ) → and_then (meet_each meet ys) (and_then (meet_each meet xs) r) ≡ and_then (meet_each meet (xs ++ ys)) r
each_both meet xs ys (Err bad) = refl
each_both meet [] ys (Ok met) = refl
each_both meet (x ∷ xs) ys (Ok met) = each_both meet xs ys (meet x met)

module _ (range : Range) (s : State) where
  -- children are awaited on their level
  same_level : (level : ℕ) (to : Option (List ℕ)) (cells : List Cell) (r : Result Met ℕ)
      → and_then (meet_each (meet range s level) (children_of level to cells)) r ≡ and_then (meet_all range s (children_of level to cells)) r
  same_level level to cells (Err bad) = refl
  same_level level to [] (Ok met) = refl
  same_level level to (c ∷ cells) (Ok met) = same_level level to cells (meet range s level (record { object = little_number 4 c.1; level = level; from = c.0; to = next_key to cells }) met)

  -- an object, and then what is below it
  and_below : (x : Awaited) (met : Met) → meet range s x.level x met ≡ and_then (meet_all range s (below range s x)) (meet_one range s x met)
  and_below x met = on x.level x.object x.from x.to
    where
      on : (level object : ℕ) (from : List ℕ) (to : Option (List ℕ))
          → meet range s level (record { object = object; level = level; from = from; to = to }) met
          ≡ and_then (meet_all range s (below range s (record { object = object; level = level; from = from; to = to }))) (meet_one range s (record { object = object; level = level; from = from; to = to }) met)
      on zero object from to = sym (nothing_behind (meet_one range s (record { object = object; level = 0; from = from; to = to }) met))
      on (suc level) object from to =
          let x : Awaited = record { object = object; level = suc level; from = from; to = to } in
          same_level level to (front_of to (cells_read (bytes_of range s x))) (meet_one range s x met)

  next_is : (x : Awaited) (rest : List Awaited) (met : Met) → meet_all range s (x ∷ rest) met ≡ and_then (meet_all range s (below range s x ++ rest)) (meet_one range s x met)
  next_is x rest met = ap (and_then (meet_all range s rest)) (and_below x met) ∙ each_both (λ x. meet range s x.level x) (below range s x) rest (meet_one range s x met)

pub is_next : (s : State) (x : Awaited) (c : Checking) → is_met x (bytes_at c.range.lo s x.object) c ≡ true
    → check_from s (before x c) ≡ check_from s (taken x (cells_read (bytes_at c.range.lo s x.object)) c)
is_next s x c e =
    next_is c.range s x c.waiting c.met
    ∙ ap (λ (t : Bool). and_then (meet_all c.range s (below c.range s x ++ c.waiting)) (if t then Ok (with_page x (cells_read (bytes_of c.range s x)) c.met) else Err x.object)) e

pub is_bad : (s : State) (x : Awaited) (c : Checking) → is_met x (bytes_at c.range.lo s x.object) c ≡ false → check_from s (before x c) ≡ Err x.object
is_bad s x c e =
    next_is c.range s x c.waiting c.met
    ∙ ap (λ (t : Bool). and_then (meet_all c.range s (below c.range s x ++ c.waiting)) (if t then Ok (with_page x (cells_read (bytes_of c.range s x)) c.met) else Err x.object)) e

pub is_done : (s : State) (c : Checking) → c.waiting ≡ [] → check_from s c ≡ Ok c.met
is_done s c none = ap (λ (l : List Awaited). meet_all c.range s l c.met) none

-- ---- what is met

abbrev plus : Met → List ℕ → List Cell → List Cell → Met
plus met objects pairs past = record { objects = met.objects ++ objects; keys = met.keys + length pairs; past = met.past + length past }

plus_both : (met : Met) (objects more : List ℕ) (pairs others past behind : List Cell) → plus (plus met objects pairs past) more others behind ≡ plus met (objects ++ more) (pairs ++ others) (past ++ behind)
plus_both met objects more pairs others past behind =
    let keys : (met.keys + length pairs) + length others ≡ met.keys + length (pairs ++ others) = omega (arith, length-append pairs others) in
    let cells : (met.past + length past) + length behind ≡ met.past + length (past ++ behind) = omega (arith, length-append past behind) in
    λ k. record { objects = append_assoc met.objects objects more k; keys = keys k; past = cells k }

-- no object was met twice
abbrev Once : List ℕ → Type 0
Once objects = (x : ℕ) → times x objects ≤ 1

once_more : (objects : List ℕ) (x : ℕ) → Once objects → times x objects ≡ 0 → Once (objects ++ x ∷ [])
once_more objects x once none y =
    elim (x == y) as (λ t. (x == y) ≡ t → times y (objects ++ x ∷ []) ≤ 1) [
      | true ↦ λ e. omega (arith, times_both y objects (x ∷ []), ap one_if e, none, ap (λ (z : ℕ). times z objects) (eqb-true x y e))
      | false ↦ λ e. omega (arith, times_both y objects (x ∷ []), ap one_if e, once y)
    ] refl

-- ---- the cells of a page before the end of its span, and those past it

abbrev rest_of : Option (List ℕ) → List Cell → List Cell
rest_of to cells = drop (length (front_of to cells)) cells

parted : (to : Option (List ℕ)) (cells : List Cell) → front_of to cells ++ rest_of to cells ≡ cells
parted to [] = refl
parted to (c ∷ cells) =
    elim (is_below c.0 to) as (λ t. (if t then c ∷ front_of to cells else []) ++ drop (length (if t then c ∷ front_of to cells else [])) (c ∷ cells) ≡ c ∷ cells) [
      | true ↦ ap (λ (l : List Cell). c ∷ l) (parted to cells)
      | false ↦ refl
    ]

front_below : (to : Option (List ℕ)) (cells : List Cell) → IsTrue (list_all (λ c. is_below c.0 to) (front_of to cells))
front_below to [] = refl
front_below to (c ∷ cells) =
    elim (is_below c.0 to) as (λ t. is_below c.0 to ≡ t → IsTrue (list_all (λ c. is_below c.0 to) (if t then c ∷ front_of to cells else []))) [
      | true ↦ λ e. true_both (is_below c.0 to) (list_all (λ c. is_below c.0 to) (front_of to cells)) e (front_below to cells)
      | false ↦ λ e. refl
    ] refl

rest_past : (to : Option (List ℕ)) (cells : List Cell) → T (is_sorted byte_order cells) → IsTrue (list_all (λ c. not (is_below c.0 to)) (rest_of to cells))
rest_past to [] rise = refl
rest_past to (c ∷ cells) rise =
    elim (is_below c.0 to) as (λ t. is_below c.0 to ≡ t → IsTrue (list_all (λ c. not (is_below c.0 to)) (drop (length (if t then c ∷ front_of to cells else [])) (c ∷ cells)))) [
      | true ↦ λ e. rest_past to cells (second (below_all byte_order c.0 cells) (is_sorted byte_order cells) rise)
      | false ↦ λ e.
          true_both (not (is_below c.0 to)) (list_all (λ c. not (is_below c.0 to)) cells) (true_not (is_below c.0 to) e)
          (past_behind to c.0 cells (first (below_all byte_order c.0 cells) (is_sorted byte_order cells) rise) e)
    ] refl

front_rise : (to : Option (List ℕ)) (cells : List Cell) → T (is_sorted byte_order cells) → T (is_sorted byte_order (front_of to cells))
front_rise to cells rise = (sorted_parts (front_of to cells) (rest_of to cells) (subst (λ (l : List Cell). T (is_sorted byte_order l)) (sym (parted to cells)) rise)).0

all_from : (key : List ℕ) (cells : List Cell) → T (is_sorted byte_order cells) → IsTrue (begin_from key cells) → IsTrue (list_all (λ c. not (is_lt (byte_order c.0 key))) cells)
all_from key [] rise e = refl
all_from key (c ∷ cells) rise e =
    true_both (not (is_lt (byte_order c.0 key))) (list_all (λ c. not (is_lt (byte_order c.0 key))) cells) e
    (not_below_behind key c.0 cells (first (below_all byte_order c.0 cells) (is_sorted byte_order cells) rise) (not_true (is_lt (byte_order c.0 key)) e))

some_is : {A : Type 0} (b : Bool) (a : A) → is_some (if b then Some a else None) ≡ b
some_is true a = refl
some_is false a = refl

module _ (range : Range) where
  names : (c : Cell) → IsTrue (has_child range c) → (c.1 ≡ little_bytes 4 (little_number 4 c.1)) × IsTrue (is_child range.lo range.hi (little_number 4 c.1))
  names c e =
      let code : Bool = is_eq (byte_order c.1 (little_bytes 4 (little_number 4 c.1))) in
      let there : Bool = is_child range.lo range.hi (little_number 4 c.1) in
      let parts = both_true code there (sym (some_is (code && there) (little_number 4 c.1)) ∙ e) in
      (eq_same c.1 (little_bytes 4 (little_number 4 c.1)) parts.0, parts.1)

  named : range.hi < 2 ^ 32 → (key : List ℕ) (x : ℕ) → IsTrue (is_child range.lo range.hi x) → (little_number 4 (little_bytes 4 x) ≡ x) × IsTrue (has_child range (child_cell key x))
  named small key x there =
      let low : x < 2 ^ 32 = omega (arith, small, leb-true x range.hi (both_true (nat_lt range.lo x) (nat_le x range.hi) there).1) in
      let number : little_number 4 (little_bytes 4 x) ≡ x = ap (little_number 4) (sym (append-nil (little_bytes 4 x))) ∙ little_number-little_bytes 4 x [] low in (
        number,
        some_is (is_eq (byte_order (little_bytes 4 x) (little_bytes 4 (little_number 4 (little_bytes 4 x)))) && is_child range.lo range.hi (little_number 4 (little_bytes 4 x))) (little_number 4 (little_bytes 4 x))
            ∙ (λ k. is_eq (byte_order (little_bytes 4 x) (little_bytes 4 (number k))) && is_child range.lo range.hi (number k))
            ∙ true_both (is_eq (byte_order (little_bytes 4 x) (little_bytes 4 x))) (is_child range.lo range.hi x) (eq_itself (little_bytes 4 x)) there,
      )

-- ---- where a check comes to the end there is a map

same_ok : (a b : Met) → ◌≡◌ {A = Result Met ℕ} (Ok a) (Ok b) → a ≡ b
same_ok a b e = ap (λ (r : Result Met ℕ). value r) e
  where
    value : Result Met ℕ → Met
    value (Ok met) = met
    value (Err bad) = a

module _ (range : Range) (s : State) where
  record IsPageMet (x : Awaited) (met after : Met) : Type 0 where
    new : times x.object met.objects ≡ 0
    page : IsTrue (is_page x.level (bytes_of range s x))
    stands : IsTrue (stand range x.level x.from (front_of x.to (cells_read (bytes_of range s x))))
    after_is : with_page x (cells_read (bytes_of range s x)) met ≡ after

  page_met : (x : Awaited) (met after : Met) → meet_one range s x met ≡ Ok after → IsPageMet x met after
  page_met x met after e =
      let bytes : List ℕ = bytes_of range s x in
      let next : Met = with_page x (cells_read bytes) met in
      elim (is_new range met.objects x.object && fits range x bytes) as (λ t. (is_new range met.objects x.object && fits range x bytes) ≡ t → (if t then Ok next else Err x.object) ≡ Ok after → IsPageMet x met after) [
        | true ↦ λ is e.
            let both = both_true (is_new range met.objects x.object) (fits range x bytes) is in
            let new = both_true (nat_le range.lo x.object) (nat_le x.object range.hi && (times x.object met.objects == 0)) both.0 in
            let fit = both_true (is_page x.level bytes) (stand range x.level x.from (front_of x.to (cells_read bytes))) both.1 in
            record {
              new = eqb-true (times x.object met.objects) 0 (both_true (nat_le x.object range.hi) (times x.object met.objects == 0) new.1).1;
              page = fit.0;
              stands = fit.1;
              after_is = same_ok next after e;
            }
        | false ↦ λ is e. cc
      ] refl e

  -- the pages from one on downwards, that were met
  record IsMet (level : ℕ) (span : Span) (object : ℕ) (met after : Met) : Type 0 where
    tree : Tree level
    root : root_of level tree ≡ object
    holds : Holds range.lo range.hi s level tree
    stands : StandIn level span tree
    sum : plus met (objects_in level tree) (pairs_in level tree) (past_in level tree) ≡ after
    once : Once met.objects → Once after.objects

  abbrev IsKid : (level : ℕ) → Tree level → Type 0
  IsKid level child = IsTrue (is_child range.lo range.hi (root_of level child)) × Holds range.lo range.hi s level child

  abbrev cells_of : (level : ℕ) → List (List ℕ × Tree level) → List Cell
  cells_of level children = map (λ c. child_cell c.0 (root_of level c.1)) children

  -- the children of cells, of which the first has this key
  record AreMet (level : ℕ) (span : Span) (key : List ℕ) (cells : List Cell) (met after : Met) : Type 0 where
    child : Tree level
    others : List (List ℕ × Tree level)
    named : cells_of level ((key, child) ∷ others) ≡ cells
    holds : Each (IsKid level) ((key, child) ∷ others)
    share : Share (StandIn level) span ((key, child) ∷ others)
    sum : plus met (flat_map (λ c. objects_in level c.1) ((key, child) ∷ others)) (flat_map (λ c. pairs_in level c.1) ((key, child) ∷ others)) (flat_map (λ c. past_in level c.1) ((key, child) ∷ others)) ≡ after
    once : Once met.objects → Once after.objects

  abbrev Sound : ℕ → Type 0
  Sound level = (object : ℕ) (span : Span) (met after : Met) → meet range s level (record { object = object; level = level; from = span.from; to = span.to }) met ≡ Ok after → IsMet level span object met after

  a_child : (level : ℕ) (c : Cell) (child : Tree level) → IsTrue (has_child range c) → root_of level child ≡ little_number 4 c.1 → (child_cell c.0 (root_of level child) ≡ c) × IsTrue (is_child range.lo range.hi (root_of level child))
  a_child level c child e root =
      let named = names range c e in
      ((λ k. (c.0, (ap (little_bytes 4) root ∙ sym named.0) k)), subst (λ (x : ℕ). IsTrue (is_child range.lo range.hi x)) (sym root) named.1)

  each_met : (level : ℕ) → Sound level → (span : Span) (c : Cell) (cells : List Cell) (met after : Met) → c.0 ≡ span.from → T (is_sorted byte_order (c ∷ cells))
      → IsTrue (list_all (has_child range) (c ∷ cells)) → IsTrue (list_all (λ c. is_below c.0 span.to) (c ∷ cells))
      → meet_each (meet range s level) (children_of level span.to (c ∷ cells)) met ≡ Ok after → AreMet level span c.0 (c ∷ cells) met after
  each_met level sound span c [] met after from rise all low e =
      let here : Span = record { from = c.0; to = span.to } in
      let steps = came (λ (m : Met). Ok m) (meet range s level (record { object = little_number 4 c.1; level = level; from = c.0; to = span.to }) met) after e in
      let one = sound (little_number 4 c.1) here met steps.0 steps.1 in
      let kid = a_child level c one.tree (both_true (has_child range c) true all).0 one.root in
      let end : steps.0 ≡ after = same_ok steps.0 after steps.2 in
      record {
        child = one.tree;
        others = [];
        named = λ k. kid.0 k ∷ [];
        holds = ((kid.1, one.holds), tt);
        share = (from, subst (λ (key : List ℕ). StandIn level (record { from = key; to = span.to }) one.tree) from one.stands);
        sum =
            (λ k. plus met (append-nil (objects_in level one.tree) k) (append-nil (pairs_in level one.tree) k) (append-nil (past_in level one.tree) k))
            ∙ one.sum ∙ end;
        once = λ once. subst (λ (m : Met). Once m.objects) end (one.once once);
      }
  each_met level sound span c (d ∷ cells) met after from rise all low e =
      let here : Span = record { from = c.0; to = Some d.0 } in
      let rest : List Awaited = children_of level span.to (d ∷ cells) in
      let steps = came (meet_each (meet range s level) rest) (meet range s level (record { object = little_number 4 c.1; level = level; from = c.0; to = Some d.0 }) met) after e in
      let one = sound (little_number 4 c.1) here met steps.0 steps.1 in
      let named = both_true (has_child range c) (list_all (has_child range) (d ∷ cells)) all in
      let ends = both_true (is_below c.0 span.to) (list_all (λ c. is_below c.0 span.to) (d ∷ cells)) low in
      let end : IsTrue (is_below d.0 span.to) = (both_true (is_below d.0 span.to) (list_all (λ c. is_below c.0 span.to) cells) ends.1).0 in
      let kid = a_child level c one.tree named.0 one.root in
      let others = each_met level sound (upper span d.0) d cells steps.0 after refl (second (below_all byte_order c.0 (d ∷ cells)) (is_sorted byte_order (d ∷ cells)) rise) named.1 ends.1 steps.2 in
      let above : is_lt (byte_order c.0 d.0) ≡ true = truly (is_lt (byte_order c.0 d.0)) (first (is_lt (byte_order c.0 d.0)) (below_all byte_order c.0 cells) (first (below_all byte_order c.0 (d ∷ cells)) (is_sorted byte_order (d ∷ cells)) rise)) in
      record {
        child = one.tree;
        others = (d.0, others.child) ∷ others.others;
        named = λ k. kid.0 k ∷ others.named k;
        holds = ((kid.1, one.holds), others.holds);
        share = (
          from,
          parts_within span d.0 (ap (λ (key : List ℕ). is_lt (byte_order d.0 key)) (sym from) ∙ not_both c.0 d.0 above) end,
          subst (λ (key : List ℕ). StandIn level (record { from = key; to = Some d.0 }) one.tree) from one.stands,
          others.share,
        );
        sum =
            sym (plus_both met (objects_in level one.tree) _ (pairs_in level one.tree) _ (past_in level one.tree) _)
            ∙ ap (λ (m : Met). plus m (flat_map (λ c. objects_in level c.1) ((d.0, others.child) ∷ others.others)) (flat_map (λ c. pairs_in level c.1) ((d.0, others.child) ∷ others.others)) (flat_map (λ c. past_in level c.1) ((d.0, others.child) ∷ others.others))) one.sum
            ∙ others.sum;
        once = λ once. others.once (one.once once);
      }

  -- a leaf, or a page above others, by its cells
  leaf_sound : Sound 0
  leaf_sound object span met after e =
      let x : Awaited = record { object = object; level = 0; from = span.from; to = span.to } in
      let bytes : List ℕ = bytes_of range s x in
      let cells : List Cell = cells_read bytes in
      let front : List Cell = front_of span.to cells in
      let page = page_met x met after e in
      let held = page_held 0 bytes page.page in
      let few : length cells - length front ≡ length (rest_of span.to cells) = sym (length-drop (length front) cells) in
      record {
        tree = record { object = object; cells = front; past = rest_of span.to cells };
        root = refl;
        holds = held_again 0 bytes bytes cells (front ++ rest_of span.to cells) held refl (parted span.to cells);
        stands = (
          all_together (λ c. not (is_lt (byte_order c.0 span.from))) (λ c. is_below c.0 span.to) (λ c. is_within span c.0) (λ c one two. true_both (not (is_lt (byte_order c.0 span.from))) (is_below c.0 span.to) one two) front
              (all_from span.from front (front_rise span.to cells held.rise) page.stands) (front_below span.to cells),
          rest_past span.to cells held.rise,
        );
        sum = (λ k. record { objects = met.objects ++ object ∷ []; keys = met.keys + length front; past = met.past + sym few k }) ∙ page.after_is;
        once = λ once. subst (λ (m : Met). Once m.objects) page.after_is (once_more met.objects object once page.new);
      }

  inner_sound : (level : ℕ) → Sound level → Sound (suc level)
  inner_sound level sound object span met after e =
      let x : Awaited = record { object = object; level = suc level; from = span.from; to = span.to } in
      let bytes : List ℕ = bytes_of range s x in
      let cells : List Cell = cells_read bytes in
      let steps = came (meet_each (meet range s level) (below range s x)) (meet_one range s x met) after e in
      let page = page_met x met steps.0 steps.1 in
      let held = page_held (suc level) bytes page.page in
      let stands = both_true (begin_with span.from (front_of span.to cells)) (list_all (has_child range) (front_of span.to cells)) page.stands in
      with_front object span met after cells steps.0 held page.new page.after_is (front_of span.to cells) refl stands.0 stands.1 (front_rise span.to cells held.rise) (front_below span.to cells) steps.2
    where
      with_front : (object : ℕ) (span : Span) (met after : Met) (cells : List Cell) (here : Met) → IsHeld (suc level) (bytes_at range.lo s object) cells → times object met.objects ≡ 0
          → with_page (record { object = object; level = suc level; from = span.from; to = span.to }) cells met ≡ here
          → (front : List Cell) → front_of span.to cells ≡ front → IsTrue (begin_with span.from front) → IsTrue (list_all (has_child range) front) → T (is_sorted byte_order front)
          → IsTrue (list_all (λ c. is_below c.0 span.to) front)
          → meet_each (meet range s level) (children_of level span.to front) here ≡ Ok after → IsMet (suc level) span object met after
      with_front object span met after cells here held new page [] is begins named rise low e = cc
      with_front object span met after cells here held new page (c ∷ front) is begins named rise low e =
          let past : List Cell = rest_of span.to cells in
          let kids = each_met level sound span c front here after (eq_same c.0 span.from begins) rise named low e in
          let children : List (List ℕ × Tree level) = (c.0, kids.child) ∷ kids.others in
          let few : length cells - length (front_of span.to cells) ≡ length past = sym (length-drop (length (front_of span.to cells)) cells) in
          let begun : plus met (object ∷ []) [] past ≡ here = (λ k. record { objects = met.objects ++ object ∷ []; keys = met.keys + 0; past = met.past + sym few k }) ∙ page in
          record {
            tree = record { object = object; children = children; past = past };
            root = refl;
            holds = (
              held_again (suc level) (bytes_at range.lo s object) (bytes_at range.lo s object) cells (cells_of level children ++ past) held refl
                  (ap (λ (l : List Cell). l ++ past) (kids.named ∙ sym is) ∙ parted span.to cells),
              kids.holds,
            );
            stands = (kids.share, rest_past span.to cells held.rise);
            sum =
                sym (plus_both met (object ∷ []) (flat_map (λ c. objects_in level c.1) children) [] (flat_map (λ c. pairs_in level c.1) children) past (flat_map (λ c. past_in level c.1) children))
                ∙ ap (λ (m : Met). plus m (flat_map (λ c. objects_in level c.1) children) (flat_map (λ c. pairs_in level c.1) children) (flat_map (λ c. past_in level c.1) children)) begun ∙ kids.sum;
            once = λ once. kids.once (subst (λ (m : Met). Once m.objects) page (once_more met.objects object once new));
          }

  sound : (level : ℕ) → Sound level
  sound zero = leaf_sound
  sound (suc level) = inner_sound level (sound level)

-- of nothing
plus_nothing : (objects : List ℕ) (pairs past : List Cell) → plus (record { objects = []; keys = 0; past = 0 }) objects pairs past ≡ record { objects = objects; keys = length pairs; past = length past }
plus_nothing objects pairs past =
    let keys : 0 + length pairs ≡ length pairs = omega arith in
    let cells : 0 + length past ≡ length past = omega arith in
    λ k. record { objects = objects; keys = keys k; past = cells k }

pub check_sound : (range : Range) (s : State) (met : Met) → range.lo ≤ range.hi → check range s ≡ Ok met → (is : IsMap range.lo range.hi s) × (met_on is ≡ met)
check_sound range s met order e =
    let level : ℕ = level_in (bytes_at range.lo s range.lo) in
    let root : Awaited = record { object = range.lo; level = level; from = []; to = None } in
    let none : Met = record { objects = []; keys = 0; past = 0 } in
    let is = sound range s level range.lo all_keys none met (sym (nothing_behind (meet range s level root none)) ∙ e) in
    let whole : plus none (objects_in level is.tree) (pairs_in level is.tree) (past_in level is.tree) ≡ record { objects = objects_in level is.tree; keys = length (pairs_in level is.tree); past = length (past_in level is.tree) } =
    plus_nothing (objects_in level is.tree) (pairs_in level is.tree) (past_in level is.tree) in
    let sum : record { objects = objects_in level is.tree; keys = length (pairs_in level is.tree); past = length (past_in level is.tree) } ≡ met = sym whole ∙ is.sum in (
      record {
        order = order;
        level = level;
        tree = is.tree;
        root = is.root;
        holds = is.holds;
        stand = is.stands;
        once = λ x. subst (λ (m : Met). times x m.objects ≤ 1) (sym sum) (is.once (λ y. omega arith) x);
      },
      sum,
    )

-- ---- on a map a check comes to the end

module _ (reads : ReadsCells) (range : Range) (small : range.hi < 2 ^ 32) (s : State) where
  abbrev Complete : ℕ → Type 0
  Complete level = (t : Tree level) (span : Span) (met : Met) → Holds range.lo range.hi s level t → StandIn level span t → IsTrue (is_below span.from span.to)
      → range.lo ≤ root_of level t → root_of level t ≤ range.hi → Once (met.objects ++ objects_in level t)
      → meet range s level (record { object = root_of level t; level = level; from = span.from; to = span.to }) met ≡ Ok (plus met (objects_in level t) (pairs_in level t) (past_in level t))

  is_there : (x : ℕ) (met : Met) → range.lo ≤ x → x ≤ range.hi → times x met.objects ≡ 0 → is_new range met.objects x ≡ true
  is_there x met low high none =
      true_both (nat_le range.lo x) (nat_le x range.hi && (times x met.objects == 0)) (le-leb range.lo x low)
      (true_both (nat_le x range.hi) (times x met.objects == 0) (le-leb x range.hi high) (eq-eqb (times x met.objects) 0 none))

  -- one page is met
  one_met : (x : Awaited) (met : Met) (front past : List Cell) → IsHeld x.level (bytes_of range s x) (front ++ past) → front_of x.to (front ++ past) ≡ front → IsTrue (stand range x.level x.from front)
      → range.lo ≤ x.object → x.object ≤ range.hi → times x.object met.objects ≡ 0
      → meet_one range s x met ≡ Ok (record { objects = met.objects ++ x.object ∷ []; keys = met.keys + keys_of x.level front; past = met.past + length past })
  one_met x met front past held parts stands low high none =
      let bytes : List ℕ = bytes_of range s x in
      let read : cells_read bytes ≡ front ++ past = cells_held_are reads x.level bytes (front ++ past) held in
      let before : front_of x.to (cells_read bytes) ≡ front = ap (front_of x.to) read ∙ parts in
      let fit : fits range x bytes ≡ true =
      true_both (is_page x.level bytes) (stand range x.level x.from (front_of x.to (cells_read bytes))) (held_page reads x.level bytes (front ++ past) held)
      (ap (stand range x.level x.from) before ∙ stands) in
      let both : (is_new range met.objects x.object && fits range x bytes) ≡ true = true_both (is_new range met.objects x.object) (fits range x bytes) (is_there x.object met low high none) fit in
      let few : length (cells_read bytes) - length (front_of x.to (cells_read bytes)) ≡ length past =
      omega (arith, ap (λ (l : List Cell). length l) read, ap (λ (l : List Cell). length l) before, length-append front past) in
      ap (λ (t : Bool). if t then Ok (with_page x (cells_read bytes) met) else Err x.object) both
      ∙ (λ k. Ok (record { objects = met.objects ++ x.object ∷ []; keys = met.keys + keys_of x.level (before k); past = met.past + few k }))

  -- what is first in objects that stand once was not met
  first_new : (met : Met) (x : ℕ) (rest : List ℕ) → Once (met.objects ++ x ∷ rest) → times x met.objects ≡ 0
  first_new met x rest once = omega (arith, once x, times_both x met.objects (x ∷ rest), one_here x rest)

  leaf_complete : Complete 0
  leaf_complete t span met holds stands below low high once =
      let front_low = wider (is_within span) (λ key. is_below key span.to) (λ key e. (within_parts span key e).1) t.cells stands.0 in
      one_met (record { object = t.object; level = 0; from = span.from; to = span.to }) met t.cells t.past holds (front_is span.to t.cells t.past front_low stands.1) (begins t.cells stands.0) low high (first_new met t.object [] once)
    where
      begins : (cells : List Cell) → IsTrue (all_within span cells) → IsTrue (begin_from span.from cells)
      begins [] all = refl
      begins (c ∷ cells) all = true_not (is_lt (byte_order c.0 span.from)) (within_parts span c.0 (both_true (is_within span c.0) (all_within span cells) all).0).0

  keys_below : (level : ℕ) (span : Span) (children : List (List ℕ × Tree level)) → Share (StandIn level) span children → IsTrue (is_below span.from span.to)
      → IsTrue (list_all (λ c. is_below c.0 span.to) (cells_of range s level children))
  keys_below level span [] share below = absurd share
  keys_below level span (c ∷ []) share below = true_both (is_below c.0 span.to) true (ap (λ (key : List ℕ). is_below key span.to) share.0 ∙ below) refl
  keys_below level span (c ∷ d ∷ children) share below =
      let rest = keys_below level (upper span d.0) (d ∷ children) share.3 (within_parts span d.0 share.1).1 in
      true_both (is_below c.0 span.to) (list_all (λ c. is_below c.0 span.to) (cells_of range s level (d ∷ children))) (ap (λ (key : List ℕ). is_below key span.to) share.0 ∙ below) rest

  all_named : (level : ℕ) (children : List (List ℕ × Tree level)) → Each (IsKid range s level) children → IsTrue (list_all (has_child range) (cells_of range s level children))
  all_named level [] kids = refl
  all_named level (c ∷ children) kids =
      true_both (has_child range (child_cell c.0 (root_of level c.1))) (list_all (has_child range) (cells_of range s level children))
      (named range small c.0 (root_of level c.1) kids.0.0).1 (all_named level children kids.1)

  begins_with : (level : ℕ) (span : Span) (children : List (List ℕ × Tree level)) → Share (StandIn level) span children → IsTrue (begin_with span.from (cells_of range s level children))
  begins_with level span [] share = absurd share
  begins_with level span (c ∷ []) share = ap (λ (key : List ℕ). is_eq (byte_order key span.from)) share.0 ∙ eq_itself span.from
  begins_with level span (c ∷ d ∷ children) share = ap (λ (key : List ℕ). is_eq (byte_order key span.from)) share.0 ∙ eq_itself span.from

  in_range : (x : ℕ) → IsTrue (is_child range.lo range.hi x) → (range.lo ≤ x) × (x ≤ range.hi)
  in_range x e =
      let parts = both_true (nat_lt range.lo x) (nat_le x range.hi) e in
      let above : range.lo < x = ltb-true range.lo x parts.0 in
      (omega (arith, above), leb-true x range.hi parts.1)

  once_front : (objects a b : List ℕ) → Once (objects ++ (a ++ b)) → Once (objects ++ a)
  once_front objects a b once y = omega (arith, once y, times_both y objects (a ++ b), times_both y a b, times_both y objects a)

  each_complete : (level : ℕ) → Complete level → (span : Span) (c : List ℕ × Tree level) (children : List (List ℕ × Tree level)) (met : Met) → Each (IsKid range s level) (c ∷ children)
      → Share (StandIn level) span (c ∷ children) → IsTrue (is_below span.from span.to) → T (is_sorted byte_order (cells_of range s level (c ∷ children)))
      → Once (met.objects ++ flat_map (λ c. objects_in level c.1) (c ∷ children))
      → meet_each (meet range s level) (children_of level span.to (cells_of range s level (c ∷ children))) met
      ≡ Ok (plus met (flat_map (λ c. objects_in level c.1) (c ∷ children)) (flat_map (λ c. pairs_in level c.1) (c ∷ children)) (flat_map (λ c. past_in level c.1) (c ∷ children)))
  each_complete level complete span c [] met kids share below rise once =
      let x : ℕ = root_of level c.1 in
      let place = in_range x kids.0.0 in
      let object : little_number 4 (little_bytes 4 x) ≡ x = (named range small c.0 x kids.0.0).0 in
      let here = complete c.1 (record { from = c.0; to = span.to }) met kids.0.1 (subst (λ (key : List ℕ). StandIn level (record { from = key; to = span.to }) c.1) (sym share.0) share.1)
      (ap (λ (key : List ℕ). is_below key span.to) share.0 ∙ below) place.0 place.1 (once_front met.objects (objects_in level c.1) [] once) in
      nothing_behind (meet range s level (record { object = little_number 4 (little_bytes 4 x); level = level; from = c.0; to = span.to }) met)
      ∙ (λ k. meet range s level (record { object = object k; level = level; from = c.0; to = span.to }) met) ∙ here
      ∙ (λ k. Ok (plus met (sym (append-nil (objects_in level c.1)) k) (sym (append-nil (pairs_in level c.1)) k) (sym (append-nil (past_in level c.1)) k)))
  each_complete level complete span c (d ∷ children) met kids share below rise once =
      let x : ℕ = root_of level c.1 in
      let place = in_range x kids.0.0 in
      let object : little_number 4 (little_bytes 4 x) ≡ x = (named range small c.0 x kids.0.0).0 in
      let rest : List Cell = cells_of range s level (d ∷ children) in
      let above : is_lt (byte_order c.0 d.0) ≡ true =
      truly (is_lt (byte_order c.0 d.0)) (first (is_lt (byte_order c.0 d.0)) (below_all byte_order c.0 (cells_of range s level children)) (first (below_all byte_order c.0 rest) (is_sorted byte_order rest) rise)) in
      let objects : List ℕ = flat_map (λ c. objects_in level c.1) (d ∷ children) in
      let pairs : List Cell = flat_map (λ c. pairs_in level c.1) (d ∷ children) in
      let past : List Cell = flat_map (λ c. past_in level c.1) (d ∷ children) in
      let next : Met = plus met (objects_in level c.1) (pairs_in level c.1) (past_in level c.1) in
      let here = complete c.1 (record { from = c.0; to = Some d.0 }) met kids.0.1 (subst (λ (key : List ℕ). StandIn level (record { from = key; to = Some d.0 }) c.1) (sym share.0) share.2)
      above place.0 place.1 (once_front met.objects (objects_in level c.1) objects once) in
      let others = each_complete level complete (upper span d.0) d children next kids.1 share.3 (within_parts span d.0 share.1).1 (second (below_all byte_order c.0 rest) (is_sorted byte_order rest) rise)
      (subst (λ (l : List ℕ). Once l) (sym (append_assoc met.objects (objects_in level c.1) objects)) once) in
      ap (and_then (meet_each (meet range s level) (children_of level span.to rest)))
      ((λ k. meet range s level (record { object = object k; level = level; from = c.0; to = Some d.0 }) met) ∙ here)
      ∙ others ∙ ap (λ (m : Met). Ok m) (plus_both met (objects_in level c.1) objects (pairs_in level c.1) pairs (past_in level c.1) past)

  inner_complete : (level : ℕ) → Complete level → Complete (suc level)
  inner_complete level complete t span met holds stands below low high once =
      with_children t.children holds.1 stands.0 holds.0 once
    where
      with_children : (children : List (List ℕ × Tree level)) → Each (IsKid range s level) children → Share (StandIn level) span children
          → IsHeld (suc level) (bytes_at range.lo s t.object) (cells_of range s level children ++ t.past) → Once (met.objects ++ t.object ∷ flat_map (λ c. objects_in level c.1) children)
          → meet range s (suc level) (record { object = t.object; level = suc level; from = span.from; to = span.to }) met
          ≡ Ok (plus met (t.object ∷ flat_map (λ c. objects_in level c.1) children) (flat_map (λ c. pairs_in level c.1) children) (t.past ++ flat_map (λ c. past_in level c.1) children))
      with_children [] kids share held once = absurd share
      with_children (c ∷ children) kids share held once =
          let x : Awaited = record { object = t.object; level = suc level; from = span.from; to = span.to } in
          let front : List Cell = cells_of range s level (c ∷ children) in
          let objects : List ℕ = flat_map (λ c. objects_in level c.1) (c ∷ children) in
          let pairs : List Cell = flat_map (λ c. pairs_in level c.1) (c ∷ children) in
          let past : List Cell = flat_map (λ c. past_in level c.1) (c ∷ children) in
          let parts : front_of span.to (front ++ t.past) ≡ front = front_is span.to front t.past (keys_below level span (c ∷ children) share below) stands.1 in
          let stood : IsTrue (stand range (suc level) span.from front) =
          true_both (begin_with span.from front) (list_all (has_child range) front) (begins_with level span (c ∷ children) share) (all_named level (c ∷ children) kids) in
          let next : Met = plus met (t.object ∷ []) [] t.past in
          let one = one_met x met front t.past held parts stood low high (first_new met t.object objects once) in
          let read : front_of span.to (cells_read (bytes_of range s x)) ≡ front = ap (front_of span.to) (cells_held_are reads (suc level) (bytes_of range s x) (front ++ t.past) held) ∙ parts in
          let rise = (sorted_parts front t.past held.rise).0 in
          let others = each_complete level complete span c children next kids share below rise (subst (λ (l : List ℕ). Once l) (sym (append_assoc met.objects (t.object ∷ []) objects)) once) in
          (λ k. and_then (meet_each (meet range s level) (children_of level span.to (read k))) (one k))
          ∙ others ∙ ap (λ (m : Met). Ok m) (plus_both met (t.object ∷ []) objects [] pairs t.past past)

  complete : (level : ℕ) → Complete level
  complete zero = leaf_complete
  complete (suc level) = inner_complete level (complete level)

  pub check_complete : (is : IsMap range.lo range.hi s) → check range s ≡ Ok (met_on is)
  check_complete is =
      let none : Met = record { objects = []; keys = 0; past = 0 } in
      let level : level_in (bytes_at range.lo s range.lo) ≡ is.level =
      ap (λ (x : ℕ). level_in (bytes_at range.lo s x)) (sym is.root) ∙ ap level_in (root_code is.level is.tree is.holds) in
      let found = complete is.level is.tree all_keys none is.holds is.stand refl (omega (arith, is.root)) (omega (arith, is.root, is.order)) is.once in
      nothing_behind (meet range s (level_in (bytes_at range.lo s range.lo)) (record { object = range.lo; level = level_in (bytes_at range.lo s range.lo); from = []; to = None }) none)
      ∙ (λ k. meet range s (level k) (record { object = sym is.root k; level = level k; from = []; to = None }) none)
      ∙ found ∙ ap (λ (m : Met). Ok m) (plus_nothing (objects_in is.level is.tree) (pairs_in is.level is.tree) (past_in is.level is.tree))
    where
      root_code : (level : ℕ) (t : Tree level) → Holds range.lo range.hi s level t → bytes_at range.lo s (root_of level t) ≡ page_of level (cells_in level t)
      root_code zero t holds = holds.code
      root_code (suc level) t holds = holds.0.code
