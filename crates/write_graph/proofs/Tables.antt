-- What the tables of the rows report, and what each call makes of them.
use Rattle.std.proofs.Common.{◌≡◌, ◌∙◌, ap, sym, subst, ℕ, ◌+◌, ◌<◌, ◌≤◌, ◌^◌, ◌-◌, min, List, [], ◌∷◌, ◌++◌, length, length-append, Option, Some, None, refl, arith, inl, inr}
use Rattle.std.specs.Prelude.{IsTrue, IsFalse, nat_eq, nat_lt, slice_index, slice_index_or, slice_set, MatchOption}
use Rattle.std.specs.List.{position, position_or_len, list_any}
use Rattle.std.proofs.lemmas.Bool.{cases_lt, both_ways, lt-ltb, le-ltb, cond-true, cond-false}
use Rattle.std.proofs.lemmas.List.{get_or-set_same, get_or-set_other}
use Rattle.oper_core.specs.State.{is_among}
use Rattle.number_lists.specs.Lists.{Lists, list_at, IsEmptied, IsPopped, IsPushed, IsWider, AreAdded}
use Rattle.indexmap.specs.IndexSet.{insert_key}
use Rattle.write_graph.specs.Places.{place_in}
use Rattle.write_graph.specs.Rows.{Rows, waiting_of, IsLastSet, IsWaiting, IsTaken, AreCellsAdded}
use Rattle.write_graph.specs.RowTables.{rows_of, AreTables, IsRow}
use Rattle.write_graph.proofs.Place.{place-is, place-here, place-le, place-one, place-among, place-none, place-left, place-right, read-past, read-more, list-past, index-left, index-last}

-- what a search by index finds
pub find-is : (x : ℕ) (objects : List ℕ) (r : Option ℕ) → r ≡ position (nat_eq x) objects → MatchOption r (place_in x objects ≡ length objects) (λ row. (row ≡ place_in x objects) × (row < length objects))
find-is x objects r e =
    let at = place-is x objects in
    let n = position_or_len (nat_eq x) objects in
    let P : Option ℕ → Type 0 = λ o. MatchOption o (place_in x objects ≡ length objects) (λ row. (row ≡ place_in x objects) × (row < length objects)) in
    elim (cases_lt n (length objects)) [
      | inl lt ↦ subst P (sym (e ∙ cond-true (nat_lt n (length objects)) (Some n) None (lt-ltb _ _ lt))) (sym at, lt)
      | inr ge ↦ subst P (sym (e ∙ cond-false (nat_lt n (length objects)) (Some n) None (le-ltb _ _ ge))) (omega (arith, at, ge, place-le x objects))
    ]

pub waiting-none : (objects : List ℕ) (last : List (Option ℕ)) (waiting : Lists) (room x : ℕ) → AreTables objects last waiting → place_in x objects ≡ length objects → waiting_of (rows_of objects last waiting room) x ≡ []
waiting-none objects last waiting room x are e = list-past waiting.lists (place_in x objects) (omega (arith, are.waiting_rows, e))

-- where another object has the same row, it has none
other-row : (x y : ℕ) (objects : List ℕ) → place_in x objects < length objects → (y ≡ x → ⊥) → place_in y objects ≡ place_in x objects → ⊥
other-row x y objects lt ne e = ne (sym (place-one x y objects lt (sym e)))

pub taken : (objects : List ℕ) (last : List (Option ℕ)) (old new : Lists) (room x row : ℕ) (r : Option ℕ) → row ≡ place_in x objects → row < length objects → MatchOption r (IsEmptied old row new) (λ k. IsPopped old row k new) →
    MatchOption r ((waiting_of (rows_of objects last old room) x ≡ []) × (rows_of objects last new room ≡ rows_of objects last old room)) (λ c. IsTaken (rows_of objects last old room) x c (rows_of objects last new room))
taken objects last old new room x row None at lt is = (
  ap (λ (k : ℕ). list_at old.lists k) (sym at) ∙ is.was,
  ap (λ (w : Lists). rows_of objects last w room) is.same,
)
taken objects last old new room x row (Some k) at lt is = record {
  here = ap (λ (j : ℕ). list_at old.lists j) (sym at) ∙ is.here ∙ ap (λ (j : ℕ). k ∷ list_at new.lists j) at;
  others = λ y ne. is.others (place_in y objects) (λ e. other-row x y objects (omega (arith, at, lt)) ne (e ∙ at));
  last = λ y. refl;
  cells = is.same.items;
  row_room = ap (λ (n : ℕ). min (2 ^ 32 - length objects) (min room n)) is.same.list_room;
  cell_room = is.same.item_room;
}

pub last-set : (rows : Rows) (objects : List ℕ) (last : List (Option ℕ)) (waiting : Lists) (room x row cell more : ℕ) → IsRow rows x row (rows_of objects last waiting room) → AreTables objects last waiting → more ≡ room →
    IsLastSet rows x cell (rows_of objects (slice_set last row (Some cell)) waiting more)
last-set rows objects last waiting room x row cell more is are e = record {
  here = ap (λ (k : ℕ). slice_index_or (slice_set last row (Some cell)) k None) (sym is.place) ∙ get_or-set_same last row (Some cell) None (omega (arith, is.below, are.last_rows));
  others = λ y ne. get_or-set_other last row (place_in y objects) (Some cell) None (λ q. other-row x y objects (omega (arith, is.below, is.place)) ne (q ∙ is.place)) ∙ is.last y;
  waiting = is.waiting;
  cells = is.cells;
  row_room = omega (arith, is.row_room, e);
  cell_room = is.cell_room;
}

-- a cell in no object's row is in no row
pub free-all : (objects : List ℕ) (last : List (Option ℕ)) (waiting : Lists) (room cell : ℕ) → AreTables objects last waiting → ((y : ℕ) → IsTrue (is_among cell (waiting_of (rows_of objects last waiting room) y)) → ⊥) →
    (i : ℕ) → IsTrue (is_among cell (list_at waiting.lists i)) → ⊥
free-all objects last waiting room cell are free i t = elim (cases_lt i (length objects)) [
  | inl lt ↦ free (slice_index objects i) (subst (λ (k : ℕ). IsTrue (is_among cell (list_at waiting.lists k))) (sym (are.once i lt)) t)
  | inr ge ↦ both_ways _ refl (subst (λ (xs : List ℕ). IsTrue (is_among cell xs)) (list-past waiting.lists i (omega (arith, ge, are.waiting_rows))) t)
]

pub waits : (rows : Rows) (objects : List ℕ) (last : List (Option ℕ)) (waiting new : Lists) (room x row cell : ℕ) → IsRow rows x row (rows_of objects last waiting room) → IsPushed waiting row cell new →
    IsWaiting rows x cell (rows_of objects last new room)
waits rows objects last waiting new room x row cell is push = record {
  here = ap (λ (k : ℕ). list_at new.lists k) (sym is.place) ∙ push.here ∙ ap (λ (k : ℕ). cell ∷ list_at waiting.lists k) is.place ∙ ap (λ (xs : List ℕ). cell ∷ xs) (is.waiting x);
  others = λ y ne. push.others (place_in y objects) (λ q. other-row x y objects (omega (arith, is.below, is.place)) ne (q ∙ is.place)) ∙ is.waiting y;
  last = is.last;
  cells = push.same.items ∙ is.cells;
  row_room = omega (arith, is.row_room, push.same.list_room);
  cell_room = push.same.item_room ∙ is.cell_room;
}

room-more : (a b c d e f : ℕ) → a ≤ b + 1 → c ≤ d + 1 → e ≤ f + 1 → min a (min c e) ≤ min b (min d f) + 1
room-more a b c d e f p q r = omega (arith, p, q, r)

pub row-there : (keys more : List ℕ) (last : List (Option ℕ)) (waiting : Lists) (room room_more x row : ℕ) → IsTrue (list_any (nat_eq x) keys) → more ≡ insert_key nat_eq keys x → row ≡ position_or_len (nat_eq x) keys → room ≤ room_more + 1 →
    IsRow (rows_of keys last waiting room) x row (rows_of more last waiting room_more)
row-there keys more last waiting room room_more x row there e at le =
    let same : more ≡ keys = e ∙ cond-true (list_any (nat_eq x) keys) keys (keys ++ x ∷ []) there in
    let place = place-is x keys in
    subst (λ (ks : List ℕ). IsRow (rows_of keys last waiting room) x row (rows_of ks last waiting room_more)) (sym same) record {
      place = at ∙ sym place;
      below = omega (arith, at, place, place-among x keys there);
      last = λ y. refl;
      waiting = λ y. refl;
      cells = refl;
      row_room = room-more (2 ^ 32 - length keys) (2 ^ 32 - length keys) room room_more waiting.list_room waiting.list_room (omega arith) le (omega arith);
      cell_room = refl;
    }

-- an object more changes what no object's row reports
last-more : (keys : List ℕ) (last : List (Option ℕ)) (x y : ℕ) → length last ≡ length keys → slice_index_or (last ++ None ∷ []) (place_in y (keys ++ x ∷ [])) None ≡ slice_index_or last (place_in y keys) None
last-more keys last x y len = elim (cases_lt (place_in y keys) (length keys)) [
  | inl lt ↦ ap (λ (k : ℕ). slice_index_or (last ++ None ∷ []) k None) (place-left y keys (x ∷ []) lt) ∙ read-more last (place_in y keys) None
  | inr ge ↦ read-more last (place_in y (keys ++ x ∷ [])) None ∙ read-past last (place_in y (keys ++ x ∷ [])) None (omega (arith, len, place-right y keys (x ∷ []) ge)) ∙ sym (read-past last (place_in y keys) None (omega (arith, len, ge)))
]

waiting-more : (keys : List ℕ) (old new : List (List ℕ)) (x y : ℕ) → length old ≡ length keys → ((j : ℕ) → list_at new j ≡ list_at old j) → list_at new (place_in y (keys ++ x ∷ [])) ≡ list_at old (place_in y keys)
waiting-more keys old new x y len same = elim (cases_lt (place_in y keys) (length keys)) [
  | inl lt ↦ same (place_in y (keys ++ x ∷ [])) ∙ ap (λ (k : ℕ). list_at old k) (place-left y keys (x ∷ []) lt)
  | inr ge ↦ same (place_in y (keys ++ x ∷ [])) ∙ list-past old (place_in y (keys ++ x ∷ [])) (omega (arith, len, place-right y keys (x ∷ []) ge)) ∙ sym (list-past old (place_in y keys) (omega (arith, len, ge)))
]

once-more : (keys : List ℕ) (x : ℕ) → IsFalse (is_among x keys) → ((i : ℕ) → i < length keys → place_in (slice_index keys i) keys ≡ i) → (i : ℕ) → i < length (keys ++ x ∷ []) → place_in (slice_index (keys ++ x ∷ []) i) (keys ++ x ∷ []) ≡ i
once-more keys x none once i lt = elim (cases_lt i (length keys)) [
  | inl low ↦ ap (λ (k : ℕ). place_in k (keys ++ x ∷ [])) (index-left keys x i low) ∙ place-left (slice_index keys i) keys (x ∷ []) (omega (arith, once i low, low)) ∙ once i low
  | inr ge ↦
      let end : i ≡ length keys = omega (arith, lt, ge, length-append keys (x ∷ [])) in
      let at : slice_index (keys ++ x ∷ []) i ≡ x = ap (slice_index (keys ++ x ∷ [])) end ∙ index-last keys x in
      let past = place-right x keys (x ∷ []) (omega (arith, place-none x keys none)) in
      ap (λ (k : ℕ). place_in k (keys ++ x ∷ [])) at ∙ omega (arith, past, place-here x x [] refl, end)
]

pub tables-more : (keys more : List ℕ) (last last_more : List (Option ℕ)) (waiting wider : Lists) (x : ℕ) → AreTables keys last waiting → IsFalse (list_any (nat_eq x) keys) → more ≡ insert_key nat_eq keys x → last_more ≡ last ++ None ∷ [] → IsWider waiting wider → length keys < 2 ^ 32 →
    AreTables more last_more wider
tables-more keys more last last_more waiting wider x are none e el wide few =
    let same : more ≡ keys ++ x ∷ [] = e ∙ cond-false (list_any (nat_eq x) keys) keys (keys ++ x ∷ []) none in
    let len = length-append keys (x ∷ []) in
    subst (λ (ks : List ℕ). AreTables ks last_more wider) (sym same) record {
      last_rows = omega (arith, ap length el, length-append last (None ∷ []), are.last_rows, len);
      waiting_rows = omega (arith, wide.lists, are.waiting_rows, len);
      few = omega (arith, len, few);
      once = once-more keys x none are.once;
    }

pub row-made : (keys more : List ℕ) (last last_more : List (Option ℕ)) (waiting wider : Lists) (room room_more x row : ℕ) → AreTables keys last waiting → IsFalse (list_any (nat_eq x) keys) → more ≡ insert_key nat_eq keys x → row ≡ position_or_len (nat_eq x) keys →
    last_more ≡ last ++ None ∷ [] → IsWider waiting wider → room ≤ room_more + 1 → IsRow (rows_of keys last waiting room) x row (rows_of more last_more wider room_more)
row-made keys more last last_more waiting wider room room_more x row are none e at el wide le =
    let same : more ≡ keys ++ x ∷ [] = e ∙ cond-false (list_any (nat_eq x) keys) keys (keys ++ x ∷ []) none in
    let len = length-append keys (x ∷ []) in
    let here = place-none x keys none in
    let past = place-right x keys (x ∷ []) (omega (arith, here)) in
    subst (λ (ks : List ℕ). IsRow (rows_of keys last waiting room) x row (rows_of ks last_more wider room_more)) (sym same) (
    subst (λ (ls : List (Option ℕ)). IsRow (rows_of keys last waiting room) x row (rows_of (keys ++ x ∷ []) ls wider room_more)) (sym el) record {
      place = omega (arith, at, place-is x keys, here, past, place-here x x [] refl);
      below = omega (arith, at, place-is x keys, here, len);
      last = λ y. last-more keys last x y are.last_rows;
      waiting = λ y. waiting-more keys waiting.lists wider.lists x y are.waiting_rows wide.here;
      cells = wide.items;
      row_room = room-more (2 ^ 32 - length keys) (2 ^ 32 - length (keys ++ x ∷ [])) room room_more waiting.list_room wider.list_room (omega (arith, len)) le wide.list_room;
      cell_room = wide.item_room;
    })

-- eight cells more
pub cells-added : (objects : List ℕ) (last : List (Option ℕ)) (old new : Lists) (room : ℕ) → AreAdded 8 old new → AreCellsAdded (rows_of objects last old room) (rows_of objects last new room)
cells-added objects last old new room is = record {
  last = λ x. refl;
  waiting = λ x. is.here (place_in x objects);
  cells = is.items;
  row_room = ap (λ (n : ℕ). min (2 ^ 32 - length objects) (min room n)) is.list_room;
  cell_room = is.item_room;
}
