-- Arcs that come one after the other, and cells that wait.
use Rattle.std.proofs.Common.{◌≡◌, ◌∙◌, ap, sym, subst, ℕ, zero, suc, ◌+◌, ◌*◌, ◌/◌, ◌<◌, ◌≤◌, ◌⊎◌, Bool, List, [], ◌∷◌, ◌++◌, append_assoc, take, length, length-take-le, Option, Some, None, IsSome, is_some, refl, true≢false, arith, inl, inr}
use Rattle.std.specs.Prelude.{IsTrue, IsFalse, ◌==◌, slice_get}
use Rattle.std.specs.Option.{unwrap_or}
use Rattle.std.proofs.lemmas.Bool.{cases_Bool, cases_eq, both_ways, or_left, or_right, or_cases, eqb-true, eq-eqb, cond-true, cond-false}
use Rattle.std.proofs.lemmas.List.Folds.{list_any-append}
use Rattle.oper_core.specs.State.{is_among}
use Rattle.install_order.specs.declared.entry.Entry.{Entry}
use Rattle.graph_nodes.specs.Arcs.{arc_at, held_at}
use Rattle.graph_nodes.specs.Named.{Graph}
use Rattle.write_graph.specs.Cells.{writes_of, write_cell}
use Rattle.write_graph.specs.Rows.{Rows, its_slot, last_of, waiting_of, if_held, AreSameLast, IsTaken, IsLastSet}
use Rattle.write_graph.specs.Steps.{IsGrown, AreLed, IsOverwritten, IsWriterLed, AreWritersLed, IsReaderLed, WaitsFor, OthersStay, IsAnswered, version_of, IsReader, IsCellFor, IsLastCell, AreAnswered, IsCellOf}
use Rattle.write_graph.proofs.Place.{place-among}
use Rattle.write_graph.proofs.Loops.{among-none, among-taken, among-before, among-next, none-some, some-is}

pub some-value : (o : Option ℕ) → IsSome o → (v : ℕ) × (o ≡ Some v)
some-value None s = absurd (true≢false (sym s))
some-value (Some v) s = (v, refl)

pub is-some : (o : Option ℕ) (v : ℕ) → o ≡ Some v → IsSome o
is-some o v e = ap is_some e

pub grown-then : (a b c : Graph) → IsGrown a b → IsGrown b c → IsGrown a c
grown-then a b c ab bc = record {
  arcs = λ k p e. bc.arcs k p (ab.arcs k p e);
  cells = bc.cells ∙ ab.cells;
  slots = bc.slots ∙ ab.slots;
  held = bc.held ∙ ab.held;
  room = omega (arith, ab.room, bc.room);
}

pub led-then : (P Q R : ℕ → ℕ → Type 0) (old mid new : Graph) → AreLed P old mid → AreLed Q mid new → ((c p : ℕ) → R c p → P c p ⊎ Q c p) → ((c p : ℕ) → P c p → R c p) → ((c p : ℕ) → Q c p → R c p) → AreLed R old new
led-then P Q R old mid new first then split from_p from_q = record {
  grown = grown-then old mid new first.grown then.grown;
  here = λ c p is. elim (split c p is) [
    | inl at_p ↦
        let v = some-value (arc_at mid.arcs c) (first.here c p at_p) in
        is-some (arc_at new.arcs c) v.0 (then.grown.arcs c v.0 v.1)
    | inr at_q ↦ then.here c p at_q
  ];
  only = λ c p e. elim (then.only c p e) [
    | inr at_q ↦ inr (from_q c p at_q)
    | inl yet ↦ elim (first.only c p yet) [ inl old ↦ inl old | inr at_p ↦ inr (from_p c p at_p) ]
  ];
}

-- a slot that is held
pub held-some : (held : List Bool) (o : Option ℕ) (w : ℕ) → if_held held o ≡ Some w → (o ≡ Some w) × IsTrue (held_at held w)
held-some held None w e = absurd (none-some w e)
held-some held (Some v) w e = elim (cases_Bool (held_at held v)) [
  | inl yes_v ↦
      let same : v ≡ w = some-is v w (sym (cond-true (held_at held v) (Some v) None yes_v) ∙ e) in
      (ap (λ (k : ℕ). Some k) same, subst (λ (k : ℕ). IsTrue (held_at held k)) same yes_v)
  | inr off ↦ absurd (none-some w (sym (cond-false (held_at held v) (Some v) None off) ∙ e))
]

pub write-slot : (entries : List Entry) (w x : ℕ) → IsTrue (is_among x (writes_of entries w)) → length (writes_of entries w) ≤ 4 → write_cell entries w x / 8 ≡ w
write-slot entries w x there few = omega (arith, few, place-among x (writes_of entries w) there)

-- one object more
pub writers-on : (rows : Rows) (objects : List ℕ) (slot i x : ℕ) (old mid new : Graph) → AreWritersLed rows (take i objects) slot old mid → slice_get objects i ≡ Some x → IsWriterLed rows x slot mid new →
    AreWritersLed rows (take (i + 1) objects) slot old new
writers-on rows objects slot i x old mid new was at led =
    let P : ℕ → ℕ → ℕ → Type 0 = λ n c p. ((y : ℕ) × IsTrue (is_among y (take n objects)) × IsOverwritten old.held rows y c) × (p ≡ slot) in
    let Q : ℕ → ℕ → Type 0 = λ c p. IsOverwritten mid.held rows x c × (p ≡ slot) in
    led-then (P i) Q (P (i + 1)) old mid new was led
    (λ c p r. elim (among-taken r.0.0 x i objects at r.0.1) [
      | inl yet ↦ inl ((r.0.0, yet, r.0.2), r.1)
      | inr same ↦ inr (subst (λ (held : List Bool). IsOverwritten held rows x c) (sym was.grown.held) (subst (λ (y : ℕ). IsOverwritten old.held rows y c) same r.0.2), r.1)
    ])
    (λ c p r. ((r.0.0, among-before r.0.0 i objects r.0.1, r.0.2), r.1))
    (λ c p r. ((x, among-next x i objects at, subst (λ (held : List Bool). IsOverwritten held rows x c) was.grown.held r.0), r.1))

-- the first i of the slot's cells wait
pub record AreWaitingTo (objects : List ℕ) (slot i : ℕ) (old new : Rows) : Type 0 where
  pub there : (x c : ℕ) → IsTrue (is_among c (waiting_of old x)) ⊎ ((k : ℕ) × (k < i) × (c ≡ 8 * slot + k) × (slice_get objects k ≡ Some x)) → IsTrue (is_among c (waiting_of new x))
  pub only : (x c : ℕ) → IsTrue (is_among c (waiting_of new x)) → IsTrue (is_among c (waiting_of old x)) ⊎ ((k : ℕ) × (k < i) × (c ≡ 8 * slot + k) × (slice_get objects k ≡ Some x))
  pub last : AreSameLast old new
  pub cells : new.cells ≡ old.cells
  pub row_room : old.row_room ≤ new.row_room + i
  pub cell_room : new.cell_room ≡ old.cell_room

get-below : (xs : List ℕ) (k x : ℕ) → slice_get xs k ≡ Some x → k < length xs
get-below [] k x e = absurd (none-some x e)
get-below (y ∷ xs) zero x e = omega arith
get-below (y ∷ xs) (suc k) x e = omega (arith, get-below xs k x e)

-- the slot of such a cell
pub cell-of-slot : (objects : List ℕ) (slot x c : ℕ) → length objects ≤ 8 → IsCellOf objects slot x c → c / 8 ≡ slot
cell-of-slot objects slot x c few is = omega (arith, is.1, get-below objects is.0 x is.2, few)

-- while the cells are taken that wait for x: those taken are led
pub record IsAnswering (x to : ℕ) (old : Graph) (old_rows : Rows) (new : Graph) (rows : Rows) : Type 0 where
  pub done : List ℕ
  pub split : waiting_of old_rows x ≡ done ++ waiting_of rows x
  pub led : AreLed (λ c p. IsTrue (is_among c done) × IsTrue (held_at old.held (c / 8)) × (c / 8 ≡ to → ⊥) × (p ≡ to)) old new
  pub others : OthersStay old_rows x rows

among-last : (c d : ℕ) (xs : List ℕ) → IsTrue (is_among c (xs ++ d ∷ [])) → IsTrue (is_among c xs) ⊎ (c ≡ d)
among-last c d xs t = elim (or_cases (is_among c xs) (is_among c (d ∷ [])) (sym (list_any-append (λ y. c == y) xs (d ∷ [])) ∙ t)) [
  | inl yet ↦ inl yet
  | inr new ↦ elim (or_cases (c == d) (is_among c []) new) [ inl e ↦ inr (eqb-true c d e) | inr r ↦ absurd (among-none c r) ]
]

among-left : (c : ℕ) (xs ys : List ℕ) → IsTrue (is_among c xs) → IsTrue (is_among c (xs ++ ys))
among-left c xs ys t = list_any-append (λ y. c == y) xs ys ∙ or_left (is_among c xs) (is_among c ys) t

among-right : (c : ℕ) (xs ys : List ℕ) → IsTrue (is_among c ys) → IsTrue (is_among c (xs ++ ys))
among-right c xs ys t = list_any-append (λ y. c == y) xs ys ∙ or_right (is_among c xs) (is_among c ys) t

pub answering-on : (x to cell : ℕ) (old mid new : Graph) (old_rows mid_rows rows : Rows) → IsAnswering x to old old_rows mid mid_rows → IsTaken mid_rows x cell rows → IsReaderLed mid cell to new → IsAnswering x to old old_rows new rows
answering-on x to cell old mid new old_rows mid_rows rows was taken led =
    let P : List ℕ → ℕ → ℕ → Type 0 = λ done c p. IsTrue (is_among c done) × IsTrue (held_at old.held (c / 8)) × (c / 8 ≡ to → ⊥) × (p ≡ to) in
    let Q : ℕ → ℕ → Type 0 = λ c p. (c ≡ cell) × IsTrue (held_at mid.held (cell / 8)) × (cell / 8 ≡ to → ⊥) × (p ≡ to) in
    let more = was.done ++ cell ∷ [] in
    record {
      done = more;
      split = was.split ∙ ap (λ (xs : List ℕ). was.done ++ xs) taken.here ∙ sym (append_assoc was.done (cell ∷ []) (waiting_of rows x));
      led = led-then (P was.done) Q (P more) old mid new was.led led
          (λ c p r. elim (among-last c cell was.done r.0) [
            | inl yet ↦ inl (yet, r.1, r.2, r.3)
            | inr same ↦ inr (same, subst (λ (held : List Bool). IsTrue (held_at held (cell / 8))) (sym was.led.grown.held) (subst (λ (k : ℕ). IsTrue (held_at old.held (k / 8))) same r.1), subst (λ (k : ℕ). k / 8 ≡ to → ⊥) same r.2, r.3)
          ])
          (λ c p r. (among-left c was.done (cell ∷ []) r.0, r.1, r.2, r.3))
          (λ c p r. (
            among-right c was.done (cell ∷ []) (or_left (c == cell) (is_among c []) (eq-eqb c cell r.0)),
            subst (λ (k : ℕ). IsTrue (held_at old.held (k / 8))) (sym r.0) (subst (λ (held : List Bool). IsTrue (held_at held (cell / 8))) was.led.grown.held r.1),
            subst (λ (k : ℕ). k / 8 ≡ to → ⊥) (sym r.0) r.2,
            r.3,
          ));
      others = record {
        waiting = λ y ne. taken.others y ne ∙ was.others.waiting y ne;
        last = λ y. taken.last y ∙ was.others.last y;
        cells = taken.cells ∙ was.others.cells;
        row_room = taken.row_room ∙ was.others.row_room;
        cell_room = taken.cell_room ∙ was.others.cell_room;
      };
    }

pub answered-below : (all objects : List ℕ) (slot n : ℕ) (old new : Graph) (old_rows rows : Rows) → AreAnswered all objects slot old old_rows new rows → slot < n → ((y w : ℕ) → last_of old_rows y ≡ Some w → w < n) → (y w : ℕ) → last_of rows y ≡ Some w → w < n
answered-below all objects slot n old new old_rows rows is lt below y w e = elim (cases_Bool (is_among y objects)) [
  | inl there ↦ let c = (is.written y there).1 in omega (arith, some-is (c.cell / 8) w (ap its_slot (sym c.last) ∙ e), c.own.1, lt)
  | inr off ↦ below y w (ap its_slot (sym (is.others y (both_ways _ off)).1) ∙ e)
]

-- one object more
pub answered-on : (all objects : List ℕ) (slot i x v cell : ℕ) (old mid new : Graph) (old_rows mid_rows answered rows : Rows) → i < length objects → AreAnswered all (take i objects) slot old old_rows mid mid_rows → slice_get objects i ≡ Some x → v ≡ version_of mid.held mid_rows slot x →
    IsAnswered x v mid mid_rows new answered → IsCellFor all slot x cell → IsLastSet answered x cell rows → AreAnswered all (take (i + 1) objects) slot old old_rows new rows
answered-on all objects slot i x v cell old mid new old_rows mid_rows answered rows lt was at ver is own set =
    let P : ℕ → ℕ → ℕ → Type 0 = λ n c p. IsReader old.held old_rows (take n objects) slot c p in
    let Q : ℕ → ℕ → Type 0 = λ c p. WaitsFor mid.held mid_rows x v c × (p ≡ v) in
    -- what x's row reported before, where x comes for the first time
    let same : IsFalse (is_among x (take i objects)) → v ≡ version_of old.held old_rows slot x = λ off.
    ver ∙ ap (λ (o : Option ℕ). unwrap_or (if_held mid.held (its_slot o)) slot) (was.others x (both_ways _ off)).1 ∙ ap (λ (held : List Bool). version_of held old_rows slot x) was.led.grown.held in
    let first : (c : ℕ) → IsFalse (is_among x (take i objects)) → WaitsFor mid.held mid_rows x v c → WaitsFor old.held old_rows x (version_of old.held old_rows slot x) c = λ c off w. (
      subst (λ (xs : List ℕ). IsTrue (is_among c xs)) (was.others x (both_ways _ off)).0 w.0,
      subst (λ (held : List Bool). IsTrue (held_at held (c / 8))) was.led.grown.held w.1,
      subst (λ (k : ℕ). c / 8 ≡ k → ⊥) (same off) w.2,
    ) in
    let back : (c : ℕ) → IsFalse (is_among x (take i objects)) → WaitsFor old.held old_rows x (version_of old.held old_rows slot x) c → WaitsFor mid.held mid_rows x v c = λ c off w. (
      subst (λ (xs : List ℕ). IsTrue (is_among c xs)) (sym (was.others x (both_ways _ off)).0) w.0,
      subst (λ (held : List Bool). IsTrue (held_at held (c / 8))) (sym was.led.grown.held) w.1,
      subst (λ (k : ℕ). c / 8 ≡ k → ⊥) (sym (same off)) w.2,
    ) in
    let here : (waiting_of rows x ≡ []) × IsLastCell all slot x rows = (set.waiting x ∙ is.empty, record { cell = cell; last = set.here; own = own }) in
    record {
      led = led-then (P i) Q (P (i + 1)) old mid new was.led is.led
          (λ c p r. elim (among-taken r.0 x i objects at r.1) [
            | inl yet ↦ inl (r.0, yet, r.2, r.3)
            | inr e ↦ elim (cases_Bool (is_among x (take i objects))) [
              | inl there ↦ inl (r.0, subst (λ (y : ℕ). IsTrue (is_among y (take i objects))) (sym e) there, r.2, r.3)
              | inr off ↦ inr (
                back c off (subst (λ (y : ℕ). WaitsFor old.held old_rows y (version_of old.held old_rows slot y) c) e r.2),
                r.3 ∙ ap (λ (y : ℕ). version_of old.held old_rows slot y) e ∙ sym (same off),
              )
            ]
          ])
          (λ c p r. (r.0, among-before r.0 i objects r.1, r.2, r.3))
          (λ c p r. elim (cases_Bool (is_among x (take i objects))) [
            | inl there ↦ absurd (among-none c (subst (λ (xs : List ℕ). IsTrue (is_among c xs)) (was.written x there).0 r.0.0))
            | inr off ↦ (x, among-next x i objects at, first c off r.0, r.1 ∙ same off)
          ]);
      written = λ y t. elim (cases_eq y x) [
        | inl e ↦ subst (λ (z : ℕ). (waiting_of rows z ≡ []) × IsLastCell all slot z rows) (sym e) here
        | inr ne ↦ elim (among-taken y x i objects at t) [
          | inr e ↦ absurd (ne e)
          | inl yet ↦ let w = was.written y yet in (set.waiting y ∙ is.others.waiting y ne ∙ w.0, record { cell = w.1.cell; last = set.others y ne ∙ is.others.last y ∙ w.1.last; own = w.1.own })
        ]
      ];
      others = λ y out.
          let ne : y ≡ x → ⊥ = λ e. out (subst (λ (z : ℕ). IsTrue (is_among z (take (i + 1) objects))) (sym e) (among-next x i objects at)) in
          let o = was.others y (λ t. out (among-before y i objects t)) in
          (set.waiting y ∙ is.others.waiting y ne ∙ o.0, set.others y ne ∙ is.others.last y ∙ o.1);
      cells = set.cells ∙ is.others.cells ∙ was.cells;
      row_room = omega (arith, was.row_room, is.others.row_room, set.row_room, length-take-le i objects (omega (arith, lt)), length-take-le (i + 1) objects (omega (arith, lt)));
      cell_room = set.cell_room ∙ is.others.cell_room ∙ was.cell_room;
    }
