-- The first writers of the objects.
use Rattle.std.proofs.Common.{◌≡◌, ◌∙◌, ap, sym, subst, ℕ, zero, suc, ◌+◌, ◌-◌, ◌/◌, ◌<◌, ◌≤◌, Bool, true, false, List, [], ◌∷◌, ◌++◌, map, take, length, get_or, Option, Some, None, is_some, IsSome, All, nat_eq, refl, true≢false, arith, inl, inr}
use Rattle.std.specs.Prelude.{IsTrue, IsFalse, ◌==◌, ◌||◌, ◌↔◌, slice_get, slice_index, MatchOption, if◌then◌else◌}
use Rattle.std.specs.List.{IsDistinct}
use Rattle.std.specs.List.Sorted.{IsPermutation, IsSorted}
use Rattle.std.specs.Map.{keys_of, lookup}
use Rattle.std.specs.Option.{unwrap_or}
use Rattle.std.specs.Ordering.{nat_cmp}
use Rattle.std.proofs.lemmas.Bool.{cases_Bool, cases_eq, cases_lt, both_ways, and_parts, and_from, or_left, or_cases, eqb-true, eq-eqb, cond-true, cond-false, false_from_ne_true}
use Rattle.std.proofs.lemmas.List.{map-append, take_more}
use Rattle.std.proofs.lemmas.List.Elements.{All-push}
use Rattle.std.proofs.lemmas.List.Folds.{list_any-append}
use Rattle.std.proofs.lemmas.List.Sorted.{list_any-IsPermutation, IsNonDecreasingBy-from_sort}
use Rattle.std.proofs.lemmas.Map.Keys.{IsDistinct-IsPermutation, IsStrictlyIncreasing-from_distinct}
use Rattle.oper_core.specs.State.{is_among}
use Rattle.install_order.specs.declared.entry.Entry.{Entry}
use Rattle.install_order.specs.Order.{Access}
use Rattle.install_order.specs.Entries.{accesses}
use Rattle.install_order.specs.Arcs.{IsWriterAfter, NoneBetween}
use Rattle.install_order.specs.More.{IsAdded, NoWriter}
use Rattle.graph_nodes.specs.Arcs.{arc_at, node_at, held_at}
use Rattle.graph_nodes.specs.Named.{Graph as Slots}
use Rattle.graph_nodes.specs.Removed.{IsRemoved}
use Rattle.write_graph.specs.Graph.{lsns, IsLeast, Lists}
use Rattle.write_graph.specs.Cells.{writes_of, slot_access, held_entries, write_cell, WriteLeads}
use Rattle.write_graph.specs.Rows.{Rows}
use Rattle.write_graph.specs.Linked.{AreLinked}
use Rattle.write_graph.specs.Listing.{IsWrittenBy}
use Rattle.write_graph.specs.Objects.{IsWriter, IsWritten}
use Rattle.write_graph.specs.Firsts.{IsFirstWriter, AreFirsts, IsNextWriter, noted, IsPassed, ArePassed, IsOutside}
use Rattle.write_graph.specs.Naming.{AreClimbing}
use Rattle.write_graph.proofs.Held.{length-lsns}
use Rattle.write_graph.proofs.Loops.{among-none, among-taken, none-some, some-is}
use Rattle.write_graph.proofs.Led.{some-value, write-slot}
use Rattle.write_graph.proofs.Adding.{write-cell-is, not-both, added, writes-new}
use Rattle.write_graph.proofs.Numbers.{renamed, held-below}
use Rattle.write_graph.proofs.Counted.{same-test}

-- look-ups that answer the same
firsts-same : (a : Access) (old new : ℕ → Option ℕ) → ((x : ℕ) → new x ≡ old x) → AreFirsts a old → AreFirsts a new
firsts-same a old new same are x = subst (λ (o : Option ℕ). MatchOption o (NoWriter a x) (λ n. IsFirstWriter a x n)) (sym (same x)) (are x)

some-or : (o : Option ℕ) → (o ≡ None → ⊥) → IsSome o
some-or None off = absurd (off refl)
some-or (Some v) off = refl

-- n comes after all others
module _ (a b : Access) (n : ℕ) (objects : List ℕ) (is : IsAdded a b n) (own : (x : ℕ) → b.writes n x ≡ is_among x objects) where
  first-kept : (x w : ℕ) → IsFirstWriter a x w → IsFirstWriter b x w
  first-kept x w first =
      let low : w < n = elim (cases_lt w n) [ inl lt ↦ lt | inr ge ↦ absurd (both_ways _ (is.no_writes w x ge) first.0) ] in
      (is.same_writes w x low ∙ first.0, (λ q lt. is.same_writes q x (omega (arith, lt, low)) ∙ first.1 q lt))

  none-kept : (x : ℕ) → IsFalse (is_among x objects) → NoWriter a x → NoWriter b x
  none-kept x off none q = elim (cases_eq q n) [
    | inl e ↦ subst (λ (k : ℕ). IsFalse (b.writes k x)) (sym e) (own x ∙ off)
    | inr ne ↦ elim (cases_lt q n) [
      | inl lt ↦ is.same_writes q x lt ∙ none q
      | inr ge ↦ is.last_writes q x (omega (arith, ge, ne))
    ]
  ]

  first-at : (x : ℕ) (o : Option ℕ) → MatchOption o (NoWriter a x) (λ w. IsFirstWriter a x w) → MatchOption (if is_among x objects then Some (unwrap_or o n) else o) (NoWriter b x) (λ w. IsFirstWriter b x w)
  first-at x None none =
      let P : Option ℕ → Type 0 = λ o. MatchOption o (NoWriter b x) (λ w. IsFirstWriter b x w) in
      elim (cases_Bool (is_among x objects)) [
        | inl there ↦ subst P (sym (cond-true (is_among x objects) (Some n) None there)) (own x ∙ there, (λ q lt. is.same_writes q x lt ∙ none q))
        | inr off ↦ subst P (sym (cond-false (is_among x objects) (Some n) None off)) (none-kept x off none)
      ]
  first-at x (Some w) first =
      let P : Option ℕ → Type 0 = λ o. MatchOption o (NoWriter b x) (λ w. IsFirstWriter b x w) in
      elim (cases_Bool (is_among x objects)) [
        | inl there ↦ subst P (sym (cond-true (is_among x objects) (Some w) (Some w) there)) (first-kept x w first)
        | inr off ↦ subst P (sym (cond-false (is_among x objects) (Some w) (Some w) off)) (first-kept x w first)
      ]

  -- its objects have it as their first writer where they had none
  firsts-more : (firsts : ℕ → Option ℕ) → AreFirsts a firsts → AreFirsts b (noted objects n firsts)
  firsts-more firsts are x = first-at x (firsts x) (are x)

-- an entry comes after all others
pub firsts-added : (held more : List Bool) (entries : List Entry) (e : Entry) (slot : ℕ) (objects : List ℕ) (old new : ℕ → Option ℕ) → length held ≡ length entries → more ≡ held ++ true ∷ [] → objects ≡ e.writes → slot ≡ length entries →
    ((x : ℕ) → new x ≡ noted objects slot old x) → AreFirsts (slot_access entries held) old → AreFirsts (slot_access (entries ++ e ∷ []) more) new
firsts-added held more entries e slot objects old new size is writes end set are =
    let a = slot_access entries held in
    let b = slot_access (entries ++ e ∷ []) (held ++ true ∷ []) in
    subst (λ (hs : List Bool). AreFirsts (slot_access (entries ++ e ∷ []) hs) new) (sym is) (
    firsts-same b (noted e.writes (length entries) old) new (λ x. set x ∙ ap (λ (xs : List ℕ). noted xs slot old x) writes ∙ ap (λ (k : ℕ). noted e.writes k old x) end) (
    firsts-more a b (length entries) e.writes (added entries e held size) (writes-new entries e held size) old are))

noted-either : (p q r : Bool) (slot : ℕ) (o : Option ℕ) → r ≡ (p || q) → (if q then Some (unwrap_or (if p then Some (unwrap_or o slot) else o) slot) else (if p then Some (unwrap_or o slot) else o)) ≡ (if r then Some (unwrap_or o slot) else o)
noted-either p q r slot o e = noted-both p q slot o ∙ ap (λ (b : Bool). if b then Some (unwrap_or o slot) else o) (sym e)
  where
    noted-both : (p q : Bool) (slot : ℕ) (o : Option ℕ) → (if q then Some (unwrap_or (if p then Some (unwrap_or o slot) else o) slot) else (if p then Some (unwrap_or o slot) else o)) ≡ (if p || q then Some (unwrap_or o slot) else o)
    noted-both true true slot o = refl
    noted-both true false slot o = refl
    noted-both false true slot o = refl
    noted-both false false slot o = refl

-- one object more is noted
pub noted-next : (objects : List ℕ) (slot i y : ℕ) (old mid new : ℕ → Option ℕ) → i < length objects → mid y ≡ noted (take i objects) slot old y → new y ≡ noted (get_or objects i zero ∷ []) slot mid y → new y ≡ noted (take (i + 1) objects) slot old y
noted-next objects slot i y old mid new lt was is =
    let x = get_or objects i zero in
    let e : is_among y (take (i + 1) objects) ≡ (is_among y (take i objects) || is_among y (x ∷ [])) = ap (is_among y) (take_more objects i zero lt) ∙ list_any-append (λ z. y == z) (take i objects) (x ∷ []) in
    is ∙ ap (λ (o : Option ℕ). if is_among y (x ∷ []) then Some (unwrap_or o slot) else o) was ∙ noted-either (is_among y (take i objects)) (is_among y (x ∷ [])) (is_among y (take (i + 1) objects)) slot (old y) e

pub only-one : (x y : ℕ) → IsTrue (is_among y (x ∷ [])) → y ≡ x
only-one x y t = elim (or_cases (y == x) (is_among y []) t) [ inl e ↦ eqb-true y x e | inr r ↦ absurd (among-none y r) ]

none-is : (o : Option ℕ) → is_some o ≡ false → o ≡ None
none-is None e = refl
none-is (Some v) e = absurd (true≢false e)

-- the object has a first writer
pub noted-there : (x slot : ℕ) (firsts : ℕ → Option ℕ) (y : ℕ) → IsSome (firsts x) → firsts y ≡ noted (x ∷ []) slot firsts y
noted-there x slot firsts y there = elim (cases_Bool (is_among y (x ∷ []))) [
  | inl t ↦
      let v = some-value (firsts y) (subst (λ (k : ℕ). IsSome (firsts k)) (sym (only-one x y t)) there) in
      v.1 ∙ sym (ap (λ (o : Option ℕ). Some (unwrap_or o slot)) v.1) ∙ sym (cond-true (is_among y (x ∷ [])) (Some (unwrap_or (firsts y) slot)) (firsts y) t)
  | inr off ↦ sym (cond-false (is_among y (x ∷ [])) (Some (unwrap_or (firsts y) slot)) (firsts y) off)
]

-- the object has none, and gets the slot
pub noted-new : (x slot : ℕ) (old new : ℕ → Option ℕ) (y : ℕ) → is_some (old x) ≡ false → new y ≡ (if nat_eq x y then Some slot else old y) → new y ≡ noted (x ∷ []) slot old y
noted-new x slot old new y none is = elim (cases_Bool (is_among y (x ∷ []))) [
  | inl t ↦
      let e = only-one x y t in
      let off : old y ≡ None = none-is (old y) (ap (λ (k : ℕ). is_some (old k)) e ∙ none) in
      is ∙ cond-true (nat_eq x y) (Some slot) (old y) (eq-eqb x y (sym e)) ∙ sym (ap (λ (o : Option ℕ). Some (unwrap_or o slot)) off) ∙ sym (cond-true (is_among y (x ∷ [])) (Some (unwrap_or (old y) slot)) (old y) t)
  | inr off ↦
      let ne : IsFalse (nat_eq x y) = false_from_ne_true _ (λ t. both_ways _ off (or_left (y == x) (is_among y []) (eq-eqb y x (sym (eqb-true x y t))))) in
      is ∙ cond-false (nat_eq x y) (Some slot) (old y) ne ∙ sym (cond-false (is_among y (x ∷ [])) (Some (unwrap_or (old y) slot)) (old y) off)
]

-- nobody after n writes x, where nobody is the next
none-after : (a : Access) (x n m : ℕ) → ((p : ℕ) → IsWriterAfter a x n p → ⊥) → NoneBetween a x n m
none-after a x n zero none q low high = absurd (omega (arith, high))
none-after a x n (suc m) none q low high = elim (cases_eq q m) [
  | inl e ↦ false_from_ne_true _ (λ w. none q (low, w, (λ r l h. none-after a x n m none r l (omega (arith, h, e)))))
  | inr ne ↦ none-after a x n m none q low (omega (arith, high, ne))
]

-- the first cell of a write tells the next one
pub next-at : (entries : List Entry) (g : Slots) (rows : Rows) (x slot : ℕ) (o : Option ℕ) → AreLinked entries g rows → IsTrue ((slot_access entries g.held).writes slot x) → arc_at g.arcs (write_cell entries slot x) ≡ o → IsNextWriter (slot_access entries g.held) x slot o
next-at entries g rows x slot None linked w is = λ q low. none-after (slot_access entries g.held) x slot (suc q) (λ p after. none-some p (sym is ∙ linked.arcs.next x slot p (w, after))) q low (omega arith)
next-at entries g rows x slot (Some p) linked w is =
    let a = slot_access entries g.held in
    let there = (and_parts (held_at g.held slot) (is_among x (writes_of entries slot)) w).1 in
    let c = write_cell entries slot x in
    let few = (linked.few slot).1 in
    let cell = write-cell-is entries slot x there few in
    let leads = linked.arcs.only c p is in
    elim leads.1 [
      | inl r ↦ absurd (not-both entries c leads.0 x (linked.few (c / 8)).0 r.0 cell)
      | inr v ↦
          let same : leads.0 ≡ x = some-is leads.0 x (sym v.0.1 ∙ cell.1) in
          (subst (λ (k : ℕ). WriteLeads a x k p) (write-slot entries slot x there few) (subst (λ (y : ℕ). WriteLeads a y (c / 8) p) same v.1)).1
    ]

passed-at : (entries : List Entry) (g : Slots) (m x : ℕ) (o : Option ℕ) → MatchOption o (NoWriter (slot_access entries g.held) x) (λ n. IsFirstWriter (slot_access entries g.held) x n) → IsPassed entries g m x o
passed-at entries g m x None none = λ q w. absurd (both_ways _ (none q) w)
passed-at entries g m x (Some n) first = (first.0, (λ q lt w. absurd (both_ways _ (first.1 q lt) w)))

-- before any slot is passed
pub passed-none : (entries : List Entry) (g : Slots) (m : ℕ) (firsts : ℕ → Option ℕ) → AreFirsts (slot_access entries g.held) firsts → ArePassed entries g m firsts
passed-none entries g m firsts are x = passed-at entries g m x (firsts x) (are x)

-- what the look-up of an object answers
pub passed-some : (entries : List Entry) (g : Slots) (m x i : ℕ) (firsts : ℕ → Option ℕ) → ArePassed entries g m firsts → firsts x ≡ Some i → IsPassed entries g m x (Some i)
passed-some entries g m x i firsts passed at = subst (IsPassed entries g m x) at (passed x)

pub passed-below : (entries : List Entry) (g : Slots) (rows : Rows) (m x i : ℕ) (firsts : ℕ → Option ℕ) → AreLinked entries g rows → ArePassed entries g m firsts → firsts x ≡ Some i → i < length entries
passed-below entries g rows m x i firsts linked passed at = held-below entries g.held i linked.held (and_parts (held_at g.held i) (is_among x (writes_of entries i)) (passed-some entries g m x i firsts passed at).0).0

-- up to i all that write x are of the node
up-to : (entries : List Entry) (g : Slots) (m x i q : ℕ) → IsPassed entries g m x (Some i) → node_at g.node i ≡ m → q ≤ i → IsTrue ((slot_access entries g.held).writes q x) → node_at g.node q ≡ m
up-to entries g m x i q passed at le w = elim (cases_eq q i) [
  | inl e ↦ ap (node_at g.node) e ∙ at
  | inr ne ↦ passed.1 q (omega (arith, le, ne)) w
]

next-passed : (entries : List Entry) (g : Slots) (m x i : ℕ) (o : Option ℕ) → IsPassed entries g m x (Some i) → node_at g.node i ≡ m → IsNextWriter (slot_access entries g.held) x i o → IsPassed entries g m x o
next-passed entries g m x i None passed at none = λ q w. elim (cases_lt i q) [
  | inl past ↦ absurd (both_ways _ (none q past) w)
  | inr le ↦ up-to entries g m x i q passed at le w
]
next-passed entries g m x i (Some p) passed at after = (
  after.1,
  (λ q lt w. elim (cases_lt i q) [
    | inl past ↦ absurd (both_ways _ (after.2 q past lt) w)
    | inr le ↦ up-to entries g m x i q passed at le w
  ]),
)

-- slots of the node are passed, and the other objects have the first writers that they had
pub record ArePassing (entries : List Entry) (g : Slots) (m x : ℕ) (old new : ℕ → Option ℕ) : Type 0 where
  pub passed : ArePassed entries g m new
  pub others : (y : ℕ) → (y ≡ x → ⊥) → new y ≡ old y

-- the next writer comes in the place of one that is of the node
pub passing-on : (entries : List Entry) (g : Slots) (m x i : ℕ) (next : Option ℕ) (old mid new : ℕ → Option ℕ) → ArePassing entries g m x old mid → mid x ≡ Some i → node_at g.node i ≡ m → IsNextWriter (slot_access entries g.held) x i next →
    ((y : ℕ) → new y ≡ (if nat_eq x y then next else mid y)) → ArePassing entries g m x old new
passing-on entries g m x i next old mid new was at within is set =
    let here : new x ≡ next = set x ∙ cond-true (nat_eq x x) next (mid x) (eq-eqb x x refl) in
    let off : (y : ℕ) → (y ≡ x → ⊥) → new y ≡ mid y = λ y ne. set y ∙ cond-false (nat_eq x y) next (mid y) (false_from_ne_true _ (λ t. ne (sym (eqb-true x y t)))) in
    record {
      passed = λ y. elim (cases_eq y x) [
        | inl e ↦ subst (λ (k : ℕ). IsPassed entries g m k (new k)) (sym e) (subst (IsPassed entries g m x) (sym here) (next-passed entries g m x i next (passed-some entries g m x i mid was.passed at) within is))
        | inr ne ↦ subst (IsPassed entries g m y) (sym (off y ne)) (was.passed y)
      ];
      others = λ y ne. off y ne ∙ was.others y ne;
    }

-- how many slots there are from the first writer on
abbrev pub left_from : ℕ → Option ℕ → ℕ
left_from end None = zero
left_from end (Some i) = end - i

fewer-left : (a : Access) (x i end : ℕ) (next : Option ℕ) → i < end → IsNextWriter a x i next → left_from end next < end - i
fewer-left a x i end None lt is = omega (arith, lt)
fewer-left a x i end (Some p) lt is = omega (arith, lt, is.0)

pub passing-smaller : (entries : List Entry) (g : Slots) (x i end : ℕ) (next : Option ℕ) (mid new : ℕ → Option ℕ) → i < end → mid x ≡ Some i → IsNextWriter (slot_access entries g.held) x i next → ((y : ℕ) → new y ≡ (if nat_eq x y then next else mid y)) → left_from end (new x) < left_from end (mid x)
passing-smaller entries g x i end next mid new lt at is set =
    let here : new x ≡ next = set x ∙ cond-true (nat_eq x x) next (mid x) (eq-eqb x x refl) in
    subst (λ (o : Option ℕ). left_from end (new x) < left_from end o) (sym at) (subst (λ (o : Option ℕ). left_from end o < end - i) (sym here) (fewer-left (slot_access entries g.held) x i end next lt is))

-- what is outside stays outside
pub outside-stays : (g : Slots) (m x : ℕ) (old new : ℕ → Option ℕ) → IsOutside g m (new x) → ((y : ℕ) → (y ≡ x → ⊥) → new y ≡ old y) → (y : ℕ) → IsOutside g m (old y) → IsOutside g m (new y)
outside-stays g m x old new here others y was = elim (cases_eq y x) [
  | inl e ↦ subst (λ (k : ℕ). IsOutside g m (new k)) (sym e) here
  | inr ne ↦ subst (IsOutside g m) (sym (others y ne)) was
]

-- one object more
pub outside-next : (g : Slots) (m i x : ℕ) (objects : List ℕ) (old new : ℕ → Option ℕ) → slice_get objects i ≡ Some x → ((y : ℕ) → IsTrue (is_among y (take i objects)) → IsOutside g m (old y)) → IsOutside g m (new x) →
    ((y : ℕ) → IsOutside g m (old y) → IsOutside g m (new y)) → (y : ℕ) → IsTrue (is_among y (take (i + 1) objects)) → IsOutside g m (new y)
outside-next g m i x objects old new at was here stays y there = elim (among-taken y x i objects at there) [
  | inl yet ↦ stays y (was y yet)
  | inr e ↦ subst (λ (k : ℕ). IsOutside g m (new k)) (sym e) here
]

-- one slot more
pub outside-slot : (entries : List Entry) (g : Slots) (m i slot : ℕ) (slots : List ℕ) (old new : ℕ → Option ℕ) → slice_get slots i ≡ Some slot → ((x : ℕ) → IsWrittenBy entries (take i slots) x → IsOutside g m (old x)) →
    ((x : ℕ) → IsTrue (is_among x (writes_of entries slot)) → IsOutside g m (new x)) → ((x : ℕ) → IsOutside g m (old x) → IsOutside g m (new x)) → (x : ℕ) → IsWrittenBy entries (take (i + 1) slots) x → IsOutside g m (new x)
outside-slot entries g m i slot slots old new at was here stays x w = elim (among-taken w.0 slot i slots at w.1) [
  | inl yet ↦ stays x (was x (w.0, yet, w.2))
  | inr e ↦ here x (subst (λ (k : ℕ). IsTrue (is_among x (writes_of entries k))) e w.2)
]

-- the node m is taken out
module _ (entries : List Entry) (old new : Slots) (m : ℕ) (is : IsRemoved old m new) where
  left-writes : (q x : ℕ) → IsTrue ((slot_access entries new.held).writes q x) → (node_at old.node q ≡ m → ⊥) × IsTrue ((slot_access entries old.held).writes q x)
  left-writes q x w =
      let u = and_parts (held_at new.held q) (is_among x (writes_of entries q)) w in
      let off : node_at old.node q ≡ m → ⊥ = λ e. both_ways _ (is.held_gone q e) u.0 in
      (off, and_from _ _ (sym (is.held_left q off) ∙ u.0) u.1)

  first-left : (x : ℕ) (o : Option ℕ) → IsPassed entries old m x o → ((i : ℕ) → node_at old.node i ≡ m → IsTrue (is_among x (writes_of entries i)) → IsOutside old m o) →
      MatchOption o (NoWriter (slot_access entries new.held) x) (λ n. IsFirstWriter (slot_access entries new.held) x n)
  first-left x None passed outside = λ q. false_from_ne_true _ (λ w. let u = left-writes q x w in u.0 (passed q u.1))
  first-left x (Some n) passed outside =
      let v = and_parts (held_at old.held n) (is_among x (writes_of entries n)) passed.0 in
      let off : node_at old.node n ≡ m → ⊥ = λ e. outside n e v.1 e in
      (and_from _ _ (is.held_left n off ∙ v.0) v.1, (λ q lt. false_from_ne_true _ (λ w. let u = left-writes q x w in u.0 (passed.1 q lt u.1))))

  -- the first writers are those outside the node
  pub firsts-left : (firsts : ℕ → Option ℕ) → ArePassed entries old m firsts → ((x i : ℕ) → node_at old.node i ≡ m → IsTrue (is_among x (writes_of entries i)) → IsOutside old m (firsts x)) → AreFirsts (slot_access entries new.held) firsts
  firsts-left firsts passed outside x = first-left x (firsts x) (passed x) (outside x)

found-or : (b c : Bool) (v : ℕ) (o : Option ℕ) → is_some o ≡ c → is_some (if b then Some v else o) ≡ (b || c)
found-or true c v o e = refl
found-or false c v o e = e

found-among : (es : List (ℕ × ℕ)) (x : ℕ) → is_some (lookup (nat_eq x) es) ≡ is_among x (keys_of es)
found-among [] x = refl
found-among (e ∷ es) x = found-or (nat_eq x e.0) (is_among x (keys_of es)) e.1 (lookup (nat_eq x) es) (found-among es x)

-- the keys, sorted
pub keys-listed : (es : List (ℕ × ℕ)) (sorted : List ℕ) → IsDistinct nat_eq (keys_of es) → IsPermutation (keys_of es) sorted → IsSorted nat_cmp sorted → Lists (λ x. IsSome (lookup (nat_eq x) es)) sorted
keys-listed es sorted once moved order =
    let flips : (x y : ℕ) → nat_eq x y ≡ nat_eq y x = λ x y. same-test (nat_eq x y) (nat_eq y x) (λ t. eq-eqb y x (sym (eqb-true x y t))) (λ t. eq-eqb x y (sym (eqb-true y x t))) in
    record {
      rising = IsStrictlyIncreasing-from_distinct sorted (IsNonDecreasingBy-from_sort (λ (x : ℕ). x) sorted order) (IsDistinct-IsPermutation nat_eq flips (keys_of es) sorted moved once);
      exactly = λ x.
          let e : is_some (lookup (nat_eq x) es) ≡ is_among x sorted = found-among es x ∙ list_any-IsPermutation (λ y. x == y) (keys_of es) sorted moved in
          ((λ t. e ∙ t), (λ s. sym e ∙ s));
    }

module _ (entries : List Entry) (held : List Bool) (rising : AreClimbing held (lsns entries)) (size : length held ≡ length entries) where
  abbrev a : Access
  a = slot_access entries held

  abbrev view : List Entry
  view = held_entries held entries

  named : (i x : ℕ) → IsTrue (held_at held i) → (accesses view).writes (slice_index (lsns entries) i) x ≡ a.writes i x
  named i x lt = (renamed entries held size rising.above_held).writes i x lt

  below : (i x : ℕ) → IsTrue (a.writes i x) → IsTrue (held_at held i)
  below i x w = (renamed entries held size rising.above_held).writes_in i x w

  from-lsn : (n x : ℕ) → IsTrue ((accesses view).writes n x) → (i : ℕ) × IsTrue (held_at held i) × (slice_index (lsns entries) i ≡ n)
  from-lsn n x w = (renamed entries held size rising.above_held).writes_from n x w

  writer : (n x : ℕ) → IsTrue ((accesses view).writes n x) → (i : ℕ) × IsTrue (a.writes i x) × (slice_index (lsns entries) i ≡ n)
  writer n x w =
      let i = from-lsn n x w in
      (i.0, sym (named i.0 x i.1) ∙ subst (λ (k : ℕ). IsTrue ((accesses view).writes k x)) (sym i.2) w, i.2)

  -- the slot of a first writer is one
  pub first-below : (x i : ℕ) (firsts : ℕ → Option ℕ) → AreFirsts a firsts → firsts x ≡ Some i → i < length entries
  first-below x i firsts are at =
      let first = subst (λ (o : Option ℕ). MatchOption o (NoWriter a x) (λ n. IsFirstWriter a x n)) at (are x) in
      held-below entries held i size (below i x first.0)

  -- the objects with a first writer are the written ones
  pub written-is : (firsts : ℕ → Option ℕ) → AreFirsts a firsts → (x : ℕ) → IsSome (firsts x) ↔ IsWritten (accesses view) x
  written-is firsts are x = (
    (λ s.
        let v = some-value (firsts x) s in
        let first = subst (λ (o : Option ℕ). MatchOption o (NoWriter a x) (λ n. IsFirstWriter a x n)) v.1 (are x) in
        (slice_index (lsns entries) v.0, named v.0 x (below v.0 x first.0) ∙ first.0)),
    (λ w. some-or (firsts x) (λ e.
        let none = subst (λ (o : Option ℕ). MatchOption o (NoWriter a x) (λ n. IsFirstWriter a x n)) e (are x) in
        let i = writer w.0 x w.1 in
        both_ways _ (none i.0) i.1)),
  )

  -- the LSN of the first writer is the least
  pub first-is : (x i : ℕ) (firsts : ℕ → Option ℕ) → AreFirsts a firsts → firsts x ≡ Some i → IsLeast (IsWriter (accesses view) x) (slice_index (lsns entries) i)
  first-is x i firsts are at =
      let first = subst (λ (o : Option ℕ). MatchOption o (NoWriter a x) (λ n. IsFirstWriter a x n)) at (are x) in (
        named i x (below i x first.0) ∙ first.0,
        λ k w.
            let j = writer k x w in
            elim (cases_lt j.0 i) [
              | inl lt ↦ absurd (both_ways _ (first.1 j.0 lt) j.1)
              | inr ge ↦ omega (arith, rising.never_fall i j.0 ge (omega (arith, held-below entries held j.0 size (below j.0 x j.1), length-lsns entries)), j.2)
            ],
      )

-- one object more, with its first writer
pub starts-more : (a : Access) (objects : List ℕ) (starts : List (ℕ × ℕ)) (i n : ℕ) → i < length objects → map (λ s. s.0) starts ≡ take i objects → All (λ s. IsLeast (IsWriter a s.0) s.1) starts → IsLeast (IsWriter a (get_or objects i zero)) n →
    (map (λ s. s.0) (starts ++ (get_or objects i zero, n) ∷ []) ≡ take (i + 1) objects) × All (λ s. IsLeast (IsWriter a s.0) s.1) (starts ++ (get_or objects i zero, n) ∷ [])
starts-more a objects starts i n lt same all least = (
  map-append (λ (s : ℕ × ℕ). s.0) starts ((get_or objects i zero, n) ∷ []) ∙ ap (λ (xs : List ℕ). xs ++ get_or objects i zero ∷ []) same ∙ sym (take_more objects i zero lt),
  All-push (λ (s : ℕ × ℕ). IsLeast (IsWriter a s.0) s.1) starts (get_or objects i zero, n) all least,
)
