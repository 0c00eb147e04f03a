-- Lists that are sorted and have each LSN once, and the slots of a node.
use Rattle.std.proofs.Common.{◌≡◌, ◌∙◌, ap, sym, subst, ℕ, zero, suc, ◌+◌, ◌<◌, ◌⊎◌, Bool, List, [], ◌∷◌, ◌++◌, take, length, Option, None, Some, refl, arith, inl, inr}
use Rattle.std.specs.Prelude.{IsTrue, ◌==◌, ◌&&◌, ◌↔◌, nat_eq, slice_get, slice_index, MatchOption, if◌then◌else◌}
use Rattle.std.specs.List.{list_any, filter, Contains, dedup}
use Rattle.std.specs.List.Sorted.{IsPermutation, IsSorted}
use Rattle.std.specs.Ordering.{nat_cmp}
use Rattle.std.proofs.lemmas.Bool.{cases_Bool, both_ways, or_left, or_right, or_cases, and_parts, and_from, eqb-true, eq-eqb}
use Rattle.std.proofs.lemmas.List.{get_or_default}
use Rattle.std.proofs.lemmas.List.Folds.{list_any-append}
use Rattle.std.proofs.lemmas.List.Sorted.{list_any-IsPermutation}
use Rattle.std.proofs.lemmas.List.Kept.{IsStrictlyIncreasing-filter, Contains-dedup_nat, Contains-from_dedup}
use Rattle.std.proofs.lemmas.Map.Keys.{IsStrictlyIncreasing-dedup}
use Rattle.oper_core.specs.State.{is_among}
use Rattle.install_order.specs.declared.entry.Entry.{Entry}
use Rattle.install_order.specs.Order.{IsLastWriter, flush_set_of}
use Rattle.install_order.specs.Entries.{accesses}
use Rattle.install_order.specs.NodeLaws.{walk-on}
use Rattle.install_order.specs.More.{NoWriter}
use Rattle.graph_nodes.specs.Arcs.{node_at, held_at}
use Rattle.graph_nodes.specs.Named.{Graph}
use Rattle.write_graph.specs.Graph.{lsns, IsNodeNamed, Lists, IsSingleIdentity}
use Rattle.write_graph.specs.Cells.{writes_of, slot_access, held_entries}
use Rattle.write_graph.specs.Rows.{Rows, last_held}
use Rattle.write_graph.specs.Linked.{AreLinked}
use Rattle.write_graph.specs.Naming.{AreClimbing, IsSlotOf}
use Rattle.write_graph.specs.Listing.{AreSlotsOf, IsLsnOf, IsWrittenBy, is_with}
use Rattle.write_graph.proofs.Held.{among-at, at-among, reached-held, among-filter}
use Rattle.write_graph.proofs.Loops.{among-none, among-taken, among-before, among-next, some-is, none-some}
use Rattle.write_graph.proofs.FirstWriters.{only-one}
use Rattle.write_graph.proofs.One.{last-one}
use Rattle.write_graph.proofs.Numbers.{chosen-slot, any-slot, test_of, lsn-same}
use Rattle.write_graph.proofs.Asked.{node-held}

among-contains : (xs : List ℕ) (x : ℕ) → IsTrue (is_among x xs) → Contains xs x
among-contains xs x there = let k = among-at x xs there in (k.0, k.1, get_or_default xs k.0 x zero k.1 ∙ k.2)

contains-among : (xs : List ℕ) (x : ℕ) → Contains xs x → IsTrue (is_among x xs)
contains-among xs x is = subst (λ (y : ℕ). IsTrue (is_among y xs)) (get_or_default xs is.0 zero x is.1 ∙ is.2) (at-among xs is.0 is.1)

-- sorted and each once, a list has what it had
pub sorted-lists : (P : ℕ → Type 0) (xs sorted : List ℕ) → ((k : ℕ) → IsTrue (is_among k xs) ↔ P k) → IsPermutation xs sorted → IsSorted nat_cmp sorted → Lists P (dedup nat_eq sorted)
sorted-lists P xs sorted has moved order = record {
  rising = IsStrictlyIncreasing-dedup sorted order;
  exactly = λ x.
      let e : is_among x xs ≡ is_among x sorted = list_any-IsPermutation (λ y. x == y) xs sorted moved in (
        (λ there. (has x).0 (e ∙ contains-among sorted x (Contains-from_dedup nat_eq sorted x (among-contains (dedup nat_eq sorted) x there)))),
        (λ is. contains-among (dedup nat_eq sorted) x (Contains-dedup_nat sorted x (among-contains sorted x (sym e ∙ (has x).1 is)))),
      );
}

pub lists-same : (P Q : ℕ → Type 0) (xs : List ℕ) → ((k : ℕ) → P k ↔ Q k) → Lists P xs → Lists Q xs
lists-same P Q xs same is = record { rising = is.rising; exactly = λ k. ((λ t. (same k).0 ((is.exactly k).0 t)), (λ q. (is.exactly k).1 ((same k).1 q))) }

pub lists-filter : (P : ℕ → Type 0) (t : ℕ → Bool) (xs : List ℕ) → Lists P xs → Lists (λ k. P k × IsTrue (t k)) (filter t xs)
lists-filter P t xs is = record {
  rising = IsStrictlyIncreasing-filter t xs is.rising;
  exactly = λ k.
      let e = among-filter t xs k in
      ((λ there. let u = e.0 there in ((is.exactly k).0 u.0, u.1)), (λ p. e.1 ((is.exactly k).1 p.0, p.1)));
}

-- one element more of a list that is filtered
filter-suc : (t : ℕ → Bool) (xs : List ℕ) (i x : ℕ) → slice_get xs i ≡ Some x → filter t (take i xs) ++ (if t x then x ∷ [] else []) ≡ filter t (take (suc i) xs)
filter-suc t [] i x at = absurd (none-some x at)
filter-suc t (y ∷ xs) zero x at = ap (λ (z : ℕ). if t z then z ∷ [] else []) (sym (some-is y x at))
filter-suc t (y ∷ xs) (suc i) x at =
    let r = filter-suc t xs i x at in
    elim (cases_Bool (t y)) [
      | inl here ↦ rw here (ap (λ (ys : List ℕ). y ∷ ys) r)
      | inr off ↦ rw off r
    ]

pub filter-on : (t : ℕ → Bool) (xs : List ℕ) (i x : ℕ) (found : List ℕ) (kept : Bool) → slice_get xs i ≡ Some x → found ≡ filter t (take i xs) → kept ≡ t x → found ++ (if kept then x ∷ [] else []) ≡ filter t (take (i + 1) xs)
filter-on t xs i x found kept at was is =
    let e : suc i ≡ i + 1 = omega arith in
    ap (λ (ys : List ℕ). ys ++ (if kept then x ∷ [] else [])) was ∙ ap (λ (b : Bool). filter t (take i xs) ++ (if b then x ∷ [] else [])) is ∙ filter-suc t xs i x at ∙ ap (λ (k : ℕ). filter t (take k xs)) e

last-among : (k d : ℕ) (xs : List ℕ) → IsTrue (is_among k (xs ++ d ∷ [])) → IsTrue (is_among k xs) ⊎ (k ≡ d)
last-among k d xs t = elim (or_cases (is_among k xs) (is_among k (d ∷ [])) (sym (list_any-append (λ y. k == y) xs (d ∷ [])) ∙ t)) [
  | inl yet ↦ inl yet
  | inr new ↦ elim (or_cases (k == d) (is_among k []) new) [ inl e ↦ inr (eqb-true k d e) | inr r ↦ absurd (among-none k r) ]
]

-- one slot more
pub lsns-on : (entries : List Entry) (slots found : List ℕ) (i slot n : ℕ) → slice_get slots i ≡ Some slot → n ≡ slice_index (lsns entries) slot → ((k : ℕ) → IsTrue (is_among k found) ↔ IsLsnOf entries (take i slots) k) →
    (k : ℕ) → IsTrue (is_among k (found ++ n ∷ [])) ↔ IsLsnOf entries (take (i + 1) slots) k
lsns-on entries slots found i slot n at is was k = (
  (λ t. elim (last-among k n found t) [
    | inl yet ↦ let w = (was k).0 yet in (w.0, among-before w.0 i slots w.1, w.2)
    | inr e ↦ (slot, among-next slot i slots at, sym is ∙ sym e)
  ]),
  (λ w. list_any-append (λ y. k == y) found (n ∷ []) ∙ (elim (among-taken w.0 slot i slots at w.1) [
    | inl yet ↦ or_left (is_among k found) (is_among k (n ∷ [])) ((was k).1 (w.0, yet, w.2))
    | inr e ↦ or_right (is_among k found) (is_among k (n ∷ [])) (or_left (k == n) (is_among k []) (eq-eqb k n (sym w.2 ∙ ap (slice_index (lsns entries)) e ∙ sym is)))
  ])),
)

pub written-on : (entries : List Entry) (slots objects more : List ℕ) (i slot : ℕ) → slice_get slots i ≡ Some slot → more ≡ writes_of entries slot → ((x : ℕ) → IsTrue (is_among x objects) ↔ IsWrittenBy entries (take i slots) x) →
    (x : ℕ) → IsTrue (is_among x (objects ++ more)) ↔ IsWrittenBy entries (take (i + 1) slots) x
written-on entries slots objects more i slot at is was x = (
  (λ t. elim (or_cases (is_among x objects) (is_among x more) (sym (list_any-append (λ y. x == y) objects more) ∙ t)) [
    | inl yet ↦ let w = (was x).0 yet in (w.0, among-before w.0 i slots w.1, w.2)
    | inr new ↦ (slot, among-next slot i slots at, subst (λ (xs : List ℕ). IsTrue (is_among x xs)) is new)
  ]),
  (λ w. list_any-append (λ y. x == y) objects more ∙ (elim (among-taken w.0 slot i slots at w.1) [
    | inl yet ↦ or_left (is_among x objects) (is_among x more) ((was x).1 (w.0, yet, w.2))
    | inr e ↦ or_right (is_among x objects) (is_among x more) (subst (λ (xs : List ℕ). IsTrue (is_among x xs)) (sym is) (subst (λ (k : ℕ). IsTrue (is_among x (writes_of entries k))) e w.2))
  ])),
)

module _ (entries : List Entry) (g : Graph) (rows : Rows) (linked : AreLinked entries g rows) (rising : AreClimbing g.held (lsns entries)) (n : ℕ) (node : ℕ → Bool) (named : IsNodeNamed (held_entries g.held entries) n node) (s : IsSlotOf entries g n node) where
  abbrev view : List Entry
  view = held_entries g.held entries

  -- each number of the node is that of one of its slots
  pub member-slot : (k : ℕ) → IsTrue (node k) → (i : ℕ) × IsTrue (held_at g.held i) × (slice_index (lsns entries) i ≡ k) × (node_at g.node i ≡ node_at g.node s.slot)
  member-slot k there =
      let one = named.is_node.0 in
      let u = named.is_node.2 n named.is_name.0 in
      let v = named.is_node.2 k there in
      let held = reached-held view n k (walk-on (accesses view) n one k u.1 v.0) named.held in
      let i = chosen-slot (held_at g.held) entries k held in
      (i.0, i.2, i.3, (s.members i.0 i.2).0 (subst (λ (j : ℕ). IsTrue (node j)) (sym i.3) there))

  pub slot-member : (i : ℕ) → node_at g.node i ≡ node_at g.node s.slot → IsTrue (node (slice_index (lsns entries) i))
  slot-member i e = let h = node-held entries g rows i s.slot linked e s.name.0 in (s.members i h.1).1 e

  pub slots-below : (slots : List ℕ) → ((i : ℕ) → IsTrue (is_among i slots) ↔ (node_at g.node i ≡ node_at g.node s.slot)) → (i : ℕ) → IsTrue (is_among i slots) → i < length entries
  slots-below slots among i there = (node-held entries g rows i s.slot linked ((among i).0 there) s.name.0).0

  pub lsns-node : (slots : List ℕ) → ((i : ℕ) → IsTrue (is_among i slots) ↔ (node_at g.node i ≡ node_at g.node s.slot)) → (k : ℕ) → IsLsnOf entries slots k ↔ IsTrue (node k)
  lsns-node slots among k = (
    (λ w. subst (λ (j : ℕ). IsTrue (node j)) w.2 (slot-member w.0 ((among w.0).0 w.1))),
    (λ there. let i = member-slot k there in (i.0, (among i.0).1 i.3, i.2)),
  )

  last-match : (x : ℕ) (o : Option ℕ) → last_held g.held rows x ≡ o → MatchOption o (NoWriter (slot_access entries g.held) x) (λ w. IsLastWriter (slot_access entries g.held) x w)
  last-match x o q = subst (λ (o : Option ℕ). MatchOption o (NoWriter (slot_access entries g.held) x) (λ w. IsLastWriter (slot_access entries g.held) x w)) q (linked.rows_are.last x)

  last-at : (x : ℕ) (o : Option ℕ) → last_held g.held rows x ≡ o → (i : ℕ) → IsLastWriter (slot_access entries g.held) x i → last_held g.held rows x ≡ Some i
  last-at x None q i l = absurd (both_ways _ (last-match x None q i) l.0)
  last-at x (Some w) q i l = q ∙ ap (λ (k : ℕ). Some k) (last-one (slot_access entries g.held) x w i (last-match x (Some w) q) l)

  with-last : (last : (x i : ℕ) → IsTrue (held_at g.held i) → IsLastWriter (accesses view) x (slice_index (lsns entries) i) ↔ IsLastWriter (slot_access entries g.held) x i) (x : ℕ) (o : Option ℕ) → last_held g.held rows x ≡ o → IsTrue (is_with g s.slot o) → flush_set_of (accesses view) node x
  with-last last x None q t = absurd (both_ways _ refl t)
  with-last last x (Some w) q t =
      let e = eqb-true (node_at g.node w) (node_at g.node s.slot) t in
      let h = node-held entries g rows w s.slot linked e s.name.0 in
      (slice_index (lsns entries) w, slot-member w e, (last x w h.1).1 (last-match x (Some w) q))

  -- the flushed objects
  pub flushed : (last : (x i : ℕ) → IsTrue (held_at g.held i) → IsLastWriter (accesses view) x (slice_index (lsns entries) i) ↔ IsLastWriter (slot_access entries g.held) x i) (slots : List ℕ) → ((i : ℕ) → IsTrue (is_among i slots) ↔ (node_at g.node i ≡ node_at g.node s.slot)) →
      (x : ℕ) → (IsWrittenBy entries slots x × IsTrue (is_with g s.slot (last_held g.held rows x))) ↔ flush_set_of (accesses view) node x
  flushed last slots among x = (
    (λ w. with-last last x (last_held g.held rows x) refl w.1),
    (λ f.
        let i = member-slot f.0 f.1 in
        let l = (last x i.0 i.1).0 (subst (λ (k : ℕ). IsLastWriter (accesses view) x k) (sym i.2) f.2) in
        let at = last-at x (last_held g.held rows x) refl i.0 l in (
          (i.0, (among i.0).1 i.3, (and_parts (held_at g.held i.0) (is_among x (writes_of entries i.0)) l.0).1),
          subst (λ (o : Option ℕ). IsTrue (is_with g s.slot o)) (sym at) (eq-eqb (node_at g.node i.0) (node_at g.node s.slot) i.3),
        )),
  )

  -- a node of one entry, which is an identity write
  pub single : (identity : Bool) → identity ≡ test_of (λ e. e.identity) entries s.slot → ((i : ℕ) → node_at g.node i ≡ node_at g.node s.slot → i ≡ s.slot) → IsTrue identity ↔ IsSingleIdentity view n node
  single identity is alone =
      let at : list_any (λ e. (e.lsn == n) && e.identity) view ≡ (held_at g.held s.slot && test_of (λ e. e.identity) entries s.slot) =
      ap (λ (k : ℕ). list_any (λ e. (e.lsn == k) && e.identity) view) (sym s.lsn) ∙ any-slot (λ e. e.identity) (held_at g.held) entries s.slot rising.above_held s.below s.name.0 in (
        (λ t. (
          at ∙ and_from (held_at g.held s.slot) (test_of (λ e. e.identity) entries s.slot) s.name.0 (sym is ∙ t),
          (λ k there. let i = member-slot k there in sym i.2 ∙ ap (slice_index (lsns entries)) (alone i.0 i.3) ∙ s.lsn),
        )),
        (λ one. is ∙ (and_parts (held_at g.held s.slot) (test_of (λ e. e.identity) entries s.slot) (sym at ∙ one.0)).1),
      )

  -- where the node has one LSN alone, it has one slot alone
  pub alone-slot : ((k : ℕ) → IsTrue (node k) → k ≡ n) → (i : ℕ) → node_at g.node i ≡ node_at g.node s.slot → i ≡ s.slot
  alone-slot one i e =
      let h = node-held entries g rows i s.slot linked e s.name.0 in
      let same = one (slice_index (lsns entries) i) (slot-member i e) ∙ sym s.lsn in
      lsn-same (held_at g.held) entries rising.above_held i s.slot h.1 s.name.0 h.0 s.below same

-- the one slot of a node is all of its slots
pub single-slots : (entries : List Entry) (g : Graph) (n : ℕ) (slots : List ℕ) (node : ℕ → Bool) (s : IsSlotOf entries g n node) (slot : ℕ) → s.slot ≡ slot → slots ≡ slot ∷ [] → ((i : ℕ) → node_at g.node i ≡ node_at g.node slot → i ≡ slot) → AreSlotsOf entries g n slots node
single-slots entries g n slots node s slot at items alone = record {
  slot = s;
  among = λ i. (
    (λ t. ap (node_at g.node) (only-one slot i (subst (λ (xs : List ℕ). IsTrue (is_among i xs)) items t) ∙ sym at)),
    (λ e. subst (λ (xs : List ℕ). IsTrue (is_among i xs)) (sym items) (or_left (i == slot) _ (eq-eqb i slot (alone i (e ∙ ap (node_at g.node) at))))),
  );
}
