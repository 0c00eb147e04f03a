-- What the slots answer of the entries.
use Rattle.std.proofs.Common.{◌≡◌, ◌∙◌, ap, sym, subst, ℕ, zero, suc, ◌+◌, ◌/◌, ◌<◌, ◌≤◌, Bool, List, [], ◌∷◌, map, length, refl, arith, inl, inr}
use Rattle.std.specs.Prelude.{IsTrue, ◌==◌, slice_index}
use Rattle.std.specs.List.Sorted.{IsStrictlyIncreasing}
use Rattle.std.proofs.lemmas.Bool.{cases_Bool, cases_lt, both_ways, and_parts, or_left, or_right, or_cases, eqb-true, eq-eqb}
use Rattle.oper_core.specs.State.{is_among}
use Rattle.install_order.specs.declared.entry.Entry.{Entry}
use Rattle.install_order.specs.Order.{Access, NoEdgeInto}
use Rattle.install_order.specs.Entries.{accesses}
use Rattle.install_order.specs.Arcs.{Arc}
use Rattle.install_order.specs.Digraph.{Walk}
use Rattle.install_order.specs.Digraph.Walk.{Here, Then}
use Rattle.install_order.specs.Arcs.Arc.{Next_write, Version_read, First_write}
use Rattle.graph_nodes.specs.Arcs.{IsArc, node_at, held_at}
use Rattle.number_lists.specs.Marks.{AreListed}
use Rattle.graph_nodes.specs.Named.{Graph, IsName, IsMinimal, NamesMinimal as NamesMinimalSlot}
use Rattle.write_graph.specs.Graph.{lsns, IsNodeNamed, NamesNode, NamesMinimal, IsLeast, Lists}
use Rattle.write_graph.specs.Cells.{reads_of, writes_of, slot_access, chosen_entries, held_entries, CellLeads}
use Rattle.write_graph.specs.Places.{IsSlotOfLsn}
use Rattle.write_graph.specs.Rows.{Rows}
use Rattle.write_graph.specs.Linked.{AreLinked}
use Rattle.write_graph.specs.Naming.{AreClimbing, AreSlots, IsSlotOf}
use Rattle.write_graph.proofs.Held.{at-among, length-lsns}
use Rattle.write_graph.proofs.Naming.{held-below}
use Rattle.write_graph.proofs.Numbers.{Rises, tail-rises, chosen-here, chosen-off, chosen-slot, lsn-same}

leads-arc : (a : Access) (entries : List Entry) (c p : ℕ) → CellLeads a entries c p → Arc a (c / 8) p
leads-arc a entries c p leads = elim leads.1 [
  | inl r ↦ elim r.1.1 [
    | inl v ↦ Version_read leads.0 v.1.0 r.1.0 v.0 v.1.1 v.1.2
    | inr f ↦ First_write leads.0 r.1.0 f.0 f.1
  ]
  | inr w ↦ Next_write leads.0 w.1.0 w.1.1
]

pub slots-are : (entries : List Entry) (g : Graph) (rows : Rows) → AreLinked entries g rows → AreClimbing g.held (lsns entries) → AreSlots entries g
slots-are entries g rows linked rising = record {
  rising = rising;
  held = linked.held;
  arcs = λ o p. (
    linked.arcs.all o p,
    (λ arc. subst (λ (k : ℕ). Arc (slot_access entries g.held) k p) arc.1 (leads-arc (slot_access entries g.held) entries arc.0 p (linked.arcs.only arc.0 p arc.2))),
  );
  nodes = linked.nodes;
}

next : (i : ℕ) → suc i ≡ i + 1
next i = omega arith

rising-cons : (x : ℕ) (xs : List ℕ) → IsStrictlyIncreasing xs → ((k : ℕ) → IsTrue (is_among k xs) → x < k) → IsStrictlyIncreasing (x ∷ xs)
rising-cons x xs rising above zero lt = above (slice_index xs zero) (at-among xs zero (omega (arith, lt)))
rising-cons x xs rising above (suc k) lt =
    let r = rising k (omega (arith, lt)) in
    let low : slice_index xs k < slice_index xs (suc k) = subst (λ (j : ℕ). slice_index xs k < slice_index xs j) (sym (next k)) r in
    subst (λ (j : ℕ). slice_index xs k < slice_index (x ∷ xs) j) (next (suc k)) low

-- the LSNs of chosen entries rise
pub chosen-rising : (t : ℕ → Bool) (entries : List Entry) → Rises t (lsns entries) → IsStrictlyIncreasing (lsns (chosen_entries t entries))
chosen-rising t [] rises = λ k lt. absurd (omega (arith, lt))
chosen-rising t (e ∷ entries) rises =
    let rest = chosen-rising (λ i. t (suc i)) entries (tail-rises t e.lsn (lsns entries) rises) in
    elim (cases_Bool (t zero)) [
      | inl here ↦ subst (λ (es : List Entry). IsStrictlyIncreasing (lsns es)) (sym (chosen-here t e entries here)) (rising-cons e.lsn (lsns (chosen_entries (λ i. t (suc i)) entries)) rest (λ k there.
          let s = chosen-slot (λ i. t (suc i)) entries k there in
          omega (arith, rises zero (suc s.0) here (omega arith) (omega (arith, s.1, length-lsns entries)), s.3)))
      | inr off ↦ subst (λ (es : List Entry). IsStrictlyIncreasing (lsns es)) (sym (chosen-off t e entries off)) rest
    ]

pub view-rising : (held : List Bool) (entries : List Entry) → AreClimbing held (lsns entries) → IsStrictlyIncreasing (lsns (held_entries held entries))
view-rising held entries rising = chosen-rising (held_at held) entries rising.above_held

-- what the laws say of slots
abbrev pub SlotsLaw : Type 0
SlotsLaw = (entries : List Entry) (g : Graph) (n : ℕ) (node : ℕ → Bool) → AreSlots entries g → IsNodeNamed (held_entries g.held entries) n node → IsSlotOf entries g n node

abbrev pub NamesLaw : Type 0
NamesLaw = (entries : List Entry) (g : Graph) (i : ℕ) → AreSlots entries g → IsName g i → NamesNode (held_entries g.held entries) (slice_index (lsns entries) i)

-- where the entries from an LSN on begin
pub record BeginsAt (entries : List Entry) (n from : ℕ) : Type 0 where
  pub before : (i : ℕ) → i < from → slice_index (lsns entries) i < n
  pub after : (i : ℕ) → from ≤ i → i < length entries → n ≤ slice_index (lsns entries) i

module _ (slots : SlotsLaw) (names : NamesLaw) (entries : List Entry) (g : Graph) (are : AreSlots entries g) where
  abbrev view : List Entry
  view = held_entries g.held entries

  abbrev lsn : ℕ → ℕ
  lsn i = slice_index (lsns entries) i

  -- a slot that names a minimal node, and its LSN
  pub minimal-is : (i : ℕ) → NamesMinimalSlot g i → NamesMinimal view (lsn i)
  minimal-is i is =
      let node = names entries g i are is.0 in
      let s = slots entries g (lsn i) node.0 are node.1 in
      let same : s.slot ≡ i = lsn-same (held_at g.held) entries are.rising.above_held s.slot i s.name.0 is.0.0 s.below (held-below entries g i are.held is.0.0) s.lsn in
      (node.0, node.1, s.minimal.1 (subst (λ (k : ℕ). (o p : ℕ) → IsArc g.arcs o p → node_at g.node p ≡ node_at g.node k → node_at g.node o ≡ node_at g.node k) (sym same) is.1))

  pub is-minimal : (n : ℕ) → NamesMinimal view n → (i : ℕ) × (i < length entries) × (lsn i ≡ n) × NamesMinimalSlot g i
  is-minimal n is =
      let s = slots entries g n is.0 are is.1 in
      (s.slot, s.below, s.lsn, (s.name, s.minimal.0 is.2))

  pub least-is : (n from i : ℕ) → BeginsAt entries n from → IsLeast (λ k. (from ≤ k) × NamesMinimalSlot g k) i → IsLeast (λ k. (n ≤ k) × NamesMinimal view k) (lsn i)
  least-is n from i begins least =
      let below = held-below entries g i are.held least.0.1.0.0 in (
        (begins.after i least.0.0 below, minimal-is i least.0.1),
        λ k is.
            let s = is-minimal k is.1 in
            let le : from ≤ s.0 = elim (cases_lt s.0 from) [ inl lt ↦ absurd (omega (arith, begins.before s.0 lt, s.2, is.0)) | inr ge ↦ omega (arith, ge) ] in
            let first = least.1 s.0 (le, s.3) in
            omega (arith, are.rising.never_fall i s.0 first (omega (arith, s.1, length-lsns entries)), s.2),
      )

  pub none-is : (n from : ℕ) → BeginsAt entries n from → ((i : ℕ) → from ≤ i → NamesMinimalSlot g i → ⊥) → (k : ℕ) → n ≤ k → NamesMinimal view k → ⊥
  none-is n from begins none k le is =
      let s = is-minimal k is in
      elim (cases_lt s.0 from) [
        | inl lt ↦ omega (arith, begins.before s.0 lt, s.2, le)
        | inr ge ↦ none s.0 (omega (arith, ge)) s.3
      ]

  -- the LSNs of slots
  among-map : (xs : List ℕ) (k : ℕ) → IsTrue (is_among k (map lsn xs)) → (i : ℕ) × IsTrue (is_among i xs) × (lsn i ≡ k)
  among-map [] k t = absurd (both_ways _ refl t)
  among-map (x ∷ xs) k t = elim (or_cases (k == lsn x) (is_among k (map lsn xs)) t) [
    | inl q ↦ (x, or_left (x == x) (is_among x xs) (eq-eqb x x refl), sym (eqb-true k (lsn x) q))
    | inr more ↦ let r = among-map xs k more in (r.0, or_right (r.0 == x) (is_among r.0 xs) r.1, r.2)
  ]

  map-among : (xs : List ℕ) (i : ℕ) → IsTrue (is_among i xs) → IsTrue (is_among (lsn i) (map lsn xs))
  map-among [] i t = absurd (both_ways _ refl t)
  map-among (x ∷ xs) i t = elim (or_cases (i == x) (is_among i xs) t) [
    | inl q ↦ or_left (lsn i == lsn x) (is_among (lsn i) (map lsn xs)) (eq-eqb (lsn i) (lsn x) (ap lsn (eqb-true i x q)))
    | inr more ↦ or_right (lsn i == lsn x) (is_among (lsn i) (map lsn xs)) (map-among xs i more)
  ]

  map-at : (xs : List ℕ) (k : ℕ) → k < length xs → slice_index (map lsn xs) k ≡ lsn (slice_index xs k)
  map-at [] k lt = absurd (omega (arith, lt))
  map-at (x ∷ xs) zero lt = refl
  map-at (x ∷ xs) (suc k) lt = map-at xs k (omega (arith, lt))

  length-map : (xs : List ℕ) → length (map lsn xs) ≡ length xs
  length-map [] = refl
  length-map (x ∷ xs) = ap suc (length-map xs)

  -- LSNs of rising slots rise
  map-rising : (xs : List ℕ) → IsStrictlyIncreasing xs → ((i : ℕ) → IsTrue (is_among i xs) → IsTrue (held_at g.held i)) → IsStrictlyIncreasing (map lsn xs)
  map-rising xs rising held k lt =
      let len = length-map xs in
      let here = map-at xs k (omega (arith, lt, len)) in
      let later = map-at xs (k + 1) (omega (arith, lt, len)) in
      let there = held (slice_index xs k) (at-among xs k (omega (arith, lt, len))) in
      let low = held-below entries g (slice_index xs (k + 1)) are.held (held (slice_index xs (k + 1)) (at-among xs (k + 1) (omega (arith, lt, len)))) in
      omega (arith, here, later, are.rising.above_held (slice_index xs k) (slice_index xs (k + 1)) there (rising k (omega (arith, lt, len))) (omega (arith, low, length-lsns entries)))

  pub counted : (xs : List ℕ) (count : ℕ) → AreListed (IsName g) xs → count ≡ length xs → (ys : List ℕ) × Lists (NamesNode view) ys × (count ≡ length ys)
  counted xs count listed e = (
    map lsn xs,
    record {
      rising = map-rising xs listed.rising (λ i t. ((listed.exactly i).0 t).0);
      exactly = λ k. (
        (λ t. let r = among-map xs k t in subst (λ (j : ℕ). NamesNode view j) r.2 (names entries g r.0 are ((listed.exactly r.0).0 r.1))),
        (λ node.
            let s = slots entries g k node.0 are node.1 in
            subst (λ (j : ℕ). IsTrue (is_among j (map lsn xs))) s.lsn (map-among xs s.slot ((listed.exactly s.slot).1 s.name))),
      );
    },
    omega (arith, e, length-map xs),
  )

  -- the slot of a node's name is the one that is found by the LSN
  pub found-slot : (n at : ℕ) (node : ℕ → Bool) → IsSlotOfLsn (lsns entries) n at → (is : IsNodeNamed view n node) → (slots entries g n node are is).slot ≡ at
  found-slot n at node found is =
      let s = slots entries g n node are is in
      sym (found s.slot (omega (arith, s.below, length-lsns entries)) s.lsn (λ j lt below. omega (arith, are.rising.above_held s.slot j s.name.0 lt below, s.lsn)))

  -- the node of a slot that is found by its LSN
  pub slot-at : (n at : ℕ) (node : ℕ → Bool) → IsSlotOfLsn (lsns entries) n at → IsNodeNamed view n node → (s : IsSlotOf entries g n node) × (s.slot ≡ at)
  slot-at n at node found is = (slots entries g n node are is, found-slot n at node found is)

-- the slot that stands for a minimal node, and its members
pub record IsFound (entries : List Entry) (g : Graph) (n from : ℕ) : Type 0 where
  pub node : ℕ → Bool
  pub named : IsNodeNamed (held_entries g.held entries) n node
  pub none : NoEdgeInto (accesses (held_entries g.held entries)) node
  pub slot : IsSlotOf entries g n node
  pub at : slot.slot ≡ from
  pub minimal : IsMinimal g.arcs g.node (node_at g.node from)
  pub held : (i : ℕ) → node_at g.node i ≡ node_at g.node from → (i < length entries) × IsTrue (held_at g.held i)

-- an arc between a slot and another of its node
walk-held : (entries : List Entry) (g : Graph) (rows : Rows) (o p : ℕ) → AreLinked entries g rows → Walk (IsArc g.arcs) o p → IsTrue (held_at g.held p) → IsTrue (held_at g.held o)
walk-held entries g rows o p linked Here there = there
walk-held entries g rows o p linked (Then m q walk arc) there =
    let l = linked.arcs.only arc.0 q arc.2 in
    let h : IsTrue (held_at g.held (arc.0 / 8)) = elim l.1 [
      | inl r ↦ (and_parts (held_at g.held (arc.0 / 8)) (is_among l.0 (reads_of entries (arc.0 / 8))) r.1.0).0
      | inr w ↦ (and_parts (held_at g.held (arc.0 / 8)) (is_among l.0 (writes_of entries (arc.0 / 8))) w.1.0).0
    ] in
    walk-held entries g rows o m linked walk (subst (λ (k : ℕ). IsTrue (held_at g.held k)) arc.1 h)

-- all slots of a node are held, or none
pub node-held : (entries : List Entry) (g : Graph) (rows : Rows) (i j : ℕ) → AreLinked entries g rows → node_at g.node i ≡ node_at g.node j → IsTrue (held_at g.held j) → (i < length entries) × IsTrue (held_at g.held i)
node-held entries g rows i j linked e there =
    let h = walk-held entries g rows i j linked ((linked.nodes i j).0 e).0 there in
    (held-below entries g i linked.held h, h)

pub found-minimal : SlotsLaw → NamesLaw → (entries : List Entry) (g : Graph) (rows : Rows) (n from : ℕ) → AreLinked entries g rows → AreClimbing g.held (lsns entries) → IsSlotOfLsn (lsns entries) n from → NamesMinimal (held_entries g.held entries) n → IsFound entries g n from
found-minimal slots names entries g rows n from linked rising begins is =
    let are = slots-are entries g rows linked rising in
    let s = slot-at slots names entries g are n from is.0 begins is.1 in
    let slot = s.0 in
    record {
      node = is.0;
      named = is.1;
      none = is.2;
      slot = slot;
      at = s.1;
      minimal = subst (λ (k : ℕ). IsMinimal g.arcs g.node (node_at g.node k)) s.1 (slot.minimal.0 is.2);
      held = λ i e. node-held entries g rows i slot.slot linked (e ∙ ap (node_at g.node) (sym s.1)) slot.name.0;
    }
