-- Entries whose LSNs are lowered where they are above one.
use Rattle.std.proofs.Common.{◌≡◌, ◌∙◌, ap, sym, subst, ℕ, zero, suc, ◌+◌, ◌*◌, ◌/◌, ◌%◌, ◌-◌, ◌<◌, ◌≤◌, ◌⊎◌, min, Bool, true, false, List, [], ◌∷◌, ◌++◌, map, set, length, Option, Some, All, refl, arith, inl, inr}
use Rattle.std.specs.Prelude.{IsTrue, ◌&&◌, slice_get, slice_index, MatchOption}
use Rattle.std.proofs.lemmas.Bool.{cases_Bool, cases_eq, cases_lt}
use Rattle.std.proofs.lemmas.List.{length_push, length-map, length-set, get_or-map, get_or-set_same, get_or-set_other, ext_get_or}
use Rattle.oper_core.specs.State.{is_among}
use Rattle.install_order.specs.declared.entry.Entry.{Entry}
use Rattle.install_order.specs.Order.{Access, IsLastWriter}
use Rattle.install_order.specs.Arcs.{Arc}
use Rattle.install_order.specs.More.{NoWriter, NoWriterFrom}
use Rattle.graph_nodes.specs.Arcs.{arc_at, held_at, IsArc}
use Rattle.graph_nodes.specs.Named.{Graph}
use Rattle.write_graph.specs.Graph.{lsns}
use Rattle.write_graph.specs.Cells.{reads_of, writes_of, slot_access, chosen_entries, held_entries, ReadLeads, WriteLeads}
use Rattle.write_graph.specs.Rows.{Rows, last_cell_of, last_held, waiting_of}
use Rattle.write_graph.specs.Linked.{AreLinked, AreRows}
use Rattle.write_graph.specs.Firsts.{AreFirsts}
use Rattle.write_graph.specs.Lowered.{lowered}
use Rattle.write_graph.specs.Places.{place_in}
use Rattle.write_graph.specs.Naming.{AreClimbing}
use Rattle.write_graph.proofs.Held.{among-at, length-lsns, lsns-push}
use Rattle.write_graph.proofs.Numbers.{chosen-here, chosen-off, slot-chosen}
use Rattle.write_graph.proofs.Place.{index-left, index-last, read-left}

low-stays : (n : ℕ) (e : Entry) → e.lsn ≤ n → lowered n e ≡ e
low-stays n e le =
    let same : min e.lsn n ≡ e.lsn = omega (arith, le) in
    λ i. record { lsn = same i; reads = e.reads; writes = e.writes; identity = e.identity }

-- the LSNs before the slot are lowered, and the others as they were
pub record AreLowering (n slot : ℕ) (old new : List ℕ) : Type 0 where
  pub size : length new ≡ length old
  pub done : (i : ℕ) → i < slot → i < length old → slice_index new i ≡ min (slice_index old i) n
  pub left : (i : ℕ) → slot ≤ i → slice_index new i ≡ slice_index old i

pub lowering-none : (n from : ℕ) (old : List ℕ) → ((i : ℕ) → i < from → slice_index old i ≤ n) → AreLowering n from old old
lowering-none n from old low = record {
  size = refl;
  done = λ i lt below. omega (arith, low i lt);
  left = λ i le. refl;
}

pub lowering-on : (n slot : ℕ) (old new : List ℕ) → AreLowering n slot old new → slot < length old → n < slice_index old slot → AreLowering n (slot + 1) old (set new slot n)
lowering-on n slot old new was low high = record {
  size = length-set new slot n ∙ was.size;
  done = λ i lt below. elim (cases_eq i slot) [
    | inl q ↦
        let here : slice_index (set new slot n) slot ≡ n = get_or-set_same new slot n zero (omega (arith, low, was.size)) in
        subst (λ (k : ℕ). slice_index (set new slot n) k ≡ min (slice_index old k) n) (sym q) (omega (arith, here, high))
    | inr ne ↦ get_or-set_other new slot i n zero ne ∙ was.done i (omega (arith, lt, ne)) below
  ];
  left = λ i le. get_or-set_other new slot i n zero (λ q. omega (arith, le, q)) ∙ was.left i (omega (arith, le));
}

pub lowering-all : (n slot : ℕ) (old new : List ℕ) → AreLowering n slot old new → length old ≤ slot → new ≡ map (λ k. min k n) old
lowering-all n slot old new is end =
    ext_get_or zero new (map (λ k. min k n) old) (is.size ∙ sym (length-map old (λ k. min k n))) (λ i lt.
    let below : i < length old = omega (arith, lt, is.size) in
    is.done i (omega (arith, below, end)) below ∙ sym (get_or-map (λ (k : ℕ). min k n) old i zero zero below))

-- what lowered entries read and write is the same
reads-same : (n : ℕ) (entries : List Entry) (i : ℕ) → reads_of (map (lowered n) entries) i ≡ reads_of entries i
reads-same n [] i = refl
reads-same n (e ∷ entries) zero = refl
reads-same n (e ∷ entries) (suc i) = reads-same n entries i

writes-same : (n : ℕ) (entries : List Entry) (i : ℕ) → writes_of (map (lowered n) entries) i ≡ writes_of entries i
writes-same n [] i = refl
writes-same n (e ∷ entries) zero = refl
writes-same n (e ∷ entries) (suc i) = writes-same n entries i

-- who reads and writes, by slot
abbrev access_by : List Bool → (ℕ → List ℕ) → (ℕ → List ℕ) → Access
access_by held r w = record { reads = λ i x. held_at held i && is_among x (r i); writes = λ i x. held_at held i && is_among x (w i) }

abbrev leads_by : List Bool → (ℕ → List ℕ) → (ℕ → List ℕ) → ℕ → ℕ → Type 0
leads_by held r w c p = (x : ℕ) × (((slice_get (r (c / 8)) (c % 8) ≡ Some x) × ReadLeads (access_by held r w) x (c / 8) p) ⊎ (((4 ≤ c % 8) × (slice_get (w (c / 8)) (c % 8 - 4) ≡ Some x)) × WriteLeads (access_by held r w) x (c / 8) p))

-- what is said of reads and writes by slot holds of lowered entries
carried : (n : ℕ) (entries : List Entry) (P : (ℕ → List ℕ) → (ℕ → List ℕ) → Type 0) → P (reads_of entries) (writes_of entries) → P (reads_of (map (lowered n) entries)) (writes_of (map (lowered n) entries))
carried n entries P p =
    let r : reads_of entries ≡ reads_of (map (lowered n) entries) = λ k i. sym (reads-same n entries i) k in
    let w : writes_of entries ≡ writes_of (map (lowered n) entries) = λ k i. sym (writes-same n entries i) k in
    subst (λ (s : ℕ → List ℕ). P (reads_of (map (lowered n) entries)) s) w (subst (λ (s : ℕ → List ℕ). P s (writes_of entries)) r p)

module _ (n : ℕ) (entries : List Entry) (g : Graph) (rows : Rows) (linked : AreLinked entries g rows) where
  abbrev after : List Entry
  after = map (lowered n) entries

  size : length after ≡ length entries
  size = length-map entries (lowered n)

  rows-lowered : AreRows (slot_access after g.held) after g.held rows
  rows-lowered = record {
    below = λ x w last. omega (arith, linked.rows_are.below x w last, size);
    cells = carried n entries (λ r w. (x c : ℕ) → last_cell_of rows x ≡ Some c → c ≡ 8 * (c / 8) + 4 + place_in x (w (c / 8))) linked.rows_are.cells;
    last = carried n entries (λ r w. (x : ℕ) → MatchOption (last_held g.held rows x) (NoWriter (access_by g.held r w) x) (λ k. IsLastWriter (access_by g.held r w) x k)) linked.rows_are.last;
    all = carried n entries (λ r w. (x o : ℕ) → IsTrue ((access_by g.held r w).reads o x) → NoWriterFrom (access_by g.held r w) x o → (c : ℕ) × (c / 8 ≡ o) × IsTrue (is_among c (waiting_of rows x))) linked.rows_are.all;
    only = carried n entries (λ r w. (x c : ℕ) → IsTrue (is_among c (waiting_of rows x)) → (slice_get (r (c / 8)) (c % 8) ≡ Some x) × (IsTrue (held_at g.held (c / 8)) → NoWriterFrom (access_by g.held r w) x (c / 8))) linked.rows_are.only;
  }

  -- lowered entries are linked as they were
  pub linked-lowered : AreLinked after g rows
  linked-lowered = record {
    slots = linked.slots ∙ sym size;
    held = linked.held ∙ sym size;
    small = omega (arith, linked.small, size);
    cells = omega (arith, linked.cells, size);
    few = carried n entries (λ r w. (i : ℕ) → (length (r i) ≤ 4) × (length (w i) ≤ 4)) linked.few;
    nodes = linked.nodes;
    arcs = record {
      only = carried n entries (λ r w. (c p : ℕ) → arc_at g.arcs c ≡ Some p → leads_by g.held r w c p) linked.arcs.only;
      all = carried n entries (λ r w. (o p : ℕ) → Arc (access_by g.held r w) o p → IsArc g.arcs o p) linked.arcs.all;
      next = carried n entries (λ r w. (x o p : ℕ) → WriteLeads (access_by g.held r w) x o p → arc_at g.arcs (8 * o + 4 + place_in x (w o)) ≡ Some p) linked.arcs.next;
    };
    rows_are = rows-lowered;
  }

-- the first writers of lowered entries are the same
pub firsts-lowered : (n : ℕ) (entries : List Entry) (held : List Bool) (firsts : ℕ → Option ℕ) → AreFirsts (slot_access entries held) firsts → AreFirsts (slot_access (map (lowered n) entries) held) firsts
firsts-lowered n entries held firsts are = carried n entries (λ r w. AreFirsts (access_by held r w) firsts) are

-- where the chosen have no greater LSNs, they are as they were
chosen-lowered : (t : ℕ → Bool) (n : ℕ) (entries : List Entry) → ((i : ℕ) → IsTrue (t i) → i < length entries → slice_index (lsns entries) i ≤ n) → chosen_entries t (map (lowered n) entries) ≡ chosen_entries t entries
chosen-lowered t n [] low = refl
chosen-lowered t n (e ∷ entries) low =
    let r = chosen-lowered (λ i. t (suc i)) n entries (λ i there lt. low (suc i) there (omega (arith, lt))) in
    elim (cases_Bool (t zero)) [
      | inl here ↦
          let same : lowered n e ≡ e = low-stays n e (low zero here (omega arith)) in
          chosen-here t (lowered n e) (map (lowered n) entries) here ∙ ap (λ (f : Entry). f ∷ chosen_entries (λ i. t (suc i)) (map (lowered n) entries)) same ∙ ap (λ (es : List Entry). e ∷ es) r ∙ sym (chosen-here t e entries here)
      | inr off ↦ chosen-off t (lowered n e) (map (lowered n) entries) off ∙ r ∙ sym (chosen-off t e entries off)
    ]

-- a held slot's LSN is below what is above all LSNs of the held entries
held-low : (held : List Bool) (entries : List Entry) (n : ℕ) → All (λ k. k < n) (lsns (held_entries held entries)) → (i : ℕ) → IsTrue (held_at held i) → i < length entries → slice_index (lsns entries) i < n
held-low held entries n above i there lt =
    let j = among-at (slice_index (lsns entries) i) (lsns (held_entries held entries)) (slot-chosen (held_at held) entries i lt there) in
    omega (arith, above j.0 zero j.1, j.2)

pub held-lowered : (held : List Bool) (entries : List Entry) (n : ℕ) → All (λ k. k < n) (lsns (held_entries held entries)) → held_entries held (map (lowered n) entries) ≡ held_entries held entries
held-lowered held entries n above = chosen-lowered (held_at held) n entries (λ i there lt. omega (arith, held-low held entries n above i there lt))

lsn-lowered : (n : ℕ) (entries : List Entry) (i : ℕ) → i < length entries → slice_index (lsns (map (lowered n) entries)) i ≡ min (slice_index (lsns entries) i) n
lsn-lowered n [] i lt = absurd (omega (arith, lt))
lsn-lowered n (e ∷ entries) zero lt = refl
lsn-lowered n (e ∷ entries) (suc i) lt = lsn-lowered n entries i (omega (arith, lt))

-- an entry comes last whose LSN is above those of the held entries
module _ (held more : List Bool) (entries : List Entry) (e : Entry) (size : length held ≡ length entries) (is : more ≡ held ++ true ∷ []) (climbs : AreClimbing held (lsns entries)) (above : All (λ k. k < e.lsn) (lsns (held_entries held entries))) where
  abbrev n : ℕ
  n = e.lsn

  abbrev ms : List ℕ
  ms = lsns (map (lowered n) entries)

  count : length ms ≡ length entries
  count = length-lsns (map (lowered n) entries) ∙ length-map entries (lowered n)

  earlier : (i : ℕ) → i < length entries → slice_index (ms ++ n ∷ []) i ≡ min (slice_index (lsns entries) i) n
  earlier i lt = index-left ms n i (omega (arith, lt, count)) ∙ lsn-lowered n entries i lt

  end : (i : ℕ) → i ≡ length entries → slice_index (ms ++ n ∷ []) i ≡ n
  end i q = ap (slice_index (ms ++ n ∷ [])) (q ∙ sym count) ∙ index-last ms n

  no-fall : (i j : ℕ) → i ≤ j → j < length (ms ++ n ∷ []) → slice_index (ms ++ n ∷ []) i ≤ slice_index (ms ++ n ∷ []) j
  no-fall i j le lt =
      let len = length_push ms n in
      let long = length-lsns entries in
      elim (cases_lt j (length entries)) [
        | inl low ↦ omega (arith, earlier i (omega (arith, le, low)), earlier j low, climbs.never_fall i j le (omega (arith, low, long)))
        | inr high ↦ elim (cases_lt i (length entries)) [
          | inl low ↦ omega (arith, earlier i low, end j (omega (arith, high, lt, len, count)))
          | inr past ↦ omega (arith, end i (omega (arith, past, le, lt, len, count)), end j (omega (arith, high, lt, len, count)))
        ]
      ]

  after-held : (i j : ℕ) → IsTrue (held_at more i) → i < j → j < length (ms ++ n ∷ []) → slice_index (ms ++ n ∷ []) i < slice_index (ms ++ n ∷ []) j
  after-held i j there lt below =
      let len = length_push ms n in
      let long = length-lsns entries in
      let low : i < length entries = omega (arith, lt, below, len, count) in
      let was : IsTrue (held_at held i) = sym (ap (λ (hs : List Bool). held_at hs i) is ∙ read-left held (true ∷ []) i false (omega (arith, low, size))) ∙ there in
      let small = held-low held entries n above i was low in
      elim (cases_lt j (length entries)) [
        | inl before ↦ omega (arith, earlier i low, earlier j before, small, climbs.above_held i j was lt (omega (arith, before, long)))
        | inr high ↦ omega (arith, earlier i low, small, end j (omega (arith, high, below, len, count)))
      ]

  pub climbing-more : AreClimbing more (lsns (map (lowered n) entries ++ e ∷ []))
  climbing-more = subst (λ (ns : List ℕ). AreClimbing more ns) (sym (lsns-push (map (lowered n) entries) e)) record { never_fall = no-fall; above_held = after-held }
