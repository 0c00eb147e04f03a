-- One entry more: what its slot and cells report beside those of the earlier entries.
use Rattle.std.proofs.Common.{◌≡◌, ◌∙◌, ap, sym, subst, ℕ, zero, suc, ◌+◌, ◌-◌, ◌*◌, ◌/◌, ◌%◌, ◌<◌, ◌≤◌, Bool, true, false, List, [], ◌∷◌, ◌++◌, length, length-append, Some, refl, arith, inl, inr}
use Rattle.std.specs.Prelude.{IsTrue, IsFalse, ◌==◌, ◌&&◌, slice_get}
use Rattle.std.proofs.lemmas.Bool.{cases_eq, cases_lt, both_ways, or_left, or_right, and_from, eq-eqb}
use Rattle.oper_core.specs.State.{is_among}
use Rattle.install_order.specs.declared.entry.Entry.{Entry}
use Rattle.install_order.specs.Order.{Access}
use Rattle.install_order.specs.More.{IsAdded}
use Rattle.graph_nodes.specs.Arcs.{held_at}
use Rattle.write_graph.specs.Places.{place_in}
use Rattle.write_graph.specs.Cells.{reads_of, writes_of, slot_access, IsReadCell, IsWriteCell, write_cell, CellLeads}
use Rattle.write_graph.specs.Linked.{AreFew}
use Rattle.write_graph.specs.Steps.{IsCellOf}
use Rattle.write_graph.proofs.Place.{place-at, place-among, read-left, read-past}
use Rattle.write_graph.proofs.Parts.{writes-left, writes-last, writes-past, reads-left, reads-last, reads-past}
use Rattle.write_graph.proofs.Loops.{none-some, some-is}
use Rattle.write_graph.proofs.Led.{write-slot}
use Rattle.write_graph.proofs.One.{read-kept, write-kept}

pub get-among : (xs : List ℕ) (k x : ℕ) → slice_get xs k ≡ Some x → IsTrue (is_among x xs)
get-among [] k x e = absurd (none-some x e)
get-among (y ∷ xs) zero x e = or_left (x == y) (is_among x xs) (eq-eqb x y (sym (some-is y x e)))
get-among (y ∷ xs) (suc k) x e = or_right (x == y) (is_among x xs) (get-among xs k x e)

pub get-past : (xs : List ℕ) (k x : ℕ) → length xs ≤ k → slice_get xs k ≡ Some x → ⊥
get-past [] k x le e = none-some x e
get-past (y ∷ xs) zero x le e = omega (arith, le)
get-past (y ∷ xs) (suc k) x le e = get-past xs k x (omega (arith, le)) e

read-last : (held : List Bool) → held_at (held ++ true ∷ []) (length held) ≡ true
read-last [] = refl
read-last (h ∷ held) = read-last held

false-and : (h m : Bool) → h ≡ false → IsFalse (h && m)
false-and h m e = ap (λ (k : Bool). k && m) e

-- the first cell for a write is one
pub write-cell-is : (entries : List Entry) (w x : ℕ) → IsTrue (is_among x (writes_of entries w)) → length (writes_of entries w) ≤ 4 → IsWriteCell entries (write_cell entries w x) x
write-cell-is entries w x there few =
    let lt = place-among x (writes_of entries w) there in
    let slot = write-slot entries w x there few in
    let place : write_cell entries w x % 8 - 4 ≡ place_in x (writes_of entries w) = omega (arith, lt, few) in (
      omega (arith, lt, few),
      subst (λ (k : ℕ). slice_get (writes_of entries k) (write_cell entries w x % 8 - 4) ≡ Some x) (sym slot) (
          subst (λ (k : ℕ). slice_get (writes_of entries w) k ≡ Some x) (sym place) (place-at x (writes_of entries w) lt)),
    )

-- a cell is for a read or for a write
pub not-both : (entries : List Entry) (c x y : ℕ) → length (reads_of entries (c / 8)) ≤ 4 → IsReadCell entries c x → IsWriteCell entries c y → ⊥
not-both entries c x y few r w = get-past (reads_of entries (c / 8)) (c % 8) x (omega (arith, few, w.0)) r

module _ (earlier : List Entry) (e : Entry) (held : List Bool) (same : length held ≡ length earlier) where
  abbrev pub all : List Entry
  all = earlier ++ e ∷ []

  abbrev pub more : List Bool
  more = held ++ true ∷ []

  abbrev n : ℕ
  n = length earlier

  abbrev a : Access
  a = slot_access earlier held

  abbrev b : Access
  b = slot_access all more

  pub held-left : (i : ℕ) → i < n → held_at more i ≡ held_at held i
  held-left i lt = read-left held (true ∷ []) i false (omega (arith, lt, same))

  pub held-last : held_at more n ≡ true
  held-last = ap (held_at more) (sym same) ∙ read-last held

  held-past : (i : ℕ) → n < i → held_at more i ≡ false
  held-past i lt = read-past more i false (omega (arith, lt, same, length-append held (true ∷ [])))

  pub held-below : (i : ℕ) → IsTrue (held_at more i) → i ≤ n
  held-below i t = elim (cases_lt n i) [ inl lt ↦ absurd (both_ways _ (held-past i lt) t) | inr ge ↦ omega (arith, ge) ]

  none-held : (i : ℕ) → n ≤ i → held_at held i ≡ false
  none-held i le = read-past held i false (omega (arith, le, same))

  pub added : IsAdded a b n
  added = record {
    same_reads = λ k x lt. ap (λ (h : Bool). h && is_among x (reads_of all k)) (held-left k lt) ∙ ap (λ (xs : List ℕ). held_at held k && is_among x xs) (reads-left earlier e k lt);
    same_writes = λ k x lt. ap (λ (h : Bool). h && is_among x (writes_of all k)) (held-left k lt) ∙ ap (λ (xs : List ℕ). held_at held k && is_among x xs) (writes-left earlier e k lt);
    no_reads = λ k x le. false-and (held_at held k) _ (none-held k le);
    no_writes = λ k x le. false-and (held_at held k) _ (none-held k le);
    last_reads = λ k x lt. false-and (held_at more k) _ (held-past k lt);
    last_writes = λ k x lt. false-and (held_at more k) _ (held-past k lt);
  }

  pub reads-new : (x : ℕ) → b.reads n x ≡ is_among x e.reads
  reads-new x = ap (λ (h : Bool). h && is_among x (reads_of all n)) held-last ∙ ap (λ (xs : List ℕ). is_among x xs) (reads-last earlier e)

  pub writes-new : (x : ℕ) → b.writes n x ≡ is_among x e.writes
  writes-new x = ap (λ (h : Bool). h && is_among x (writes_of all n)) held-last ∙ ap (λ (xs : List ℕ). is_among x xs) (writes-last earlier e)

  -- the cells of the earlier slots
  pub read-cell-kept : (c x : ℕ) → IsReadCell earlier c x → (c / 8 < n) × IsReadCell all c x
  read-cell-kept c x is = elim (cases_lt (c / 8) n) [
    | inl lt ↦ (lt, subst (λ (xs : List ℕ). slice_get xs (c % 8) ≡ Some x) (sym (reads-left earlier e (c / 8) lt)) is)
    | inr ge ↦ absurd (none-some x (subst (λ (xs : List ℕ). slice_get xs (c % 8) ≡ Some x) (reads-past earlier (c / 8) ge) is))
  ]

  pub write-cell-kept : (c x : ℕ) → IsWriteCell earlier c x → IsWriteCell all c x
  write-cell-kept c x is = elim (cases_lt (c / 8) n) [
    | inl lt ↦ (is.0, subst (λ (xs : List ℕ). slice_get xs (c % 8 - 4) ≡ Some x) (sym (writes-left earlier e (c / 8) lt)) is.1)
    | inr ge ↦ absurd (none-some x (subst (λ (xs : List ℕ). slice_get xs (c % 8 - 4) ≡ Some x) (writes-past earlier (c / 8) ge) is.1))
  ]

  -- the cells of the new slot that read
  pub read-cell-new : (c x : ℕ) → length e.reads ≤ 4 → IsCellOf e.reads n x c → (c / 8 ≡ n) × IsReadCell all c x
  read-cell-new c x few is = elim (cases_lt is.0 (length e.reads)) [
    | inl lt ↦
        let slot : c / 8 ≡ n = omega (arith, is.1, lt, few) in
        let place : c % 8 ≡ is.0 = omega (arith, is.1, lt, few) in (
          slot,
          subst (λ (k : ℕ). slice_get (reads_of all k) (c % 8) ≡ Some x) (sym slot) (
              subst (λ (k : ℕ). slice_get (reads_of all n) k ≡ Some x) (sym place) (
              subst (λ (xs : List ℕ). slice_get xs is.0 ≡ Some x) (sym (reads-last earlier e)) is.2)),
        )
    | inr ge ↦ absurd (get-past e.reads is.0 x (omega (arith, ge)) is.2)
  ]

  -- each object that the new entry reads has a cell
  pub read-cell-made : (x : ℕ) → IsTrue (is_among x e.reads) → IsCellOf e.reads n x (8 * n + place_in x e.reads)
  read-cell-made x there = (place_in x e.reads, refl, place-at x e.reads (place-among x e.reads there))

  -- what a cell of the earlier slots led to
  pub leads-kept : (c p : ℕ) → CellLeads a earlier c p → CellLeads b all c p
  leads-kept c p leads = (
    leads.0,
    elim leads.1 [
      | inl r ↦ inl ((read-cell-kept c leads.0 r.0).1, read-kept a b n added leads.0 (c / 8) p r.1)
      | inr w ↦ inr (write-cell-kept c leads.0 w.0, write-kept a b n added leads.0 (c / 8) p w.1)
    ],
  )

  -- who reads what a cell is for
  pub reads-at : (c x : ℕ) → IsReadCell all c x → IsTrue (held_at more (c / 8)) → IsTrue (b.reads (c / 8) x)
  reads-at c x is held_c = and_from _ _ held_c (get-among (reads_of all (c / 8)) (c % 8) x is)

  -- the first cell for a write of an earlier slot stays
  pub write-cell-same : (w x : ℕ) → w < n → write_cell all w x ≡ write_cell earlier w x
  write-cell-same w x lt = ap (λ (xs : List ℕ). 8 * w + 4 + place_in x xs) (writes-left earlier e w lt)

  pub few-more : AreFew earlier → length e.reads ≤ 4 → length e.writes ≤ 4 → AreFew all
  few-more few r w i = elim (cases_lt i n) [
    | inl lt ↦ (omega (arith, ap length (reads-left earlier e i lt), (few i).0), omega (arith, ap length (writes-left earlier e i lt), (few i).1))
    | inr ge ↦ elim (cases_eq i n) [
      | inl q ↦ subst (λ (k : ℕ). (length (reads_of all k) ≤ 4) × (length (writes_of all k) ≤ 4)) (sym q) (omega (arith, ap length (reads-last earlier e), r), omega (arith, ap length (writes-last earlier e), w))
      | inr ne ↦
          let past : length all ≤ i = omega (arith, ge, length-append earlier (e ∷ [])) in
          (omega (arith, ap length (reads-past all i past)), omega (arith, ap length (writes-past all i past)))
    ]
  ]
