-- An entry more is linked: the graph and the rows are those of all entries.
use Rattle.std.proofs.Common.{◌≡◌, ◌∙◌, ap, sym, subst, ℕ, zero, suc, ◌+◌, ◌*◌, ◌^◌, ◌/◌, ◌%◌, ◌<◌, ◌≤◌, ◌⊎◌, Bool, true, cond, List, [], ◌∷◌, ◌++◌, length, length-append, Option, Some, None, IsSome, refl, arith, inl, inr}
use Rattle.std.specs.Prelude.{IsTrue, IsFalse, slice_get, MatchOption}
use Rattle.std.specs.Option.{unwrap_or}
use Rattle.std.proofs.lemmas.Bool.{cases_Bool, cases_eq, cases_lt, both_ways, and_parts, cond-true}
use Rattle.oper_core.specs.State.{is_among}
use Rattle.install_order.specs.declared.entry.Entry.{Entry}
use Rattle.install_order.specs.Order.{Access, IsLastWriter}
use Rattle.install_order.specs.Arcs.{Arc}
use Rattle.install_order.specs.Digraph.{AreNodes}
use Rattle.install_order.specs.More.{IsAdded, NoWriter, NoWriterFrom, NewArc}
use Rattle.install_order.specs.More.NewArc.{From_writer, To_version, From_reader}
use Rattle.graph_nodes.specs.Arcs.{arc_at, node_at, IsArc, held_at}
use Rattle.graph_nodes.specs.Kept.{no_arcs, IsSlotAdded}
use Rattle.graph_nodes.specs.Named.{Graph}
use Rattle.write_graph.specs.Places.{place_in}
use Rattle.write_graph.specs.Cells.{reads_of, writes_of, slot_access, IsReadCell, IsWriteCell, write_cell, ReadLeads, WriteLeads, CellLeads}
use Rattle.write_graph.specs.Rows.{Rows, last_cell_of, its_slot, last_of, waiting_of, if_held, last_held, AreCellsAdded}
use Rattle.write_graph.specs.Linked.{AreArcs, AreRows, AreFew, AreLinked}
use Rattle.write_graph.specs.Steps.{AreWritersLed, version_of, AreAnswered, AreWaiting}
use Rattle.write_graph.proofs.Parts.{reads-past, writes-last}
use Rattle.write_graph.proofs.Loops.{among-none, none-some, some-is}
use Rattle.write_graph.proofs.Led.{some-value, is-some, held-some, write-slot, answered-below}
use Rattle.write_graph.proofs.One.{reads-kept, reads-of, write-new, read-version, read-first, last-kept, none-kept, none-was, last-new, write-one, read-one, last-one}
use Rattle.write_graph.proofs.Adding.{write-cell-is, not-both, held-left, held-last, held-below, added, reads-new, writes-new, read-cell-kept, write-cell-kept, read-cell-new, read-cell-made, leads-kept, write-cell-same, reads-at, few-more}

nones-at : (k c : ℕ) → arc_at (no_arcs k) c ≡ None
nones-at zero c = refl
nones-at (suc k) zero = refl
nones-at (suc k) (suc c) = nones-at k c

arc-same : (arcs : List (Option ℕ)) (k c : ℕ) → arc_at (arcs ++ no_arcs k) c ≡ arc_at arcs c
arc-same [] k c = nones-at k c
arc-same (o ∷ arcs) k zero = refl
arc-same (o ∷ arcs) k (suc c) = arc-same arcs k c

pub read-cell-below : (entries : List Entry) (c x : ℕ) → IsReadCell entries c x → c / 8 < length entries
read-cell-below entries c x is = elim (cases_lt (c / 8) (length entries)) [
  | inl lt ↦ lt
  | inr ge ↦ absurd (none-some x (subst (λ (xs : List ℕ). slice_get xs (c % 8) ≡ Some x) (reads-past entries (c / 8) ge) is))
]

pub waits-below : (entries : List Entry) (held : List Bool) (rows : Rows) (x c : ℕ) → AreRows (slot_access entries held) entries held rows → IsTrue (is_among c (waiting_of rows x)) → c / 8 < length entries
waits-below entries held rows x c are t = read-cell-below entries c x (are.only x c t).0

-- the steps that link an entry
pub record AreSteps (earlier : List Entry) (e : Entry) (g0 g1 g2 g3 : Graph) (r0 r1 r2 r3 : Rows) : Type 0 where
  pub linked : AreLinked earlier g0 r0
  pub small : length earlier < 2 ^ 28
  pub nodes : AreNodes (IsArc g3.arcs) (node_at g3.node)
  pub reads : length e.reads ≤ 4
  pub writes : length e.writes ≤ 4
  pub slot : IsSlotAdded g0 g1
  pub cells : AreCellsAdded r0 r1
  pub waits : AreWaiting e.reads (length earlier) r1 r2
  pub led : AreWritersLed r2 e.writes (length earlier) g1 g2
  pub answered : AreAnswered e.writes e.writes (length earlier) g2 r2 g3 r3
  pub arcs : (o p : ℕ) → Arc (slot_access (earlier ++ e ∷ []) (g0.held ++ true ∷ [])) o p → Arc (slot_access earlier g0.held) o p ⊎ NewArc (slot_access earlier g0.held) (slot_access (earlier ++ e ∷ []) (g0.held ++ true ∷ [])) (length earlier) o p

module _ (earlier : List Entry) (e : Entry) (g0 g1 g2 g3 : Graph) (r0 r1 r2 r3 : Rows) (s : AreSteps earlier e g0 g1 g2 g3 r0 r1 r2 r3) where
  abbrev n : ℕ
  n = length earlier

  abbrev all : List Entry
  all = earlier ++ e ∷ []

  abbrev more : List Bool
  more = g0.held ++ true ∷ []

  abbrev a : Access
  a = slot_access earlier g0.held

  abbrev b : Access
  b = slot_access all more

  is : IsAdded a b n
  is = added earlier e g0.held s.linked.held

  few : AreFew all
  few = few-more earlier e g0.held s.linked.held s.linked.few s.reads s.writes

  held2 : g2.held ≡ more
  held2 = s.led.grown.held ∙ s.slot.held

  held3 : g3.held ≡ more
  held3 = s.answered.led.grown.held ∙ held2

  -- the last writers are the same
  last-same : (x : ℕ) → last_of r2 x ≡ last_of r0 x
  last-same x = ap its_slot (s.waits.last x ∙ s.cells.last x)

  if-same : (o : Option ℕ) → ((w : ℕ) → o ≡ Some w → w < n) → if_held more o ≡ if_held g0.held o
  if-same None below = refl
  if-same (Some w) below = ap (λ (h : Bool). cond h (Some w) None) (held-left earlier e g0.held s.linked.held w (below w refl))

  held-same : (x : ℕ) → last_held more r2 x ≡ last_held g0.held r0 x
  held-same x = ap (if_held more) (last-same x) ∙ if-same (last_of r0 x) (s.linked.rows_are.below x)

  -- who wrote last, where the entry is not there yet
  last-is : (x : ℕ) → MatchOption (last_held more r2 x) (NoWriter a x) (λ w. IsLastWriter a x w)
  last-is x = subst (λ (o : Option ℕ). MatchOption o (NoWriter a x) (λ w. IsLastWriter a x w)) (sym (held-same x)) (s.linked.rows_are.last x)

  last-some : (x w : ℕ) → last_held more r2 x ≡ Some w → IsLastWriter a x w
  last-some x w q = subst (λ (o : Option ℕ). MatchOption o (NoWriter a x) (λ w. IsLastWriter a x w)) q (last-is x)

  last-none : (x : ℕ) → last_held more r2 x ≡ None → NoWriter a x
  last-none x q = subst (λ (o : Option ℕ). MatchOption o (NoWriter a x) (λ w. IsLastWriter a x w)) q (last-is x)

  some-last : (x w : ℕ) (o : Option ℕ) → last_held more r2 x ≡ o → IsLastWriter a x w → last_held more r2 x ≡ Some w
  some-last x w None q last = absurd (both_ways _ (last-none x q w) last.0)
  some-last x w (Some v) q last = q ∙ ap (λ (k : ℕ). Some k) (last-one a x v w (last-some x v q) last)

  none-last : (x : ℕ) (o : Option ℕ) → last_held more r2 x ≡ o → NoWriter a x → last_held more r2 x ≡ None
  none-last x None q none = q
  none-last x (Some v) q none = absurd (both_ways _ (none v) (last-some x v q).0)

  -- what waits is a cell of a read
  waits-is : (x c : ℕ) → IsTrue (is_among c (waiting_of r2 x)) → (c / 8 ≤ n) × IsReadCell all c x × (IsTrue (held_at more (c / 8)) → NoWriterFrom a x (c / 8))
  waits-is x c t = elim (s.waits.only x c t) [
    | inl yet ↦
        let was = s.linked.rows_are.only x c (subst (λ (xs : List ℕ). IsTrue (is_among c xs)) (s.cells.waiting x) yet) in
        let cell = read-cell-kept earlier e g0.held s.linked.held c x was.0 in
        (omega (arith, cell.0), cell.1, (λ h. was.1 (sym (held-left earlier e g0.held s.linked.held (c / 8) cell.0) ∙ h)))
    | inr new ↦
        let cell = read-cell-new earlier e g0.held s.linked.held c x s.reads new in
        (omega (arith, cell.0), cell.1, (λ h q le. is.no_writes q x (omega (arith, le, cell.0))))
  ]

  -- each read of a version that nobody overwrote has a cell that waits
  waits-all : (x o : ℕ) → IsTrue (b.reads o x) → NoWriterFrom a x o → (c : ℕ) × (c / 8 ≡ o) × IsTrue (is_among c (waiting_of r2 x))
  waits-all x o r none = elim (reads-of a b n is o x r) [
    | inl old ↦
        let c = s.linked.rows_are.all x o old.1 none in
        (c.0, c.1, s.waits.there x c.0 (inl (subst (λ (xs : List ℕ). IsTrue (is_among c.0 xs)) (sym (s.cells.waiting x)) c.2)))
    | inr q ↦
        let there : IsTrue (is_among x e.reads) = sym (reads-new earlier e g0.held s.linked.held x) ∙ subst (λ (k : ℕ). IsTrue (b.reads k x)) q r in
        let c : ℕ = 8 * n + place_in x e.reads in
        let cell = read-cell-made earlier e g0.held s.linked.held x there in
        (c, (read-cell-new earlier e g0.held s.linked.held c x s.reads cell).0 ∙ sym q, s.waits.there x c (inr cell))
  ]

  -- the arcs before
  arc-before : (c : ℕ) → arc_at g1.arcs c ≡ arc_at g0.arcs c
  arc-before c = ap (λ (arcs : List (Option ℕ)). arc_at arcs c) s.slot.arcs ∙ arc-same g0.arcs 8 c

  kept : (c p : ℕ) → arc_at g0.arcs c ≡ Some p → arc_at g3.arcs c ≡ Some p
  kept c p q = s.answered.led.grown.arcs c p (s.led.grown.arcs c p (arc-before c ∙ q))

  writes-b : (x : ℕ) → IsTrue (is_among x e.writes) → IsTrue (b.writes n x)
  writes-b x t = writes-new earlier e g0.held s.linked.held x ∙ t

  -- the last writer's cell
  written-cell : (x w : ℕ) → IsLastWriter a x w → (write_cell earlier w x / 8 ≡ w) × IsWriteCell all (write_cell earlier w x) x
  written-cell x w last =
      let there = (and_parts (held_at g0.held w) (is_among x (writes_of earlier w)) last.0).1 in
      let few_w = (s.linked.few w).1 in
      (write-slot earlier w x there few_w, write-cell-kept earlier e g0.held s.linked.held (write_cell earlier w x) x (write-cell-is earlier w x there few_w))

  -- the cell of the last write, where the entry is not there yet
  cell-was : (x c : ℕ) → last_cell_of r2 x ≡ Some c → c ≡ write_cell earlier (c / 8) x
  cell-was x c q = s.linked.rows_are.cells x c (sym (s.waits.last x ∙ s.cells.last x) ∙ q)

  -- each arc is one that the definitions have
  leads2 : (c p : ℕ) → arc_at g2.arcs c ≡ Some p → CellLeads b all c p
  leads2 c p q = elim (s.led.only c p q) [
    | inl yet ↦ leads-kept earlier e g0.held s.linked.held c p (s.linked.arcs.only c p (sym (arc-before c) ∙ yet))
    | inr new ↦
        let x = new.0.0 in
        let at = new.0.2 in
        let h : IsTrue (held_at more (c / 8)) = subst (λ (hs : List Bool). IsTrue (held_at hs (c / 8))) s.slot.held at.1 in
        let last = last-some x (c / 8) (ap (λ (o : Option ℕ). if_held more (its_slot o)) at.0 ∙ cond-true (held_at more (c / 8)) (Some (c / 8)) None h) in
        let leads = write-new a b n is x (c / 8) last (writes-b x new.0.1) in (
          x,
          inr (
            subst (λ (k : ℕ). IsWriteCell all k x) (sym (cell-was x c at.0)) (written-cell x (c / 8) last).1,
            subst (λ (k : ℕ). WriteLeads b x (c / 8) k) (sym new.1) leads,
          ),
        )
  ]

  -- where a cell that waits leads
  version-leads : (x c : ℕ) (o : Option ℕ) → last_held more r2 x ≡ o → IsTrue (is_among x e.writes) → IsTrue (is_among c (waiting_of r2 x)) → IsTrue (held_at more (c / 8)) → (c / 8 ≡ unwrap_or o n → ⊥) → ReadLeads b x (c / 8) (unwrap_or o n)
  version-leads x c None q written t h off =
      let w = waits-is x c t in
      read-first a b n is x (c / 8) (reads-at earlier e g0.held s.linked.held c x w.1 h) (elim (cases_eq (c / 8) n) [ inl e ↦ absurd (off e) | inr ne ↦ omega (arith, w.0, ne) ]) (last-none x q) (writes-b x written)
  version-leads x c (Some v) q written t h off =
      let w = waits-is x c t in
      read-version a b n is x (c / 8) v (reads-at earlier e g0.held s.linked.held c x w.1 h) w.0 (w.2 h) (last-some x v q) (writes-b x written)

  leads3 : (c p : ℕ) → arc_at g3.arcs c ≡ Some p → CellLeads b all c p
  leads3 c p q = elim (s.answered.led.only c p q) [
    | inl yet ↦ leads2 c p yet
    | inr new ↦
        let x = new.0 in
        let o : Option ℕ = last_held more r2 x in
        let ver : version_of g2.held r2 n x ≡ unwrap_or o n = ap (λ (h : List Bool). unwrap_or (last_held h r2 x) n) held2 in
        let h : IsTrue (held_at more (c / 8)) = subst (λ (hs : List Bool). IsTrue (held_at hs (c / 8))) held2 new.2.1 in
        let leads = version-leads x c o refl new.1 new.2.0 h (subst (λ (k : ℕ). c / 8 ≡ k → ⊥) ver new.2.2) in
        (x, inl ((waits-is x c new.2.0).1, subst (λ (k : ℕ). ReadLeads b x (c / 8) k) (sym (new.3 ∙ ver)) leads))
  ]

  -- a cell of a write has one arc at most
  write-led : (x o p c : ℕ) → IsWriteCell all c x → c / 8 ≡ o → WriteLeads b x o p → IsSome (arc_at g3.arcs c) → arc_at g3.arcs c ≡ Some p
  write-led x o p c cell at leads some =
      let v = some-value (arc_at g3.arcs c) some in
      let l = leads3 c v.0 v.1 in
      elim l.1 [
        | inl r ↦ absurd (not-both all c l.0 x (few (c / 8)).0 r.0 cell)
        | inr w ↦
            let same : l.0 ≡ x = some-is l.0 x (sym w.0.1 ∙ cell.1) in
            let to : v.0 ≡ p = write-one b x o v.0 p (subst (λ (k : ℕ). WriteLeads b x k v.0) at (subst (λ (y : ℕ). WriteLeads b y (c / 8) v.0) same w.1)) leads in
            v.1 ∙ ap (λ (k : ℕ). Some k) to
      ]

  read-arc : (x o p c : ℕ) → IsReadCell all c x → c / 8 ≡ o → ReadLeads b x o p → IsSome (arc_at g3.arcs c) → IsArc g3.arcs o p
  read-arc x o p c cell at leads some =
      let v = some-value (arc_at g3.arcs c) some in
      let l = leads3 c v.0 v.1 in
      elim l.1 [
        | inl r ↦
            let same : l.0 ≡ x = some-is l.0 x (sym r.0 ∙ cell) in
            let to : v.0 ≡ p = read-one b x o v.0 p (subst (λ (k : ℕ). ReadLeads b x k v.0) at (subst (λ (y : ℕ). ReadLeads b y (c / 8) v.0) same r.1)) leads in
            (c, at, v.1 ∙ ap (λ (k : ℕ). Some k) to)
        | inr w ↦ absurd (not-both all c x l.0 (few (c / 8)).0 cell w.0)
      ]

  last-cell : (x w : ℕ) (o : Option ℕ) → last_cell_of r2 x ≡ o → its_slot o ≡ Some w → last_cell_of r2 x ≡ Some (write_cell earlier w x)
  last-cell x w None q slot = absurd (none-some w slot)
  last-cell x w (Some c) q slot = q ∙ ap (λ (k : ℕ). Some k) (cell-was x c q ∙ ap (λ (k : ℕ). write_cell earlier k x) (some-is (c / 8) w slot))

  -- the last writer's cell has an arc
  last-led : (x w : ℕ) → IsTrue (is_among x e.writes) → IsLastWriter a x w → IsSome (arc_at g3.arcs (write_cell earlier w x))
  last-led x w there last =
      let at = some-last x w (last_held more r2 x) refl last in
      let h = held-some more (last_of r2 x) w at in
      let c = last-cell x w (last_cell_of r2 x) refl h.0 in
      let held : IsTrue (held_at g1.held (write_cell earlier w x / 8)) = subst (λ (hs : List Bool). IsTrue (held_at hs (write_cell earlier w x / 8))) (sym s.slot.held) (subst (λ (k : ℕ). IsTrue (held_at more k)) (sym (written-cell x w last).0) h.1) in
      let some = s.led.here (write_cell earlier w x) n ((x, there, (c, held)), refl) in
      let v = some-value (arc_at g2.arcs (write_cell earlier w x)) some in
      is-some (arc_at g3.arcs (write_cell earlier w x)) v.0 (s.answered.led.grown.arcs (write_cell earlier w x) v.0 v.1)

  -- who waited has an arc to the version
  reader-led : (x o p : ℕ) → IsTrue (is_among x e.writes) → IsTrue (b.reads o x) → NoWriterFrom a x o → unwrap_or (last_held more r2 x) n ≡ p → (o ≡ p → ⊥) → ReadLeads b x o p → IsArc g3.arcs o p
  reader-led x o p there r none ver off leads =
      let c = waits-all x o r none in
      let at : c.0 / 8 ≡ o = c.1 in
      let same : version_of g2.held r2 n x ≡ p = ap (λ (h : List Bool). unwrap_or (last_held h r2 x) n) held2 ∙ ver in
      let h : IsTrue (held_at g2.held (c.0 / 8)) = subst (λ (hs : List Bool). IsTrue (held_at hs (c.0 / 8))) (sym held2) (subst (λ (k : ℕ). IsTrue (held_at more k)) (sym at) (and_parts (held_at more o) (is_among x (reads_of all o)) r).0) in
      let some = s.answered.led.here c.0 (version_of g2.held r2 n x) (x, there, (c.2, h, (λ q. off (sym at ∙ q ∙ same))), refl) in
      read-arc x o p c.0 (waits-is x c.0 c.2).1 at leads some

  arc-new : (o p : ℕ) → NewArc a b n o p → IsArc g3.arcs o p
  arc-new o p (From_writer x w last q) =
      let there : IsTrue (is_among x e.writes) = sym (writes-new earlier e g0.held s.linked.held x) ∙ w in
      let cell = written-cell x o last in
      subst (λ (k : ℕ). IsArc g3.arcs o k) (sym q) (write_cell earlier o x, cell.0, write-led x o n (write_cell earlier o x) cell.1 cell.0 (write-new a b n is x o last w) (last-led x o there last))
  arc-new o p (To_version x w r none last) =
      let there : IsTrue (is_among x e.writes) = sym (writes-new earlier e g0.held s.linked.held x) ∙ w in
      let le : o ≤ n = held-below earlier e g0.held s.linked.held o (and_parts (held_at more o) (is_among x (reads_of all o)) r).0 in
      let leads = read-version a b n is x o p r le none last w in
      reader-led x o p there r none (ap (λ (v : Option ℕ). unwrap_or v n) (some-last x p (last_held more r2 x) refl last)) (λ q. both_ways _ (none p (omega (arith, q))) last.0) leads
  arc-new o p (From_reader x w r none q) =
      let there : IsTrue (is_among x e.writes) = sym (writes-new earlier e g0.held s.linked.held x) ∙ w in
      let old = reads-kept a b n is o x r in
      subst (λ (k : ℕ). IsArc g3.arcs o k) (sym q) (
      reader-led x o n there old.1 (λ k le. none k) (ap (λ (v : Option ℕ). unwrap_or v n) (none-last x (last_held more r2 x) refl none)) (λ m. omega (arith, m, old.0)) (read-first a b n is x o old.1 old.0 none w))

  arcs-all : (o p : ℕ) → Arc b o p → IsArc g3.arcs o p
  arcs-all o p arc = elim (s.arcs o p arc) [
    | inl old ↦ let c = s.linked.arcs.all o p old in (c.0, c.1, kept c.0 p c.2)
    | inr new ↦ arc-new o p new
  ]

  -- the cell of a write leads to the next one
  next-is : (x o p : ℕ) → WriteLeads b x o p → arc_at g3.arcs (write_cell all o x) ≡ Some p
  next-is x o p w =
      let le : p ≤ n = held-below earlier e g0.held s.linked.held p (and_parts (held_at more p) (is_among x (writes_of all p)) w.1.1).0 in
      let low : o < n = omega (arith, w.1.0, le) in
      let was : IsTrue (a.writes o x) = sym (is.same_writes o x low) ∙ w.0 in
      ap (arc_at g3.arcs) (write-cell-same earlier e g0.held s.linked.held o x low) ∙ (elim (cases_eq p n) [
        | inl q ↦
            let last : IsLastWriter a x o = (
              was,
              (λ k lt. elim (cases_lt k n) [
                | inl before ↦ sym (is.same_writes k x before) ∙ w.1.2 k lt (omega (arith, before, q))
                | inr past ↦ is.no_writes k x past
              ]),
            ) in
            let there : IsTrue (is_among x e.writes) = sym (writes-new earlier e g0.held s.linked.held x) ∙ subst (λ (k : ℕ). IsTrue (b.writes k x)) q w.1.1 in
            let cell = written-cell x o last in
            write-led x o p (write_cell earlier o x) cell.1 cell.0 w (last-led x o there last)
        | inr ne ↦
            let before : p < n = omega (arith, le, ne) in
            let leads : WriteLeads a x o p = (was, (w.1.0, sym (is.same_writes p x before) ∙ w.1.1, (λ q l h. sym (is.same_writes q x (omega (arith, h, before))) ∙ w.1.2 q l h))) in
            kept (write_cell earlier o x) p (s.linked.arcs.next x o p leads)
      ])

  pub arcs-are : AreArcs b all g3.arcs
  arcs-are = record { only = leads3; all = arcs-all; next = next-is }

  not-written : (x : ℕ) → IsFalse (b.writes n x) → IsTrue (is_among x e.writes) → ⊥
  not-written x off t = both_ways _ off (writes-b x t)

  last-match : (x : ℕ) → IsFalse (b.writes n x) → (o : Option ℕ) → last_held more r2 x ≡ o → MatchOption o (NoWriter b x) (λ w. IsLastWriter b x w)
  last-match x off None q = λ k. none-kept a b n is x zero (λ m le. last-none x q m) off k (omega arith)
  last-match x off (Some w) q = last-kept a b n is x w (last-some x w q) off

  rows-last : (x : ℕ) → MatchOption (last_held more r3 x) (NoWriter b x) (λ w. IsLastWriter b x w)
  rows-last x = elim (cases_Bool (is_among x e.writes)) [
    | inl there ↦
        let c = (s.answered.written x there).1 in
        let at : last_held more r3 x ≡ Some n = ap (λ (o : Option ℕ). if_held more (its_slot o)) c.last ∙ ap (λ (k : ℕ). if_held more (Some k)) c.own.1 ∙ cond-true (held_at more n) (Some n) None (held-last earlier e g0.held s.linked.held) in
        subst (λ (o : Option ℕ). MatchOption o (NoWriter b x) (λ w. IsLastWriter b x w)) (sym at) (last-new a b n is x (writes-b x there))
    | inr off ↦
        let at : last_held more r3 x ≡ last_held more r2 x = ap (λ (o : Option ℕ). if_held more (its_slot o)) (s.answered.others x (both_ways _ off)).1 in
        let none : IsFalse (b.writes n x) = writes-new earlier e g0.held s.linked.held x ∙ off in
        subst (λ (o : Option ℕ). MatchOption o (NoWriter b x) (λ w. IsLastWriter b x w)) (sym at) (last-match x none (last_held more r2 x) refl)
  ]

  written-off : (x c : ℕ) → IsTrue (is_among c (waiting_of r3 x)) → IsFalse (is_among x e.writes)
  written-off x c t = elim (cases_Bool (is_among x e.writes)) [
    | inl there ↦ absurd (among-none c (subst (λ (xs : List ℕ). IsTrue (is_among c xs)) (s.answered.written x there).0 t))
    | inr off ↦ off
  ]

  rows-all : (x o : ℕ) → IsTrue (b.reads o x) → NoWriterFrom b x o → (c : ℕ) × (c / 8 ≡ o) × IsTrue (is_among c (waiting_of r3 x))
  rows-all x o r none =
      let le = held-below earlier e g0.held s.linked.held o (and_parts (held_at more o) (is_among x (reads_of all o)) r).0 in
      let c = waits-all x o r (none-was a b n is x o none) in
      (c.0, c.1, subst (λ (xs : List ℕ). IsTrue (is_among c.0 xs)) (sym (s.answered.others x (not-written x (none n le))).0) c.2)

  rows-only : (x c : ℕ) → IsTrue (is_among c (waiting_of r3 x)) → IsReadCell all c x × (IsTrue (held_at more (c / 8)) → NoWriterFrom b x (c / 8))
  rows-only x c t =
      let off = written-off x c t in
      let w = waits-is x c (subst (λ (xs : List ℕ). IsTrue (is_among c xs)) (s.answered.others x (both_ways _ off)).0 t) in
      (w.1, (λ h. none-kept a b n is x (c / 8) (w.2 h) (writes-new earlier e g0.held s.linked.held x ∙ off)))

  rows-below : (x w : ℕ) → last_of r3 x ≡ Some w → w < length all
  rows-below x w q =
      let size = length-append earlier (e ∷ []) in
      answered-below e.writes e.writes n (length all) g2 g3 r2 r3 s.answered (omega (arith, size)) (λ y v at. omega (arith, size, s.linked.rows_are.below y v (sym (last-same y) ∙ at))) x w q

  rows-cells : (x c : ℕ) → last_cell_of r3 x ≡ Some c → c ≡ write_cell all (c / 8) x
  rows-cells x c q = elim (cases_Bool (is_among x e.writes)) [
    | inl there ↦
        let d = (s.answered.written x there).1 in
        let same : d.cell ≡ c = some-is d.cell c (sym d.last ∙ q) in
        subst (λ (k : ℕ). k ≡ write_cell all (k / 8) x) same (d.own.0 ∙ ap (λ (xs : List ℕ). 8 * n + 4 + place_in x xs) (sym (writes-last earlier e)) ∙ ap (λ (k : ℕ). write_cell all k x) (sym d.own.1))
    | inr off ↦
        let was : last_cell_of r2 x ≡ Some c = sym (s.answered.others x (both_ways _ off)).1 ∙ q in
        let low = s.linked.rows_are.below x (c / 8) (sym (last-same x) ∙ ap its_slot was) in
        cell-was x c was ∙ sym (write-cell-same earlier e g0.held s.linked.held (c / 8) x low)
  ]

  pub rows-are : AreRows b all more r3
  rows-are = record { below = rows-below; cells = rows-cells; last = rows-last; all = rows-all; only = rows-only }

  pub linked-more : AreLinked all g3 r3
  linked-more =
      let size = length-append earlier (e ∷ []) in
      record {
        held = omega (arith, ap length held3, length-append g0.held (true ∷ []), s.linked.held, size);
        small = omega (arith, s.small, size);
        slots = s.answered.led.grown.slots ∙ s.led.grown.slots ∙ omega (arith, ap length s.slot.node, length-append g0.node (length g0.node ∷ []), s.linked.slots, size);
        cells = omega (arith, s.answered.cells, s.waits.cells, s.cells.cells, s.linked.cells, size);
        few = few;
        nodes = s.nodes;
        arcs = subst (λ (h : List Bool). AreArcs (slot_access all h) all g3.arcs) (sym held3) arcs-are;
        rows_are = subst (λ (h : List Bool). AreRows (slot_access all h) all h r3) (sym held3) rows-are;
      }
