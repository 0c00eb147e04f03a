-- where the last writer is gone, so are all
use Rattle.std.proofs.Common.{◌≡◌, ◌∙◌, ap, sym, subst, ℕ, ◌/◌, Bool, true, false, not, List, length, Option, Some, None, refl, arith, inl, inr}
use Rattle.std.specs.Prelude.{IsTrue, IsFalse, ◌==◌, ◌&&◌, MatchOption}
use mathlib.Core.Path.{fun_ext}
use Rattle.std.proofs.lemmas.Bool.{cases_Bool, cases_eq, cases_lt, both_ways, and_parts, and_from, eqb-true, eq-eqb, not-true, not_from_false, false_from_ne_true, cond-true, cond-false}
use Rattle.oper_core.specs.State.{is_among}
use Rattle.install_order.specs.declared.entry.Entry.{Entry}
use Rattle.install_order.specs.Order.{Access, IsLastWriter, Edge, within, NoEdgeInto}
use Rattle.install_order.specs.Order.Edge.{Read_write, Write_write, Lost_version}
use Rattle.install_order.specs.Arcs.{Arc}
use Rattle.install_order.specs.Digraph.{AreNodes}
use Rattle.install_order.specs.More.{NoWriter, NoWriterFrom}
use Rattle.graph_nodes.specs.Arcs.{arc_at, node_at, held_at, IsArc}
use Rattle.graph_nodes.specs.Named.{Graph}
use Rattle.graph_nodes.specs.Removed.{IsRemoved}
use Rattle.write_graph.specs.Cells.{reads_of, writes_of, slot_access, write_cell, ReadLeads, WriteLeads, CellLeads}
use Rattle.write_graph.specs.Rows.{Rows, last_of, waiting_of, if_held}
use Rattle.write_graph.specs.Linked.{AreLinked}
use Rattle.write_graph.proofs.Loops.{none-some}
use Rattle.write_graph.proofs.Led.{write-slot}

-- the slots of the node m
abbrev pub in_node : Graph → ℕ → ℕ → Bool
in_node g m k = node_at g.node k == m

pub in-node : (g : Graph) (m k : ℕ) → IsTrue (in_node g m k) → node_at g.node k ≡ m
in-node g m k t = eqb-true (node_at g.node k) m t

pub node-in : (g : Graph) (m k : ℕ) → node_at g.node k ≡ m → IsTrue (in_node g m k)
node-in g m k e = eq-eqb (node_at g.node k) m e

pub off-node : (g : Graph) (m k : ℕ) → IsFalse (in_node g m k) → node_at g.node k ≡ m → ⊥
off-node g m k off e = both_ways _ off (node-in g m k e)

-- who is held after a removal
pub held-after : (old : Graph) (m : ℕ) (new : Graph) → IsRemoved old m new → (k : ℕ) → held_at new.held k ≡ (not (in_node old m k) && held_at old.held k)
held-after old m new is k = elim (cases_Bool (in_node old m k)) [
  | inl there ↦ is.held_gone k (in-node old m k there) ∙ sym (ap (λ (g : Bool). not g && held_at old.held k) there)
  | inr off ↦ is.held_left k (off-node old m k off) ∙ sym (ap (λ (g : Bool). not g && held_at old.held k) off)
]

-- outside a set without an edge into it
module _ (a b : Access) (gone : ℕ → Bool) (none : NoEdgeInto a gone) (same_reads : (k x : ℕ) → b.reads k x ≡ (not (gone k) && a.reads k x)) (same_writes : (k x : ℕ) → b.writes k x ≡ (not (gone k) && a.writes k x)) where
  pub same-access : b ≡ within (λ k. not (gone k)) a
  same-access = λ i. record { reads = fun_ext (λ k. fun_ext (λ x. same_reads k x)) i; writes = fun_ext (λ k. fun_ext (λ x. same_writes k x)) i }

  still-writes : (k x : ℕ) → IsFalse (gone k) → IsTrue (a.writes k x) → IsTrue (b.writes k x)
  still-writes k x out w = same_writes k x ∙ and_from _ _ (not_from_false _ out) w

  still-reads : (k x : ℕ) → IsFalse (gone k) → IsTrue (a.reads k x) → IsTrue (b.reads k x)
  still-reads k x out w = same_reads k x ∙ and_from _ _ (not_from_false _ out) w

  pub was-writes : (k x : ℕ) → IsTrue (b.writes k x) → IsFalse (gone k) × IsTrue (a.writes k x)
  was-writes k x w = let u = and_parts (not (gone k)) (a.writes k x) (sym (same_writes k x) ∙ w) in (not-true _ u.0, u.1)

  pub was-reads : (k x : ℕ) → IsTrue (b.reads k x) → IsFalse (gone k) × IsTrue (a.reads k x)
  was-reads k x w = let u = and_parts (not (gone k)) (a.reads k x) (sym (same_reads k x) ∙ w) in (not-true _ u.0, u.1)

  fewer-writes : (k x : ℕ) → IsFalse (a.writes k x) → IsFalse (b.writes k x)
  fewer-writes k x off = false_from_ne_true _ (λ w. both_ways _ off (was-writes k x w).1)

  stays-out : (o q : ℕ) → IsFalse (gone o) → Edge a o q → IsFalse (gone q)
  stays-out o q out edge = false_from_ne_true _ (λ there. none o q out there edge)

  -- what a cell of a slot outside leads to is the same
  pub write-stays : (x o p : ℕ) → IsFalse (gone o) → WriteLeads a x o p → WriteLeads b x o p
  write-stays x o p out w =
      let out_p = stays-out o p out (Write_write x w.1.0 w.0 w.1.1) in
      (still-writes o x out w.0, (w.1.0, still-writes p x out_p w.1.1, (λ q l h. fewer-writes q x (w.1.2 q l h))))

  -- and was the same
  pub write-was : (x o p : ℕ) → WriteLeads b x o p → IsFalse (gone o) × WriteLeads a x o p
  write-was x o p w =
      let at_o = was-writes o x w.0 in
      let at_p = was-writes p x w.1.1 in (
        at_o.0,
        (
          at_o.1,
          (
            w.1.0,
            at_p.1,
            (λ q l h. false_from_ne_true _ (λ v. elim (cases_Bool (gone q)) [
              | inl there ↦ none o q at_o.0 there (Write_write x l at_o.1 v)
              | inr out ↦ both_ways _ (w.1.2 q l h) (still-writes q x out v)
            ])),
          ),
        ),
      )

  pub read-stays : (x o p : ℕ) → IsFalse (gone o) → ReadLeads a x o p → ReadLeads b x o p
  read-stays x o p out r = (
    still-reads o x out r.0,
    elim r.1 [
      | inl v ↦
          let out_p = stays-out o p out (Lost_version x v.1.0 v.0.0 v.0.1 v.0.2 r.0 v.1.1 v.1.2) in
          let out_later : IsFalse (gone v.1.0) = elim (cases_eq o v.1.0) [
            | inl e ↦ subst (λ (k : ℕ). IsFalse (gone k)) e out
            | inr ne ↦ stays-out o v.1.0 out (Read_write x (omega (arith, ne, v.1.1)) r.0 v.1.2)
          ] in
          inl ((v.0.0, still-writes p x out_p v.0.1, (λ q l h. fewer-writes q x (v.0.2 q l h))), (v.1.0, v.1.1, still-writes v.1.0 x out_later v.1.2))
      | inr f ↦
          let out_p = stays-out o p out (Read_write x f.1.0 r.0 f.1.1) in
          inr ((λ q l. fewer-writes q x (f.0 q l)), (f.1.0, still-writes p x out_p f.1.1, (λ q l h. fewer-writes q x (f.1.2 q l h))))
    ],
  )

  pub last-stays : (x o : ℕ) → IsFalse (gone o) → IsLastWriter a x o → IsLastWriter b x o
  last-stays x o out last = (still-writes o x out last.0, (λ q l. fewer-writes q x (last.1 q l)))

  pub none-stays : (x : ℕ) → NoWriter a x → NoWriter b x
  none-stays x off q = fewer-writes q x (off q)

  pub none-from-stays : (x o : ℕ) → NoWriterFrom a x o → NoWriterFrom b x o
  none-from-stays x o off q le = fewer-writes q x (off q le)

  -- where the last writer is gone, so are all
  pub last-gone : (x w : ℕ) → IsTrue (gone w) → IsLastWriter a x w → NoWriter b x
  last-gone x w there last q = false_from_ne_true _ (λ v.
      let u = was-writes q x v in
      elim (cases_lt w q) [
        | inl lt ↦ both_ways _ (last.1 q lt) u.1
        | inr ge ↦ elim (cases_eq q w) [
          | inl e ↦ both_ways _ u.0 (subst (λ (k : ℕ). IsTrue (gone k)) (sym e) there)
          | inr ne ↦ none q w u.0 there (Write_write x (omega (arith, ge, ne)) u.1 last.0)
        ]
      ])

  -- a read outside whose version nobody left overwrites: nobody did
  pub none-was : (x o : ℕ) → IsFalse (gone o) → IsTrue (a.reads o x) → NoWriterFrom b x o → NoWriterFrom a x o
  none-was x o out r off q le = false_from_ne_true _ (λ w.
      let out_q : IsFalse (gone q) = elim (cases_eq o q) [
        | inl e ↦ subst (λ (k : ℕ). IsFalse (gone k)) e out
        | inr ne ↦ stays-out o q out (Read_write x (omega (arith, ne, le)) r w)
      ] in
      both_ways _ (off q le) (still-writes q x out_q w))

module _ (entries : List Entry) (old new : Graph) (rows : Rows) (m : ℕ) (linked : AreLinked entries old rows) (is : IsRemoved old m new) (size : length new.held ≡ length new.node) (nodes : AreNodes (IsArc new.arcs) (node_at new.node)) (none : NoEdgeInto (slot_access entries old.held) (in_node old m))
    (left : (o p : ℕ) → Arc (within (λ k. not (in_node old m k)) (slot_access entries old.held)) o p → IsFalse (in_node old m o) × Arc (slot_access entries old.held) o p) where
  abbrev a : Access
  a = slot_access entries old.held

  abbrev b : Access
  b = slot_access entries new.held

  abbrev gone : ℕ → Bool
  gone k = in_node old m k

  held-is : (k : ℕ) → held_at new.held k ≡ (not (gone k) && held_at old.held k)
  held-is k = held-after old m new is k

  and-and : (p q r : Bool) → ((p && q) && r) ≡ (p && (q && r))
  and-and true q r = refl
  and-and false q r = refl

  reads-same : (k x : ℕ) → b.reads k x ≡ (not (gone k) && a.reads k x)
  reads-same k x = ap (λ (h : Bool). h && is_among x (reads_of entries k)) (held-is k) ∙ and-and (not (gone k)) (held_at old.held k) (is_among x (reads_of entries k))

  writes-same : (k x : ℕ) → b.writes k x ≡ (not (gone k) && a.writes k x)
  writes-same k x = ap (λ (h : Bool). h && is_among x (writes_of entries k)) (held-is k) ∙ and-and (not (gone k)) (held_at old.held k) (is_among x (writes_of entries k))

  arc-out : (c p : ℕ) → arc_at new.arcs c ≡ Some p → IsFalse (gone (c / 8)) × (arc_at old.arcs c ≡ Some p)
  arc-out c p e = elim (cases_Bool (gone (c / 8))) [
    | inl there ↦ absurd (none-some p (sym (is.arcs_gone c (in-node old m (c / 8) there)) ∙ e))
    | inr off ↦ (off, sym (is.arcs_left c (off-node old m (c / 8) off)) ∙ e)
  ]

  leads : (c p : ℕ) → arc_at new.arcs c ≡ Some p → CellLeads b entries c p
  leads c p e =
      let o = arc-out c p e in
      let l = linked.arcs.only c p o.1 in (
        l.0,
        elim l.1 [
          | inl r ↦ inl (r.0, read-stays a b gone none reads-same writes-same l.0 (c / 8) p o.0 r.1)
          | inr w ↦ inr (w.0, write-stays a b gone none reads-same writes-same l.0 (c / 8) p o.0 w.1)
        ],
      )

  arcs-all : (o p : ℕ) → Arc b o p → IsArc new.arcs o p
  arcs-all o p arc =
      let u = left o p (subst (λ (c : Access). Arc c o p) (same-access a b gone none reads-same writes-same) arc) in
      let c = linked.arcs.all o p u.1 in
      let off : node_at old.node (c.0 / 8) ≡ m → ⊥ = λ e. off-node old m o u.0 (ap (node_at old.node) (sym c.1) ∙ e) in
      (c.0, c.1, is.arcs_left c.0 off ∙ c.2)

  next-left : (x o p : ℕ) → WriteLeads b x o p → arc_at new.arcs (write_cell entries o x) ≡ Some p
  next-left x o p w =
      let u = write-was a b gone none reads-same writes-same x o p w in
      let there = (and_parts (held_at old.held o) (is_among x (writes_of entries o)) u.1.0).1 in
      let at = write-slot entries o x there (linked.few o).1 in
      is.arcs_left (write_cell entries o x) (λ e. off-node old m o u.0 (ap (node_at old.node) (sym at) ∙ e)) ∙ linked.arcs.next x o p u.1

  last-match : (x : ℕ) (o : Option ℕ) → last_of rows x ≡ o → MatchOption (if_held new.held o) (NoWriter b x) (λ w. IsLastWriter b x w)
  last-match x None q = none-stays a b gone none reads-same writes-same x (subst (λ (o : Option ℕ). MatchOption o (NoWriter a x) (λ w. IsLastWriter a x w)) (ap (if_held old.held) q) (linked.rows_are.last x))
  last-match x (Some w) q =
      let P : Option ℕ → Type 0 = λ o. MatchOption o (NoWriter b x) (λ v. IsLastWriter b x v) in
      let was = subst (λ (o : Option ℕ). MatchOption o (NoWriter a x) (λ v. IsLastWriter a x v)) (ap (if_held old.held) q) (linked.rows_are.last x) in
      elim (cases_Bool (held_at old.held w)) [
        | inr off ↦
            let h : held_at new.held w ≡ false = false_from_ne_true _ (λ t. both_ways _ off (and_parts (not (gone w)) (held_at old.held w) (sym (held-is w) ∙ t)).1) in
            let nil = subst (λ (o : Option ℕ). MatchOption o (NoWriter a x) (λ v. IsLastWriter a x v)) (cond-false (held_at old.held w) (Some w) None off) was in
            subst P (sym (cond-false (held_at new.held w) (Some w) None h)) (none-stays a b gone none reads-same writes-same x nil)
        | inl held_w ↦
            let last = subst (λ (o : Option ℕ). MatchOption o (NoWriter a x) (λ v. IsLastWriter a x v)) (cond-true (held_at old.held w) (Some w) None held_w) was in
            elim (cases_Bool (gone w)) [
              | inl there ↦ subst P (sym (cond-false (held_at new.held w) (Some w) None (is.held_gone w (in-node old m w there)))) (last-gone a b gone none reads-same writes-same x w there last)
              | inr out ↦ subst P (sym (cond-true (held_at new.held w) (Some w) None (is.held_left w (off-node old m w out) ∙ held_w))) (last-stays a b gone none reads-same writes-same x w out last)
            ]
      ]

  rows-all : (x o : ℕ) → IsTrue (b.reads o x) → NoWriterFrom b x o → (c : ℕ) × (c / 8 ≡ o) × IsTrue (is_among c (waiting_of rows x))
  rows-all x o r nil =
      let u = was-reads a b gone none reads-same writes-same o x r in
      linked.rows_are.all x o u.1 (none-was a b gone none reads-same writes-same x o u.0 u.1 nil)

  pub linked-left : AreLinked entries new rows
  linked-left = record {
    slots = is.slots ∙ linked.slots;
    held = size ∙ is.slots ∙ linked.slots;
    small = linked.small;
    cells = linked.cells;
    few = linked.few;
    nodes = nodes;
    arcs = record { only = leads; all = arcs-all; next = next-left };
    rows_are = record {
      below = linked.rows_are.below;
      cells = linked.rows_are.cells;
      last = λ x. last-match x (last_of rows x) refl;
      all = rows-all;
      only = λ x c t.
          let w = linked.rows_are.only x c t in
          (w.0, (λ h. none-from-stays a b gone none reads-same writes-same x (c / 8) (w.1 (and_parts (not (gone (c / 8))) (held_at old.held (c / 8)) (sym (held-is (c / 8)) ∙ h)).1)));
    };
  }
