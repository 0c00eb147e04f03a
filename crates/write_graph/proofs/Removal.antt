-- A minimal node is taken out, and each other node stays as it was.
use Rattle.std.proofs.Common.{◌≡◌, ◌∙◌, ap, sym, subst, ℕ, ◌<◌, ◌≤◌, Bool, true, false, not, List, [], ◌∷◌, length, refl, arith, inl, inr}
use Rattle.std.specs.Prelude.{IsTrue, IsFalse, ◌||◌, ◌&&◌, ◌==◌, ◌↔◌, ◌⊎◌}
use Rattle.std.specs.List.{list_any, filter}
use mathlib.Core.Path.{fun_ext}
use Rattle.std.proofs.lemmas.Bool.{cases_eq, cases_Bool, both_ways, or_left, or_cases, and_parts, and_from, eqb-true, not-true, not_from_false, false_from_ne_true}
use Rattle.std.proofs.lemmas.List.Sums.{length-filter, count_by-le-length}
use Rattle.oper_core.specs.State.{is_among}
use Rattle.install_order.specs.declared.entry.Entry.{Entry}
use Rattle.install_order.specs.Order.{Access, Edge, Reaches, IsNode, NoEdgeInto, flush_set_of, within}
use Rattle.install_order.specs.Order.Edge.{Read_write, Write_write, Lost_version}
use Rattle.install_order.specs.Order.Reaches.{Here, Then}
use Rattle.install_order.specs.Entries.{accesses, reads_at, writes_at}
use Rattle.install_order.specs.NodeLaws.{node-unique, walk-on, walk-in}
use Rattle.write_graph.specs.Graph.{lsns, IsNodeNamed}
use Rattle.write_graph.proofs.Held.{among-filter, lsns-filter}

-- the LSNs outside the node
abbrev pub outside : (ℕ → Bool) → ℕ → Bool
outside node n = not (node n)

-- what is no write and not outside either
no-write : (node : ℕ → Bool) (a : Access) (n x : ℕ) → IsFalse (outside node n && a.writes n x) → IsFalse (node n) → IsFalse (a.writes n x)
no-write node a n x off out = false_from_ne_true _ (λ w. both_ways _ off (and_from _ _ (not_from_false _ out) w))

no-write-within : (node : ℕ → Bool) (a : Access) (n x : ℕ) → IsFalse (a.writes n x) → IsFalse (outside node n && a.writes n x)
no-write-within node a n x off = false_from_ne_true _ (λ w. both_ways _ off (and_parts (outside node n) _ w).1)

-- each LSN is in the node or not
in-or-out : (node : ℕ → Bool) (n : ℕ) → IsTrue (node n) ⊎ IsFalse (node n)
in-or-out node n = cases_Bool (node n)

-- an edge between LSNs outside stays
stays : (a : Access) (node : ℕ → Bool) → NoEdgeInto a node → (o p : ℕ) → IsFalse (node o) → IsFalse (node p) → Edge a o p → Edge (within (outside node) a) o p
stays a node none o p out out_p (Read_write x lt r w) = Read_write x lt (and_from _ _ (not_from_false _ out) r) (and_from _ _ (not_from_false _ out_p) w)
stays a node none o p out out_p (Write_write x lt v w) = Write_write x lt (and_from _ _ (not_from_false _ out) v) (and_from _ _ (not_from_false _ out_p) w)
stays a node none o p out out_p (Lost_version x later lt w between r le wl) =
    let out_later : IsFalse (node later) = false_from_ne_true _ (λ there. elim (cases_eq o later) [
      | inl e ↦ both_ways _ out (subst (λ (k : ℕ). IsTrue (node k)) (sym e) there)
      | inr ne ↦ none o later out there (Read_write x (omega arith) r wl)
    ]) in
    Lost_version x later lt (and_from _ _ (not_from_false _ out_p) w) (λ q low high. no-write-within node a q x (between q low high)) (and_from _ _ (not_from_false _ out) r) le (and_from _ _ (not_from_false _ out_later) wl)

-- the edges that stay are those from outside the node
edge-stays : (a : Access) (node : ℕ → Bool) → NoEdgeInto a node → (o p : ℕ) → IsFalse (node o) → Edge a o p → Edge (within (outside node) a) o p
edge-stays a node none o p out edge =
    let out_p : IsFalse (node p) = false_from_ne_true _ (λ there. none o p out there edge) in
    stays a node none o p out out_p edge

edge-was : (a : Access) (node : ℕ → Bool) → NoEdgeInto a node → (o p : ℕ) → Edge (within (outside node) a) o p → IsFalse (node o) × Edge a o p
edge-was a node none o p (Read_write x lt r w) =
    let s = and_parts (outside node o) _ r in
    let t = and_parts (outside node p) _ w in
    (not-true _ s.0, Read_write x lt s.1 t.1)
edge-was a node none o p (Write_write x lt v w) =
    let s = and_parts (outside node o) _ v in
    let t = and_parts (outside node p) _ w in
    (not-true _ s.0, Write_write x lt s.1 t.1)
edge-was a node none o p (Lost_version x later lt w between r le wl) =
    let s = and_parts (outside node o) _ r in
    let t = and_parts (outside node p) _ w in
    let u = and_parts (outside node later) _ wl in (
      not-true _ s.0,
      Lost_version x later lt t.1 (λ q low high. elim (in-or-out node q) [
        | inl there ↦ false_from_ne_true _ (λ wq. none p q (not-true _ t.0) there (Write_write x low t.1 wq))
        | inr out ↦ no-write node a q x (between q low high) out
      ]) s.1 le u.1,
    )

pub edges-left : (a : Access) (node : ℕ → Bool) → NoEdgeInto a node → (o p : ℕ) → Edge (within (outside node) a) o p ↔ (IsFalse (node o) × Edge a o p)
edges-left a node none o p = (edge-was a node none o p, (λ both. edge-stays a node none o p both.0 both.1))

-- a walk from outside stays
walk-stays : (a : Access) (node : ℕ → Bool) → NoEdgeInto a node → (o p : ℕ) → IsFalse (node o) → Reaches a o p → Reaches (within (outside node) a) o p
walk-stays a node none o p out Here = Here
walk-stays a node none o p out (Then m q walk edge) = Then m q (walk-stays a node none o m out walk) (edge-stays a node none m q (walk-in a node o m none out walk) edge)

walk-was : (a : Access) (node : ℕ → Bool) → NoEdgeInto a node → (o p : ℕ) → Reaches (within (outside node) a) o p → Reaches a o p
walk-was a node none o p Here = Here
walk-was a node none o p (Then m q walk edge) = Then m q (walk-was a node none o m walk) (edge-was a node none m q edge).1

-- a node by any of its numbers
at-member : (a : Access) (node : ℕ → Bool) (n : ℕ) → IsNode a node → IsTrue (node n) → ((k : ℕ) → IsTrue (node k) → Reaches a n k × Reaches a k n) × ((k : ℕ) → Reaches a n k → Reaches a k n → IsTrue (node k))
at-member a node n is there =
    let u = is.2 n there in (
      (λ k in_k. let v = is.2 k in_k in (walk-on a n is.0 k u.1 v.0, walk-on a k is.0 n v.1 u.0)),
      (λ k f g. is.3 k (walk-on a is.0 n k u.0 f) (walk-on a k n is.0 g u.1)),
    )

node-was : (a : Access) (node other : ℕ → Bool) (k : ℕ) → NoEdgeInto a node → IsFalse (node k) → IsTrue (other k) → IsNode (within (outside node) a) other → IsNode a other
node-was a node other k none out there is =
    let m = at-member (within (outside node) a) other k is there in (
      k,
      there,
      (λ p held. let u = m.0 p held in (walk-was a node none k p u.0, walk-was a node none p k u.1)),
      (λ p f g. m.1 p (walk-stays a node none k p out f) (walk-stays a node none p k (walk-in a node k p none out f) g)),
    )

node-stays : (a : Access) (node other : ℕ → Bool) (k : ℕ) → NoEdgeInto a node → IsFalse (node k) → IsTrue (other k) → IsNode a other → IsNode (within (outside node) a) other
node-stays a node other k none out there is =
    let m = at-member a other k is there in (
      k,
      there,
      (λ p held. let u = m.0 p held in (walk-stays a node none k p out u.0, walk-stays a node none p k (walk-in a node k p none out u.0) u.1)),
      (λ p f g. m.1 p (walk-was a node none k p f) (walk-was a node none p k g)),
    )

-- what is left of a list whose entries in the node are taken out
abbrev pub left : (ℕ → Bool) → List Entry → List Entry
left node entries = filter (λ e. not (node e.lsn)) entries

access-eq : (a b : Access) → a.reads ≡ b.reads → a.writes ≡ b.writes → a ≡ b
access-eq a b r w =
    let make : (ℕ → ℕ → Bool) → (ℕ → ℕ → Bool) → Access = λ f g. record { reads = f; writes = g } in
    ap (λ (f : ℕ → ℕ → Bool). make f a.writes) r ∙ ap (make b.reads) w

and-false : (b : Bool) → (b && false) ≡ false
and-false true = refl
and-false false = refl

-- what an entry of an LSN does is left where the LSN is outside
any-left : (node : ℕ → Bool) (t : Entry → Bool) (entries : List Entry) (n : ℕ) → list_any (λ e. (e.lsn == n) && t e) (left node entries) ≡ (outside node n && list_any (λ e. (e.lsn == n) && t e) entries)
any-left node t [] n = sym (and-false (outside node n))
any-left node t (e ∷ entries) n =
    let p : Entry → Bool = λ f. (f.lsn == n) && t f in
    let rest = any-left node t entries n in
    elim (cases_Bool (outside node e.lsn)) [
      | inl out ↦ rw out (elim (cases_Bool ((e.lsn == n) && t e)) [
        | inl here ↦
            let same : e.lsn ≡ n = eqb-true e.lsn n (and_parts (e.lsn == n) (t e) here).0 in
            let out_n : IsTrue (outside node n) = subst (λ (k : ℕ). IsTrue (outside node k)) same out in
            or_left (p e) _ here ∙ sym (and_from (outside node n) (p e || list_any p entries) out_n (or_left (p e) _ here))
        | inr off ↦ rw off rest
      ])
      | inr off ↦ rw off (elim (cases_Bool ((e.lsn == n) && t e)) [
        | inl here ↦
            let same : e.lsn ≡ n = eqb-true e.lsn n (and_parts (e.lsn == n) (t e) here).0 in
            let off_n : IsFalse (outside node n) = subst (λ (k : ℕ). IsFalse (outside node k)) same off in
            rest ∙ ap (λ (b : Bool). b && list_any p entries) off_n ∙ sym (ap (λ (b : Bool). b && (p e || list_any p entries)) off_n)
        | inr no_e ↦ rw no_e rest
      ])
    ]

writes-left : (node : ℕ → Bool) (entries : List Entry) → writes_at (left node entries) ≡ (within (outside node) (accesses entries)).writes
writes-left node entries = fun_ext (λ n. fun_ext (λ x. any-left node (λ e. is_among x e.writes) entries n))

reads-left : (node : ℕ → Bool) (entries : List Entry) → reads_at (left node entries) ≡ (within (outside node) (accesses entries)).reads
reads-left node entries = fun_ext (λ n. fun_ext (λ x. any-left node (λ e. is_among x e.reads) entries n))

pub accesses-left : (node : ℕ → Bool) (entries : List Entry) → accesses (left node entries) ≡ within (outside node) (accesses entries)
accesses-left node entries = access-eq (accesses (left node entries)) (within (outside node) (accesses entries)) (reads-left node entries) (writes-left node entries)

pub held-left : (node : ℕ → Bool) (entries : List Entry) (k : ℕ) → IsTrue (is_among k (lsns (left node entries))) ↔ (IsTrue (is_among k (lsns entries)) × IsTrue (outside node k))
held-left node entries k = subst (λ (ns : List ℕ). IsTrue (is_among k ns) ↔ (IsTrue (is_among k (lsns entries)) × IsTrue (outside node k))) (sym (lsns-filter (outside node) entries)) (among-filter (outside node) (lsns entries) k)

-- the nodes that are left are the others
pub nodes-left : (entries : List Entry) (n : ℕ) (node : ℕ → Bool) → IsNodeNamed entries n node → NoEdgeInto (accesses entries) node → (k : ℕ) (other : ℕ → Bool) →
    IsNodeNamed (left node entries) k other ↔ (IsNodeNamed entries k other × (k ≡ n → ⊥))
nodes-left entries n node named none k other =
    let a = accesses entries in
    let same = accesses-left node entries in
    let held = held-left node entries k in (
      (λ is.
          let h = held.0 is.held in
          let out : IsFalse (node k) = not-true _ h.1 in (
            record {
              held = h.0;
              is_node = node-was a node other k none out is.is_name.0 (subst (λ (b : Access). IsNode b other) same is.is_node);
              is_name = is.is_name;
            },
            λ e. both_ways _ out (subst (λ (j : ℕ). IsTrue (node j)) (sym e) named.is_name.0),
          )),
      (λ both.
          let is = both.0 in
          let out : IsFalse (node k) = false_from_ne_true _ (λ there.
          let eq : other ≡ node = node-unique a other node k is.is_node named.is_node is.is_name.0 there in
          let low : n ≤ k = named.is_name.1 k there in
          let high : k ≤ n = is.is_name.1 n (subst (λ (s : ℕ → Bool). IsTrue (s n)) (sym eq) named.is_name.0) in
          both.1 (omega arith)) in
          record {
            held = held.1 (is.held, not_from_false _ out);
            is_node = subst (λ (b : Access). IsNode b other) (sym same) (node-stays a node other k none out is.is_name.0 is.is_node);
            is_name = is.is_name;
          }),
    )

-- the objects that another node flushes stay
flush-left : (a : Access) (node other : ℕ → Bool) (x : ℕ) → NoEdgeInto a node → ((m : ℕ) → IsTrue (other m) → IsFalse (node m)) → flush_set_of (within (outside node) a) other x ↔ flush_set_of a other x
flush-left a node other x none apart = (
  (λ s.
      let w = (and_parts (outside node s.0) (a.writes s.0 x) s.2.0).1 in (
        s.0,
        s.1,
        (
          w,
          λ later lt. elim (in-or-out node later) [
            | inl there ↦ false_from_ne_true _ (λ wl. none s.0 later (apart s.0 s.1) there (Write_write x lt w wl))
            | inr out ↦ no-write node a later x (s.2.1 later lt) out
          ],
        ),
      )),
  (λ s. (s.0, s.1, (and_from (outside node s.0) (a.writes s.0 x) (not_from_false _ (apart s.0 s.1)) s.2.0, λ later lt. no-write-within node a later x (s.2.1 later lt)))),
)

pub flush-sets-left : (entries : List Entry) (n : ℕ) (node : ℕ → Bool) → IsNodeNamed entries n node → NoEdgeInto (accesses entries) node → (k : ℕ) (other : ℕ → Bool) (x : ℕ) → IsNodeNamed (left node entries) k other →
    flush_set_of (accesses (left node entries)) other x ↔ flush_set_of (accesses entries) other x
flush-sets-left entries n node named none k other x is =
    let a = accesses entries in
    let was = ((nodes-left entries n node named none k other).0 is).0 in
    let out : IsFalse (node k) = not-true _ ((held-left node entries k).0 is.held).1 in
    let members = at-member a other k was.is_node is.is_name.0 in
    subst (λ (b : Access). flush_set_of b other x ↔ flush_set_of a other x) (sym (accesses-left node entries)) (flush-left a node other x none (λ m there. walk-in a node k m none out (members.0 m there).0))

pub entries-edges-left : (entries : List Entry) (node : ℕ → Bool) → NoEdgeInto (accesses entries) node → (o p : ℕ) → Edge (accesses (left node entries)) o p ↔ (IsFalse (node o) × Edge (accesses entries) o p)
entries-edges-left entries node none o p = subst (λ (b : Access). Edge b o p ↔ (IsFalse (node o) × Edge (accesses entries) o p)) (sym (accesses-left node entries)) (edges-left (accesses entries) node none o p)

-- where an LSN is in the node, there are fewer
pub left-fewer : (node : ℕ → Bool) (entries : List Entry) (n : ℕ) → IsTrue (node n) → IsTrue (is_among n (lsns entries)) → length (left node entries) < length entries
left-fewer node [] n in_node held = absurd (both_ways _ refl held)
left-fewer node (e ∷ entries) n in_node held = elim (or_cases (n == e.lsn) (is_among n (lsns entries)) held) [
  | inl same ↦
      let there : IsTrue (node e.lsn) = subst (λ (k : ℕ). IsTrue (node k)) (eqb-true n e.lsn same) in_node in
      let le = length-filter (λ (f : Entry). not (node f.lsn)) entries in
      let few = count_by-le-length (λ (f : Entry). not (node f.lsn)) entries in
      rw there (omega (arith, le, few))
  | inr more ↦
      let lt = left-fewer node entries n in_node more in
      elim (cases_Bool (node e.lsn)) [ inl there ↦ rw there (omega (arith, lt)) | inr out ↦ rw out (omega (arith, lt)) ]
]
