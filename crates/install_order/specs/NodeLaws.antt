-- Edges, nodes, names and flush sets are computed as they are defined, and one of the nodes is minimal.
use Rattle.std.proofs.Common.{◌≡◌, ◌∙◌, sym, subst, ℕ, zero, suc, ◌<◌, Bool, not, refl, arith, inl, inr}
use Rattle.std.specs.Prelude.{IsTrue, IsFalse, ◌||◌, ◌&&◌, ◌==◌, ◌≤◌, ◌↔◌, nat_lt, nat_le, if◌then◌else◌}
use Rattle.std.proofs.lemmas.Bool.{cases_lt, cases_eq, cases_Bool, le-ltb, both_ways, or_left, or_right, or_cases, false_from_ne_true, and_parts, and_from, eqb-true, eq-eqb, lt-ltb, ltb-true, le-leb, leb-true, not-true, not_from_false, cond-true, cond-false}
use mathlib.Core.Path.{fun_ext}
use Rattle.install_order.specs.Order.{Access, Edge, Reaches, IsNode, IsName, NoEdgeInto, IsMinimal, flush_set_of}
use Rattle.install_order.specs.Order.Edge.{Read_write, Write_write, Lost_version}
use Rattle.install_order.specs.Order.Reaches.{Here, Then}
use Rattle.install_order.specs.Computed.{some_below, edge_over, edge_test, reach, node_of, least_below, is_flushed, IsWithin}

pub some-from : (n : ℕ) (p : ℕ → Bool) (k : ℕ) → k < n → IsTrue (p k) → IsTrue (some_below n p)
some-from zero p k lt e = absurd (omega arith)
some-from (suc n) p k lt e = elim (cases_eq k n) [
  | inl q ↦ or_left (p n) (some_below n p) (subst (λ (j : ℕ). IsTrue (p j)) q e)
  | inr ne ↦ or_right (p n) (some_below n p) (some-from n p k (omega arith) e)
]

pub some-gives : (n : ℕ) (p : ℕ → Bool) → IsTrue (some_below n p) → (k : ℕ) × (k < n) × IsTrue (p k)
some-gives zero p e = absurd (both_ways _ refl e)
some-gives (suc n) p e = elim (or_cases (p n) (some_below n p) e) [
  | inl here ↦ (n, omega arith, here)
  | inr more ↦ let r = some-gives n p more in (r.0, omega (arith, r.1), r.2)
]

pub test-gives : (a : Access) (objects end o p : ℕ) → IsTrue (edge_test a objects end o p) → Edge a o p
test-gives a objects end o p e =
    let r = some-gives objects (λ x. edge_over a end o p x) e in
    let x = r.0 in
    let w = and_parts (a.writes p x) _ r.2 in
    elim (or_cases _ _ w.1) [
      | inl before ↦
          let b = and_parts _ _ before in
          elim (or_cases _ _ b.1) [ inl t ↦ Read_write x (ltb-true o p b.0) t w.0 | inr t ↦ Write_write x (ltb-true o p b.0) t w.0 ]
      | inr after ↦
          let b = and_parts _ _ after in
          let c = and_parts _ _ b.1 in
          let d = and_parts _ _ c.1 in
          let l = some-gives end (λ q. nat_le o q && a.writes q x) d.1 in
          let f = and_parts _ _ l.2 in
          Lost_version x l.0 (ltb-true p o b.0) w.0
          (λ q low high. false_from_ne_true _ (λ wq. both_ways _ (not-true _ d.0) (some-from o (λ q. nat_lt p q && a.writes q x) q high (and_from _ _ (lt-ltb p q low) wq))))
          c.0 (leb-true o l.0 f.0) f.1
    ]

test-over : (a : Access) (objects end o p x : ℕ) → IsWithin a objects end → IsTrue (a.writes p x) → IsTrue ((nat_lt o p && (a.reads o x || a.writes o x)) || (nat_lt p o && (a.reads o x && (not (some_below o (λ q. nat_lt p q && a.writes q x)) && some_below end (λ q. nat_le o q && a.writes q x))))) → IsTrue (edge_test a objects end o p)
test-over a objects end o p x is w e = some-from objects (λ x. edge_over a end o p x) x (is.writes_object p x w) (and_from (a.writes p x) _ w e)

pub test-from : (a : Access) (objects end o p : ℕ) → IsWithin a objects end → Edge a o p → IsTrue (edge_test a objects end o p)
test-from a objects end o p is (Read_write x lt r w) = test-over a objects end o p x is w (or_left _ _ (and_from _ _ (lt-ltb o p lt) (or_left _ _ r)))
test-from a objects end o p is (Write_write x lt r w) = test-over a objects end o p x is w (or_left _ _ (and_from _ _ (lt-ltb o p lt) (or_right _ _ r)))
test-from a objects end o p is (Lost_version x later lt w none r le wl) =
    test-over a objects end o p x is w (or_right _ _ (and_from _ _ (lt-ltb p o lt) (and_from _ _ r (and_from _ _
    (not_from_false _ (false_from_ne_true _ (λ e.
    let q = some-gives o (λ q. nat_lt p q && a.writes q x) e in
    let u = and_parts _ _ q.2 in
    both_ways _ (none q.0 (ltb-true p q.0 u.0) q.1) u.1)))
    (some-from end (λ q. nat_le o q && a.writes q x) later (is.writes_lsn later x wl) (and_from _ _ (le-leb o later le) wl))))))

-- the computed edges are the edges
pub edge-iff : (a : Access) (objects end o p : ℕ) → IsWithin a objects end → IsTrue (edge_test a objects end o p) ↔ Edge a o p
edge-iff a objects end o p is = (test-gives a objects end o p, test-from a objects end o p is)

-- an edge's first LSN is below the end
pub edge-start : (a : Access) (objects end o p : ℕ) → IsWithin a objects end → Edge a o p → o < end
edge-start a objects end o p is (Read_write x lt r w) = is.reads_lsn o x r
edge-start a objects end o p is (Write_write x lt r w) = is.writes_lsn o x r
edge-start a objects end o p is (Lost_version x later lt w none r le wl) = is.reads_lsn o x r

-- and so is its last
pub edge-end : (a : Access) (objects end o p : ℕ) → IsWithin a objects end → Edge a o p → p < end
edge-end a objects end o p is (Read_write x lt r w) = is.writes_lsn p x w
edge-end a objects end o p is (Write_write x lt r w) = is.writes_lsn p x w
edge-end a objects end o p is (Lost_version x later lt w none r le wl) = is.writes_lsn p x w

reach-more : (e : ℕ → ℕ → Bool) (k o p : ℕ) → IsTrue (reach e zero o p) → IsTrue (reach e k o p)
reach-more e zero o p h = h
reach-more e (suc k) o p h = or_left (reach e k o p) _ (reach-more e k o p h)

-- two walks that meet below k make one
reach-join : (e : ℕ → ℕ → Bool) (k o m p : ℕ) → m < k → IsTrue (reach e k o m) → IsTrue (reach e k m p) → IsTrue (reach e k o p)
reach-join e zero o m p lt f g = absurd (omega arith)
reach-join e (suc k) o m p lt f g =
    let through : IsTrue (reach e k o k) → IsTrue (reach e k k p) → IsTrue (reach e (suc k) o p) = λ s t. or_right (reach e k o p) _ (and_from _ _ s t) in
    elim (cases_eq m k) [
      | inl q ↦
          let f1 : IsTrue (reach e k o k || (reach e k o k && reach e k k k)) = subst (λ (n : ℕ). IsTrue (reach e (suc k) o n)) q f in
          let g1 : IsTrue (reach e k k p || (reach e k k k && reach e k k p)) = subst (λ (n : ℕ). IsTrue (reach e (suc k) n p)) q g in
          through (elim (or_cases _ _ f1) [ inl s ↦ s | inr s ↦ (and_parts _ _ s).0 ]) (elim (or_cases _ _ g1) [ inl t ↦ t | inr t ↦ (and_parts _ _ t).1 ])
      | inr ne ↦
          let low : m < k = omega arith in
          elim (or_cases (reach e k o m) _ f) [
            | inl s ↦ elim (or_cases (reach e k m p) _ g) [
              | inl t ↦ or_left (reach e k o p) _ (reach-join e k o m p low s t)
              | inr t ↦ let u = and_parts _ _ t in through (reach-join e k o m k low s u.0) u.1
            ]
            | inr s ↦
                let v = and_parts _ _ s in
                elim (or_cases (reach e k m p) _ g) [
                  | inl t ↦ through v.0 (reach-join e k k m p low v.1 t)
                  | inr t ↦ through v.0 (and_parts _ _ t).1
                ]
          ]
    ]

pub walk-on : (a : Access) (o m n : ℕ) → Reaches a o m → Reaches a m n → Reaches a o n
walk-on a o m n walk Here = walk
walk-on a o m n walk (Then k p more edge) = Then k p (walk-on a o m k walk more) edge

-- from outside a set with no edge into it no walk leads into it
pub walk-in : (a : Access) (set : ℕ → Bool) (o n : ℕ) → NoEdgeInto a set → IsFalse (set o) → Reaches a o n → IsFalse (set n)
walk-in a set o n none off Here = off
walk-in a set o n none off (Then mid p walk edge) = false_from_ne_true _ (λ there. none mid p (walk-in a set o mid none off walk) there edge)

pub reach-gives : (a : Access) (e : ℕ → ℕ → Bool) → ((o p : ℕ) → IsTrue (e o p) → Edge a o p) → (k o p : ℕ) → IsTrue (reach e k o p) → Reaches a o p
reach-gives a e each zero o p h = elim (or_cases (o == p) (e o p) h) [
  | inl q ↦ subst (λ (n : ℕ). Reaches a o n) (eqb-true o p q) Here
  | inr t ↦ Then o p Here (each o p t)
]
reach-gives a e each (suc k) o p h = elim (or_cases (reach e k o p) _ h) [
  | inl s ↦ reach-gives a e each k o p s
  | inr s ↦ let u = and_parts _ _ s in walk-on a o k p (reach-gives a e each k o k u.0) (reach-gives a e each k k p u.1)
]

pub reach-from : (a : Access) (objects end o p : ℕ) → IsWithin a objects end → Reaches a o p → IsTrue (reach (edge_test a objects end) end o p)
reach-from a objects end o p is Here = reach-more (edge_test a objects end) end o o (or_left _ _ (eq-eqb o o refl))
reach-from a objects end o p is (Then m q walk edge) =
    reach-join (edge_test a objects end) end o m q (edge-start a objects end m q is edge) (reach-from a objects end o m is walk)
    (reach-more (edge_test a objects end) end m q (or_right (m == q) _ (test-from a objects end m q is edge)))

-- the computed node is one
pub node-is : (a : Access) (objects end one : ℕ) → IsWithin a objects end → IsNode a (node_of (edge_test a objects end) end one) × IsTrue (node_of (edge_test a objects end) end one one)
node-is a objects end one is =
    let e = edge_test a objects end in
    let gives = reach-gives a e (λ o p. test-gives a objects end o p) end in
    let itself : IsTrue (reach e end one one) = reach-more e end one one (or_left _ _ (eq-eqb one one refl)) in
    let held : IsTrue (node_of e end one one) = and_from _ _ itself itself in (
      (
        one,
        held,
        (λ n there. let u = and_parts (reach e end one n) (reach e end n one) there in (gives one n u.0, gives n one u.1)),
        (λ n f g. and_from (reach e end one n) (reach e end n one) (reach-from a objects end one n is f) (reach-from a objects end n one is g)),
      ),
      held,
    )

-- two nodes that share a member are one set
pub node-unique : (a : Access) (s t : ℕ → Bool) (n : ℕ) → IsNode a s → IsNode a t → IsTrue (s n) → IsTrue (t n) → s ≡ t
node-unique a s t n f g in_s in_t =
    let into : (u v : ℕ → Bool) → IsNode a u → IsNode a v → IsTrue (u n) → IsTrue (v n) → (k : ℕ) → IsTrue (u k) → IsTrue (v k) = λ u v p q here there k held.
    let here_k = walk-on a n p.0 k (p.2 n here).1 (p.2 k held).0 in
    let k_here = walk-on a k p.0 n (p.2 k held).1 (p.2 n here).0 in
    q.3 k (walk-on a q.0 n k (q.2 n there).0 here_k) (walk-on a k n q.0 k_here (q.2 n there).1) in
    fun_ext (λ k. elim (cases_Bool (s k)) [
      | inl yet ↦ yet ∙ sym (into s t f g in_s in_t k yet)
      | inr off ↦ off ∙ sym (false_from_ne_true (t k) (λ held. both_ways _ off (into t s g f in_t in_s k held)))
    ])

-- of the chosen LSNs below n, and c, one that no other reaches but those that it reaches
abbrev source : (ℕ → ℕ → Bool) → ℕ → (ℕ → Bool) → ℕ → ℕ → ℕ
source e end chosen zero c = c
source e end chosen (suc n) c = let s = source e end chosen n c in if chosen n && reach e end n s then n else s

-- who reaches it is reached from it
source-is : (e : ℕ → ℕ → Bool) (end : ℕ) (chosen : ℕ → Bool) → ((o m p : ℕ) → IsTrue (chosen m) → IsTrue (reach e end o m) → IsTrue (reach e end m p) → IsTrue (reach e end o p)) →
    (n c : ℕ) → IsTrue (chosen c) → IsTrue (chosen (source e end chosen n c)) × ((k : ℕ) → k < n → IsTrue (chosen k) → IsTrue (reach e end k (source e end chosen n c)) → IsTrue (reach e end (source e end chosen n c) k))
source-is e end chosen join zero c there = (there, λ k lt. absurd (omega arith))
source-is e end chosen join (suc n) c there =
    let r = source-is e end chosen join n c there in
    let s = source e end chosen n c in
    let P : ℕ → Type 0 = λ z. IsTrue (chosen z) × ((k : ℕ) → k < suc n → IsTrue (chosen k) → IsTrue (reach e end k z) → IsTrue (reach e end z k)) in
    elim (cases_Bool (chosen n && reach e end n s)) [
      | inl yes_n ↦
          let u = and_parts (chosen n) _ yes_n in
          subst P (sym (cond-true (chosen n && reach e end n s) n s yes_n)) (
            u.0,
            λ k lt held f. elim (cases_eq k n) [
              | inl q ↦ subst (λ (j : ℕ). IsTrue (reach e end n j)) (sym q) (reach-more e end n n (or_left _ _ (eq-eqb n n refl)))
              | inr ne ↦ join n s k r.0 u.1 (r.1 k (omega arith) held (join k n s u.0 f u.1))
            ],
          )
      | inr no_n ↦ subst P (sym (cond-false (chosen n && reach e end n s) n s no_n)) (
        r.0,
        λ k lt held f. elim (cases_eq k n) [
          | inl q ↦ absurd (both_ways _ no_n (and_from _ _ (subst (λ (j : ℕ). IsTrue (chosen j)) q held) (subst (λ (j : ℕ). IsTrue (reach e end j s)) q f)))
          | inr ne ↦ r.1 k (omega arith) held f
        ],
      )
    ]

-- where there is an LSN, there is a minimal node of LSNs
pub minimal-exists : (a : Access) (objects end : ℕ) (chosen : ℕ → Bool) → IsWithin a objects end → ((o p : ℕ) → Edge a o p → IsTrue (chosen o)) → ((n : ℕ) → IsTrue (chosen n) → n < end) → (c : ℕ) → IsTrue (chosen c) →
    (n : ℕ) × IsTrue (chosen n) × IsMinimal a (node_of (edge_test a objects end) end n)
minimal-exists a objects end chosen is from below c there =
    let e = edge_test a objects end in
    let s = source e end chosen end c in
    let gives = reach-gives a e (λ o p. test-gives a objects end o p) end in
    let join : (o m p : ℕ) → IsTrue (chosen m) → IsTrue (reach e end o m) → IsTrue (reach e end m p) → IsTrue (reach e end o p) = λ o m p held f g. reach-join e end o m p (below m held) f g in
    let r = source-is e end chosen join end c there in (
      s,
      r.0,
      (
        (node-is a objects end s is).0,
        λ o p off held edge.
            let u = and_parts (reach e end s p) (reach e end p s) held in
            let o_s = reach-from a objects end o s is (walk-on a o p s (Then o p Here edge) (gives p s u.1)) in
            let held_o = from o p edge in
            both_ways _ off (and_from (reach e end s o) (reach e end o s) (r.1 o (below o held_o) held_o o_s) o_s),
      ),
    )

-- the least LSN below n that passes: it is at most n; it passes where it is below n; and none that passes is below it
pub least-is : (p : ℕ → Bool) (n : ℕ) → (least_below n p ≤ n) × (least_below n p < n → IsTrue (p (least_below n p))) × ((k : ℕ) → k < n → IsTrue (p k) → least_below n p ≤ k)
least-is p zero = (omega arith, (λ lt. absurd (omega arith)), (λ k lt e. absurd (omega arith)))
least-is p (suc n) =
    let r = least-is p n in
    let P : ℕ → Type 0 = λ l. (l ≤ suc n) × (l < suc n → IsTrue (p l)) × ((k : ℕ) → k < suc n → IsTrue (p k) → l ≤ k) in
    elim (cases_lt (least_below n p) n) [
      | inl lt ↦ subst P (sym (cond-true (nat_lt (least_below n p) n) (least_below n p) _ (lt-ltb _ _ lt)))
          (omega arith, (λ below. r.1 lt), (λ k below e. elim (cases_lt k n) [ inl small ↦ r.2 k small e | inr big ↦ omega arith ]))
      | inr ge ↦ subst P (sym (cond-false (nat_lt (least_below n p) n) (least_below n p) _ (le-ltb _ _ ge))) (elim (cases_Bool (p n)) [
        | inl here ↦ subst P (sym (cond-true (p n) n (suc n) here)) (omega arith, (λ below. here), (λ k below e. elim (cases_lt k n) [ inl small ↦ absurd (omega (arith, r.2 k small e)) | inr big ↦ big ]))
        | inr none ↦ subst P (sym (cond-false (p n) n (suc n) none)) (
          omega arith,
          (λ below. absurd (omega arith)),
          (λ k below e. elim (cases_lt k n) [
            | inl small ↦ absurd (omega (arith, r.2 k small e))
            | inr big ↦ let q : k ≡ n = omega arith in absurd (both_ways _ none (subst (λ (l : ℕ). IsTrue (p l)) q e))
          ]),
        )
      ])
    ]

-- the computed name is the name
pub name-is : (node : ℕ → Bool) (end n : ℕ) → IsTrue (node n) → n < end → IsName node (least_below end node)
name-is node end n there lt =
    let r = least-is node end in
    let low : least_below end node < end = omega (arith, r.2 n lt there) in
    (r.1 low, λ k held. elim (cases_lt k end) [ inl small ↦ r.2 k small held | inr big ↦ omega arith ])

-- the computed flush set is the flush set
pub flushed-iff : (a : Access) (objects end : ℕ) (node : ℕ → Bool) (x : ℕ) → IsWithin a objects end → IsTrue (is_flushed a end node x) ↔ flush_set_of a node x
flushed-iff a objects end node x is = (
  (λ e.
      let r = some-gives end (λ n. node n && (a.writes n x && not (some_below end (λ q. nat_lt n q && a.writes q x)))) e in
      let p = and_parts (node r.0) _ r.2 in
      let w = and_parts (a.writes r.0 x) _ p.1 in
      (r.0, p.0, (w.0, λ later lt. false_from_ne_true _ (λ v. both_ways _ (not-true _ w.1) (some-from end (λ q. nat_lt r.0 q && a.writes q x) later (is.writes_lsn later x v) (and_from _ _ (lt-ltb r.0 later lt) v)))))),
  (λ f. some-from end (λ n. node n && (a.writes n x && not (some_below end (λ q. nat_lt n q && a.writes q x)))) f.0 (is.writes_lsn f.0 x f.2.0)
      (and_from _ _ f.1 (and_from _ _ f.2.0 (not_from_false _ (false_from_ne_true _ (λ e.
      let r = some-gives end (λ q. nat_lt f.0 q && a.writes q x) e in
      let p = and_parts _ _ r.2 in
      both_ways _ (f.2.1 r.0 (ltb-true f.0 r.0 p.0)) p.1)))))),
)
