-- The arcs reach as far as the edges.
use Rattle.std.proofs.Common.{◌≡◌, sym, subst, ℕ, zero, suc, ◌<◌, ◌≤◌, arith, inl, inr}
use Rattle.std.specs.Prelude.{IsTrue, IsFalse, ◌↔◌, ◌⊎◌}
use Rattle.std.proofs.lemmas.Bool.{cases_lt, cases_eq, cases_Bool}
use Rattle.install_order.specs.Order.{Access, Edge, Reaches}
use Rattle.install_order.specs.Order.Edge.{Read_write, Write_write, Lost_version}
use Rattle.install_order.specs.Arcs.{NoneBetween, IsWriterBefore, IsWriterAfter, NoneBefore, Arc, ReachesByArcs}
use Rattle.install_order.specs.Arcs.Arc.{Next_write, Version_read, First_write}

-- the last before n that writes x, or nobody before n does
pub writer-before : (a : Access) (x n : ℕ) → ((w : ℕ) × IsWriterBefore a x w n) ⊎ NoneBefore a x n
writer-before a x zero = inr (λ q lt. absurd (omega arith))
writer-before a x (suc n) = elim (cases_Bool (a.writes n x)) [
  | inl here ↦ inl (n, (omega arith, here, (λ q low high. absurd (omega arith))))
  | inr off ↦
      let at : (q : ℕ) → q ≡ n → IsFalse (a.writes q x) = λ q e. subst (λ (k : ℕ). IsFalse (a.writes k x)) (sym e) off in
      elim (writer-before a x n) [
        | inl w ↦ inl (w.0, (omega (arith, w.1.0), w.1.1, (λ q low high. elim (cases_eq q n) [ inl e ↦ at q e | inr ne ↦ w.1.2 q low (omega arith) ])))
        | inr none ↦ inr (λ q lt. elim (cases_eq q n) [ inl e ↦ at q e | inr ne ↦ none q (omega arith) ])
      ]
]

-- each arc is an edge
pub arc-edge : (a : Access) (o p : ℕ) → Arc a o p → Edge a o p
arc-edge a o p (Next_write x w next) = Write_write x next.0 w next.1
arc-edge a o p (Version_read x later r before le wl) = Lost_version x later before.0 before.1 before.2 r le wl
arc-edge a o p (First_write x r none next) = Read_write x next.0 r next.1

pub arcs-on : (a : Access) (o m p : ℕ) → ReachesByArcs a o m → ReachesByArcs a m p → ReachesByArcs a o p
arcs-on a o m p walk ReachesByArcs.Here = walk
arcs-on a o m p walk (ReachesByArcs.Then k q more arc) = ReachesByArcs.Then k q (arcs-on a o m k walk more) arc

-- from o, which has an arc to the next writer of x, arcs lead to each later writer of x
pub arcs-to-writer : (a : Access) (x o : ℕ) → ((q : ℕ) → IsWriterAfter a x o q → Arc a o q) → (k p : ℕ) → p ≤ k → o < p → IsTrue (a.writes p x) → ReachesByArcs a o p
arcs-to-writer a x o first zero p le lt w = absurd (omega arith)
arcs-to-writer a x o first (suc k) p le lt w =
    let next : NoneBetween a x o p → ReachesByArcs a o p = λ none. ReachesByArcs.Then o p ReachesByArcs.Here (first p (lt, w, none)) in
    elim (writer-before a x p) [
      | inl v ↦ elim (cases_lt o v.0) [
        | inl later ↦ ReachesByArcs.Then v.0 p (arcs-to-writer a x o first k v.0 (omega (arith, v.1.0)) later v.1.1) (Next_write x v.1.1 (v.1.0, w, v.1.2))
        | inr early ↦ next (λ q low high. v.1.2 q (omega arith) high)
      ]
      | inr none ↦ next (λ q low high. none q high)
    ]

writers : (a : Access) (x o p : ℕ) → IsTrue (a.writes o x) → o < p → IsTrue (a.writes p x) → ReachesByArcs a o p
writers a x o p w lt v = arcs-to-writer a x o (λ q next. Next_write x w next) p p (omega arith) lt v

-- each edge is a walk of arcs
pub edge-arcs : (a : Access) (o p : ℕ) → Edge a o p → ReachesByArcs a o p
edge-arcs a o p (Write_write x lt v w) = writers a x o p v lt w
edge-arcs a o p (Lost_version x later lt w none r le wl) = ReachesByArcs.Then o p ReachesByArcs.Here (Version_read x later r (lt, w, none) le wl)
edge-arcs a o p (Read_write x lt r w) = elim (writer-before a x o) [
  | inl v ↦ arcs-on a o v.0 p (ReachesByArcs.Then o v.0 ReachesByArcs.Here (Version_read x p r v.1 (omega arith) w)) (writers a x v.0 p v.1.1 (omega (arith, v.1.0)) w)
  | inr none ↦ arcs-to-writer a x o (λ q next. First_write x r none next) p p (omega arith) lt w
]

pub arcs-reach : (a : Access) (o p : ℕ) → Reaches a o p → ReachesByArcs a o p
arcs-reach a o p Reaches.Here = ReachesByArcs.Here
arcs-reach a o p (Reaches.Then m q walk edge) = arcs-on a o m q (arcs-reach a o m walk) (edge-arcs a m q edge)

pub reach-arcs : (a : Access) (o p : ℕ) → ReachesByArcs a o p → Reaches a o p
reach-arcs a o p ReachesByArcs.Here = Reaches.Here
reach-arcs a o p (ReachesByArcs.Then m q walk arc) = Reaches.Then m q (reach-arcs a o m walk) (arc-edge a m q arc)

pub same-reach : (a : Access) (o p : ℕ) → ReachesByArcs a o p ↔ Reaches a o p
same-reach a o p = (reach-arcs a o p, arcs-reach a o p)
