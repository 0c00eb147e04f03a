-- Edges, walks, nodes and last writers under other numbers.
use Rattle.std.proofs.Common.{◌≡◌, ◌∙◌, ap, sym, subst, ℕ, ◌<◌, Bool, refl, arith, inl, inr}
use Rattle.std.specs.Prelude.{IsTrue, ◌↔◌}
use Rattle.std.proofs.lemmas.Bool.{cases_lt, cases_eq, both_ways, false_from_ne_true}
use Rattle.install_order.specs.Order.{Access, Edge, Reaches}
use Rattle.install_order.specs.Order.Edge.{Read_write, Write_write, Lost_version}
use Rattle.install_order.specs.Order.Reaches.{Here, Then}
use Rattle.install_order.specs.Renamed.{IsRenamed}

-- the order of the LSNs is that of the places
pub back : (a b : Access) (dom : ℕ → Bool) (end : ℕ) (lsn : ℕ → ℕ) (i j : ℕ) → IsRenamed a b dom end lsn → IsTrue (dom i) → IsTrue (dom j) → lsn i < lsn j → i < j
back a b dom end lsn i j is low high lt = elim (cases_lt i j) [
  | inl below ↦ below
  | inr ge ↦ elim (cases_eq i j) [
    | inl e ↦ absurd (omega (arith, ap lsn e, lt))
    | inr ne ↦ let r = is.rising j i high (omega (arith, ge, ne)) low in absurd (omega (arith, r, lt))
  ]
]

pub one : (a b : Access) (dom : ℕ → Bool) (end : ℕ) (lsn : ℕ → ℕ) (i j : ℕ) → IsRenamed a b dom end lsn → IsTrue (dom i) → IsTrue (dom j) → lsn i ≡ lsn j → i ≡ j
one a b dom end lsn i j is low high same = elim (cases_eq i j) [
  | inl e ↦ e
  | inr ne ↦ elim (cases_lt i j) [
    | inl lt ↦ let r = is.rising i j low lt high in absurd (omega (arith, r, same))
    | inr ge ↦ let r = is.rising j i high (omega (arith, ge, ne)) low in absurd (omega (arith, r, same))
  ]
]

-- an edge between places is one between their LSNs
pub edge-to : (a b : Access) (dom : ℕ → Bool) (end : ℕ) (lsn : ℕ → ℕ) (i j : ℕ) → IsRenamed a b dom end lsn → Edge a i j → Edge b (lsn i) (lsn j)
edge-to a b dom end lsn i j is (Read_write x lt r w) =
    let li = is.reads_in i x r in
    let lj = is.writes_in j x w in
    Read_write x (is.rising i j li lt lj) (is.reads i x li ∙ r) (is.writes j x lj ∙ w)
edge-to a b dom end lsn i j is (Write_write x lt v w) =
    let li = is.writes_in i x v in
    let lj = is.writes_in j x w in
    Write_write x (is.rising i j li lt lj) (is.writes i x li ∙ v) (is.writes j x lj ∙ w)
edge-to a b dom end lsn i j is (Lost_version x later lt w none r le wl) =
    let li = is.reads_in i x r in
    let lj = is.writes_in j x w in
    let ll = is.writes_in later x wl in
    Lost_version x (lsn later) (is.rising j i lj lt li) (is.writes j x lj ∙ w)
    (λ q low high. false_from_ne_true _ (λ v.
    let k = is.writes_from q x v in
    let kj : lsn j < lsn k.0 = omega (arith, k.2, low) in
    let ki : lsn k.0 < lsn i = omega (arith, k.2, high) in
    both_ways _ (none k.0 (back a b dom end lsn j k.0 is lj k.1 kj) (back a b dom end lsn k.0 i is k.1 li ki)) (sym (is.writes k.0 x k.1) ∙ subst (λ (m : ℕ). IsTrue (b.writes m x)) (sym k.2) v)))
    (is.reads i x li ∙ r)
    (elim (cases_eq i later) [ inl e ↦ omega (arith, ap lsn e) | inr ne ↦ let up = is.rising i later li (omega (arith, le, ne)) ll in omega (arith, up) ])
    (is.writes later x ll ∙ wl)

-- and back
pub edge-from : (a b : Access) (dom : ℕ → Bool) (end : ℕ) (lsn : ℕ → ℕ) (i j : ℕ) → IsRenamed a b dom end lsn → IsTrue (dom i) → IsTrue (dom j) → Edge b (lsn i) (lsn j) → Edge a i j
edge-from a b dom end lsn i j is li lj (Read_write x lt r w) = Read_write x (back a b dom end lsn i j is li lj lt) (sym (is.reads i x li) ∙ r) (sym (is.writes j x lj) ∙ w)
edge-from a b dom end lsn i j is li lj (Write_write x lt v w) = Write_write x (back a b dom end lsn i j is li lj lt) (sym (is.writes i x li) ∙ v) (sym (is.writes j x lj) ∙ w)
edge-from a b dom end lsn i j is li lj (Lost_version x later lt w none r le wl) =
    let l = is.writes_from later x wl in
    Lost_version x l.0 (back a b dom end lsn j i is lj li lt) (sym (is.writes j x lj) ∙ w)
    (λ q low high. false_from_ne_true _ (λ v.
    let dq = is.writes_in q x v in
    both_ways _ (none (lsn q) (is.rising j q lj low dq) (is.rising q i dq high li)) (is.writes q x dq ∙ v)))
    (sym (is.reads i x li) ∙ r)
    (elim (cases_lt l.0 i) [ inl small ↦ let up = is.rising l.0 i l.1 small li in absurd (omega (arith, up, l.2, le)) | inr big ↦ big ])
    (sym (is.writes l.0 x l.1) ∙ subst (λ (m : ℕ). IsTrue (b.writes m x)) (sym l.2) wl)

-- both ends of an edge between LSNs are LSNs of places
pub ends-from : (a b : Access) (dom : ℕ → Bool) (end : ℕ) (lsn : ℕ → ℕ) (m n : ℕ) → IsRenamed a b dom end lsn → Edge b m n → ((i : ℕ) × (IsTrue (dom i)) × (lsn i ≡ m)) × ((j : ℕ) × (IsTrue (dom j)) × (lsn j ≡ n))
ends-from a b dom end lsn m n is (Read_write x lt r w) = (is.reads_from m x r, is.writes_from n x w)
ends-from a b dom end lsn m n is (Write_write x lt v w) = (is.writes_from m x v, is.writes_from n x w)
ends-from a b dom end lsn m n is (Lost_version x later lt w none r le wl) = (is.reads_from m x r, is.writes_from n x w)

pub walk-to : (a b : Access) (dom : ℕ → Bool) (end : ℕ) (lsn : ℕ → ℕ) (i j : ℕ) → IsRenamed a b dom end lsn → Reaches a i j → Reaches b (lsn i) (lsn j)
walk-to a b dom end lsn i j is Here = Here
walk-to a b dom end lsn i j is (Then m q walk edge) = Then (lsn m) (lsn q) (walk-to a b dom end lsn i m is walk) (edge-to a b dom end lsn m q is edge)

pub walk-from : (a b : Access) (dom : ℕ → Bool) (end : ℕ) (lsn : ℕ → ℕ) (i n : ℕ) → IsRenamed a b dom end lsn → IsTrue (dom i) → Reaches b (lsn i) n → (j : ℕ) × (IsTrue (dom j)) × (lsn j ≡ n) × Reaches a i j
walk-from a b dom end lsn i n is li Here = (i, li, refl, Here)
walk-from a b dom end lsn i n is li (Then m q walk edge) =
    let r = walk-from a b dom end lsn i m is li walk in
    let e = (ends-from a b dom end lsn m q is edge).1 in
    let step : Edge b (lsn r.0) (lsn e.0) = subst (λ (k : ℕ). Edge b k (lsn e.0)) (sym r.2) (subst (λ (k : ℕ). Edge b m k) (sym e.2) edge) in
    (e.0, e.1, e.2, Then r.0 e.0 r.3 (edge-from a b dom end lsn r.0 e.0 is r.1 e.1 step))

pub walks-same : (a b : Access) (dom : ℕ → Bool) (end : ℕ) (lsn : ℕ → ℕ) (i j : ℕ) → IsRenamed a b dom end lsn → IsTrue (dom i) → IsTrue (dom j) → Reaches b (lsn i) (lsn j) ↔ Reaches a i j
walks-same a b dom end lsn i j is li lj = (
  (λ walk. let r = walk-from a b dom end lsn i (lsn j) is li walk in subst (λ (k : ℕ). Reaches a i k) (one a b dom end lsn r.0 j is r.1 lj r.2) r.3),
  (λ walk. walk-to a b dom end lsn i j is walk),
)
