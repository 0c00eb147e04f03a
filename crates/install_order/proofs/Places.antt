-- Nodes, names, minimal nodes and last writers under other numbers.
use Rattle.std.proofs.Common.{◌≡◌, ◌∙◌, sym, subst, ℕ, ◌<◌, ◌≤◌, Bool, refl, arith, inl, inr}
use Rattle.std.specs.Prelude.{IsTrue, IsFalse, ◌↔◌, ◌==◌, ◌&&◌}
use Rattle.std.proofs.lemmas.Bool.{cases_eq, both_ways, and_parts, and_from, eqb-true, eq-eqb, false_from_ne_true}
use Rattle.install_order.specs.Order.{Access, Edge, Reaches, IsNode, IsName, NoEdgeInto, IsLastWriter}
use Rattle.install_order.specs.Order.Edge.{Read_write, Write_write, Lost_version}
use Rattle.install_order.specs.Order.Reaches.{Here, Then}
use Rattle.install_order.specs.NodeLaws.{some-from, some-gives, walk-on}
use Rattle.install_order.specs.Renamed.{IsRenamed, lsns_of, places_of}
use Rattle.install_order.proofs.Moved.{back, one, edge-to, edge-from, ends-from, walk-to, walk-from, walks-same}

in-lsns : (dom : ℕ → Bool) (end : ℕ) (lsn : ℕ → ℕ) (set : ℕ → Bool) (i : ℕ) → i < end → IsTrue (dom i) → IsTrue (set i) → IsTrue (lsns_of dom end lsn set (lsn i))
in-lsns dom end lsn set i lt in_dom held = some-from end (λ j. dom j && (set j && (lsn j == lsn i))) i lt (and_from (dom i) _ in_dom (and_from (set i) (lsn i == lsn i) held (eq-eqb (lsn i) (lsn i) refl)))

from-lsns : (dom : ℕ → Bool) (end : ℕ) (lsn : ℕ → ℕ) (set : ℕ → Bool) (n : ℕ) → IsTrue (lsns_of dom end lsn set n) → (i : ℕ) × IsTrue (dom i) × IsTrue (set i) × (lsn i ≡ n)
from-lsns dom end lsn set n there =
    let r = some-gives end (λ j. dom j && (set j && (lsn j == n))) there in
    let d = and_parts (dom r.0) _ r.2 in
    let u = and_parts (set r.0) (lsn r.0 == n) d.1 in
    (r.0, d.0, u.0, eqb-true (lsn r.0) n u.1)

-- of a place of the domain
place-in : (a b : Access) (dom : ℕ → Bool) (end : ℕ) (lsn : ℕ → ℕ) (set : ℕ → Bool) (i : ℕ) → IsRenamed a b dom end lsn → IsTrue (dom i) → IsTrue (lsns_of dom end lsn set (lsn i)) → IsTrue (set i)
place-in a b dom end lsn set i is lt there =
    let r = from-lsns dom end lsn set (lsn i) there in
    subst (λ (k : ℕ). IsTrue (set k)) (one a b dom end lsn r.0 i is r.1 lt r.3) r.2

in-places : (dom : ℕ → Bool) (lsn : ℕ → ℕ) (node : ℕ → Bool) (i : ℕ) → IsTrue (dom i) → IsTrue (node (lsn i)) → IsTrue (places_of dom lsn node i)
in-places dom lsn node i lt held = and_from (dom i) (node (lsn i)) lt held

-- both ends of an edge between places are in the domain
ends-low : (a b : Access) (dom : ℕ → Bool) (end : ℕ) (lsn : ℕ → ℕ) (i j : ℕ) → IsRenamed a b dom end lsn → Edge a i j → (IsTrue (dom i)) × (IsTrue (dom j))
ends-low a b dom end lsn i j is (Read_write x lt r w) = (is.reads_in i x r, is.writes_in j x w)
ends-low a b dom end lsn i j is (Write_write x lt v w) = (is.writes_in i x v, is.writes_in j x w)
ends-low a b dom end lsn i j is (Lost_version x later lt w none r le wl) = (is.reads_in i x r, is.writes_in j x w)

walk-low : (a b : Access) (dom : ℕ → Bool) (end : ℕ) (lsn : ℕ → ℕ) (i j : ℕ) → IsRenamed a b dom end lsn → IsTrue (dom i) → Reaches a i j → IsTrue (dom j)
walk-low a b dom end lsn i j is lt Here = lt
walk-low a b dom end lsn i j is lt (Then m q walk edge) = (ends-low a b dom end lsn m q is edge).1

pub node-lsns : (a b : Access) (dom : ℕ → Bool) (end : ℕ) (lsn : ℕ → ℕ) (set : ℕ → Bool) (i : ℕ) → IsRenamed a b dom end lsn → IsNode a set → IsTrue (set i) → IsTrue (dom i) →
    IsNode b (lsns_of dom end lsn set) × IsTrue (lsns_of dom end lsn set (lsn i))
node-lsns a b dom end lsn set i is node held lt =
    let one_place = node.0 in
    let low : IsTrue (dom one_place) = walk-low a b dom end lsn i one_place is lt (node.2 i held).1 in
    let walks : (j : ℕ) → IsTrue (dom j) → IsTrue (set j) → Reaches b (lsn one_place) (lsn j) × Reaches b (lsn j) (lsn one_place) = λ j lj there.
    let r = node.2 j there in
    (walk-to a b dom end lsn one_place j is r.0, walk-to a b dom end lsn j one_place is r.1) in (
      (
        lsn one_place,
        in-lsns dom end lsn set one_place (is.below one_place low) low node.1,
        (λ n there.
            let r = from-lsns dom end lsn set n there in
            subst (λ (k : ℕ). Reaches b (lsn one_place) k × Reaches b k (lsn one_place)) r.3 (walks r.0 r.1 r.2)),
        (λ n to from.
            let r = walk-from a b dom end lsn one_place n is low to in
            let home : Reaches b (lsn r.0) (lsn one_place) = subst (λ (k : ℕ). Reaches b k (lsn one_place)) (sym r.2) from in
            let held_r : IsTrue (set r.0) = node.3 r.0 r.3 ((walks-same a b dom end lsn r.0 one_place is r.1 low).0 home) in
            subst (λ (k : ℕ). IsTrue (lsns_of dom end lsn set k)) r.2 (in-lsns dom end lsn set r.0 (is.below r.0 r.1) r.1 held_r)),
      ),
      in-lsns dom end lsn set i (is.below i lt) lt held,
    )

pub node-places : (a b : Access) (dom : ℕ → Bool) (end : ℕ) (lsn : ℕ → ℕ) (node : ℕ → Bool) (i : ℕ) → IsRenamed a b dom end lsn → IsNode b node → IsTrue (dom i) → IsTrue (node (lsn i)) → IsNode a (places_of dom lsn node)
node-places a b dom end lsn node i is of lt held =
    let here = of.2 (lsn i) held in
    let through : (n : ℕ) → IsTrue (node n) → Reaches b (lsn i) n × Reaches b n (lsn i) = λ n there.
    let r = of.2 n there in
    (walk-on b (lsn i) of.0 n here.1 r.0, walk-on b n of.0 (lsn i) r.1 here.0) in (
      i,
      in-places dom lsn node i lt held,
      (λ j there.
          let u = and_parts (dom j) (node (lsn j)) there in
          let lj = u.0 in
          let r = through (lsn j) u.1 in
          ((walks-same a b dom end lsn i j is lt lj).0 r.0, (walks-same a b dom end lsn j i is lj lt).0 r.1)),
      (λ j to from.
          let lj = walk-low a b dom end lsn i j is lt to in
          let f = walk-to a b dom end lsn i j is to in
          let g = walk-to a b dom end lsn j i is from in
          in-places dom lsn node j lj (of.3 (lsn j) (walk-on b of.0 (lsn i) (lsn j) here.0 f) (walk-on b (lsn j) (lsn i) of.0 g here.1))),
    )

pub free-lsns : (a b : Access) (dom : ℕ → Bool) (end : ℕ) (lsn : ℕ → ℕ) (set : ℕ → Bool) → IsRenamed a b dom end lsn → NoEdgeInto a set ↔ NoEdgeInto b (lsns_of dom end lsn set)
free-lsns a b dom end lsn set is = (
  (λ none o p out there edge.
      let r = from-lsns dom end lsn set p there in
      let e = (ends-from a b dom end lsn o p is edge).0 in
      let out_e : IsFalse (set e.0) = false_from_ne_true _ (λ held. both_ways _ out (subst (λ (k : ℕ). IsTrue (lsns_of dom end lsn set k)) e.2 (in-lsns dom end lsn set e.0 (is.below e.0 e.1) e.1 held))) in
      let step : Edge b (lsn e.0) (lsn r.0) = subst (λ (k : ℕ). Edge b k (lsn r.0)) (sym e.2) (subst (λ (k : ℕ). Edge b o k) (sym r.3) edge) in
      none e.0 r.0 out_e r.2 (edge-from a b dom end lsn e.0 r.0 is e.1 r.1 step)),
  (λ none o p out there edge.
      let low = ends-low a b dom end lsn o p is edge in
      let out_o : IsFalse (lsns_of dom end lsn set (lsn o)) = false_from_ne_true _ (λ held. both_ways _ out (place-in a b dom end lsn set o is low.0 held)) in
      none (lsn o) (lsn p) out_o (in-lsns dom end lsn set p (is.below p low.1) low.1 there) (edge-to a b dom end lsn o p is edge)),
)

pub last-lsns : (a b : Access) (dom : ℕ → Bool) (end : ℕ) (lsn : ℕ → ℕ) (x i : ℕ) → IsRenamed a b dom end lsn → IsTrue (dom i) → IsLastWriter b x (lsn i) ↔ IsLastWriter a x i
last-lsns a b dom end lsn x i is lt = (
  (λ last. (
    sym (is.writes i x lt) ∙ last.0,
    (λ j later. false_from_ne_true _ (λ w.
        let lj = is.writes_in j x w in
        both_ways _ (last.1 (lsn j) (is.rising i j lt later lj)) (is.writes j x lj ∙ w))),
  )),
  (λ last. (
    is.writes i x lt ∙ last.0,
    (λ n later. false_from_ne_true _ (λ w.
        let k = is.writes_from n x w in
        let up : lsn i < lsn k.0 = omega (arith, k.2, later) in
        both_ways _ (last.1 k.0 (back a b dom end lsn i k.0 is lt k.1 up)) (sym (is.writes k.0 x k.1) ∙ subst (λ (m : ℕ). IsTrue (b.writes m x)) (sym k.2) w))),
  )),
)

pub name-lsns : (a b : Access) (dom : ℕ → Bool) (end : ℕ) (lsn : ℕ → ℕ) (set : ℕ → Bool) (i : ℕ) → IsRenamed a b dom end lsn → IsTrue (dom i) → IsName set i → IsName (lsns_of dom end lsn set) (lsn i)
name-lsns a b dom end lsn set i is lt name = (
  in-lsns dom end lsn set i (is.below i lt) lt name.0,
  (λ n there.
      let r = from-lsns dom end lsn set n there in
      let le : i ≤ r.0 = name.1 r.0 r.2 in
      elim (cases_eq i r.0) [
        | inl e ↦ omega (arith, subst (λ (k : ℕ). lsn k ≡ n) (sym e) r.3)
        | inr ne ↦ let up = is.rising i r.0 lt (omega (arith, le, ne)) r.1 in omega (arith, up, r.3)
      ]),
)
