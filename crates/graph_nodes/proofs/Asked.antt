-- What is asked of nodes.
use Rattle.std.proofs.Common.{◌≡◌, ◌∙◌, ap, sym, subst, ℕ, ◌/◌, ◌<◌, ◌≤◌, List, [], ◌∷◌, length, refl, arith, inl, inr}
use Rattle.std.specs.Prelude.{IsTrue, ◌↔◌, nat_eq, Option}
use Rattle.std.specs.List.{IsDistinct}
use Rattle.std.proofs.lemmas.Bool.{cases_lt, cases_eq, both_ways, eqb-true, eq-eqb}
use Rattle.std.proofs.Math.ListN.{get_or-eq_default}
use Rattle.oper_core.specs.State.{is_among}
use Rattle.number_lists.specs.Lists.{Lists, list_at}
use Rattle.graph_nodes.specs.Arcs.{arc_at, node_at, name_at}
use Rattle.graph_nodes.specs.Into.{AreLed}
use Rattle.graph_nodes.specs.Merge.{IsFiled}
use Rattle.graph_nodes.specs.Named.{IsMinimal, AreNamed}
use Rattle.graph_nodes.proofs.Options.{some-of}
use Rattle.graph_nodes.proofs.Found.{place-among}
use Rattle.graph_nodes.proofs.Scattered.{nothing-in, one-in, apart-places}

-- a slot is the least of its node exactly where it is what the table of names has
pub least-iff : (node name : List ℕ) (i : ℕ) → AreNamed node name → (name_at name (node_at node i) ≡ i) ↔ ((j : ℕ) → node_at node j ≡ node_at node i → i ≤ j)
least-iff node name i are = (
  (λ e j same. omega (arith, e, ap (λ (m : ℕ). name_at name m) same, are.least j)),
  (λ all. omega (arith, all (name_at name (node_at node i)) (are.member i), are.least i)),
)

-- a node is minimal exactly where its list is empty
pub minimal-iff : (arcs : List (Option ℕ)) (node : List ℕ) (into : Lists) (m : ℕ) → AreLed arcs node into → (list_at into.lists m ≡ []) ↔ IsMinimal arcs node m
minimal-iff arcs node into m led = (
  (λ empty i j arc e. elim (cases_eq (node_at node i) m) [
    | inl q ↦ q
    | inr ne ↦
        let start : node_at node (arc.0 / 8) ≡ node_at node i = ap (λ (k : ℕ). node_at node k) arc.1 in
        let t = led.leads.there arc.0 j arc.2 (λ same. ne (sym start ∙ same ∙ e)) in
        absurd (both_ways _ refl (subst (λ (xs : List ℕ). IsTrue (is_among arc.0 xs)) (ap (λ (k : ℕ). list_at into.lists k) e ∙ empty) t))
  ]),
  (λ minimal. nothing-in (list_at into.lists m) (λ c t.
      let d = led.live m c t in
      let arc = some-of (arc_at arcs d.0) d.2.0 in
      d.2.1 (minimal (d.0 / 8) arc.0 (d.0, refl, arc.1) ((led.leads.only m d.0 d.1).1 arc.0 arc.1)))),
)

empty-iff : (xs : List ℕ) → (length xs ≡ 0) ↔ (xs ≡ [])
empty-iff [] = ((λ e. refl), (λ e. refl))
empty-iff (x ∷ xs) = ((λ e. absurd (omega (arith, e))), (λ e. ap length e))

-- the count of a list reports whether it is empty
pub free-iff : (xs : List ℕ) (count : ℕ) → count ≡ length xs → IsTrue (nat_eq count 0) ↔ (xs ≡ [])
free-iff xs count is = (
  (λ t. (empty-iff xs).0 (sym is ∙ eqb-true count 0 t)),
  (λ e. eq-eqb count 0 (is ∙ (empty-iff xs).1 e)),
)

-- the slots of a node
pub members-iff : (node : List ℕ) (members : Lists) (n i : ℕ) → IsFiled node members → n < length node → IsTrue (is_among i (list_at members.lists n)) ↔ (node_at node i ≡ n)
members-iff node members n i filed low = (
  (λ t. (filed.only n i t).1),
  (λ e. elim (cases_lt i (length node)) [
    | inl lt ↦ subst (λ (k : ℕ). IsTrue (is_among i (list_at members.lists k))) e (filed.there i lt)
    | inr ge ↦ absurd (omega (arith, ge, low, e, get_or-eq_default node i ge))
  ]),
)

one-only : (xs : List ℕ) (s : ℕ) → IsDistinct nat_eq xs → IsTrue (is_among s xs) → (length xs ≡ 1) ↔ ((i : ℕ) → IsTrue (is_among i xs) → i ≡ s)
one-only [] s are t = absurd (both_ways _ refl t)
one-only (x ∷ []) s are t = ((λ e i u. one-in i x u ∙ sym (one-in s x t)), (λ all. refl))
one-only (x ∷ y ∷ xs) s are t = (
  (λ e. absurd (omega (arith, e))),
  (λ all. absurd (apart-places (x ∷ y ∷ xs) 0 1 are (omega arith) (omega arith) (all x (place-among (x ∷ y ∷ xs) 0 (omega arith)) ∙ sym (all y (place-among (x ∷ y ∷ xs) 1 (omega arith)))))),
)

-- a node has one slot exactly where its list has
pub single-iff : (node : List ℕ) (members : Lists) (slot n count : ℕ) → IsFiled node members → n < length node → n ≡ node_at node slot → count ≡ length (list_at members.lists n) → IsDistinct nat_eq (list_at members.lists n) →
    IsTrue (nat_eq count 1) ↔ ((i : ℕ) → node_at node i ≡ node_at node slot → i ≡ slot)
single-iff node members slot n count filed low e is are =
    let iff : (i : ℕ) → IsTrue (is_among i (list_at members.lists n)) ↔ (node_at node i ≡ n) = λ i. members-iff node members n i filed low in
    let only = one-only (list_at members.lists n) slot are ((iff slot).1 (sym e)) in (
      (λ t i same. only.0 (sym is ∙ eqb-true count 1 t) i ((iff i).1 (same ∙ sym e))),
      (λ all. eq-eqb count 1 (is ∙ only.1 (λ i t. all i ((iff i).0 t ∙ e)))),
    )
