-- Arcs that join no nodes.
use Rattle.std.proofs.Common.{◌≡◌, ◌∙◌, ap, sym, subst, ℕ, ◌/◌, ◌<◌, List, [], ◌∷◌, length, refl, arith, inl, inr}
use Rattle.std.specs.Prelude.{IsTrue, Bool, Option, None}
use Rattle.std.proofs.lemmas.Bool.{cases_eq, cases_lt, both_ways}
use Rattle.std.proofs.Math.ListN.{get_or-eq_default}
use Rattle.oper_core.specs.State.{is_among}
use Rattle.install_order.specs.Digraph.{Walk}
use Rattle.install_order.specs.Digraph.Walk.{Here, Then}
use Rattle.number_lists.specs.Lists.{Lists, list_at}
use Rattle.graph_nodes.specs.Arcs.{arc_at, node_at, IsArc}
use Rattle.graph_nodes.specs.Merge.{IsFiled}
use Rattle.graph_nodes.specs.Named.{Naming, AreForgotten, AreNamesMerged}
use Rattle.graph_nodes.specs.Search.{IsOwn, IsBare}
use Rattle.graph_nodes.specs.Kept.{IsApart, IsKept, AreGathered}
use Rattle.graph_nodes.proofs.Options.{none-some}
use Rattle.graph_nodes.proofs.Joined.{merged-start}
use Rattle.graph_nodes.proofs.Scattered.{one-in}

-- what stands for the node of an arc's end
pub own-end : (arcs a : List (Option ℕ)) (node b : List ℕ) (held : List Bool) (name : List ℕ) (members into : Lists) (to w : ℕ) → IsKept arcs node held name members into → to < length node → a ≡ arcs → b ≡ node → w ≡ node_at node to → IsOwn a b w
own-end arcs a node b held name members into to w kept low ea eb ew =
    subst (λ (xs : List (Option ℕ)). IsOwn xs b w) (sym ea)
    (subst (λ (xs : List ℕ). IsOwn arcs xs w) (sym eb)
    (subst (λ (k : ℕ). IsOwn arcs node k) (sym ew)
    record {
      self = kept.own to;
      slot = kept.range.nodes to low;
      cells = omega (arith, kept.range.nodes to low, kept.range.cells);
    }))

one-of : (xs : List ℕ) (i j : ℕ) → length xs ≡ 1 → IsTrue (is_among i xs) → IsTrue (is_among j xs) → i ≡ j
one-of [] i j e t u = absurd (omega (arith, e))
one-of (x ∷ []) i j e t u = one-in i x t ∙ sym (one-in j x u)
one-of (x ∷ y ∷ xs) i j e t u = absurd (omega (arith, e))

-- a slot of a node with one slot is what stands for it
only-slot : (arcs : List (Option ℕ)) (node : List ℕ) (members : Lists) (w i : ℕ) → IsFiled node members → IsOwn arcs node w → length (list_at members.lists w) ≡ 1 → node_at node i ≡ w → i ≡ w
only-slot arcs node members w i filed own one e = elim (cases_lt i (length node)) [
  | inl lt ↦
      let in_list : (k : ℕ) → k < length node → node_at node k ≡ w → IsTrue (is_among k (list_at members.lists w)) = λ k low at. subst (λ (m : ℕ). IsTrue (is_among k (list_at members.lists m))) at (filed.there k low) in
      one-of (list_at members.lists w) i w one (in_list i lt e) (in_list w own.slot own.self)
  | inr ge ↦ sym (get_or-eq_default node i ge) ∙ e
]

-- no walk leaves a node without arcs
bare-walk : (arcs : List (Option ℕ)) (node : List ℕ) (w i q : ℕ) → ((c : ℕ) → node_at node (c / 8) ≡ w → arc_at arcs c ≡ None) → node_at node i ≡ w → Walk (IsArc arcs) i q → q ≡ i
bare-walk arcs node w i q none at Here = refl
bare-walk arcs node w i q none at (Then m p walk arc) =
    let start = bare-walk arcs node w i m none at walk in
    absurd (none-some p (sym (none arc.0 (ap (λ (k : ℕ). node_at node k) (arc.1 ∙ start) ∙ at)) ∙ arc.2))

pub bare-apart : (arcs : List (Option ℕ)) (node : List ℕ) (members : Lists) (v w : ℕ) → IsFiled node members → IsOwn arcs node w → IsBare arcs members w → IsApart arcs node v w
bare-apart arcs node members v w filed own bare = elim (cases_eq v w) [
  | inl e ↦ inl e
  | inr ne ↦ inr (λ i j ei ej walk. ne (sym ej ∙ ap (λ (k : ℕ). node_at node k) (bare-walk arcs node w i j (λ c e. bare.1 c (only-slot arcs node members w (c / 8) filed own bare.0 e)) ei walk) ∙ ei))
]

none-forgotten : (name : List ℕ) (least : ℕ) (marks : List Bool) → AreForgotten [] name least marks marks
none-forgotten name least marks = record { done = λ k gone. absurd (both_ways _ refl gone.1); rest = λ k. inl refl; size = refl }

none-named : (one : ℕ) (n : Naming) → AreNamesMerged [] one n n
none-named one n = record {
  least = λ m t. absurd (both_ways _ refl t);
  from = λ t. absurd (both_ways _ refl t);
  rest = λ m out. refl;
  size = refl;
  names = none-forgotten n.name _ n.names;
  minimal = none-forgotten n.name _ n.minimal;
  room = refl;
}

-- nothing is merged
pub gathered-none : (ns node : List ℕ) (names : Naming) (members into : Lists) → ns ≡ [] → IsFiled node members → AreGathered ns node node names names members members into into
gathered-none ns node names members into e filed = subst (λ (xs : List ℕ). AreGathered xs node node names names members members into into) (sym e) (0, inl refl, none-named 0 names, merged-start 0 node members into filed)
