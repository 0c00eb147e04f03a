-- Cells are dropped from the front of a node's list.
use Rattle.std.proofs.Common.{◌∙◌, sym, subst, ℕ, List, refl, inl, inr}
use Rattle.std.specs.Prelude.{IsTrue, ◌==◌, Option}
use Rattle.std.proofs.lemmas.Bool.{cases_eq, or_left, eq-eqb}
use Rattle.oper_core.specs.State.{is_among}
use Rattle.number_lists.specs.Lists.{Lists, list_at, AreAsMany, OthersStay, IsPopped}
use Rattle.graph_nodes.specs.Arcs.{arc_at, node_at, IsFromOutside}
use Rattle.graph_nodes.specs.Into.{AreInto, IsSettled}
use Rattle.graph_nodes.proofs.Options.{of-some}

-- some cells without an arc from another node are gone
pub record IsSettling (arcs : List (Option ℕ)) (node : List ℕ) (m : ℕ) (old now : Lists) : Type 0 where
  pub kept : (c : ℕ) → IsTrue (is_among c (list_at old.lists m)) → IsFromOutside arcs node c m → IsTrue (is_among c (list_at now.lists m))
  pub fewer : (c : ℕ) → IsTrue (is_among c (list_at now.lists m)) → IsTrue (is_among c (list_at old.lists m))
  pub others : OthersStay old m now
  pub same : AreAsMany old now

-- the first cell is one of the list
pub first-in : (m c : ℕ) (old mid : Lists) → IsPopped old m c mid → IsTrue (is_among c (list_at old.lists m))
first-in m c old mid pop = subst (λ (xs : List ℕ). IsTrue (is_among c xs)) (sym pop.here) (or_left (c == c) _ (eq-eqb c c refl))

-- no list has more cells
pub settled-fewer : (arcs : List (Option ℕ)) (node : List ℕ) (n : ℕ) (old new : Lists) (m c : ℕ) → IsSettled arcs node n old new → IsTrue (is_among c (list_at new.lists m)) → IsTrue (is_among c (list_at old.lists m))
settled-fewer arcs node n old new m c is t = elim (cases_eq m n) [
  | inl q ↦ subst (λ (k : ℕ). IsTrue (is_among c (list_at old.lists k))) (sym q) (is.fewer c (subst (λ (k : ℕ). IsTrue (is_among c (list_at new.lists k))) q t))
  | inr ne ↦ subst (λ (xs : List ℕ). IsTrue (is_among c xs)) (is.others m ne) t
]

-- the lists still have all cells with arcs from other nodes
pub settled-into : (arcs : List (Option ℕ)) (node : List ℕ) (n : ℕ) (old new : Lists) → AreInto arcs node old → IsSettled arcs node n old new → AreInto arcs node new
settled-into arcs node n old new are is = record {
  there = λ c j arc out. elim (cases_eq (node_at node j) n) [
    | inl q ↦
        let was : IsTrue (is_among c (list_at old.lists n)) = subst (λ (k : ℕ). IsTrue (is_among c (list_at old.lists k))) q (are.there c j arc out) in
        subst (λ (k : ℕ). IsTrue (is_among c (list_at new.lists k))) (sym q) (is.kept c was (of-some (arc_at arcs c) j arc, (λ e. out (e ∙ sym q))))
    | inr ne ↦ subst (λ (xs : List ℕ). IsTrue (is_among c xs)) (sym (is.others (node_at node j) ne)) (are.there c j arc out)
  ];
  only = λ m c t. are.only m c (settled-fewer arcs node n old new m c is t);
}
