-- The links of no entries.
use Rattle.std.proofs.Common.{◌≡◌, ◌∙◌, ap, sym, subst, refl, ℕ, Bool, true, false, ◌&&◌, List, [], length, Option, None, Some, arith}
use Rattle.std.specs.Prelude.{IsTrue, IsFalse, MatchOption}
use Rattle.oper_core.specs.State.{is_among}
use Rattle.install_order.specs.Order.{Access, IsLastWriter}
use Rattle.install_order.specs.Arcs.{Arc}
use Rattle.install_order.specs.Arcs.Arc.{Next_write, Version_read, First_write}
use Rattle.install_order.specs.Digraph.{AreNodes, Joined, Walk}
use Rattle.install_order.specs.Digraph.Walk.{Here, Then}
use Rattle.install_order.specs.More.{NoWriter}
use Rattle.graph_nodes.specs.Arcs.{arc_at, node_at, IsArc, held_at}
use Rattle.graph_nodes.specs.Named.{Graph}
use Rattle.write_graph.specs.Cells.{slot_access}
use Rattle.write_graph.specs.Linked.{AreLinked, AreRows}
use Rattle.write_graph.specs.Rows.{Rows, AreEmpty, its_slot, last_of, if_held}

none_some : {n : ℕ} → None ≡ Some n → ⊥
none_some is = cc

no_true : (b : Bool) → IsTrue (b && false) → ⊥
no_true true is = cc
no_true false is = cc

is_false : (b : Bool) → IsFalse (b && false)
is_false true = refl
is_false false = refl

in_none : (c : ℕ) (cells : List ℕ) → cells ≡ [] → IsTrue (is_among c cells) → ⊥
in_none c cells none among = no_true true (subst (λ (l : List ℕ). IsTrue (is_among c l)) none among)

module _ (graph : Graph) (rows : Rows) (arcs : graph.arcs ≡ []) (node : graph.node ≡ []) (held : graph.held ≡ []) (empty : AreEmpty rows) where
  abbrev a : Access
  a = slot_access [] graph.held

  no_arc : (c p : ℕ) → arc_at graph.arcs c ≡ Some p → ⊥
  no_arc c p is = none_some (sym (ap (λ (xs : List (Option ℕ)). arc_at xs c) arcs) ∙ is)

  no_edge : (o p : ℕ) → Arc a o p → ⊥
  no_edge o p (Next_write x writes after) = no_true (held_at graph.held o) writes
  no_edge o p (Version_read x later reads before order writes) = no_true (held_at graph.held o) reads
  no_edge o p (First_write x reads none after) = no_true (held_at graph.held o) reads

  stays : (i j : ℕ) → Walk (IsArc graph.arcs) i j → i ≡ j
  stays i j Here = refl
  stays i j (Then m k walk arc) = absurd (no_arc arc.0 k arc.2)

  its_own : (i : ℕ) → node_at graph.node i ≡ i
  its_own i = ap (λ (xs : List ℕ). node_at xs i) node

  nodes : AreNodes (IsArc graph.arcs) (node_at graph.node)
  nodes i j = (
    (λ same. subst (λ (k : ℕ). Joined (IsArc graph.arcs) i k) (sym (its_own i) ∙ same ∙ its_own j) (Here, Here)),
    (λ joined. ap (λ (k : ℕ). node_at graph.node k) (stays i j joined.0)),
  )

  last_none : (x : ℕ) → last_of rows x ≡ None
  last_none x = ap its_slot (empty.last x)

  rows_are : AreRows a [] graph.held rows
  rows_are = record {
    below = λ x w is. absurd (none_some (sym (last_none x) ∙ is));
    cells = λ x c is. absurd (none_some (sym (empty.last x) ∙ is));
    last = λ x. subst (λ (o : Option ℕ). MatchOption (if_held graph.held o) (NoWriter a x) (λ w. IsLastWriter a x w)) (sym (last_none x)) (λ q. is_false (held_at graph.held q));
    all = λ x o reads. absurd (no_true (held_at graph.held o) reads);
    only = λ x c among. absurd (in_none c _ (empty.waiting x) among);
  }

  pub none_linked : AreLinked [] graph rows
  none_linked = record {
    slots = ap length node;
    held = ap length held;
    small = omega arith;
    cells = empty.cells;
    few = λ i. (omega arith, omega arith);
    nodes = nodes;
    arcs = record {
      only = λ c p is. absurd (no_arc c p is);
      all = λ o p arc. absurd (no_edge o p arc);
      next = λ x o p leads. absurd (no_true (held_at graph.held o) leads.0);
    };
    rows_are = rows_are;
  }
