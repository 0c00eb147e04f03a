-- The least name of a minimal node that entries have is that of the next node of the world whose members they are.
use Rattle.std.proofs.Common.{◌≡◌, ◌∙◌, sym, subst, ap, ℕ, ◌≤◌, Bool, List, [], arith}
use Rattle.std.specs.Prelude.{IsTrue, IsFalse}
use Rattle.std.proofs.lemmas.Bool.{both_ways, false_from_ne_true}
use Rattle.oper_core.specs.Meaning.{Meaning, IsLawful}
use Rattle.oper_core.specs.State.{is_among}
use Rattle.install_order.specs.declared.entry.Entry.{Entry}
use Rattle.install_order.specs.Entries.{accesses}
use Rattle.install_order.specs.Order.{Access, IsNode, NoEdgeInto}
use Rattle.install_order.specs.NodeLaws.{some-from, some-gives}
use Rattle.write_graph.specs.Graph.{lsns, IsNodeNamed, NamesMinimal, IsLeast}
use Rattle.explain_core.specs.Sound.{IsSound}
use Rattle.explain_core.specs.World.{World, end_of, graph_access}
use Rattle.cache_manager.specs.InstallCourses.{has_members}
use Rattle.cache_manager.proofs.NextNode.Least.{IsNext, below}

module _ {O : Type 0} (m : Meaning O) (w : World O) (node : ℕ → Bool) (entries : List Entry) (members : (n : ℕ) → is_among n (lsns entries) ≡ w.graph n) (same : accesses entries ≡ graph_access m w) (next : IsNext m w node) where
  -- the entries have the next node
  pub next_named : IsNodeNamed entries next.name node
  next_named = record {
    held = members next.name ∙ next.member;
    is_node = subst (λ (a : Access). IsNode a node) (sym same) next.minimal.0;
    is_name = next.is_name;
  }

  pub next_minimal : NamesMinimal entries next.name
  next_minimal = (node, next_named, subst (λ (a : Access). NoEdgeInto a node) (sym same) next.minimal.1)

  -- and no name of a minimal node is less
  pub least_is_next : (n : ℕ) → IsLeast (NamesMinimal entries) n → n ≡ next.name
  least_is_next n least =
      let other = least.0.0 in
      let named = least.0.1 in
      let low : n ≤ next.name = least.1 next.name next_minimal in
      let high : next.name ≤ n = next.least n other (sym (members n) ∙ named.held)
      (subst (λ (a : Access). IsNode a other) same named.is_node, subst (λ (a : Access). NoEdgeInto a other) same least.0.2) named.is_name in
      omega (arith, low, high)

  pub least_named : (n : ℕ) → IsLeast (NamesMinimal entries) n → IsNodeNamed entries n node
  least_named n least = subst (λ (k : ℕ). IsNodeNamed entries k node) (sym (least_is_next n least)) next_named

-- there are entries exactly where the graph has members
module _ {O : Type 0} (m : Meaning O) (w : World O) (entries : List Entry) (members : (n : ℕ) → is_among n (lsns entries) ≡ w.graph n) where
  pub no_members : entries ≡ [] → IsFalse (has_members m w)
  no_members none = false_from_ne_true _ (λ some.
      let one = some-gives (end_of w) w.graph some in
      both_ways _ (ap (λ (es : List Entry). is_among one.0 (lsns es)) none) (members one.0 ∙ one.2))

  pub some_members : IsLawful m → IsSound m w → (n : ℕ) → IsTrue (is_among n (lsns entries)) → IsTrue (has_members m w)
  some_members lawful sound n there =
      let member : IsTrue (w.graph n) = sym (members n) ∙ there in
      some-from (end_of w) w.graph n (below m lawful w sound n member) member
