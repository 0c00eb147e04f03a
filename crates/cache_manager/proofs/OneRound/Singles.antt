-- The version of an object that a node has to flush is of an identity write exactly where the node is that alone.
use Rattle.std.proofs.Common.{◌≡◌, ◌∙◌, sym, subst, ℕ, Bool, List}
use Rattle.std.specs.Prelude.{IsTrue}
use Rattle.std.proofs.lemmas.Bool.{and_from, and_parts}
use Rattle.oper_core.specs.Meaning.{Meaning, IsLawful}
use Rattle.formats.specs.declared.params.Params.{Params}
use Rattle.install_order.specs.Order.{Access, IsNode}
use Rattle.write_graph.specs.Graph.{IsNodeNamed, IsSingleIdentity}
use Rattle.explain_core.specs.Sound.{IsSound}
use Rattle.explain_core.specs.World.{World, graph_access, work_of}
use Rattle.running_store.specs.Courses.{is_identity_at}
use Rattle.running_store.specs.Parts.{ShowsVolatile, Volatile}
use Rattle.cache_manager.proofs.NextNode.WorkOf.{AreAlone, all_the_node, cached_is_last}

module _ {O : Type 0} (m : Meaning O) (lawful : IsLawful m) (alone : AreAlone) (p : Params) (file : List ℕ) (it : Volatile) (w : World O) (shows : ShowsVolatile m p file it w) (sound : IsSound m w)
    (n : ℕ) (node : ℕ → Bool) (named : IsNodeNamed it.entries n node) (x : ℕ) (due : work_of m w node x) where
  pub single_gives : IsSingleIdentity it.entries n node → IsTrue (is_identity_at w.history (w.cache x).lsn)
  single_gives single =
      let last = cached_is_last m lawful w sound x due.1 node due in
      let one : due.0.0 ≡ n = single.1 due.0.0 due.0.1 in
      let made : IsTrue (is_identity_at w.history n) = (and_parts (w.graph n) _ (sym (shows.identities n) ∙ single.0)).1 in
      subst (λ (k : ℕ). IsTrue (is_identity_at w.history k)) (sym one ∙ last) made

  pub single_from : IsTrue (is_identity_at w.history (w.cache x).lsn) → IsSingleIdentity it.entries n node
  single_from made =
      let is_node : IsNode (graph_access m w) node = subst (λ (a : Access). IsNode a node) shows.accesses named.is_node in
      let all = all_the_node m lawful w sound x due.1 node alone is_node made due in
      let here : n ≡ (w.cache x).lsn = all n named.is_name.0 in
      let held : IsTrue (w.graph n) = sym (shows.members n) ∙ named.held in (
        shows.identities n ∙ and_from (w.graph n) _ held (subst (λ (k : ℕ). IsTrue (is_identity_at w.history k)) (sym here) made),
        λ k in_node. all k in_node ∙ sym here,
      )
