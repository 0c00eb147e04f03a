-- The numbers that `stat` counts are those of the world that the store shows.
use Rattle.std.proofs.Common.{◌≡◌, ◌∙◌, sym, subst, ℕ, Bool, true, false, List, refl, arith}
use Rattle.std.specs.Prelude.{IsTrue, ◌==◌, ◌&&◌}
use Rattle.std.proofs.lemmas.Bool.{and_from, and_parts, eq-eqb, eqb-true}
use Rattle.oper_core.specs.State.{is_among}
use Rattle.oper_core.specs.Meaning.{Meaning, IsLawful, IsSmall}
use Rattle.formats.specs.Objects.{IsObjectsFile, bounds_of}
use Rattle.formats.specs.declared.params.Params.{Params}
use Rattle.install_order.specs.Computed.{IsWithin, least_below}
use Rattle.install_order.specs.NodeLaws.{name-is, node-is, node-unique}
use Rattle.install_order.specs.Order.{Access, IsName, IsNode}
use Rattle.standing.specs.OneStable.{small_store}
use Rattle.write_graph.specs.Graph.{IsCount, NamesNode}
use Rattle.explain_core.specs.CountLaws.{count_same}
use Rattle.explain_core.specs.GraphLaws.{graph-within}
use Rattle.explain_core.specs.Sound.{IsSound}
use Rattle.explain_core.specs.Turns.{count_below}
use Rattle.explain_core.specs.World.{World, end_of, graph_access, node_named}
use Rattle.running_store.specs.Counted.{in_graph_below, rising_listed}
use Rattle.running_store.specs.Parts.{Volatile, ShowsVolatile}

-- two tests that hold of the same numbers are one
same_test : (a b : Bool) → (IsTrue a → IsTrue b) → (IsTrue b → IsTrue a) → a ≡ b
same_test true b to from = sym (to refl)
same_test false true to from = from refl
same_test false false to from = refl

-- a store that is shown has small numbers
pub small_in : {O : Type 0} (m : Meaning O) (p : Params) (file : List ℕ) (it : Volatile) (w : World O) → ShowsVolatile m p file it w → IsSmall (bounds_of p)
small_in m p file it w shows = small_store p file (subst (λ (q : Params). IsObjectsFile q file) shows.params shows.laid.slots.whole)

module _ {O : Type 0} (m : Meaning O) (lawful : IsLawful m) (p : Params) (file : List ℕ) (it : Volatile) (w : World O) (sound : IsSound m w) (shows : ShowsVolatile m p file it w) where
  abbrev end : ℕ
  end = end_of w

  -- n is in the graph, and the least of its node
  abbrev is_named : ℕ → Bool
  is_named n = w.graph n && (least_below end (node_named m w n) == n)

  within : IsWithin (graph_access m w) m.objects end
  within = graph-within m lawful w sound

  named_passes : (n : ℕ) → NamesNode it.entries n → IsTrue (is_named n)
  named_passes n names =
      let node = names.0 in
      let named = names.1 in
      let held : IsTrue (w.graph n) = sym (shows.members n) ∙ named.held in
      let is_node = subst (λ (b : Access). IsNode b node) shows.accesses named.is_node in
      let computed = node-is (graph_access m w) m.objects end n within in
      let same : node ≡ node_named m w n = node-unique (graph_access m w) node (node_named m w n) n is_node computed.0 named.is_name.0 computed.1 in
      let made = name-is node end n named.is_name.0 (in_graph_below m w sound n held) in
      let least : least_below end node ≡ n = omega (arith, made.1 n named.is_name.0, named.is_name.1 (least_below end node) made.0) in
      and_from (w.graph n) _ held (subst (λ (s : ℕ → Bool). IsTrue (least_below end s == n)) same (eq-eqb _ _ least))

  passes_named : (n : ℕ) → IsTrue (is_named n) → NamesNode it.entries n
  passes_named n passes =
      let both = and_parts (w.graph n) _ passes in
      let node = node_named m w n in
      let computed = node-is (graph_access m w) m.objects end n within in
      let made = name-is node end n computed.1 (in_graph_below m w sound n both.0) in (
        node,
        record {
          held = shows.members n ∙ both.0;
          is_node = subst (λ (b : Access). IsNode b node) (sym shows.accesses) computed.0;
          is_name = subst (λ (k : ℕ). IsName node k) (eqb-true (least_below end node) n both.1) made;
        },
      )

  -- as many nodes as names in the world
  pub nodes_counted : (count : ℕ) → IsCount (NamesNode it.entries) count → count ≡ count_below end is_named
  nodes_counted count is =
      let xs = is.0 in
      let lists = is.1 in
      is.2 ∙ sym (rising_listed end xs lists.rising (λ x there. in_graph_below m w sound x (and_parts (w.graph x) _ (named_passes x ((lists.exactly x).0 there))).0))
      ∙ count_same end (λ x. is_among x xs) is_named (λ x lt. same_test (is_among x xs) (is_named x) (λ there. named_passes x ((lists.exactly x).0 there)) (λ passes. (lists.exactly x).1 (passes_named x passes)))
