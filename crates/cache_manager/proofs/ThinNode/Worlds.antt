-- The thin node of the least name is that of the world that the store shows.
use Rattle.std.proofs.Common.{◌≡◌, ◌∙◌, sym, subst, ap, ℕ, zero, suc, ◌+◌, ◌<◌, ◌≤◌, Bool, false, not, List, [], ◌∷◌, refl, arith, inl, inr, if◌then◌else◌}
use Rattle.std.specs.Prelude.{IsTrue, IsFalse, ◌==◌, ◌&&◌, nat_le, max}
use Rattle.std.proofs.lemmas.Bool.{cases_Bool, both_ways, and_parts, and_from, or_left, eq-eqb, eqb-true, ne_eqb, cond-true, cond-false, lt-ltb, le-leb, false_from_ne_true}
use Rattle.oper_core.specs.State.{is_among}
use Rattle.disk_model.specs.Disk.{Disk}
use Rattle.disk_model.specs.declared.machine.FileNo.TheVariants.{Objects}
use Rattle.oper_core.specs.Meaning.{Meaning, IsLawful, IsSmall}
use Rattle.oper_core.specs.declared.bounds.Bounds.{Bounds}
use Rattle.formats.specs.Objects.{IsObjectsFile, bounds_of}
use Rattle.formats.specs.declared.params.Params.{Params}
use Rattle.install_order.specs.Order.{Access, IsNode, IsName, NoEdgeInto, flush_set_of}
use Rattle.install_order.specs.Computed.{IsWithin, some_below, least_below}
use Rattle.install_order.specs.NodeLaws.{some-from, some-gives, node-is, node-unique, least-is, name-is}
use Rattle.standing.specs.OneStable.{small_store}
use Rattle.write_graph.specs.Graph.{IsNodeNamed}
use Rattle.explain_core.specs.CountLaws.{count_none}
use Rattle.explain_core.specs.ThinLaws.{is_so, ready, one_work, removal_allowed}
use Rattle.explain_core.specs.Sound.{IsSound}
use Rattle.explain_core.specs.Turns.{count_below, has_work, is_entered, is_thin, thin_name, thin_node, thin_has_work, has_thin, thin_turn, free_round}
use Rattle.explain_core.specs.World.{World, AreAllowed, run, IsAllStable, end_of, graph_access, node_named, work_of}
use Rattle.explain_core.specs.World.Step.{Removal}
use Rattle.running_store.specs.Courses.{removal_steps}
use Rattle.running_store.specs.Parts.Joins.{dirty_shown}
use Rattle.running_store.specs.Parts.{Volatile, ShowsVolatile, VolatileShows}
use Rattle.cache_manager.specs.Thin.{HasToFlush, IsWork, NamesThin, IsLeastThin}
use Rattle.cache_manager.proofs.Counts.{count_le}
use Rattle.cache_manager.proofs.NextNode.Least.{is_within, below, test_none}
use Rattle.cache_manager.proofs.NextNode.WorkOf.{work_from, work_gives, work_there}

here : (x : ℕ) (xs : List ℕ) → IsTrue (is_among x (x ∷ xs))
here x xs = or_left (x == x) (is_among x xs) (eq-eqb x x refl)

-- where all that pass are equal, at most one does
pub count_few : (n : ℕ) (q : ℕ → Bool) → ((x y : ℕ) → IsTrue (q x) → IsTrue (q y) → x ≡ y) → count_below n q ≤ 1
count_few zero q few = omega arith
count_few (suc n) q few = elim (cases_Bool (q n)) [
  | inl top ↦
      let none : count_below n q ≤ count_below n (λ k. false) = count_le n q (λ k. false) (λ k lt held. absurd (omega (arith, lt, few k n held top))) in
      let e : count_below (suc n) q ≡ 1 + count_below n q = ap (λ (b : Bool). (if b then 1 else 0) + count_below n q) top in
      omega (arith, e, none, count_none n)
  | inr off ↦
      let e : count_below (suc n) q ≡ 0 + count_below n q = ap (λ (b : Bool). (if b then 1 else 0) + count_below n q) off in
      omega (arith, e, count_few n q few)
]

module _ {O : Type 0} (m : Meaning O) (lawful : IsLawful m) (p : Params) (file : List ℕ) (it : Volatile) (w : World O) (shows : ShowsVolatile m p file it w) (sound : IsSound m w) where
  abbrev a : Access
  a = graph_access m w

  abbrev end : ℕ
  end = end_of w

  within : IsWithin a m.objects end
  within = is_within m lawful w sound

  -- what a node has to flush
  pub due_gives : (node : ℕ → Bool) (x : ℕ) → HasToFlush it node x → work_of m w node x
  due_gives node x due = (
    subst (λ (b : Access). flush_set_of b node x) shows.accesses due.0,
    λ same. both_ways _ (ap not (eq-eqb (w.slots x).lsn (w.cache x).lsn same)) (sym (dirty_shown m p file it w shows x) ∙ due.1),
  )

  pub due_from : (node : ℕ → Bool) (x : ℕ) → work_of m w node x → HasToFlush it node x
  due_from node x work = (
    subst (λ (b : Access). flush_set_of b node x) (sym shows.accesses) work.0,
    dirty_shown m p file it w shows x ∙ ap not (ne_eqb (w.slots x).lsn (w.cache x).lsn work.1),
  )

  module _ (n : ℕ) (node : ℕ → Bool) (named : IsNodeNamed it.entries n node) where
    pub member : IsTrue (w.graph n)
    member = sym (shows.members n) ∙ named.held

    node_shown : IsNode a node
    node_shown = subst (λ (b : Access). IsNode b node) shows.accesses named.is_node

    -- the node is the computed one
    pub node_is_named : node ≡ node_named m w n
    node_is_named =
        let computed = node-is a m.objects end n within in
        node-unique a node (node_named m w n) n node_shown computed.0 named.is_name.0 computed.1

  -- a thin node passes the test
  thin_passes : (n : ℕ) → NamesThin it n → IsTrue (is_thin m w n)
  thin_passes n thin =
      let node = thin.0 in
      let t = thin.1 in
      let same : node ≡ node_named m w n = node_is_named n node t.named in
      let held = member n node t.named in
      let low : n < end = below m lawful w sound n held in
      let least : least_below end node ≡ n =
      let named = name-is node end n t.named.is_name.0 low in
      omega (arith, named.1 n t.named.is_name.0, t.named.is_name.1 (least_below end node) named.0) in
      let few : count_below m.objects (has_work m w node) ≤ 1 = count_few m.objects (has_work m w node)
      (λ x y first second. t.few x y (due_from node x (work_from m lawful w sound node x first)) (due_from node y (work_from m lawful w sound node y second))) in
      let no_edge : NoEdgeInto a node = subst (λ (b : Access). NoEdgeInto b node) shows.accesses t.no_edge in
      subst (λ (s : ℕ → Bool). IsTrue (w.graph n && ((least_below end s == n) && (not (is_entered m w s) && nat_le (count_below m.objects (has_work m w s)) 1)))) same
      (and_from (w.graph n) _ held (and_from (least_below end node == n) _ (eq-eqb _ _ least) (and_from (not (is_entered m w node)) _ (test_none m lawful w sound node no_edge) (le-leb _ _ few))))

  -- so where there is one, the world has one
  pub has_from : (n : ℕ) → NamesThin it n → IsTrue (has_thin m w)
  has_from n thin =
      let low : n < end = below m lawful w sound n (member n thin.0 thin.1.named) in
      lt-ltb (thin_name m w) end (omega (arith, low, (least-is (is_thin m w) end).2 n low (thin_passes n thin)))

  module _ (stable : IsAllStable w) where
    -- and where the world has one, the store has it
    pub thin_from : IsTrue (has_thin m w) → NamesThin it (thin_name m w)
    thin_from has =
        let name = thin_name m w in
        let node = node_named m w name in
        let so = is_so m lawful w sound stable has in
        let held = (and_parts (w.graph name) _ so).0 in
        let due_name = (and_parts (least_below end node == name) _ (and_parts (w.graph name) _ so).1).0 in
        let computed = node-is a m.objects end name within in
        let made = name-is node end name computed.1 (below m lawful w sound name held) in (
          node,
          record {
            named = record {
              held = shows.members name ∙ held;
              is_node = subst (λ (b : Access). IsNode b node) (sym shows.accesses) computed.0;
              is_name = subst (λ (k : ℕ). IsName node k) (eqb-true (least_below end node) name due_name) made;
            };
            no_edge = subst (λ (b : Access). NoEdgeInto b node) (sym shows.accesses) (ready m lawful w sound stable has).1.1;
            few = λ x y first second. sym (one_work m lawful w sound stable has x y (due_gives node x first) (due_gives node y second));
          },
        )

    module _ (n : ℕ) (work : List ℕ) (least : IsLeastThin it n work) where
      pub has_one : IsTrue (has_thin m w)
      has_one = has_from n least.least.0

      name_is : thin_name m w ≡ n
      name_is =
          let thin = least.least.0 in
          let low : n < end = below m lawful w sound n (member n thin.0 thin.1.named) in
          omega (arith, (least-is (is_thin m w) end).2 n low (thin_passes n thin), least.least.1 (thin_name m w) (thin_from has_one))

      -- what the world's thin node has to flush is what the store's has
      thin_node_is : (node : ℕ → Bool) → IsNodeNamed it.entries n node → thin_node m w ≡ node
      thin_node_is node named = ap (node_named m w) name_is ∙ sym (node_is_named n node named)

      pub has_no_work : work ≡ [] → IsFalse (thin_has_work m w)
      has_no_work none = false_from_ne_true _ (λ some.
          let thin = least.least.0 in
          let node = thin.0 in
          let g = some-gives m.objects (has_work m w node) (subst (λ (s : ℕ → Bool). IsTrue (some_below m.objects (has_work m w s))) (thin_node_is node thin.1.named) some) in
          let listed = subst (λ (l : List ℕ). IsWork it node l) none (least.is_work node thin.1.named) in
          both_ways _ refl ((listed.exactly g.0).1 (due_from node g.0 (work_from m lawful w sound node g.0 g.2))))

      pub has_some_work : (x : ℕ) (xs : List ℕ) → work ≡ x ∷ xs → IsTrue (thin_has_work m w)
      has_some_work x xs some =
          let thin = least.least.0 in
          let node = thin.0 in
          let listed = subst (λ (l : List ℕ). IsWork it node l) some (least.is_work node thin.1.named) in
          let due : work_of m w node x = due_gives node x ((listed.exactly x).0 (here x xs)) in
          subst (λ (s : ℕ → Bool). IsTrue (some_below m.objects (has_work m w s))) (sym (thin_node_is node thin.1.named))
          (some-from m.objects (has_work m w node) x (work_there m lawful w sound node x due) (work_gives m lawful w sound node x due))

      -- where it has none, a turn takes it out of the graph
      pub turn_removes : (most : ℕ) → work ≡ [] → (node : ℕ → Bool) → IsNodeNamed it.entries n node → thin_turn m most w ≡ removal_steps m node []
      turn_removes most none node named =
          cond-true (has_thin m w) _ _ has_one ∙ cond-false (thin_has_work m w) _ _ (has_no_work none) ∙ ap (λ (s : ℕ → Bool). Removal s ∷ []) (thin_node_is node named)

      pub removal_may : work ≡ [] → (node : ℕ → Bool) → IsNodeNamed it.entries n node → AreAllowed m w (removal_steps m node [])
      removal_may none node named =
          subst (λ (s : ℕ → Bool). AreAllowed m w (removal_steps m s [])) (thin_node_is node named) (removal_allowed m lawful w sound stable has_one (has_no_work none))

      -- and where it has one, a turn is a round
      pub turn_rounds : (most x : ℕ) (xs : List ℕ) → work ≡ x ∷ xs → thin_turn m most w ≡ free_round m (max 1 most) w
      turn_rounds most x xs some = cond-true (has_thin m w) _ _ has_one ∙ cond-true (thin_has_work m w) _ _ (has_some_work x xs some)

-- where the store has no thin node, the world has none
pub no_thin : {O : Type 0} (m : Meaning O) → IsLawful m → (p : Params) (d : Disk) (it : Volatile) (w : World O) → VolatileShows m p d it w → IsAllStable w → ((n : ℕ) → NamesThin it n → ⊥) → IsFalse (has_thin m w)
no_thin m lawful p d it w shows stable none = false_from_ne_true _ (λ has. none (thin_name m w) (thin_from m lawful p (d.reads Objects) it w shows.store shows.sound stable has))

-- no steps, no change
pub none_shown : {O : Type 0} (m : Meaning O) (p : Params) (d : Disk) (it : Volatile) (w : World O) → VolatileShows m p d it w → VolatileShows m p d it (run m w [])
unfolding run
none_shown m p d it w shows = shows

-- a store's operations are lawful
pub store_small : {O : Type 0} (m : Meaning O) (p : Params) (file : List ℕ) (it : Volatile) (w : World O) → ShowsVolatile m p file it w → IsSmall (bounds_of p)
store_small m p file it w shows = small_store p file (subst (λ (q : Params). IsObjectsFile q file) shows.params shows.laid.slots.whole)

pub store_lawful : {O : Type 0} (meaning : Bounds → Meaning O) → ((b : Bounds) → IsSmall b → IsLawful (meaning b)) → (p : Params) (file : List ℕ) (it : Volatile) (w : World O)
    → ShowsVolatile (meaning (bounds_of p)) p file it w → IsLawful (meaning (bounds_of p))
store_lawful meaning lawful p file it w shows =
    lawful (bounds_of p) (store_small (meaning (bounds_of p)) p file it w shows)
