-- The nodes that a store finds due are those whose gates a round of its world opens.
use Rattle.std.proofs.Common.{◌≡◌, ◌∙◌, sym, subst, ℕ, zero, suc, ◌+◌, ◌<◌, Bool, false, List, [], ◌∷◌, refl, arith, inl, inr, Some}
use Rattle.std.specs.Prelude.{IsTrue, IsFalse, ◌==◌, ◌&&◌, not, nat_lt}
use Rattle.std.proofs.lemmas.Bool.{and_from, and_parts, both_ways, cases_Bool, cases_eq, cond-false, cond-true, eq-eqb, eqb-true, false_from_ne_true, lt-ltb, ne_eqb, not-true, not_from_false, or_cases, or_from, or_left, ltb-true}
use Rattle.oper_core.specs.Meaning.{Meaning, IsLawful}
use Rattle.oper_core.specs.State.{is_among}
use Rattle.formats.specs.declared.params.Params.{Params}
use Rattle.install_order.specs.Computed.{IsWithin, least_below, some_below}
use Rattle.install_order.specs.NodeLaws.{least-is, name-is, node-is, some-from, some-gives}
use Rattle.install_order.specs.Order.{Access, IsMinimal, IsName, IsNode, NoEdgeInto}
use Rattle.write_graph.specs.Graph.{IsNodeNamed}
use Rattle.explain_core.specs.CountLaws.{count_none}
use Rattle.explain_core.specs.Sound.{IsSound}
use Rattle.explain_core.specs.Turns.{count_below, has_work, is_entered, due_from as due_gates, gate_at, is_due, object_at, round_gates}
use Rattle.explain_core.specs.World.{World, end_of, graph_access, node_named, work_of}
use Rattle.running_store.specs.Courses.{is_identity_at}
use Rattle.running_store.specs.Parts.{ShowsVolatile, Volatile}
use Rattle.running_store.specs.Steps.RoundImages.{objects_of}
use Rattle.cache_manager.specs.DueNodes.{IsDueFor, IsRoundFrom, gates_at}
use Rattle.cache_manager.specs.InstallCourses.{may_flush}
use Rattle.cache_manager.specs.Thin.{HasToFlush, IsWork}
use Rattle.cache_manager.proofs.Counts.{count_le, count_one}
use Rattle.cache_manager.proofs.NextNode.Least.{below, is_within, none_enters, test_none}
use Rattle.cache_manager.proofs.OneRound.Singles.{single_from, single_gives}
use Rattle.cache_manager.proofs.ToLog.Tally.{counted_apart}
use Rattle.cache_manager.proofs.ThinNode.Worlds.{count_few, due_from, due_gives, member, node_is_named}
use Rattle.cache_manager.proofs.NextNode.WorkOf.{AreAlone, work_from, work_gives, work_there}

-- x stands alone in a list of one
pub one_is : (x y : ℕ) → IsTrue (is_among y (x ∷ [])) → y ≡ x
one_is x y there = elim (or_cases (y == x) false there) [ inl here ↦ eqb-true y x here | inr none ↦ absurd (both_ways _ refl none) ]

here : (x : ℕ) → IsTrue (is_among x (x ∷ []))
here x = or_left (x == x) false (eq-eqb x x refl)

module _ {O : Type 0} (m : Meaning O) (lawful : IsLawful m) (w : World O) (sound : IsSound m w) (may : World O → ℕ → Bool) where
  abbrev a : Access
  a = graph_access m w

  abbrev end : ℕ
  end = end_of w

  within : IsWithin a m.objects end
  within = is_within m lawful w sound

  -- n is the least of its node, which is minimal and has one object to flush, x, which may be flushed
  pub record IsDueNode (n x : ℕ) : Type 0 where
    pub member : IsTrue (w.graph n)
    pub is_name : IsName (node_named m w n) n
    pub minimal : IsMinimal a (node_named m w n)
    pub work : work_of m w (node_named m w n) x
    pub only : (y : ℕ) → work_of m w (node_named m w n) y → y ≡ x
    pub flushes : IsTrue (may w x)

  -- what is due passes the test, and its object is found
  module _ (n x : ℕ) (due : IsDueNode n x) where
    abbrev node : ℕ → Bool
    node = node_named m w n

    passes : IsTrue (has_work m w node x)
    passes = work_gives m lawful w sound node x due.work

    pub object_is : object_at m w n ≡ x
    object_is =
        let l = least-is (has_work m w node) m.objects in
        let there = work_there m lawful w sound node x due.work in
        let low : least_below m.objects (has_work m w node) < m.objects = omega (arith, l.2 x there passes, there) in
        due.only (object_at m w n) (work_from m lawful w sound node (object_at m w n) (l.1 low))

    pub due_passes : IsTrue (is_due m may w n)
    due_passes =
        let low : n < end = below m lawful w sound n due.member in
        let named = name-is node end n due.is_name.0 low in
        let least : least_below end node ≡ n = omega (arith, named.1 n due.is_name.0, due.is_name.1 (least_below end node) named.0) in
        let most = count_few m.objects (has_work m w node) (λ y z first second. due.only y (work_from m lawful w sound node y first) ∙ sym (due.only z (work_from m lawful w sound node z second))) in
        let some = count_one m.objects (has_work m w node) x (work_there m lawful w sound node x due.work) passes in
        let one : count_below m.objects (has_work m w node) ≡ 1 = omega (arith, most, some) in
        and_from (w.graph n) _ due.member (and_from (least_below end node == n) _ (eq-eqb _ _ least) (and_from (not (is_entered m w node)) _ (test_none m lawful w sound node due.minimal.1)
        (and_from (count_below m.objects (has_work m w node) == 1) _ (eq-eqb _ _ one) (subst (λ (y : ℕ). IsTrue (may w y)) (sym object_is) due.flushes))))

  -- and what passes the test is due
  module _ (n : ℕ) (is : IsTrue (is_due m may w n)) where
    abbrev found : ℕ → Bool
    found = node_named m w n

    held : IsTrue (w.graph n)
    held = (and_parts (w.graph n) _ is).0

    rest : IsTrue ((least_below end found == n) && (not (is_entered m w found) && ((count_below m.objects (has_work m w found) == 1) && may w (object_at m w n))))
    rest = (and_parts (w.graph n) _ is).1

    shape : IsTrue (not (is_entered m w found) && ((count_below m.objects (has_work m w found) == 1) && may w (object_at m w n)))
    shape = (and_parts (least_below end found == n) _ rest).1

    last : IsTrue ((count_below m.objects (has_work m w found) == 1) && may w (object_at m w n))
    last = (and_parts (not (is_entered m w found)) _ shape).1

    one : count_below m.objects (has_work m w found) ≡ 1
    one = eqb-true _ _ (and_parts (count_below m.objects (has_work m w found) == 1) _ last).0

    some : IsTrue (some_below m.objects (has_work m w found))
    some = elim (cases_Bool (some_below m.objects (has_work m w found))) [
      | inl there ↦ there
      | inr none ↦
          let few = count_le m.objects (has_work m w found) (λ k. false) (λ k lt held. absurd (both_ways _ none (some-from m.objects (has_work m w found) k lt held))) in
          absurd (omega (arith, few, one, count_none m.objects))
    ]

    object : work_of m w found (object_at m w n)
    object =
        let g = some-gives m.objects (has_work m w found) some in
        let l = least-is (has_work m w found) m.objects in
        work_from m lawful w sound found (object_at m w n) (l.1 (omega (arith, l.2 g.0 g.1 g.2, g.1)))

    only : (y : ℕ) → work_of m w found y → y ≡ object_at m w n
    only y work = elim (cases_eq y (object_at m w n)) [
      | inl same ↦ same
      | inr other ↦
          let x = object_at m w n in
          let two = counted_apart m.objects (y ∷ x ∷ []) (λ k. false) (has_work m w found) (or_from (y == x) false (ne_eqb y x other) refl, (refl, tt)) (λ k no. absurd (both_ways _ refl no))
          (λ z there. elim (or_cases (z == y) (is_among z (x ∷ [])) there) [
            | inl at_y ↦ let e = eqb-true z y at_y in subst (λ (k : ℕ). (k < m.objects) × IsFalse false × IsTrue (has_work m w found k)) (sym e) (work_there m lawful w sound found y work, refl, work_gives m lawful w sound found y work)
            | inr at_x ↦ let e = one_is x z at_x in subst (λ (k : ℕ). (k < m.objects) × IsFalse false × IsTrue (has_work m w found k)) (sym e) (work_there m lawful w sound found x object, refl, work_gives m lawful w sound found x object)
          ]) in
          absurd (omega (arith, two, one, count_none m.objects))
    ]

    pub passes_due : IsDueNode n (object_at m w n)
    passes_due =
        let named = node-is a m.objects end n within in
        let least : least_below end found ≡ n = eqb-true _ _ (and_parts (least_below end found == n) _ rest).0 in
        record {
          member = held;
          is_name = subst (λ (k : ℕ). IsName found k) least (name-is found end n named.1 (below m lawful w sound n held));
          minimal = (named.0, none_enters m lawful w sound found (and_parts (not (is_entered m w found)) _ shape).0);
          work = object;
          only = only;
          flushes = (and_parts (count_below m.objects (has_work m w found) == 1) _ last).1;
        }

module _ {O : Type 0} (m : Meaning O) (lawful : IsLawful m) (alone : AreAlone) (p : Params) (file : List ℕ) (it : Volatile) (w : World O) (shows : ShowsVolatile m p file it w) (sound : IsSound m w) (copied : ℕ) where
  abbrev is_due_at : ℕ → Bool
  is_due_at n = is_due m (may_flush m copied) w n

  -- what the store finds due is due
  pub due_node : (n x : ℕ) → IsDueFor it copied n x → IsDueNode m lawful w sound (may_flush m copied) n x
  due_node n x due =
      let minimal = due.minimal in
      let listed = due.work minimal.0 minimal.1 in
      let work : work_of m w minimal.0 x = due_gives m lawful p file it w shows sound minimal.0 x ((listed.exactly x).0 (here x)) in
      let same : minimal.0 ≡ node_named m w n = node_is_named m lawful p file it w shows sound n minimal.0 minimal.1 in
      let only : (y : ℕ) → work_of m w minimal.0 y → y ≡ x = λ y other. one_is x y ((listed.exactly y).1 (due_from m lawful p file it w shows sound minimal.0 y other)) in
      record {
        member = member m lawful p file it w shows sound n minimal.0 minimal.1;
        is_name = subst (λ (s : ℕ → Bool). IsName s n) same minimal.1.is_name;
        minimal = subst (λ (s : ℕ → Bool). IsMinimal (graph_access m w) s) same
            (subst (λ (b : Access). IsNode b minimal.0) shows.accesses minimal.1.is_node, subst (λ (b : Access). NoEdgeInto b minimal.0) shows.accesses minimal.2);
        work = subst (λ (s : ℕ → Bool). work_of m w s x) same work;
        only = subst (λ (s : ℕ → Bool). (y : ℕ) → work_of m w s y → y ≡ x) same only;
        flushes = not_from_false _ (false_from_ne_true _ (λ stale.
            let u = and_parts (nat_lt x copied) _ stale in
            let made = single_gives m lawful alone p file it w shows sound n minimal.0 minimal.1 x work (due.fresh x refl (ltb-true x copied u.0) minimal.0 minimal.1) in
            both_ways _ (not-true _ u.1) made));
      }

  -- and the store finds what is due
  pub due_found : (n : ℕ) → IsTrue (is_due_at n) → IsDueFor it copied n (object_at m w n)
  due_found n is =
      let x = object_at m w n in
      let node = node_named m w n in
      let due = passes_due m lawful w sound (may_flush m copied) n is in
      let named : IsNodeNamed it.entries n node = record {
        held = shows.members n ∙ due.member;
        is_node = subst (λ (b : Access). IsNode b node) (sym shows.accesses) due.minimal.0;
        is_name = due.is_name;
      } in
      let only : (s : ℕ → Bool) → IsNodeNamed it.entries n s → s ≡ node = λ s other. node_is_named m lawful p file it w shows sound n s other in
      let work : IsWork it node (x ∷ []) = record {
        rising = λ k lt. absurd (omega (arith, lt));
        exactly = λ y. (
          (λ there. subst (λ (z : ℕ). HasToFlush it node z) (sym (one_is x y there)) (due_from m lawful p file it w shows sound node x due.work)),
          (λ has. subst (λ (z : ℕ). IsTrue (is_among z (x ∷ []))) (sym (due.only y (due_gives m lawful p file it w shows sound node y has))) (here x)),
        );
      } in
      record {
        minimal = (node, named, subst (λ (b : Access). NoEdgeInto b node) (sym shows.accesses) due.minimal.1);
        work = λ s other. subst (λ (t : ℕ → Bool). IsWork it t (x ∷ [])) (sym (only s other)) work;
        fresh = λ y first low s other.
            let e : y ≡ x = some_is y (sym first) in
            let made : IsTrue (is_identity_at w.history (w.cache x).lsn) = elim (cases_Bool (is_identity_at w.history (w.cache x).lsn)) [
              | inl there ↦ there
              | inr none ↦ absurd (both_ways _ (not-true _ due.flushes) (and_from (nat_lt x copied) _ (lt-ltb x copied (omega (arith, low, e))) (not_from_false _ none)))
            ] in
            single_from m lawful alone p file it w shows sound n s other x (subst (λ (t : ℕ → Bool). work_of m w t x) (sym (only s other)) due.work) made;
      }
    where
      some_is : (y : ℕ) → Some y ≡ Some (object_at m w n) → y ≡ object_at m w n
      some_is y e = cc e

  -- so the names that the store finds are those of the round
  pub round_is : (most fuel k : ℕ) (names objects : List ℕ) → k + fuel ≡ end_of w → IsRoundFrom it copied most k names objects
      → (due_gates m (may_flush m copied) most fuel k w ≡ gates_at m w names) × (objects_of (gates_at m w names) ≡ objects)
  round_is most fuel k [] (x ∷ objects) e is = absurd is
  round_is most fuel k (n ∷ names) [] e is = absurd is
  round_is most zero k [] [] e is = (refl, refl)
  round_is zero zero k (n ∷ names) (x ∷ objects) e is = absurd is
  round_is (suc most) zero k (n ∷ names) (x ∷ objects) e is =
      let low = below m lawful w sound n (due_node n x is.1).member in absurd (omega (arith, low, is.0, e))
  round_is zero (suc fuel) k [] [] e is = (refl, refl)
  round_is zero (suc fuel) k (n ∷ names) (x ∷ objects) e is = absurd is
  round_is (suc most) (suc fuel) k [] [] e is = elim (cases_Bool (is_due_at k)) [
    | inl due ↦ elim is [ inl full ↦ absurd (omega (arith, full)) | inr over ↦ absurd (over k (omega arith) (object_at m w k, due_found k due)) ]
    | inr off ↦
        let rest = round_is (suc most) fuel (suc k) [] [] (omega (arith, e)) (elim is [ inl full ↦ inl full | inr over ↦ inr (λ j late. over j (omega (arith, late))) ]) in
        (cond-false (is_due_at k) _ _ off ∙ rest.0, refl)
  ]
  round_is (suc most) (suc fuel) k (n ∷ names) (x ∷ objects) e is =
      let passes = due_passes m lawful w sound (may_flush m copied) n x (due_node n x is.1) in
      elim (cases_Bool (is_due_at k)) [
        | inl due ↦ elim (cases_eq n k) [
          | inl same ↦
              let object = object_is m lawful w sound (may_flush m copied) n x (due_node n x is.1) in
              let rest = round_is most fuel (suc k) names objects (omega (arith, e)) (subst (λ (j : ℕ). IsRoundFrom it copied most (suc j) names objects) same is.3) in
              (cond-true (is_due_at k) _ _ due ∙ (λ i. gate_at m w (sym same i) ∷ rest.0 i), λ i. object i ∷ rest.1 i)
          | inr other ↦ absurd (is.2 k (omega arith) (omega (arith, is.0, other)) (object_at m w k, due_found k due))
        ]
        | inr off ↦
            let other : n ≡ k → ⊥ = λ same. both_ways _ off (subst (λ (j : ℕ). IsTrue (is_due_at j)) same passes) in
            let rest = round_is (suc most) fuel (suc k) (n ∷ names) (x ∷ objects) (omega (arith, e)) (omega (arith, is.0, other), is.1, (λ j late before. is.2 j (omega (arith, late)) before), is.3) in
            (cond-false (is_due_at k) _ _ off ∙ rest.0, rest.1)
      ]

  pub chosen_is : (most : ℕ) (names objects : List ℕ) → IsRoundFrom it copied most 0 names objects → (round_gates m (may_flush m copied) most w ≡ gates_at m w names) × (objects_of (gates_at m w names) ≡ objects)
  chosen_is most names objects is = round_is most (end_of w) 0 names objects (omega arith) is
