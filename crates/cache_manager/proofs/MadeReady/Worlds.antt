-- The nodes that a store finds to be made ready are those of the world that it shows, and so is what is logged of them.
use Rattle.std.proofs.Common.{◌≡◌, ◌∙◌, sym, subst, ap, ℕ, zero, suc, ◌+◌, ◌<◌, Bool, true, List, [], ◌∷◌, ◌++◌, length, refl, arith, inl, inr}
use Rattle.std.specs.Prelude.{All, IsTrue, slice_index}
use Rattle.std.specs.List.Sorted.{IsStrictlyIncreasing}
use Rattle.std.proofs.lemmas.Bool.{both_ways, cases_Bool, cases_eq, cond-false, cond-true, false_from_ne_true}
use Rattle.std.proofs.lemmas.List.Kept.{IsStrictlyIncreasing-filter}
use Rattle.disk_model.specs.Disk.{Disk}
use Rattle.disk_model.specs.declared.machine.FileNo.TheVariants.{Objects}
use Rattle.oper_core.specs.Meaning.{Meaning, IsLawful}
use Rattle.oper_core.specs.State.{is_among}
use Rattle.formats.specs.declared.params.Params.{Params}
use Rattle.install_order.specs.declared.entry.Entry.{Entry}
use Rattle.install_order.specs.Order.{Access, IsMinimal, IsName, IsNode, NoEdgeInto}
use Rattle.write_graph.specs.Graph.{IsNodeNamed, NamesMinimal, lsns}
use Rattle.dirty_cache.specs.Contents.{is_dirty}
use Rattle.explain_core.specs.Turns.{has_work}
use Rattle.explain_core.specs.World.{World, end_of, graph_access, node_named}
use Rattle.running_store.specs.Courses.{cached_length}
use Rattle.running_store.specs.Parts.{Parts, Shows, Volatile}
use Rattle.running_store.specs.Running.{KeepsSound}
use Rattle.cache_manager.specs.InstallCourses.{but_longest, counted, is_unready, must_log, must_log_in, next_node, others_in, others_of, readied, unready_from, unready_nodes, work_in}
use Rattle.cache_manager.specs.ReadyNodes.{AreLoggedFirst, AreOthers, IsNextReady, IsReadyFrom, IsUnready, IsUnreadyFor}
use Rattle.cache_manager.specs.Thin.{IsWork}
use Rattle.cache_manager.proofs.NextNode.Besides.{in_must, must_in, must_shown, work_same}
use Rattle.cache_manager.proofs.NextNode.Least.{below}
use Rattle.cache_manager.proofs.NextNode.Planned.{lengths_shown}
use Rattle.cache_manager.proofs.NextNode.Work.{next_shown}
use Rattle.cache_manager.proofs.NextNode.WorkOf.{AreAlone, in_work, work_in_it}
use Rattle.cache_manager.proofs.MadeReady.Goes.{readied_may, readied_none}
use Rattle.cache_manager.proofs.MadeReady.Nodes.{IsUnreadyNode, passes_unready, unready_passes}
use Rattle.cache_manager.proofs.ThinNode.Nodes.{among_all}
use Rattle.cache_manager.proofs.ThinNode.Worlds.{due_from, due_gives, member, node_is_named}

-- numbers that are counted rise
counted_at : (j n k : ℕ) → k < n → slice_index (counted j n) k ≡ j + k
counted_at j zero k lt = absurd (omega (arith, lt))
counted_at j (suc n) zero lt = omega arith
counted_at j (suc n) (suc k) lt = let rest = counted_at (suc j) n k (omega (arith, lt)) in omega (arith, rest)

counted_long : (j n : ℕ) → length (counted j n) ≡ n
counted_long j zero = refl
counted_long j (suc n) = ap suc (counted_long (suc j) n)

counted_rises : (n : ℕ) → IsStrictlyIncreasing (counted 0 n)
counted_rises n = λ k lt.
    let long = counted_long 0 n in
    omega (arith, counted_at 0 n k (omega (arith, lt, long)), counted_at 0 n (k + 1) (omega (arith, lt, long)))

module _ {O : Type 0} (m : Meaning O) (lawful : IsLawful m) (keeps : KeepsSound m) (alone : AreAlone) (p : Params) (d : Disk) (it : Parts) (w : World O) (shows : Shows m p d it w) (copied : ℕ) where
  abbrev file : List ℕ
  file = d.reads Objects

  abbrev store : Volatile
  store = it.volatile

  abbrev node : ℕ → ℕ → Bool
  node n = node_named m w n

  abbrev IsUnreadyAt : ℕ → Type 0
  IsUnreadyAt n = IsUnreadyNode m copied lawful keeps alone w shows.running.sound n

  -- what the store finds may not be finished in the world
  unready_node : (n : ℕ) (work : List ℕ) → IsUnreadyFor store copied n work → IsUnreadyAt n
  unready_node n work is =
      let minimal = is.minimal in
      let same : minimal.0 ≡ node n = node_is_named m lawful p file store w shows.store shows.running.sound n minimal.0 minimal.1 in
      let must = must_in m lawful alone p file store w shows.store shows.running.sound n minimal.0 minimal.1 work (is.is_work minimal.0 minimal.1) copied is.must in
      record {
        member = member m lawful p file store w shows.store shows.running.sound n minimal.0 minimal.1;
        is_name = subst (λ (s : ℕ → Bool). IsName s n) same minimal.1.is_name;
        minimal = subst (λ (s : ℕ → Bool). IsMinimal (graph_access m w) s) same
            (subst (λ (b : Access). IsNode b minimal.0) shows.store.accesses minimal.1.is_node, subst (λ (b : Access). NoEdgeInto b minimal.0) shows.store.accesses minimal.2);
        must = subst (λ (s : ℕ → Bool). IsTrue (must_log_in m copied w s)) same must;
      }

  -- and what is logged of it there is logged of it here
  others_same : (n : ℕ) (work others : List ℕ) → IsUnreadyFor store copied n work → AreOthers store.objects copied work others → others ≡ others_in m copied w (node n)
  others_same n work others is are =
      let minimal = is.minimal in
      let listed = is.is_work minimal.0 minimal.1 in
      let same : minimal.0 ≡ node n = node_is_named m lawful p file store w shows.store shows.running.sound n minimal.0 minimal.1 in
      let dirty : All (λ x. is_dirty store.objects.cache x ≡ true) work = among_all (λ x. is_dirty store.objects.cache x ≡ true) work (λ x there. ((listed.exactly x).0 there).1) in
      are file (cached_length m w) (lengths_shown m p d it w shows work dirty)
      ∙ ap (λ (l : List ℕ). but_longest copied (cached_length m w) l) (work_same m lawful alone p file store w shows.store shows.running.sound n minimal.0 minimal.1 work listed copied)
      ∙ ap (λ (s : ℕ → Bool). others_in m copied w s) same

  -- a node that may not be finished in the world, the store finds
  unready_of : (n : ℕ) → NamesMinimal store.entries n → (found : ℕ → Bool) → IsNodeNamed store.entries n found → IsTrue (must_log_in m copied w found) → IsUnready store copied n
  unready_of n minimal found named must =
      let work = work_in m w found in
      let listed : IsWork store found work = record {
        rising = IsStrictlyIncreasing-filter (has_work m w found) (counted 0 m.objects) (counted_rises m.objects);
        exactly = λ x. (
          (λ there. due_from m lawful p file store w shows.store shows.running.sound found x (in_work m lawful w shows.running.sound found x there)),
          (λ has. work_in_it m lawful w shows.running.sound found x (due_gives m lawful p file store w shows.store shows.running.sound found x has)),
        );
      } in
      let only : (s : ℕ → Bool) → IsNodeNamed store.entries n s → found ≡ s = λ s other.
      node_is_named m lawful p file store w shows.store shows.running.sound n found named ∙ sym (node_is_named m lawful p file store w shows.store shows.running.sound n s other) in (
        work,
        record {
          minimal = minimal;
          is_work = λ s other. subst (λ (t : ℕ → Bool). IsWork store t work) (only s other) listed;
          must = in_must m lawful alone p file store w shows.store shows.running.sound n found named work listed copied must;
        },
      )

  unready_found : (n : ℕ) → IsTrue (is_unready m copied w n) → IsUnready store copied n
  unready_found n passes =
      let is = passes_unready m copied lawful keeps alone w shows.running.sound n passes in
      let named : IsNodeNamed store.entries n (node n) = record {
        held = shows.store.members n ∙ is.member;
        is_node = subst (λ (b : Access). IsNode b (node n)) (sym shows.store.accesses) is.minimal.0;
        is_name = is.is_name;
      } in
      unready_of n (node n, named, subst (λ (b : Access). NoEdgeInto b (node n)) (sym shows.store.accesses) is.minimal.1) (node n) named is.must

  -- so the names that the store finds are those of the world
  names_are : (most fuel k : ℕ) (names logs : List ℕ) → k + fuel ≡ end_of w → IsReadyFrom store copied most k names logs → (unready_from m copied most fuel k w ≡ names) × (logs ≡ others_of m copied w names)
  names_are most zero k [] logs e is = (refl, is.0)
  names_are zero (suc fuel) k [] logs e is = (refl, is.0)
  names_are (suc most) (suc fuel) k [] logs e is = elim (cases_Bool (is_unready m copied w k)) [
    | inl here ↦ elim is.1 [ inl full ↦ absurd (omega (arith, full)) | inr over ↦ absurd (over k (omega arith) (unready_found k here)) ]
    | inr off ↦
        let rest = names_are (suc most) fuel (suc k) [] logs (omega (arith, e)) (is.0, elim is.1 [ inl full ↦ inl full | inr over ↦ inr (λ j late. over j (omega (arith, late))) ]) in
        (cond-false (is_unready m copied w k) (k ∷ unready_from m copied most fuel (suc k) w) (unready_from m copied (suc most) fuel (suc k) w) off ∙ rest.0, is.0)
  ]
  names_are zero fuel k (n ∷ names) logs e is = absurd is
  names_are (suc most) zero k (n ∷ names) logs e is =
      let low = below m lawful w shows.running.sound n (unready_node n is.0 is.5).member in absurd (omega (arith, low, is.4, e))
  names_are (suc most) (suc fuel) k (n ∷ names) logs e is =
      let there = unready_node n is.0 is.5 in
      let passes = unready_passes m copied lawful keeps alone w shows.running.sound n there in
      let taken = k ∷ unready_from m copied most fuel (suc k) w in
      let left = unready_from m copied (suc most) fuel (suc k) w in
      elim (cases_Bool (is_unready m copied w k)) [
        | inl here ↦ elim (cases_eq n k) [
          | inl same ↦
              let rest = names_are most fuel (suc k) names is.2 (omega (arith, e)) (subst (λ (j : ℕ). IsReadyFrom store copied most (suc j) names is.2) same is.8) in (
                cond-true (is_unready m copied w k) taken left here ∙ (λ i. sym same i ∷ rest.0 i),
                is.3 ∙ (λ i. others_same n is.0 is.1 is.5 is.6 i ++ rest.1 i),
              )
          | inr other ↦ absurd (is.7 k (omega arith) (omega (arith, is.4, other)) (unready_found k here))
        ]
        | inr off ↦
            let other : n ≡ k → ⊥ = λ same. both_ways _ off (subst (λ (j : ℕ). IsTrue (is_unready m copied w j)) same passes) in
            let rest = names_are (suc most) fuel (suc k) (n ∷ names) logs (omega (arith, e)) (is.0, is.1, is.2, is.3, omega (arith, is.4, other), is.5, is.6, (λ j late before. is.7 j (omega (arith, late)) before), is.8) in
            (cond-false (is_unready m copied w k) taken left off ∙ rest.0, rest.1)
      ]

  -- what the store logs first is what the world's turn does
  pub first_is : (most : ℕ) (logs : List ℕ) → AreLoggedFirst store copied most logs → readied m copied most w ≡ logs
  first_is most logs first =
      let unready = first.2 in
      let must : IsTrue (must_log m copied w) = must_shown m lawful alone p d it w shows first.0 first.1 unready.0 unready.1.is_work copied unready.1.must in
      let are = names_are most (end_of w) 0 first.3.0 logs (omega arith) first.3.1 in
      cond-true (must_log m copied w) (others_of m copied w (unready_nodes m copied most w)) [] must ∙ ap (others_of m copied w) are.0 ∙ sym are.1

  -- and nothing, where it finds nothing
  pub none_is : (most : ℕ) → IsNextReady store copied → readied m copied most w ≡ []
  none_is most (inl none) = readied_none m copied most w (λ n there. both_ways _ (sym (shows.store.members n) ∙ ap (λ (es : List Entry). is_among n (lsns es)) none) there)
  none_is most (inr found) =
      readied_may m copied most w (false_from_ne_true _ (λ must. found.2 (unready_of found.0 found.1.0 (next_node m w) (next_shown m lawful p d it w shows found.0 found.1) must)))
