-- Nodes that have nothing to flush are taken out of a store's graph one after the other.
use Rattle.std.proofs.Common.{◌≡◌, sym, subst, ap, ℕ, ◌<◌, Bool, false, List, [], ◌∷◌, length, refl, arith}
use Rattle.std.specs.Prelude.{IsFalse, ◌==◌, not}
use Rattle.std.specs.List.{filter}
use Rattle.std.proofs.lemmas.Bool.{both_ways, eq-eqb, or_parts}
use Rattle.disk_model.specs.Disk.{Disk, IsDisk}
use Rattle.oper_core.specs.Meaning.{Meaning}
use Rattle.oper_core.specs.State.{is_among}
use Rattle.oper_core.specs.declared.bounds.Bounds.{Bounds}
use Rattle.formats.specs.declared.params.Params.{Params}
use Rattle.log_records.specs.RecordLog.{RecordLogView}
use Rattle.install_order.specs.NodeLaws.{node-unique}
use Rattle.install_order.specs.Entries.{accesses}
use Rattle.install_order.specs.Order.{NoEdgeInto}
use Rattle.install_order.specs.declared.entry.Entry.{Entry}
use Rattle.write_graph.specs.Graph.{IsNodeNamed, NamesMinimal}
use Rattle.explain_core.specs.RoundGates.{Gate, removals_of}
use Rattle.explain_core.specs.World.{AreAllowed, World, run, step}
use Rattle.explain_core.specs.World.Step.{Removal}
use Rattle.standing.specs.Moments.{TakesSome, moments_longer, moments_twice}
use Rattle.running_store.specs.Calls.Beside.{IsOnObjectsAlone, beside_none, beside_twice}
use Rattle.running_store.specs.Calls.Laws.{unbroken_after}
use Rattle.running_store.specs.Calls.{IsCall, Never, call_none, call_twice}
use Rattle.running_store.specs.Courses.{removal_steps}
use Rattle.running_store.specs.Laid.Flushed.{DirtiesNone}
use Rattle.running_store.specs.Parts.{VolatileShows, meaning_in}
use Rattle.running_store.specs.StoreView.{StoreView}
use Rattle.running_store.specs.Parts.Stored.{run_one, stays_shown}
use Rattle.running_store.specs.Taking.{Ending}
use Rattle.running_store.specs.Taking.Ending.{Done, Failed}
use Rattle.cache_manager.specs.RoundNodes.{AreNodesOf, AreRemoved, NameMinimal}
use Rattle.cache_manager.proofs.ToLog.DirtyLogs.{logs_none, logs_removal, logs_twice}
use Rattle.cache_manager.proofs.Removal.LeftNodes.{still_named}

run_nothing : {O : Type 0} (m : Meaning O) (w : World O) → run m w [] ≡ w
unfolding run
run_nothing m w = refl

run_first : {O : Type 0} (m : Meaning O) (w : World O) (g : Gate) (gates : List Gate) → run m w (removals_of (g ∷ gates)) ≡ run m (step m w (Removal g.node)) (removals_of gates)
unfolding run
run_first m w g gates = refl

-- what is left of the entries has the other nodes
module _ (entries later : List Entry) (n : ℕ) (node : ℕ → Bool) (named : IsNodeNamed entries n node) (none : NoEdgeInto (accesses entries) node) (left : later ≡ filter (λ e. not (node e.lsn)) entries) where
  not_first : (k : ℕ) (names : List ℕ) → IsFalse (is_among n (k ∷ names)) → k ≡ n → ⊥
  not_first k names apart same = both_ways _ (or_parts (n == k) (is_among n names) apart).0 (eq-eqb n k (sym same))

  still_minimal : (names : List ℕ) → IsFalse (is_among n names) → NameMinimal entries names → NameMinimal later names
  still_minimal [] apart minimal = tt
  still_minimal (k ∷ names) apart minimal =
      let other = minimal.0 in
      let still = still_named entries node n k other.0 named none other.1 other.2 (not_first k names apart) in
      (subst (λ (es : List Entry). NamesMinimal es k) (sym left) (other.0, still.0, still.1), minimal.1, still_minimal names (or_parts (n == k) (is_among n names) apart).1 minimal.2)

  still_nodes : (names : List ℕ) (gates : List Gate) → IsFalse (is_among n names) → NameMinimal entries names → AreNodesOf entries names gates → AreNodesOf later names gates
  still_nodes [] [] apart minimal are = tt
  still_nodes [] (g ∷ gates) apart minimal are = absurd are
  still_nodes (k ∷ names) [] apart minimal are = absurd are
  still_nodes (k ∷ names) (g ∷ gates) apart minimal are =
      let other = minimal.0 in
      let same : other.0 ≡ g.node = node-unique (accesses entries) other.0 g.node k other.1.is_node are.0.is_node other.1.is_name.0 are.0.is_name.0 in
      let still = still_named entries node n k g.node named none are.0 (subst (λ (s : ℕ → Bool). NoEdgeInto (accesses entries) s) same other.2) (not_first k names apart) in
      (subst (λ (es : List Entry). IsNodeNamed es k g.node) (sym left) still.0, still_nodes names gates (or_parts (n == k) (is_among n names) apart).1 minimal.2 are.1)

-- nothing is removed
pub removed_none : {O : Type 0} (meaning : Bounds → Meaning O) (d : Disk) (it : StoreView) → IsDisk d → it.broken ≡ false → AreRemoved meaning d d it it [] Done
removed_none meaning d it lawful fine = record {
  call = call_none meaning d it Never lawful fine;
  beside = beside_none d it lawful;
  shows = λ done p w gates shows are may. no_gates p w gates shows are;
  steps = λ told p w gates shows are may. stays_shown (meaning_in meaning p) p d it.parts.volatile w (removals_of gates) lawful told shows;
  logs = λ done. logs_none it.parts;
  fewer = λ done. omega arith;
}
  where
    no_gates : (p : Params) (w : World _) (gates : List Gate) → VolatileShows (meaning_in meaning p) p d it.parts.volatile w → AreNodesOf it.parts.volatile.entries [] gates
        → VolatileShows (meaning_in meaning p) p d it.parts.volatile (run (meaning_in meaning p) w (removals_of gates))
    no_gates p w [] shows are = subst (λ (v : World _). VolatileShows (meaning_in meaning p) p d it.parts.volatile v) (sym (run_nothing (meaning_in meaning p) w)) shows
    no_gates p w (g ∷ gates) shows are = absurd are

-- one is removed
module _ {O : Type 0} (meaning : Bounds → Meaning O) (old mid : Disk) (before here : StoreView) (n : ℕ) (names : List ℕ) (minimal : NameMinimal before.parts.volatile.entries (n ∷ names)) (beside : IsOnObjectsAlone old mid before here)
    (steps : old.tells_moments → (p : Params) (w : World O) (node : ℕ → Bool) → VolatileShows (meaning_in meaning p) p old before.parts.volatile w → TakesSome (meaning_in meaning p) p old mid w (removal_steps (meaning_in meaning p) node [])) where
  first_moments : old.tells_moments → (p : Params) (w : World O) (gates : List Gate) → VolatileShows (meaning_in meaning p) p old before.parts.volatile w → AreNodesOf before.parts.volatile.entries (n ∷ names) gates
      → TakesSome (meaning_in meaning p) p old mid w (removals_of gates)
  first_moments told p w [] shows are = absurd are
  first_moments told p w (g ∷ gates) shows are = let m = meaning_in meaning p in moments_longer m p old mid w (Removal g.node ∷ []) (removals_of gates) (steps told p w g.node shows)

  -- and the disk fails
  pub removed_failed : IsCall meaning old mid before here 0 Never Failed → AreRemoved meaning old mid before here (n ∷ names) Failed
  removed_failed call = record {
    call = call;
    beside = beside;
    shows = λ done p w gates shows are may. not_done done;
    steps = λ told p w gates shows are may. first_moments told p w gates shows are;
    logs = λ done. not_done done;
    fewer = λ done. not_done done;
  }
    where
      not_done : {A : Type 0} → Failed ≡ Done → A
      not_done done = cc

  -- it is done
  module _ (call : IsCall meaning old mid before here 0 Never Done)
      (shown : (p : Params) (w : World O) (node : ℕ → Bool) → VolatileShows (meaning_in meaning p) p old before.parts.volatile w → IsNodeNamed before.parts.volatile.entries n node
      → AreAllowed (meaning_in meaning p) w (removal_steps (meaning_in meaning p) node []) → VolatileShows (meaning_in meaning p) p mid here.parts.volatile (run (meaning_in meaning p) w (removal_steps (meaning_in meaning p) node [])))
      (left : (node : ℕ → Bool) → IsNodeNamed before.parts.volatile.entries n node → (here.parts.volatile.entries ≡ filter (λ e. not (node e.lsn)) before.parts.volatile.entries) × (length here.parts.volatile.entries < length before.parts.volatile.entries))
      (dirty : DirtiesNone before.parts.volatile.objects here.parts.volatile.objects) where
    abbrev one : NamesMinimal before.parts.volatile.entries n
    one = minimal.0

    pub minimal_left : NameMinimal here.parts.volatile.entries names
    minimal_left = still_minimal before.parts.volatile.entries here.parts.volatile.entries n one.0 one.1 one.2 (left one.0 one.1).0 names minimal.1 minimal.2

    nodes_left : (gates : List Gate) → AreNodesOf before.parts.volatile.entries names gates → AreNodesOf here.parts.volatile.entries names gates
    nodes_left gates are = still_nodes before.parts.volatile.entries here.parts.volatile.entries n one.0 one.1 one.2 (left one.0 one.1).0 names gates minimal.1 minimal.2 are

    first_shown : (p : Params) (w : World O) (g : Gate) → VolatileShows (meaning_in meaning p) p old before.parts.volatile w → IsNodeNamed before.parts.volatile.entries n g.node
        → AreAllowed (meaning_in meaning p) w (Removal g.node ∷ []) → VolatileShows (meaning_in meaning p) p mid here.parts.volatile (step (meaning_in meaning p) w (Removal g.node))
    first_shown p w g shows named may = let m = meaning_in meaning p in subst (λ (v : World O). VolatileShows m p mid here.parts.volatile v) (run_one m w (Removal g.node)) (shown p w g.node shows named may)

    -- and then the others
    pub removed_next : (new : Disk) (after : StoreView) (ending : Ending) → AreRemoved meaning mid new here after names ending → AreRemoved meaning old new before after (n ∷ names) ending
    removed_next new after ending rest = record {
      call = call_twice meaning old mid new before here after 0 0 Never Never ending call rest.call;
      beside = beside_twice old mid new before here after (λ broken. both_ways _ (unbroken_after meaning old mid before here 0 Never call) broken) beside rest.beside;
      shows = λ done p w gates shows are may. all_shown done p w gates shows are may;
      steps = λ told p w gates shows are may. all_moments told p w gates shows are may;
      logs = λ done. logs_twice before.parts here.parts after.parts
          (logs_removal before.parts here.parts one.0 one.2 (left one.0 one.1).0 (ap (λ (l : RecordLogView). l.next) beside.objects.log) dirty) (rest.logs done);
      fewer = λ done. let less = (left one.0 one.1).1 in omega (arith, less, rest.fewer done);
    }
      where
        all_shown : ending ≡ Done → (p : Params) (w : World O) (gates : List Gate) → VolatileShows (meaning_in meaning p) p old before.parts.volatile w → AreNodesOf before.parts.volatile.entries (n ∷ names) gates
            → AreAllowed (meaning_in meaning p) w (removals_of gates) → VolatileShows (meaning_in meaning p) p new after.parts.volatile (run (meaning_in meaning p) w (removals_of gates))
        all_shown done p w [] shows are may = absurd are
        all_shown done p w (g ∷ gates) shows are may =
            let m = meaning_in meaning p in
            let v = step m w (Removal g.node) in
            subst (λ (u : World O). VolatileShows m p new after.parts.volatile u) (sym (run_first m w g gates)) (rest.shows done p v gates (first_shown p w g shows are.0 (may.0, tt)) (nodes_left gates are.1) may.1)

        all_moments : old.tells_moments → (p : Params) (w : World O) (gates : List Gate) → VolatileShows (meaning_in meaning p) p old before.parts.volatile w → AreNodesOf before.parts.volatile.entries (n ∷ names) gates
            → AreAllowed (meaning_in meaning p) w (removals_of gates) → TakesSome (meaning_in meaning p) p old new w (removals_of gates)
        all_moments told p w [] shows are may = absurd are
        all_moments told p w (g ∷ gates) shows are may =
            let m = meaning_in meaning p in
            let v = step m w (Removal g.node) in
            let more = rest.steps (call.quiet.time.moments_told.0 told) p v gates (first_shown p w g shows are.0 (may.0, tt)) (nodes_left gates are.1) may.1 in
            moments_twice m p old mid new w (Removal g.node ∷ []) (removals_of gates) (call.quiet.said shows.told) (steps told p w g.node shows)
            (subst (λ (u : World O). TakesSome m p mid new u (removals_of gates)) (sym (run_one m w (Removal g.node))) more)
