-- A round, as calls on parts that show a world take it: all that waits is forced, gates are opened together, and their nodes leave
-- the graph.
use Rattle.std.proofs.Common.{◌≡◌, ◌∙◌, sym, subst, ap, ℕ, zero, suc, ◌<◌, ◌≤◌, Bool, true, List, [], ◌∷◌, ◌++◌, length, refl, arith, inl, inr, append_assoc}
use Rattle.std.specs.Prelude.{All, IsTrue, ◌==◌}
use Rattle.std.proofs.lemmas.Bool.{both_ways, eqb-true, false_from_ne_true, or_cases, or_left, eq-eqb}
use Rattle.std.proofs.lemmas.List.Elements.{All-cons, All-nil}
use Rattle.disk_model.specs.Disk.{Disk, OthersStay}
use Rattle.disk_model.specs.declared.machine.FileNo.TheVariants.{Objects}
use Rattle.oper_core.specs.Meaning.{Meaning, IsLawful, IsSmall}
use Rattle.oper_core.specs.State.{is_among}
use Rattle.oper_core.specs.declared.bounds.Bounds.{Bounds}
use Rattle.formats.specs.Objects.{bounds_of}
use Rattle.formats.specs.declared.params.Params.{Params}
use Rattle.log_blocks.specs.LogView.{used_of}
use Rattle.log_records.specs.RecordLog.{RecordLogView}
use Rattle.install_order.specs.declared.entry.Entry.{Entry}
use Rattle.dirty_cache.specs.Contents.{is_dirty}
use Rattle.write_graph.specs.Graph.{IsNodeNamed}
use Rattle.explain_core.specs.RoundGates.{Gate, gates_of, removals_of}
use Rattle.explain_core.specs.Turns.{round_gates}
use Rattle.explain_core.specs.RoundRemovals.{nodes_removed}
use Rattle.explain_core.specs.RunLaws.{run-append}
use Rattle.explain_core.specs.Sound.{IsSound}
use Rattle.explain_core.specs.World.{AreAllowed, IsLive, Step, World, run}
use Rattle.standing.specs.Moments.{TakesSome, moments_longer, moments_twice}
use Rattle.running_store.specs.Courses.{Course, course, force_steps}
use Rattle.running_store.specs.Courses.Stop.{Through}
use Rattle.running_store.specs.Steps.Finished.{IsQuiet, log_stays}
use Rattle.running_store.specs.Parts.{Parts, Shows, ShowsLog, ShowsVolatile, Volatile, VolatileShows, meaning_in}
use Rattle.running_store.specs.Calls.RoundCalls.{AreGatesFor, gates_course}
use Rattle.running_store.specs.Steps.RoundImages.{objects_of}
use Rattle.running_store.specs.Running.{KeepsSound}
use Rattle.running_store.specs.StoreView.{StoreView}
use Rattle.running_store.specs.Parts.Stored.{log_removed, store_shown}
use Rattle.running_store.specs.Taking.{Ending, Takes}
use Rattle.running_store.specs.Taking.Ending.{Done, Failed}
use Rattle.running_store.specs.Taking.Laws.{takes_failed}
use Rattle.cache_manager.specs.DueNodes.{IsDueFor, IsRoundFrom, gates_at}
use Rattle.cache_manager.specs.InstallCourses.{may_flush, round_course, round_steps}
use Rattle.cache_manager.specs.RoundNodes.{AreNodesOf, AreRemoved, NameMinimal}
use Rattle.cache_manager.specs.ThinShown.{by_removals, removal_live}
use Rattle.cache_manager.proofs.OneRound.DueWorlds.{chosen_is}
use Rattle.cache_manager.proofs.OneRound.Goes.{MayRound, round_allowed_behind, round_forced}
use Rattle.cache_manager.proofs.ThinNode.Worlds.{node_is_named, store_small}
use Rattle.cache_manager.proofs.NextNode.WorkOf.{AreAlone}

module _ (it : Volatile) (copied : ℕ) where
  -- the names of a round are from the first on
  round_low : (most from : ℕ) (names objects : List ℕ) → IsRoundFrom it copied most from names objects → (k : ℕ) → IsTrue (is_among k names) → from ≤ k
  round_low most from [] [] is k there = absurd (both_ways _ refl there)
  round_low most from [] (x ∷ objects) is k there = absurd is
  round_low most from (n ∷ names) [] is k there = absurd is
  round_low zero from (n ∷ names) (x ∷ objects) is k there = absurd is
  round_low (suc most) from (n ∷ names) (x ∷ objects) is k there = elim (or_cases (k == n) (is_among k names) there) [
    | inl here ↦ let same = eqb-true k n here in omega (arith, same, is.0)
    | inr later ↦ let low = round_low most (suc n) names objects is.3 k later in omega (arith, low, is.0)
  ]

  -- they are those of minimal nodes, each once
  pub round_minimal : (most from : ℕ) (names objects : List ℕ) → IsRoundFrom it copied most from names objects → NameMinimal it.entries names
  round_minimal most from [] [] is = tt
  round_minimal most from [] (x ∷ objects) is = absurd is
  round_minimal most from (n ∷ names) [] is = absurd is
  round_minimal zero from (n ∷ names) (x ∷ objects) is = absurd is
  round_minimal (suc most) from (n ∷ names) (x ∷ objects) is = (
    is.1.minimal,
    false_from_ne_true _ (λ there. let low = round_low most (suc n) names objects is.3 n there in absurd (omega (arith, low))),
    round_minimal most (suc n) names objects is.3,
  )

  -- their objects are dirty
  pub round_dirty : (most from : ℕ) (names objects : List ℕ) → IsRoundFrom it copied most from names objects → All (λ x. is_dirty it.objects.cache x ≡ true) objects
  round_dirty most from [] [] is = All-nil (λ x. is_dirty it.objects.cache x ≡ true)
  round_dirty most from [] (x ∷ objects) is = absurd is
  round_dirty most from (n ∷ names) [] is = absurd is
  round_dirty zero from (n ∷ names) (x ∷ objects) is = absurd is
  round_dirty (suc most) from (n ∷ names) (x ∷ objects) is =
      let minimal = is.1.minimal in
      let due = ((is.1.work minimal.0 minimal.1).exactly x).0 (or_left (x == x) (is_among x []) (eq-eqb x x refl)) in
      All-cons (λ x. is_dirty it.objects.cache x ≡ true) x objects due.1 (round_dirty most (suc n) names objects is.3)

  -- and they are so many at most
  pub round_few : (most from : ℕ) (names objects : List ℕ) → IsRoundFrom it copied most from names objects → length names ≤ most
  round_few most from [] objects is = omega arith
  round_few most from (n ∷ names) [] is = absurd is
  round_few zero from (n ∷ names) (x ∷ objects) is = absurd is
  round_few (suc most) from (n ∷ names) (x ∷ objects) is = let rest = round_few most (suc n) names objects is.3 in omega (arith, rest)

  -- where one is due there are some
  pub round_has : (most : ℕ) (names objects : List ℕ) → IsRoundFrom it copied most 0 names objects → 0 < most → (k x : ℕ) → IsDueFor it copied k x → 0 < length names
  round_has most [] [] is some k x due = elim is [ inl full ↦ absurd (omega (arith, full, some)) | inr over ↦ absurd (over k (omega arith) (x, due)) ]
  round_has most [] (y ∷ objects) is some k x due = absurd is
  round_has most (n ∷ names) objects is some k x due = omega arith

-- their nodes are those of the gates
module _ {O : Type 0} (m : Meaning O) (lawful : IsLawful m) (p : Params) (file : List ℕ) (it : Volatile) (w : World O) (shows : ShowsVolatile m p file it w) (sound : IsSound m w) (copied : ℕ) where
  pub round_nodes : (most from : ℕ) (names objects : List ℕ) → IsRoundFrom it copied most from names objects → AreNodesOf it.entries names (gates_at m w names)
  round_nodes most from [] [] is = tt
  round_nodes most from [] (x ∷ objects) is = absurd is
  round_nodes most from (n ∷ names) [] is = absurd is
  round_nodes zero from (n ∷ names) (x ∷ objects) is = absurd is
  round_nodes (suc most) from (n ∷ names) (x ∷ objects) is =
      let minimal = is.1.minimal in
      (subst (λ (s : ℕ → Bool). IsNodeNamed it.entries n s) (node_is_named m lawful p file it w shows sound n minimal.0 minimal.1) minimal.1, round_nodes most (suc n) names objects is.3)

-- and there are as many
pub as_many : {O : Type 0} (m : Meaning O) (w : World O) (names : List ℕ) → length names ≡ length (gates_at m w names)
as_many m w [] = refl
as_many m w (n ∷ names) = let rest = as_many m w names in omega (arith, rest)

-- with a log beside them the parts show the world after removals
module _ {O : Type 0} (m : Meaning O) (p : Params) where
  left_shows : (old new : Disk) (it : Parts) (after : Volatile) (w : World O) (gates : List Gate) → Shows m p old it w → OthersStay Objects old.reads new.reads → VolatileShows m p new after (run m w (removals_of gates))
      → Shows m p new (record { log = it.log; volatile = after }) (run m w (removals_of gates))
  left_shows old new it after w gates shows others done = record {
    told = done.told;
    running = record { sound = done.sound; live = by_removals m IsLive (removal_live m) w gates shows.running.live; alone = done.alone };
    bounds = shows.bounds;
    store = done.store;
    log = by_removals m (λ v. ShowsLog m new it.log v) (λ v node shown. log_removed m p new it.log v node shown) w gates (log_stays m p old new it.log w others done.settled shows.log);
  }

all_done : Done ≡ Done
all_done = refl

module _ {O : Type 0} (meaning : Bounds → Meaning O) (lawful : (b : Bounds) → IsSmall b → IsLawful (meaning b)) (keep : (b : Bounds) → IsSmall b → KeepsSound (meaning b)) (rounds : (b : Bounds) → IsSmall b → MayRound (meaning b)) (alone : AreAlone)
    (copied most : ℕ) (old : Disk) (before : StoreView) (names objects : List ℕ) (chosen : IsRoundFrom before.parts.volatile copied most 0 names objects) where
  -- the gates of a round
  abbrev pub gates_in : Meaning O → World O → List Gate
  gates_in m w = round_gates m (may_flush m copied) most w

  abbrev flushing : Meaning O → World O → ℕ → Course O
  flushing m w used = gates_course m (gates_in m) w used

  module _ (p : Params) (w : World O) (shows : Shows (meaning_in meaning p) p old before.parts w) where
    abbrev m : Meaning O
    m = meaning_in meaning p

    small : IsSmall (bounds_of p)
    small = store_small m p (old.reads Objects) before.parts.volatile w shows.store

    abbrev v : World O
    v = run m w (force_steps m w)

    abbrev gates : List Gate
    gates = gates_in m w

    forced : gates_in m v ≡ gates
    forced = round_forced m copied most w

    found : (gates ≡ gates_at m w names) × (objects_of (gates_at m w names) ≡ objects)
    found = chosen_is m (lawful (bounds_of p) small) alone p (old.reads Objects) before.parts.volatile w shows.store shows.running.sound copied most names objects chosen

    pub how_many : length names ≡ length gates
    how_many = as_many m w names ∙ ap (λ (l : List Gate). length l) (sym found.0)

    may_open : AreAllowed m v (gates_of gates)
    may_open = round_allowed_behind m (keep (bounds_of p) small) (rounds (bounds_of p) small) copied most w shows.running

    flush_is : (used : ℕ) → flushing m w used ≡ course (force_steps m w ++ gates_of gates) used Through
    flush_is used = ap (λ (l : List Gate). course (force_steps m w ++ gates_of l) used Through) forced

    nodes : AreNodesOf before.parts.volatile.entries names gates
    nodes = subst (λ (l : List Gate). AreNodesOf before.parts.volatile.entries names l) (sym found.0)
        (round_nodes m (lawful (bounds_of p) small) p (old.reads Objects) before.parts.volatile w shows.store shows.running.sound copied most 0 names objects chosen)

    abbrev u : World O
    u = run m w (force_steps m w ++ gates_of gates)

    may_leave : AreAllowed m u (removals_of gates)
    may_leave = subst (λ (t : World O). AreAllowed m t (removals_of gates)) (sym (run-append m w (force_steps m w) (gates_of gates))) (nodes_removed m v gates may_open)

    both : (force_steps m w ++ gates_of gates) ++ removals_of gates ≡ round_steps m copied most w
    both = append_assoc (force_steps m w) (gates_of gates) (removals_of gates)

  -- the objects are those of the gates
  pub are_gates : AreGatesFor meaning old before.parts objects (λ m w. round_gates m (may_flush m copied) most w)
  are_gates p w shows = (
    ap (λ (l : List Gate). objects_of l) (forced p w shows ∙ (found p w shows).0) ∙ (found p w shows).1,
    subst (λ (l : List Gate). AreAllowed (meaning_in meaning p) (v p w shows) (gates_of l)) (sym (forced p w shows)) (may_open p w shows),
  )

  -- the flush fails
  pub takes_unflushed : (new : Disk) (after : Parts) → Takes meaning old new before.parts after flushing Failed → Takes meaning old new before.parts after (λ m w used. round_course m copied most w used) Failed
  takes_unflushed new after takes = takes_failed meaning old new before.parts after (λ m w used. round_course m copied most w used) (λ told p w shows.
      let m = meaning_in meaning p in
      let used = used_of before.parts.log.log in
      let first = subst (λ (c : Course O). TakesSome m p old new w c.steps) (flush_is p w shows used) (takes.steps told p w shows) in
      subst (λ (l : List (Step O)). TakesSome m p old new w l) (both p w shows) (moments_longer m p old new w (force_steps m w ++ gates_of (gates p w shows)) (removals_of (gates p w shows)) first))

  -- it is done
  module _ (mid new : Disk) (here after : StoreView) (quiet : IsQuiet old mid) (flushed : Takes meaning old mid before.parts here.parts flushing Done) (same : here.parts.volatile.entries ≡ before.parts.volatile.entries) where
    module _ (p : Params) (w : World O) (shows : Shows (meaning_in meaning p) p old before.parts w) where
      there : Shows (meaning_in meaning p) p mid here.parts (u p w shows)
      there =
          let m = meaning_in meaning p in
          subst (λ (c : Course O). Shows m p mid here.parts (run m w c.steps)) (flush_is p w shows (used_of before.parts.log.log)) (flushed.follows p w shows).1.shows

      length_there : used_of here.parts.log.log ≡ used_of before.parts.log.log
      length_there = (flushed.follows p w shows).1.used

      nodes_here : AreNodesOf here.parts.volatile.entries names (gates p w shows)
      nodes_here = subst (λ (es : List Entry). AreNodesOf es names (gates p w shows)) (sym same) (nodes p w shows)

    module _ (ending : Ending) (removed : AreRemoved meaning mid new here after names ending) where
      all_moments : old.tells_moments → (p : Params) (w : World O) → Shows (meaning_in meaning p) p old before.parts w → TakesSome (meaning_in meaning p) p old new w (round_steps (meaning_in meaning p) copied most w)
      all_moments told p w shows =
          let m = meaning_in meaning p in
          let first = subst (λ (c : Course O). TakesSome m p old mid w c.steps) (flush_is p w shows (used_of before.parts.log.log)) (flushed.steps told p w shows) in
          let second = removed.steps (quiet.time.moments_told.0 told) p (u p w shows) (gates p w shows) (store_shown m p mid here.parts (u p w shows) (there p w shows)) (nodes_here p w shows) (may_leave p w shows) in
          subst (λ (l : List (Step O)). TakesSome m p old new w l) (both p w shows)
          (moments_twice m p old mid new w (force_steps m w ++ gates_of (gates p w shows)) (removals_of (gates p w shows)) (quiet.said shows.told) first second)

    -- a removal fails
    pub takes_unremoved : AreRemoved meaning mid new here after names Failed → Takes meaning old new before.parts after.parts (λ m w used. round_course m copied most w used) Failed
    takes_unremoved removed = takes_failed meaning old new before.parts after.parts (λ m w used. round_course m copied most w used) (λ told p w shows. all_moments Failed removed told p w shows)

    -- all is done
    pub takes_round : AreRemoved meaning mid new here after names Done → Takes meaning old new before.parts after.parts (λ m w used. round_course m copied most w used) Done
    takes_round removed = record {
      follows = λ p w shows.
          let m = meaning_in meaning p in
          let at = u p w shows in
          let left = gates p w shows in
          let all = left_shows m p mid new here.parts after.parts.volatile at left (there p w shows) (removed.beside.objects.runs.reads (there p w shows).told).others
          (removed.shows all_done p at left (store_shown m p mid here.parts at (there p w shows)) (nodes_here p w shows) (may_leave p w shows)) in
          let log = removed.beside.objects.log in
          let end : run m w (round_steps m copied most w) ≡ run m at (removals_of left) =
          ap (λ (l : List (Step O)). run m w l) (sym (both p w shows)) ∙ run-append m w (force_steps m w ++ gates_of left) (removals_of left) in (
            refl,
            record {
              shows = subst (λ (t : World O). Shows m p new after.parts t) (sym end) (subst (λ (l : RecordLogView). Shows m p new (record { log = l; volatile = after.parts.volatile }) (run m at (removals_of left))) (sym log) all);
              used = ap (λ (l : RecordLogView). used_of l.log) log ∙ length_there p w shows;
            },
          );
      steps = λ told p w shows. all_moments Done removed told p w shows;
    }
