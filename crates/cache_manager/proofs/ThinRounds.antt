-- A round where nothing may be logged, as calls on parts that show a world take it: gates are opened together, and their nodes leave the
-- graph.
use Rattle.std.proofs.Common.{◌≡◌, ◌∙◌, sym, subst, ap, ℕ, Bool, true, false, List, length, refl, arith}
use Rattle.std.specs.Prelude.{nat_lt, not, ◌&&◌}
use Rattle.std.proofs.lemmas.Bool.{le-ltb}
use Rattle.disk_model.specs.Disk.{Disk}
use Rattle.disk_model.specs.declared.machine.FileNo.TheVariants.{Objects}
use Rattle.oper_core.specs.Meaning.{Meaning, IsLawful, IsSmall}
use Rattle.oper_core.specs.declared.bounds.Bounds.{Bounds}
use Rattle.formats.specs.Objects.{bounds_of}
use Rattle.formats.specs.declared.params.Params.{Params}
use Rattle.install_order.specs.declared.entry.Entry.{Entry}
use Rattle.explain_core.specs.RoundGates.{Gate, gates_of, removals_of}
use Rattle.explain_core.specs.RoundRemovals.{nodes_removed}
use Rattle.explain_core.specs.RunLaws.{run-append}
use Rattle.explain_core.specs.Sound.{IsSound}
use Rattle.explain_core.specs.Turns.{free_gates, free_round, round_gates}
use Rattle.explain_core.specs.World.{AreAllowed, IsAllStable, World, run}
use Rattle.standing.specs.Moments.{TakesSome, moments_longer, moments_twice}
use Rattle.running_store.specs.Courses.{is_identity_at}
use Rattle.running_store.specs.Steps.Finished.{IsQuiet}
use Rattle.running_store.specs.Parts.{VolatileShows, meaning_in}
use Rattle.running_store.specs.Steps.RoundImages.{objects_of}
use Rattle.running_store.specs.StoreView.{StoreView}
use Rattle.running_store.specs.Taking.{Ending}
use Rattle.running_store.specs.Taking.Ending.{Done}
use Rattle.cache_manager.specs.DueNodes.{IsRoundFrom, gates_at}
use Rattle.cache_manager.specs.InstallCourses.{may_flush}
use Rattle.cache_manager.specs.RoundNodes.{AreNodesOf, AreRemoved}
use Rattle.cache_manager.proofs.OneRound.DueWorlds.{chosen_is}
use Rattle.cache_manager.proofs.OneRound.Taken.{as_many, round_nodes}
use Rattle.cache_manager.proofs.ThinNode.Worlds.{store_small}
use Rattle.cache_manager.proofs.NextNode.WorkOf.{AreAlone}

none_below : (x : ℕ) → nat_lt x 0 ≡ false
none_below x = le-ltb x 0 (omega arith)

-- where no object is copied, any may be flushed
all_free : {O : Type 0} (m : Meaning O) → may_flush m 0 ≡ (λ (w : World O) (x : ℕ). true)
all_free m = λ i w x. not (none_below x i && not (is_identity_at w.history (w.cache x).lsn))

all_done : Done ≡ Done
all_done = refl

-- the gates of a round may be opened where all members are stable
abbrev pub MayOpen : {O : Type 0} → (Bounds → Meaning O) → Type 0
MayOpen {O} meaning = (b : Bounds) (may : World O → ℕ → Bool) (most : ℕ) (w : World O) → IsSmall b → IsSound (meaning b) w → IsAllStable w → AreAllowed (meaning b) w (gates_of (round_gates (meaning b) may most w))

module _ {O : Type 0} (meaning : Bounds → Meaning O) (lawful : (b : Bounds) → IsSmall b → IsLawful (meaning b)) (opens : MayOpen meaning) (alone : AreAlone)
    (most : ℕ) (old : Disk) (before : StoreView) (names objects : List ℕ) (chosen : IsRoundFrom before.parts.volatile 0 most 0 names objects) where
  module _ (p : Params) (w : World O) (shows : VolatileShows (meaning_in meaning p) p old before.parts.volatile w) where
    abbrev m : Meaning O
    m = meaning_in meaning p

    abbrev gates : List Gate
    gates = free_gates m most w

    small : IsSmall (bounds_of p)
    small = store_small m p (old.reads Objects) before.parts.volatile w shows.store

    found : (gates ≡ gates_at m w names) × (objects_of (gates_at m w names) ≡ objects)
    found =
        let is = chosen_is m (lawful (bounds_of p) small) alone p (old.reads Objects) before.parts.volatile w shows.store shows.sound 0 most names objects chosen in
        (ap (λ (may : World O → ℕ → Bool). round_gates m may most w) (sym (all_free m)) ∙ is.0, is.1)

    flushed_are : objects_of gates ≡ objects
    flushed_are = ap (λ (l : List Gate). objects_of l) found.0 ∙ found.1

    pub free_count : length names ≡ length gates
    free_count = as_many m w names ∙ ap (λ (l : List Gate). length l) (sym found.0)

    nodes : AreNodesOf before.parts.volatile.entries names gates
    nodes = subst (λ (l : List Gate). AreNodesOf before.parts.volatile.entries names l) (sym found.0)
        (round_nodes m (lawful (bounds_of p) small) p (old.reads Objects) before.parts.volatile w shows.store shows.sound 0 most 0 names objects chosen)

    -- the flush fails
    pub free_unflushed : (new : Disk) → ((gates : List Gate) → objects_of gates ≡ objects → TakesSome m p old new w (gates_of gates)) → TakesSome m p old new w (free_round m most w)
    free_unflushed new some = moments_longer m p old new w (gates_of gates) (removals_of gates) (some gates flushed_are)

    module _ (stable : IsAllStable w) where
      may_open : AreAllowed m w (gates_of gates)
      may_open = opens (bounds_of p) (λ v x. true) most w small shows.sound stable

      may_leave : AreAllowed m (run m w (gates_of gates)) (removals_of gates)
      may_leave = nodes_removed m w gates may_open

      module _ (mid new : Disk) (here after : StoreView) (same : here.parts.volatile.entries ≡ before.parts.volatile.entries)
          (flushed : (gates : List Gate) → objects_of gates ≡ objects → AreAllowed m w (gates_of gates) → VolatileShows m p mid here.parts.volatile (run m w (gates_of gates))) (ending : Ending)
          (removed : AreRemoved meaning mid new here after names ending) where
        nodes_here : AreNodesOf here.parts.volatile.entries names gates
        nodes_here = subst (λ (es : List Entry). AreNodesOf es names gates) (sym same) nodes

        there : VolatileShows m p mid here.parts.volatile (run m w (gates_of gates))
        there = flushed gates flushed_are may_open

        -- all is done
        pub free_shown : ending ≡ Done → VolatileShows m p new after.parts.volatile (run m w (free_round m most w))
        free_shown done =
            subst (λ (v : World O). VolatileShows m p new after.parts.volatile v) (sym (run-append m w (gates_of gates) (removals_of gates)))
            (removed.shows done p (run m w (gates_of gates)) gates there nodes_here may_leave)

        -- at each moment some first steps are taken
        pub free_moments : old.tells_moments → IsQuiet old mid → ((gates : List Gate) → objects_of gates ≡ objects → TakesSome m p old mid w (gates_of gates)) → TakesSome m p old new w (free_round m most w)
        free_moments told quiet some =
            moments_twice m p old mid new w (gates_of gates) (removals_of gates) (quiet.said shows.told) (some gates flushed_are)
            (removed.steps (quiet.time.moments_told.0 told) p (run m w (gates_of gates)) gates there nodes_here may_leave)
