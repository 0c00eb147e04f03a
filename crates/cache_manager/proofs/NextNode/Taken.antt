-- The next node is finished: all that waits is forced, its object is flushed, and it leaves the graph.
use Rattle.std.proofs.Common.{◌≡◌, ◌∙◌, sym, subst, ap, refl, ℕ, ◌≤◌, Bool, List, ◌++◌, length}
use Rattle.disk_model.specs.Disk.{Disk, In, Any, Runs, Same}
use Rattle.disk_model.specs.declared.machine.FileNo.TheVariants.{Objects}
use Rattle.oper_core.specs.Meaning.{Meaning, IsLawful, IsSmall}
use Rattle.oper_core.specs.declared.bounds.Bounds.{Bounds}
use Rattle.formats.specs.Objects.{bounds_of}
use Rattle.formats.specs.declared.params.Params.{Params}
use Rattle.log_blocks.specs.LogView.{used_of}
use Rattle.log_records.specs.RecordLog.{RecordLogView}
use Rattle.write_graph.specs.Graph.{IsLeast, IsNodeNamed, NamesMinimal}
use Rattle.explain_core.specs.World.{World, AreAllowed, run}
use Rattle.standing.specs.Moments.{TakesSome}
use Rattle.running_store.specs.Courses.{Course, course, force_course, force_steps, removal_steps}
use Rattle.cache_manager.specs.InstallCourses.{finish_steps, next_node, work}
use Rattle.running_store.specs.Courses.Stop.{Through}
use Rattle.running_store.specs.Steps.Finished.{IsQuiet, finish_allowed, finish_shows, finished_shows, finishing_moments, forcing_moments}
use Rattle.running_store.specs.Parts.{Parts, Shows, Volatile, VolatileShows, meaning_in}
use Rattle.running_store.specs.Running.{KeepsSound}
use Rattle.running_store.specs.Parts.Stored.{store_shown}
use Rattle.running_store.specs.Taking.{Takes}
use Rattle.running_store.specs.Taking.Ending.{Done, Failed}
use Rattle.running_store.specs.Taking.Laws.{takes_failed}
use Rattle.cache_manager.specs.Thin.{IsWork}
use Rattle.cache_manager.proofs.NextNode.Work.{finish_may, next_shown, work_shown}
use Rattle.cache_manager.proofs.ThinNode.Worlds.{store_small}

module _ {O : Type 0} (meaning : Bounds → Meaning O) (lawful : (b : Bounds) → IsSmall b → IsLawful (meaning b)) (keep : (b : Bounds) → IsSmall b → KeepsSound (meaning b)) where
  abbrev finishing : Meaning O → World O → ℕ → Course O
  finishing m w used = course (finish_steps m w) used Through

  -- the force fails
  pub takes_unforced : (old new : Disk) (before after : Parts) → Takes meaning old new before after (λ m w used. force_course m w used) Failed → Takes meaning old new before after (λ m w used. course (finish_steps m w) used Through) Failed
  takes_unforced old new before after takes = takes_failed meaning old new before after finishing
      (λ told p w shows. let m = meaning_in meaning p in forcing_moments m p w (next_node m w) (work m w) old new (takes.steps told p w shows))

  -- it is done
  module _ (old mid : Disk) (before here : Parts) (quiet : IsQuiet old mid) (forced : Takes meaning old mid before here (λ m w used. force_course m w used) Done) (n : ℕ) (least : IsLeast (NamesMinimal before.volatile.entries) n)
      (items : List ℕ) (is : (node : ℕ → Bool) → IsNodeNamed before.volatile.entries n node → IsWork before.volatile node items) (new : Disk) (after : Parts)
      (steps : mid.tells_moments → (p : Params) (w : World O) (node : ℕ → Bool) → VolatileShows (meaning_in meaning p) p mid here.volatile w → TakesSome (meaning_in meaning p) p mid new w (removal_steps (meaning_in meaning p) node items)) where
    module _ (p : Params) (w : World O) (shows : Shows (meaning_in meaning p) p old before w) where
      abbrev m : Meaning O
      m = meaning_in meaning p

      abbrev v : World O
      v = run m w (force_steps m w)

      small : IsSmall (bounds_of p)
      small = store_small m p (old.reads Objects) before.volatile w shows.store

      there : Shows m p mid here v
      there = (forced.follows p w shows).1.shows

      same : items ≡ work m w
      same = work_shown m (lawful (bounds_of p) small) p old before w shows n least items is

      all_moments : old.tells_moments → TakesSome m p old new w (finish_steps m w)
      all_moments told = subst (λ (l : List ℕ). TakesSome m p old new w (force_steps m w ++ removal_steps m (next_node m w) l)) same
          (finishing_moments m p w (next_node m w) items old mid new (quiet.said shows.told) (forced.steps told p w shows) (steps (quiet.time.moments_told.0 told) p v (next_node m w) (store_shown m p mid here v there)))

    -- the flush fails
    pub takes_unfinished : Takes meaning old new before after (λ m w used. course (finish_steps m w) used Through) Failed
    takes_unfinished = takes_failed meaning old new before after finishing (λ told p w shows. all_moments p w shows told)

    -- it is done too
    pub takes_finished : length items ≤ 1 → here.volatile ≡ before.volatile → Runs (In Objects Any) Same mid new → after.log ≡ here.log
        → ((p : Params) (w : World O) (node : ℕ → Bool) → VolatileShows (meaning_in meaning p) p mid here.volatile w → IsNodeNamed here.volatile.entries n node → AreAllowed (meaning_in meaning p) w (removal_steps (meaning_in meaning p) node items)
        → VolatileShows (meaning_in meaning p) p new after.volatile (run (meaning_in meaning p) w (removal_steps (meaning_in meaning p) node items)))
        → Takes meaning old new before after (λ m w used. course (finish_steps m w) used Through) Done
    takes_finished few stays runs log shown = record {
      follows = λ p w shows.
          let m = meaning_in meaning p in
          let node = next_node m w in
          let v = run m w (force_steps m w) in
          let fine = lawful (bounds_of p) (small p w shows) in
          let here_shows = there p w shows in
          let named = subst (λ (it : Volatile). IsNodeNamed it.entries n node) (sym stays) (next_shown m fine p old before w shows n least) in
          let may = finish_may m fine p old before w shows n least items is (keep (bounds_of p) (small p w shows)) 0 few in
          let allowed = finish_allowed m p w node items (subst (λ (l : List ℕ). AreAllowed m w (force_steps m w ++ removal_steps m node l)) (sym (same p w shows)) may) in
          let done = finished_shows m p mid new here after.volatile v node items here_shows (runs.reads here_shows.told).others (shown p v node (store_shown m p mid here v here_shows) named allowed) in
          let all = finish_shows m p w node items new after (subst (λ (l : RecordLogView). Shows m p new (record { log = l; volatile = after.volatile }) (run m v (removal_steps m node items))) (sym log) done) in (
            refl,
            record {
              shows = subst (λ (l : List ℕ). Shows m p new after (run m w (force_steps m w ++ removal_steps m node l))) (same p w shows) all;
              used = ap (λ (l : RecordLogView). used_of l.log) log ∙ (forced.follows p w shows).1.used;
            },
          );
      steps = λ told p w shows. all_moments p w shows told;
    }
