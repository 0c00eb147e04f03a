-- What a flush of several objects together leaves of a store, and the course that a round takes.
use Rattle.std.proofs.Common.{◌≡◌, ◌∙◌, sym, subst, ap, ℕ, Bool, true, false, List, refl, inl, inr, arith, Some, Ok, Err}
use Rattle.std.specs.Prelude.{◌||◌, All, IsErr, IsTrue, OnOk, Result}
use Rattle.std.proofs.lemmas.Bool.{both_ways}
use Rattle.disk_model.specs.Disk.{Any, Disk, Files, In, IsSettled, LeavesOnly, OthersStay, Rises, Runs, Same}
use Rattle.disk_model.specs.declared.machine.FileNo.TheVariants.{Objects}
use Rattle.oper_core.specs.Cell.{Cell}
use Rattle.oper_core.specs.Meaning.{Meaning}
use Rattle.oper_core.specs.State.{is_among}
use Rattle.oper_core.specs.declared.bounds.Bounds.{Bounds}
use Rattle.formats.specs.Objects.{IsObjectsFile, bounds_of}
use Rattle.formats.specs.declared.layout.Layout.{Layout}
use Rattle.formats.specs.declared.params.Params.{Params}
use Rattle.install_order.specs.declared.entry.Entry.{Entry}
use Rattle.log_blocks.specs.LogView.{used_of}
use Rattle.log_records.specs.RecordLog.{RecordLogView}
use Rattle.dirty_cache.specs.Contents.{held, is_dirty}
use Rattle.dirty_cache.specs.declared.entry.Entry.{Entry as Pair}
use Rattle.stable_objects.specs.Ready.{AreOldOrNew, AreOldOrNewSince, AreReplaced}
use Rattle.stable_objects.specs.SlotsView.{layout_of}
use Rattle.explain_core.specs.RoundGates.{Gate, gates_of}
use Rattle.explain_core.specs.RunLaws.{run-append}
use Rattle.explain_core.specs.Sound.{IsSound}
use Rattle.explain_core.specs.World.{AreAllowed, IsAllowed, World, run, step}
use Rattle.explain_core.specs.World.Step.{Slot_gate}
use Rattle.standing.specs.Moments.{ShowsSome, TakesSome, moments_longer, moments_twice}
use Rattle.standing.specs.Standing.{FilesShow}
use Rattle.running_store.specs.Laid.Among.{all_among}
use Rattle.running_store.specs.Calls.Beside.{IsOnObjectsAlone}
use Rattle.running_store.specs.Calls.{IsCall, Never, ending_of_force}
use Rattle.running_store.specs.Courses.{Course, force_course, force_steps}
use Rattle.running_store.specs.Calls.Faults.{has_failed}
use Rattle.running_store.specs.Steps.Finished.{IsQuiet}
use Rattle.running_store.specs.Parts.InUse.{dirty_held}
use Rattle.running_store.specs.Kept.{KeepsLog}
use Rattle.running_store.specs.Kept.Laws.{beside_log}
use Rattle.running_store.specs.Laid.{IsLaidOn, Laid}
use Rattle.running_store.specs.Parts.{AreInUse, Parts, Shows, VolatileShows, meaning_in, parts, volatile}
use Rattle.running_store.specs.Calls.RoundCalls.{AreFlushed, AreGatesFor, AreLater, cached_in, gates_course}
use Rattle.running_store.specs.Steps.RoundImages.{objects_of}
use Rattle.running_store.specs.Parts.Stored.{store_shown}
use Rattle.running_store.specs.StoreView.{IsUsable, StoreView, view_of}
use Rattle.running_store.specs.Taking.{Takes}
use Rattle.running_store.specs.Taking.Ending.{Done, Failed}
use Rattle.running_store.specs.Taking.Laws.{takes_failed}
use Rattle.running_store.proofs.Inside.{call_inside, flag_before, quiet_one}
use Rattle.running_store.proofs.OfRounds.Shows.{cells_cached, gates_shown, gates_sound, together_early, together_in_use, together_shows, together_taken}

-- what is left, by how it ended
pub record EndsTogether {O : Type 0} (meaning : Bounds → Meaning O) (old new : Disk) (before after : StoreView) (objects : List ℕ) {T E : Type 0} (r : Result T E) : Type 0 where
  pub usable : after.broken ≡ false → IsUsable after.parts after.identities
  pub call : IsCall meaning old new before after 0 Never (ending_of_force r)
  pub beside : IsOnObjectsAlone old new before after
  pub flushed : OnOk r (AreFlushed before.parts.volatile.objects after.parts.volatile.objects objects)
  pub shows : (p : Params) (w : World O) (gates : List Gate) → VolatileShows (meaning_in meaning p) p old before.parts.volatile w → objects_of gates ≡ objects → AreAllowed (meaning_in meaning p) w (gates_of gates)
      → OnOk r (VolatileShows (meaning_in meaning p) p new after.parts.volatile (run (meaning_in meaning p) w (gates_of gates)))

-- dirty objects are later than their slots
pub used_later : (log : RecordLogView) (objects : Laid) (entries : List Entry) (identities : ℕ) → IsUsable (parts log objects entries) identities → AreLater objects
used_later log objects entries identities used x pair dirty had = let is = used.in_use.store.dirty x pair dirty had in (is.0, omega (arith, is.1, used.in_use.store.low))

module _ {O : Type 0} (meaning : Bounds → Meaning O) (old new : Disk) (log : RecordLogView) (it : Laid) (entries : List Entry) (identities : ℕ) (broken : Bool) (before : StoreView) (is : view_of log it entries identities broken ≡ before)
    (objects : List ℕ) (dirty : All (λ x. is_dirty it.cache x ≡ true) objects) where
  shown_here : (p : Params) (w : World O) → VolatileShows (meaning_in meaning p) p old before.parts.volatile w → VolatileShows (meaning_in meaning p) p old (volatile it entries) w
  shown_here p w shows = subst (λ (s : StoreView). VolatileShows (meaning_in meaning p) p old s.parts.volatile w) (sym is) shows

  each_dirty : (x : ℕ) → IsTrue (is_among x objects) → is_dirty it.cache x ≡ true
  each_dirty x among = all_among (λ y. is_dirty it.cache y ≡ true) objects x dirty among

  each_found : (x : ℕ) → IsTrue (is_among x objects) → (pair : Pair) × (held it.cache x ≡ Some pair)
  each_found x among = dirty_held it.cache x (each_dirty x among)

  gates_found : (gates : List Gate) → objects_of gates ≡ objects → (x : ℕ) → IsTrue (is_among x (objects_of gates)) → (pair : Pair) × (held it.cache x ≡ Some pair)
  gates_found gates same x among = each_found x (subst (λ (l : List ℕ). IsTrue (is_among x l)) same among)

  -- a crash leaves any of the gates open
  pub taken_together : (old.tells_moments → IsSettled old → IsLaidOn it (old.reads Objects) → LeavesOnly old new (AreOldOrNewSince old it.slots.params objects (cached_in it.cache)))
      → ((p : Params) (start files : Files) (w : World O) (gates : List Gate) (pairs : ℕ → Cell) → let m = meaning (bounds_of p) in FilesShow m p start w → ((x : ℕ) → IsTrue (is_among x (objects_of gates)) → w.cache x ≡ pairs x)
      → AreOldOrNew p (objects_of gates) pairs (start Objects) (files Objects) → OthersStay Objects start files → ShowsSome m p w (gates_of gates) files)
      → old.tells_moments → (p : Params) (w : World O) (gates : List Gate) → VolatileShows (meaning_in meaning p) p old before.parts.volatile w → objects_of gates ≡ objects → TakesSome (meaning_in meaning p) p old new w (gates_of gates)
  taken_together any_moment law told p w gates shows same =
      let m = meaning_in meaning p in
      let here = shown_here p w shows in
      let found = gates_found gates same in
      let leaves = subst (λ (q : Params). LeavesOnly old new (AreOldOrNewSince old q objects (cached_in it.cache))) here.store.params (any_moment told here.settled here.store.laid) in
      together_taken m p old (volatile it entries) w here gates found new (subst (λ (l : List ℕ). LeavesOnly old new (AreOldOrNewSince old p l (cached_in it.cache))) (sym same) leaves)
      (λ files cells others. law p old.reads files w gates (cached_in it.cache) here.files (cells_cached m p old (volatile it entries) w here gates found) cells others)

  module _ (fine : before.broken ≡ false) (used : broken ≡ false → IsUsable (parts log it entries) identities) (flag : Bool) (later : Laid) (runs : Runs (In Objects Any) Same old new) (layout : layout_of later.slots ≡ layout_of it.slots) where
    abbrev after : StoreView
    after = view_of log later entries identities flag

    unset : broken ≡ false
    unset = flag_before log it entries identities broken before is fine

    pub ends_together : {T E : Type 0} (r : Result T E) → flag ≡ (broken || has_failed (λ e. true) r) → OnOk r (AreFlushed it later objects)
        → (old.tells_files → IsLaidOn it (old.reads Objects) → OnOk r (IsLaidOn later (new.reads Objects) × AreReplaced it.slots.params objects (cached_in it.cache) (old.reads Objects) (new.reads Objects)))
        → (IsSettled old → OnOk r (IsSettled new)) → (IsErr r → Rises old.disk_faults new.disk_faults)
        → ((b : Bounds) (w : World O) (node : ℕ → Bool) (x : ℕ) → IsSound (meaning b) w → IsAllowed (meaning b) w (Slot_gate node x) → IsSound (meaning b) (step (meaning b) w (Slot_gate node x)))
        → EndsTogether meaning old new before after objects r
    ends_together (Ok value) sets flushed replaced settled cause law =
        let was = used unset in
        let laid : old.tells_files → IsLaidOn it (old.reads Objects) → IsLaidOn later (new.reads Objects) = λ told is. (replaced told is).0 in
        let keeps : KeepsLog meaning old new log log = λ told has. beside_log (meaning log.bounds) it.slots.params old new log told runs (settled has.keeps.settled) has in
        record {
          usable = λ whole. record {
            in_use = record {
              bounds = was.in_use.bounds ∙ ap (λ (l : Layout). bounds_of l.params) (sym layout);
              store = subst (λ (l : Layout). AreInUse l.params log.next (volatile later entries)) (sym layout) (together_in_use it.slots.params log.next (volatile it entries) later objects was.in_use.store flushed);
              early = together_early it.slots.params log.next (volatile it entries) later objects was.in_use.store each_dirty each_found flushed was.in_use.early;
            };
            counted = was.counted;
          };
          call = call_inside log it entries identities broken before is old new log later entries identities flag Done meaning 0 Never (quiet_one old new Objects runs) layout (omega arith) (omega arith) (inr settled) (inr keeps)
              (inr (λ at told. let told_old = runs.time.files_told.1 told in let was = at told_old in (laid told_old was.0, keeps told_old was.1)))
              (λ stop ends. cc) (λ set. absurd (both_ways _ (sets ∙ ap (λ (b : Bool). b || false) unset) set), λ failed. absurd failed) (λ failed. absurd failed);
          beside = subst (λ (s : StoreView). IsOnObjectsAlone old new s after) is (record { objects = record { runs = runs; log = refl; laid = inr laid }; entries = λ k all. all });
          flushed = subst (λ (s : StoreView). AreFlushed s.parts.volatile.objects later objects) is flushed;
          shows = λ p w gates shows same may.
              let m = meaning_in meaning p in
              let here = shown_here p w shows in
              let both = replaced here.told here.store.laid in
              let params = ap (λ (l : Layout). l.params) layout ∙ here.store.params in
              let pairs = subst (λ (q : Params). AreReplaced q objects (cached_in it.cache) (old.reads Objects) (new.reads Objects)) here.store.params both.1 in
              together_shows m p old (volatile it entries) w here gates (gates_found gates same) new later (subst (λ (l : List ℕ). AreFlushed it later l) (sym same) flushed)
              (subst (λ (l : List ℕ). AreReplaced p l (cached_in it.cache) (old.reads Objects) (new.reads Objects)) (sym same) pairs) both.0 runs (settled here.settled)
              (subst (λ (q : Params). IsObjectsFile q (new.reads Objects)) params both.0.slots.whole) (gates_sound m (λ v g. law (bounds_of p) v g.node g.object) w gates here.sound may);
        }
    ends_together (Err e) sets flushed replaced settled cause law =
        let set : flag ≡ true = sets ∙ ap (λ (b : Bool). b || true) unset in
        record {
          usable = λ whole. absurd (both_ways _ whole set);
          call = call_inside log it entries identities broken before is old new log later entries identities flag Failed meaning 0 Never (quiet_one old new Objects runs) layout (omega arith) (omega arith) (inl tt) (inl tt) (inl tt)
              (λ stop ends. cc) (λ broken. tt, λ failed. set) (λ failed. cause refl);
          beside = subst (λ (s : StoreView). IsOnObjectsAlone old new s after) is (record { objects = record { runs = runs; log = refl; laid = inl set }; entries = λ k all. all });
          flushed = tt;
          shows = λ p w gates shows same may. tt;
        }

-- All that waits is forced, and then objects are flushed together.
module _ {O : Type 0} (meaning : Bounds → Meaning O) (old mid : Disk) (before here : Parts) (objects : List ℕ) (gates : Meaning O → World O → List Gate) (fits : AreGatesFor meaning old before objects gates) where
  abbrev whole : Meaning O → World O → ℕ → Course O
  whole m w used = gates_course m (gates m) w used

  -- the force alone
  pub round_unforced : Takes meaning old mid before here (λ m w used. force_course m w used) Failed → Takes meaning old mid before here whole Failed
  round_unforced forced = takes_failed meaning old mid before here whole (λ told p w shows.
      let m = meaning_in meaning p in
      let v = run m w (force_steps m w) in
      moments_longer m p old mid w (force_steps m w) (gates_of (gates m v)) (forced.steps told p w shows))

  module _ (quiet : IsQuiet old mid) (forced : Takes meaning old mid before here (λ m w used. force_course m w used) Done) (new : Disk) (after : Parts)
      (opens : mid.tells_moments → (p : Params) (v : World O) (some : List Gate) → VolatileShows (meaning_in meaning p) p mid here.volatile v → objects_of some ≡ objects → TakesSome (meaning_in meaning p) p mid new v (gates_of some)) where
    round_moments : old.tells_moments → (p : Params) (w : World O) → Shows (meaning_in meaning p) p old before w → TakesSome (meaning_in meaning p) p old new w (whole (meaning_in meaning p) w (used_of before.log.log)).steps
    round_moments told p w shows =
        let m = meaning_in meaning p in
        let v = run m w (force_steps m w) in
        let there = (forced.follows p w shows).1.shows in
        moments_twice m p old mid new w (force_steps m w) (gates_of (gates m v)) (quiet.said shows.told) (forced.steps told p w shows)
        (opens (quiet.time.moments_told.0 told) p v (gates m v) (store_shown m p mid here v there) (fits p w shows).0)

    -- and then the disk failed
    pub round_unopened : Takes meaning old new before after whole Failed
    round_unopened = takes_failed meaning old new before after whole round_moments

    -- or all are flushed
    pub round_taken : (mid.tells_files → OthersStay Objects mid.reads new.reads) → after.log ≡ here.log
        → ((p : Params) (v : World O) (some : List Gate) → VolatileShows (meaning_in meaning p) p mid here.volatile v → objects_of some ≡ objects → AreAllowed (meaning_in meaning p) v (gates_of some) → VolatileShows (meaning_in meaning p) p new after.volatile (run (meaning_in meaning p) v (gates_of some)))
        → Takes meaning old new before after whole Done
    round_taken others same shown = record {
      follows = λ p w shows.
          let m = meaning_in meaning p in
          let v = run m w (force_steps m w) in
          let is = forced.follows p w shows in
          let fit = fits p w shows in
          let done = shown p v (gates m v) (store_shown m p mid here v is.1.shows) fit.0 fit.1 in
          let there = gates_shown m p mid new here after v (gates m v) is.1.shows (others is.1.shows.told) same done in (
            refl,
            record {
              shows = subst (λ (u : World O). Shows m p new after u) (sym (run-append m w (force_steps m w) (gates_of (gates m v)))) there;
              used = ap (λ (l : RecordLogView). used_of l.log) same ∙ is.1.used;
            },
          );
      steps = round_moments;
    }
