-- A store that shows a world shows, with several objects flushed together, the world after their gates.
use Rattle.std.proofs.Common.{◌≡◌, ◌∙◌, ⊎_elim, sym, subst, ap, ℕ, ◌<◌, true, Option, Some, None, List, [], ◌∷◌, inl, inr, arith}
use Rattle.std.specs.Prelude.{◌≢◌, IsTrue, IsFalse}
use Rattle.std.proofs.lemmas.Bool.{both_ways, cases_Bool, cases_lt, cond-false, cond-true}
use Rattle.disk_model.specs.Disk.{Any, Disk, Files, In, IsSettled, LeavesOnly, OthersStay, Runs, Same}
use Rattle.disk_model.specs.Moments.{weaker}
use Rattle.disk_model.specs.Silent.{IsSilent}
use Rattle.disk_model.specs.declared.machine.FileNo.TheVariants.{Objects}
use Rattle.oper_core.specs.Cell.{Cell}
use Rattle.oper_core.specs.Meaning.{Meaning}
use Rattle.oper_core.specs.State.{is_among}
use Rattle.formats.specs.Objects.{IsObjectsFile}
use Rattle.formats.specs.declared.layout.Layout.{Layout}
use Rattle.formats.specs.declared.params.Params.{Params}
use Rattle.dirty_cache.specs.Contents.{held, is_dirty}
use Rattle.dirty_cache.specs.declared.entry.Entry.{Entry as Pair}
use Rattle.stable_objects.specs.Ready.{AreOldOrNew, AreOldOrNewSince, AreReplaced}
use Rattle.explain_core.specs.RoundGates.{Gate, gate_step, gates_of}
use Rattle.explain_core.specs.Sound.{IsSound}
use Rattle.explain_core.specs.World.{AreAllowed, IsAllowed, IsLive, World, run, step}
use Rattle.log_records.specs.RecordLog.{RecordLogView}
use Rattle.standing.specs.Moments.{ShowsSome, TakesSome}
use Rattle.standing.specs.Standing.{FilesShow, stored}
use Rattle.running_store.specs.Steps.Finished.{log_stays}
use Rattle.running_store.specs.Laid.Flushed.{AreEarly}
use Rattle.running_store.specs.Steps.Installed.{stored_past}
use Rattle.running_store.specs.Parts.Joins.{cached_shown, clean_shown, stored_here}
use Rattle.running_store.specs.Laid.{IsLaidOn, Laid, cell_or}
use Rattle.running_store.specs.Parts.{AreInUse, Parts, Shows, ShowsLog, Volatile, VolatileShows, volatile}
use Rattle.running_store.specs.Calls.RoundCalls.{AreFlushed, cached_in}
use Rattle.running_store.specs.Steps.RoundImages.{objects_of, run_gates, slots_after}
use Rattle.running_store.specs.Parts.Stored.{log_beside}
use Rattle.running_store.proofs.OfRounds.Holds.{cached_is, dirty_kept}

-- a store in use is so still
pub together_in_use : (p : Params) (next : ℕ) (it : Volatile) (after : Laid) (objects : List ℕ) → AreInUse p next it → AreFlushed it.objects after objects → AreInUse p next (volatile after it.entries)
together_in_use p next it after objects used is = record {
  params = ap (λ (l : Layout). l.params) is.layout ∙ used.params;
  low = used.low;
  above = used.above;
  dirty = λ y pair dirty had. elim (cases_Bool (is_among y objects)) [
    | inl among ↦ absurd (both_ways _ (is.clean y among) dirty)
    | inr off ↦
        let was = is.others y off in
        let then = sym was.dirty ∙ dirty in
        let found = used.dirty y pair then (sym (dirty_kept it.objects.cache after.cache y was then) ∙ had) in
        (omega (arith, found.0, is.other_lsns y off), found.1)
  ];
  clean = λ y pair clean had. elim (cases_Bool (is_among y objects)) [
    | inl among ↦ ⊎_elim (λ same. sym (is.lsns_kept y pair among (sym same ∙ had))) (λ none. absurd (not_both (held after.cache y) pair none had)) (is.entries y among)
    | inr off ↦
        let was = is.others y off in
        let before = ⊎_elim (λ same. sym same ∙ had) (λ gone. absurd (not_both (held after.cache y) pair gone.1 had)) was.entry in
        used.clean y pair (sym was.dirty ∙ clean) before ∙ sym (is.other_lsns y off)
  ];
}
  where
    not_both : (o : Option Pair) (pair : Pair) → o ≡ None → o ≡ Some pair → ⊥
    not_both o pair none some = let h : None ≡ Some pair = sym none ∙ some in cc

-- and the new LSNs are below the next LSN too
pub together_early : (p : Params) (next : ℕ) (it : Volatile) (after : Laid) (objects : List ℕ) → AreInUse p next it → ((x : ℕ) → IsTrue (is_among x objects) → is_dirty it.objects.cache x ≡ true)
    → ((x : ℕ) → IsTrue (is_among x objects) → (pair : Pair) × (held it.objects.cache x ≡ Some pair)) → AreFlushed it.objects after objects → AreEarly next it.objects → AreEarly next after
together_early p next it after objects used dirty found is early y below = elim (cases_Bool (is_among y objects)) [
  | inl among ↦
      let had = found y among in
      let low = (used.dirty y had.0 (dirty y among) had.1).1 in
      omega (arith, low, is.lsns_kept y had.0 among had.1)
  | inr off ↦
      let was = early y (subst (λ (l : Layout). y < l.params.objects) is.layout below) in
      omega (arith, was, is.other_lsns y off)
]

module _ {O : Type 0} (m : Meaning O) where
  -- gates that may be opened keep a world sound
  pub gates_sound : ((w : World O) (g : Gate) → IsSound m w → IsAllowed m w (gate_step g) → IsSound m (step m w (gate_step g))) → (w : World O) (gates : List Gate) → IsSound m w → AreAllowed m w (gates_of gates) → IsSound m (run m w (gates_of gates))
  unfolding run
  gates_sound law w [] sound may = sound
  gates_sound law w (g ∷ gates) sound may = gates_sound law (step m w (gate_step g)) gates (law w g sound may.0) may.1

module _ {O : Type 0} (m : Meaning O) (p : Params) (old : Disk) (it : Volatile) (w : World O) (shows : VolatileShows m p old it w) (gates : List Gate)
    (found : (x : ℕ) → IsTrue (is_among x (objects_of gates)) → (pair : Pair) × (held it.objects.cache x ≡ Some pair)) where
  abbrev objects : List ℕ
  objects = objects_of gates

  abbrev pairs : ℕ → Cell
  pairs = cached_in it.objects.cache

  abbrev file : List ℕ
  file = old.reads Objects

  -- what is cached of them is the world's
  pub cells_cached : (x : ℕ) → IsTrue (is_among x objects) → w.cache x ≡ pairs x
  cells_cached x among = let f = found x among in cached_shown m p file it w shows.store x f.0 f.1 ∙ sym (cached_is it.objects.cache x f.0 f.1)

  below : (x : ℕ) → IsTrue (is_among x objects) → x < p.objects
  below x among = let f = found x among in shows.store.below x f.0 f.1

  -- a crash while they are flushed leaves any of the gates open
  pub together_taken : (new : Disk) → LeavesOnly old new (AreOldOrNewSince old p objects pairs)
      → ((files : Files) → AreOldOrNew p objects pairs file (files Objects) → OthersStay Objects old.reads files → ShowsSome m p w (gates_of gates) files) → TakesSome m p old new w (gates_of gates)
  together_taken new leaves law =
      weaker old new (AreOldOrNewSince old p objects pairs) (IsSilent (ShowsSome m p w (gates_of gates)) old.said) leaves
      (λ files said is. record { silent = is.silent; holds = law files is.cells is.other_files })

  module _ (new : Disk) (after : Laid) (is : AreFlushed it.objects after objects) (replaced : AreReplaced p objects pairs file (new.reads Objects)) (laid : IsLaidOn after (new.reads Objects)) where
    abbrev now : List ℕ
    now = new.reads Objects

    -- an object that is not among them has in its slots what it had
    kept : (x : ℕ) → IsFalse (is_among x objects) → stored p now x ≡ stored p file x
    kept x off = elim (cases_lt x p.objects) [
      | inl less ↦ stored_here p now x less ∙ replaced.others x less off ∙ sym (stored_here p file x less)
      | inr past ↦ stored_past p now x past ∙ sym (stored_past p file x past)
    ]

    fresh : (x : ℕ) → IsTrue (is_among x objects) → stored p now x ≡ w.cache x
    fresh x among = stored_here p now x (below x among) ∙ replaced.each x (below x among) among ∙ sym (cells_cached x among)

    slots_now : (x : ℕ) → stored p now x ≡ slots_after w gates x
    slots_now x = elim (cases_Bool (is_among x objects)) [
      | inl among ↦ fresh x among ∙ sym (cond-true (is_among x objects) (w.cache x) (w.slots x) among)
      | inr off ↦ kept x off ∙ shows.store.slots x ∙ sym (cond-false (is_among x objects) (w.cache x) (w.slots x) off)
    ]

    cache_now : (x : ℕ) → cell_or (held after.cache x) (stored p now x) ≡ w.cache x
    cache_now x = elim (cases_Bool (is_among x objects)) [
      | inl among ↦ ⊎_elim
          (λ same. ap (λ (o : Option Pair). cell_or o (stored p now x)) (same ∙ (found x among).1) ∙ sym (cached_is it.objects.cache x (found x among).0 (found x among).1) ∙ sym (cells_cached x among))
          (λ none. ap (λ (o : Option Pair). cell_or o (stored p now x)) none ∙ fresh x among) (is.entries x among)
      | inr off ↦
          let was = is.others x off in
          ⊎_elim
          (λ same. ap (λ (c : Cell). cell_or (held after.cache x) c) (kept x off) ∙ ap (λ (o : Option Pair). cell_or o (stored p file x)) same ∙ shows.store.cache x)
          (λ gone. ap (λ (o : Option Pair). cell_or o (stored p now x)) gone.1 ∙ kept x off ∙ shows.store.slots x ∙ sym (clean_shown m p file it w shows.store x gone.0))
          was.entry
    ]

    held_before : (x : ℕ) (pair : Pair) → held after.cache x ≡ Some pair → held it.objects.cache x ≡ Some pair
    held_before x pair had = elim (cases_Bool (is_among x objects)) [
      | inl among ↦ ⊎_elim (λ same. sym same ∙ had) (λ none. absurd (not_both (held after.cache x) pair none had)) (is.entries x among)
      | inr off ↦ ⊎_elim (λ same. sym same ∙ had) (λ gone. absurd (not_both (held after.cache x) pair gone.1 had)) (is.others x off).entry
    ]
      where
        not_both : (o : Option Pair) (q : Pair) → o ≡ None → o ≡ Some q → ⊥
        not_both o q none some = let h : None ≡ Some q = sym none ∙ some in cc

    still_dirty : (x : ℕ) → is_dirty after.cache x ≡ true → (slots_after w gates x).lsn ≢ (w.cache x).lsn
    still_dirty x dirty same = elim (cases_Bool (is_among x objects)) [
      | inl among ↦ both_ways _ (is.clean x among) dirty
      | inr off ↦ shows.store.dirty x (sym (is.others x off).dirty ∙ dirty) (ap (λ (c : Cell). c.lsn) (sym (cond-false (is_among x objects) (w.cache x) (w.slots x) off)) ∙ same)
    ]

    module _ (run_is : Runs (In Objects Any) Same old new) (settled : IsSettled new) (whole : IsObjectsFile p now) (sound : IsSound m (run m w (gates_of gates))) where
      abbrev then : World O
      then = record w { slots = slots_after w gates; installed = (run_gates m w gates).0 }

      files_then : FilesShow m p new.reads then
      files_then = record {
        objects = whole;
        cells = slots_now;
        active = shows.files.active;
        header = shows.files.header;
        groups = shows.files.groups;
        log = log_beside m p shows.files.active old.reads new.reads (run_is.reads shows.told).others shows.files.groups shows.files.log;
        base = shows.files.base;
        commands_before = shows.files.commands_before;
        members = shows.files.members;
        tables = shows.files.tables;
      }

      pub together_shows : VolatileShows m p new (volatile after it.entries) (run m w (gates_of gates))
      together_shows = subst (λ (v : World O). VolatileShows m p new (volatile after it.entries) v) (sym (run_gates m w gates).1) (record {
        told = run_is.time.files_told.0 shows.told;
        settled = settled;
        sound = subst (λ (v : World O). IsSound m v) (run_gates m w gates).1 sound;
        alone = shows.alone;
        store = record {
          params = ap (λ (l : Layout). l.params) is.layout ∙ shows.store.params;
          laid = laid;
          below = λ x pair had. shows.store.below x pair (held_before x pair had);
          slots = slots_now;
          cache = cache_now;
          dirty = still_dirty;
          members = shows.store.members;
          accesses = shows.store.accesses;
          identities = shows.store.identities;
        };
        files = files_then;
      })

-- with a log beside them the parts show the world after the gates
pub gates_shown : {O : Type 0} (m : Meaning O) (p : Params) (old new : Disk) (it after : Parts) (w : World O) (gates : List Gate) → Shows m p old it w → OthersStay Objects old.reads new.reads → after.log ≡ it.log
    → VolatileShows m p new after.volatile (run m w (gates_of gates)) → Shows m p new after (run m w (gates_of gates))
gates_shown {O} m p old new it after w gates shows others same done =
    let is = (run_gates m w gates).1 in
    let log = log_stays m p old new it.log w others done.settled shows.log in
    let then : World O = record w { slots = slots_after w gates; installed = (run_gates m w gates).0 } in
    record {
      told = done.told;
      running = record { sound = done.sound; live = subst (λ (v : World O). IsLive v) (sym is) shows.running.live; alone = done.alone };
      bounds = ap (λ (l : RecordLogView). l.bounds) same ∙ shows.bounds;
      store = done.store;
      log = subst (λ (v : World O). ShowsLog m new after.log v) (sym is) (subst (λ (l : RecordLogView). ShowsLog m new l then) (sym same) (record {
        stable = log.stable;
        pending = log.pending;
        keeps = log.keeps;
        base = log.base;
        commands_before = log.commands_before;
        forced = log.forced;
        waiting = log.waiting;
        tables = log.tables;
        pending_tables = log.pending_tables;
      }));
    }
