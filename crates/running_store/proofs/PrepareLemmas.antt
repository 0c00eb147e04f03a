-- Objects are made ready for their flush, and the store shows the world that it showed.
use Rattle.std.proofs.Common.{◌≡◌, ◌∙◌, sym, subst, ap, ℕ, ◌<◌, ⊎_elim, All, Bool, true, false, List, [], refl, inl, inr, arith, Some, Ok, Err}
use Rattle.std.specs.Prelude.{◌||◌, nat_lt, IsErr, IsSome, OnOk, Result}
use Rattle.std.proofs.lemmas.Bool.{both_ways, cases_lt, le-ltb, cond-false}
use Rattle.disk_model.specs.Disk.{Any, Disk, Files, In, IsSettled, LeavesOnly, Rises, Runs, Same}
use Rattle.disk_model.specs.Moments.{runs_join, runs_wider}
use Rattle.disk_model.specs.declared.machine.FileNo.TheVariants.{Objects}
use Rattle.oper_core.specs.Cell.{Cell}
use Rattle.oper_core.specs.Meaning.{Meaning}
use Rattle.oper_core.specs.declared.bounds.Bounds.{Bounds}
use Rattle.formats.specs.Objects.{bounds_of, cell_of}
use Rattle.formats.specs.declared.layout.Layout.{Layout}
use Rattle.formats.specs.declared.params.Params.{Params}
use Rattle.install_order.specs.declared.entry.Entry.{Entry}
use Rattle.log_blocks.specs.LogView.{used_of}
use Rattle.log_records.specs.RecordLog.{RecordLogView}
use Rattle.stable_objects.specs.SlotsView.{SlotsView, AreOf}
use Rattle.stable_objects.specs.SpareLaws.{unseen_moments, unseen_on, unseen_twice}
use Rattle.stable_objects.specs.Spares.{IsClosing, IsUnseen, IsUnseenSince, KeepsButGates, KeepsButSpares}
use Rattle.dirty_cache.specs.Contents.{Contents, held, is_dirty}
use Rattle.dirty_cache.specs.declared.entry.Entry.{Entry as Pair}
use Rattle.explain_core.specs.TurnLaws.{run_none}
use Rattle.explain_core.specs.World.{World}
use Rattle.standing.specs.Moments.{TakesSome, moments_none}
use Rattle.standing.specs.Standing.{FilesShow, stored}
use Rattle.running_store.specs.Calls.Beside.{IsOnObjectsAlone}
use Rattle.running_store.specs.Calls.{IsCall, Never, ending_of_force}
use Rattle.running_store.specs.Courses.{course}
use Rattle.running_store.specs.Courses.Stop.{Through}
use Rattle.running_store.specs.Calls.Faults.{has_failed}
use Rattle.running_store.specs.Parts.Joins.{stored_here}
use Rattle.running_store.specs.Kept.{KeepsLog}
use Rattle.running_store.specs.Kept.Laws.{beside_log}
use Rattle.running_store.specs.Laid.{HasClosedSpare, IsLaidOn, Laid, cell_or}
use Rattle.running_store.specs.Parts.{AreInUse, Shows, ShowsLog, Volatile, VolatileShows, meaning_in, parts, volatile}
use Rattle.running_store.specs.Parts.Stored.{keeps_beside, store_shown, unflushed_files}
use Rattle.running_store.specs.StoreView.{IsUsable, StoreView, view_of}
use Rattle.running_store.specs.Taking.{Takes}
use Rattle.running_store.specs.Taking.Ending.{Done, Failed}
use Rattle.running_store.specs.Taking.Laws.{takes_failed}
use Rattle.running_store.proofs.Inside.{call_inside, flag_before, quiet_one}

-- a closed spare slot stays so
pub stays_closed : (before after : Laid) (x : ℕ) → IsClosing before.slots after.slots → after.cache ≡ before.cache → HasClosedSpare before x → HasClosedSpare after x
stays_closed before after x closing same closed cached =
    let was = closed (subst (λ (c : Contents). IsSome (held c x)) same cached) in
    ⊎_elim (λ kept. kept ∙ was) (λ none. none) (closing.spare_lsns x)

-- what is known while the spare slots of some objects are closed, one after the other
pub record HaveClosed (first now : Disk) (before after : Laid) (written : Bool) (done : List ℕ) : Type 0 where
  pub runs : Runs (In Objects (KeepsButGates before.slots)) Same first now
  pub slots : IsClosing before.slots after.slots
  pub cache : after.cache ≡ before.cache
  pub closed : All (HasClosedSpare after) done
  pub are : first.tells_files → AreOf before.slots (first.reads Objects) → AreOf after.slots (now.reads Objects)
  pub idle : written ≡ false → IsSettled first → IsSettled now

-- The spare slots are closed, and then filled.
module _ (old mid : Disk) (before after : SlotsView) (closing : IsClosing before after) (first : Runs (In Objects (KeepsButGates before)) Same old mid)
    (gates : (slots : SlotsView) (a b : List ℕ) → AreOf slots a → KeepsButGates slots a b → IsUnseen slots.params a b)
    (spares : (slots : SlotsView) (a b : List ℕ) → AreOf slots a → KeepsButSpares slots a b → AreOf slots b × IsUnseen slots.params a b) where
  pub closing_moments : old.tells_moments → IsSettled old → AreOf before (old.reads Objects) → LeavesOnly old mid (IsUnseenSince old before.params)
  closing_moments told settled are = unseen_moments before.params (KeepsButGates before) old mid (λ file keeps. gates before (old.reads Objects) file are keeps) told settled first

  pub closing_any : Runs (In Objects Any) Same old mid
  closing_any = runs_wider old mid (In Objects (KeepsButGates before)) (In Objects Any) (λ a b is. record { changed = tt; others = is.others }) first

  module _ (new : Disk) (second : Runs (In Objects (KeepsButSpares after)) Same mid new) where
    pub both_any : Runs (In Objects Any) Same old new
    both_any = runs_join old mid new (In Objects (KeepsButGates before)) (In Objects (KeepsButSpares after)) (In Objects Any)
        (λ a b is. record { changed = tt; others = is.others }) (λ a b c x y. record { changed = tt; others = λ other ne. y.others other ne ∙ x.others other ne }) first second

    params_are : after.params ≡ before.params
    params_are = ap (λ (l : Layout). l.params) closing.layout

    module _ (are_then : old.tells_files → AreOf before (old.reads Objects) → AreOf after (mid.reads Objects)) where
      pub both_unseen : old.tells_files → AreOf before (old.reads Objects) → AreOf after (new.reads Objects) × IsUnseen before.params (old.reads Objects) (new.reads Objects)
      both_unseen told are =
          let one = gates before (old.reads Objects) (mid.reads Objects) are (first.reads told).changed in
          let two = spares after (mid.reads Objects) (new.reads Objects) (are_then told are) (second.reads (first.time.files_told.0 told)).changed in
          (two.0, unseen_twice before.params (old.reads Objects) (mid.reads Objects) (new.reads Objects) one (subst (λ (p : Params). IsUnseen p (mid.reads Objects) (new.reads Objects)) params_are two.1))

      pub both_moments : (IsSettled old → IsSettled mid) → old.tells_moments → IsSettled old → AreOf before (old.reads Objects) → LeavesOnly old new (IsUnseenSince old before.params)
      both_moments settles told settled are =
          let files_told = first.begins.telling told in
          let there = are_then files_told are in
          unseen_on before.params old mid new
          (record { unseen = gates before (old.reads Objects) (mid.reads Objects) are (first.reads files_told).changed; other_files = (first.reads files_told).others; silent = first.said files_told })
          (closing_moments told settled are)
          (subst (λ (p : Params). LeavesOnly mid new (IsUnseenSince mid p)) params_are
          (unseen_moments after.params (KeepsButSpares after) mid new (λ file keeps. (spares after (mid.reads Objects) file there keeps).1) (first.time.moments_told.0 told) (settles settled) second))

-- what each slot holds is the same
stored_same : (p : Params) (old new : List ℕ) → ((x : ℕ) → x < p.objects → cell_of x new ≡ cell_of x old) → (x : ℕ) → stored p new x ≡ stored p old x
stored_same p old new cells x = elim (cases_lt x p.objects) [
  | inl below ↦ stored_here p new x below ∙ cells x below ∙ sym (stored_here p old x below)
  | inr past ↦
      let none : Cell = record { lsn = 0; value = [] } in
      cond-false (nat_lt x p.objects) (cell_of x new) none (le-ltb x p.objects past) ∙ sym (cond-false (nat_lt x p.objects) (cell_of x old) none (le-ltb x p.objects past))
]

-- the objects are laid on the file as they were
pub prepared_laid : (before after : Laid) (old new : List ℕ) → after.cache ≡ before.cache → ((x : ℕ) (pair : Pair) → held before.cache x ≡ Some pair → x < before.slots.params.objects) → AreOf after.slots new → IsUnseen before.slots.params old new
    → IsLaidOn before old → IsLaidOn after new
prepared_laid before after old new same below are unseen laid = record {
  slots = are;
  clean = λ x pair clean had.
      let was = sym (ap (λ (c : Contents). held c x) same) ∙ had in
      unseen.cells x (below x pair was) ∙ laid.clean x pair (sym (ap (λ (c : Contents). is_dirty c x) same) ∙ clean) was;
}

-- a store is in use still
prepared_in_use : (p : Params) (next : ℕ) (it : Volatile) (slots : SlotsView) → IsClosing it.objects.slots slots → AreInUse p next it → AreInUse p next (volatile (record { slots = slots; cache = it.objects.cache }) it.entries)
prepared_in_use p next it slots closing used = record {
  params = ap (λ (l : Layout). l.params) closing.layout ∙ used.params;
  low = used.low;
  above = used.above;
  dirty = λ x pair dirty had. let was = used.dirty x pair dirty had in (omega (arith, was.0, closing.lsns_kept x), was.1);
  clean = λ x pair clean had. used.clean x pair clean had ∙ sym (closing.lsns_kept x);
}

module _ {O : Type 0} (m : Meaning O) (p : Params) (old new : Disk) (it : Volatile) (w : World O) (shows : VolatileShows m p old it w) where
  -- an image in which each object has the pair that it had shows the world
  image_shown : (files : Files) (said : List ℕ) → IsUnseenSince old p files said → FilesShow m p files w
  image_shown files said is =
      unflushed_files m p files old.reads w shows.files is.other_files is.unseen.whole (λ x. stored_same p (old.reads Objects) (files Objects) is.unseen.cells x ∙ shows.store.slots x)

  pub prepare_moments : LeavesOnly old new (IsUnseenSince old p) → TakesSome m p old new w []
  prepare_moments leaves = moments_none m p old new w [] (record {
    later = leaves.later;
    each = λ files said left. let is = leaves.each files said left in record { silent = is.silent; holds = image_shown files said is };
    before = λ t files said le left. elim (leaves.before t files said le left) [ inl was ↦ inl was | inr is ↦ inr (record { silent = is.silent; holds = image_shown files said is }) ];
  })

  -- and so does the store
  pub prepare_shows : (slots : SlotsView) → IsClosing it.objects.slots slots → Runs (In Objects Any) Same old new → IsSettled new → IsLaidOn (record { slots = slots; cache = it.objects.cache }) (new.reads Objects)
      → IsUnseen p (old.reads Objects) (new.reads Objects) → VolatileShows m p new (volatile (record { slots = slots; cache = it.objects.cache }) it.entries) w
  prepare_shows slots closing run settled laid unseen =
      let cells = stored_same p (old.reads Objects) (new.reads Objects) unseen.cells in
      record {
        told = run.time.files_told.0 shows.told;
        settled = settled;
        sound = shows.sound;
        alone = shows.alone;
        store = record {
          params = ap (λ (l : Layout). l.params) closing.layout ∙ shows.store.params;
          laid = laid;
          below = shows.store.below;
          slots = λ x. cells x ∙ shows.store.slots x;
          cache = λ x. ap (λ (c : Cell). cell_or (held it.objects.cache x) c) (cells x) ∙ shows.store.cache x;
          dirty = shows.store.dirty;
          members = shows.store.members;
          accesses = shows.store.accesses;
          identities = shows.store.identities;
        };
        files = unflushed_files m p new.reads old.reads w shows.files (run.reads shows.told).others unseen.whole (λ x. cells x ∙ shows.store.slots x);
      }

-- what is left, by how it ended
pub record EndsPrepare {O : Type 0} (meaning : Bounds → Meaning O) (old new : Disk) (before after : StoreView) {T E : Type 0} (r : Result T E) : Type 0 where
  pub usable : after.broken ≡ false → IsUsable after.parts after.identities
  pub call : IsCall meaning old new before after 0 Never (ending_of_force r)
  pub beside : IsOnObjectsAlone old new before after
  pub shows : (p : Params) (w : World O) → VolatileShows (meaning_in meaning p) p old before.parts.volatile w → OnOk r (VolatileShows (meaning_in meaning p) p new after.parts.volatile w)

module _ {O : Type 0} (meaning : Bounds → Meaning O) (old new : Disk) (log : RecordLogView) (objects : Laid) (entries : List Entry) (identities : ℕ) (broken : Bool) (before : StoreView) (is : view_of log objects entries identities broken ≡ before) where
  shown_here : (p : Params) (w : World O) → VolatileShows (meaning_in meaning p) p old before.parts.volatile w → VolatileShows (meaning_in meaning p) p old (volatile objects entries) w
  shown_here p w shows = subst (λ (s : StoreView). VolatileShows (meaning_in meaning p) p old s.parts.volatile w) (sym is) shows

  pub prepare_taken : (old.tells_moments → IsSettled old → AreOf objects.slots (old.reads Objects) → LeavesOnly old new (IsUnseenSince old objects.slots.params))
      → old.tells_moments → (p : Params) (w : World O) → VolatileShows (meaning_in meaning p) p old before.parts.volatile w → TakesSome (meaning_in meaning p) p old new w []
  prepare_taken any_moment told p w shows =
      let here = shown_here p w shows in
      prepare_moments (meaning_in meaning p) p old new (volatile objects entries) w here (subst (λ (q : Params). LeavesOnly old new (IsUnseenSince old q)) here.store.params (any_moment told here.settled here.store.laid.slots))

  module _ (fine : before.broken ≡ false) (used : broken ≡ false → IsUsable (parts log objects entries) identities) (flag : Bool) (slots : SlotsView) (runs : Runs (In Objects Any) Same old new) (closing : IsClosing objects.slots slots) where
    abbrev later : Laid
    later = record { slots = slots; cache = objects.cache }

    abbrev prepared : StoreView
    prepared = view_of log later entries identities flag

    unset : broken ≡ false
    unset = flag_before log objects entries identities broken before is fine

    usable : IsUsable (parts log later entries) identities
    usable =
        let was = used unset in
        record {
          in_use = record {
            bounds = was.in_use.bounds ∙ ap (λ (l : Layout). bounds_of l.params) (sym closing.layout);
            store = subst (λ (l : Layout). AreInUse l.params log.next (volatile later entries)) (sym closing.layout) (prepared_in_use objects.slots.params log.next (volatile objects entries) slots closing was.in_use.store);
            early = λ x less. let low = was.in_use.early x (subst (λ (l : Layout). x < l.params.objects) closing.layout less) in omega (arith, low, closing.lsns_kept x);
          };
          counted = was.counted;
        }

    ends_here : {T E : Type 0} (r : Result T E) → flag ≡ (broken || has_failed (λ e. true) r) → (IsSettled old → OnOk r (IsSettled new)) → (old.tells_files → IsLaidOn objects (old.reads Objects) → OnOk r (IsLaidOn later (new.reads Objects)))
        → (old.tells_files → AreOf objects.slots (old.reads Objects) → OnOk r (IsUnseen objects.slots.params (old.reads Objects) (new.reads Objects))) → (IsErr r → Rises old.disk_faults new.disk_faults) → EndsPrepare meaning old new before prepared r
    ends_here (Ok value) sets settled laid unseen cause =
        let keeps : KeepsLog meaning old new log log = λ told has. beside_log (meaning log.bounds) objects.slots.params old new log told runs (settled has.keeps.settled) has in
        record {
          usable = λ whole. usable;
          call = call_inside log objects entries identities broken before is old new log later entries identities flag Done meaning 0 Never (quiet_one old new Objects runs) closing.layout (omega arith) (omega arith) (inr settled) (inr keeps)
              (inr (λ at told. let told_old = runs.time.files_told.1 told in let was = at told_old in (laid told_old was.0, keeps told_old was.1)))
              (λ stop ends. cc) (λ set. absurd (both_ways _ (sets ∙ ap (λ (b : Bool). b || false) unset) set), λ failed. absurd failed) (λ failed. absurd failed);
          beside = subst (λ (s : StoreView). IsOnObjectsAlone old new s prepared) is (record { objects = record { runs = runs; log = refl; laid = inr laid }; entries = λ k all. all });
          shows = λ p w shows.
              let here = shown_here p w shows in
              prepare_shows (meaning_in meaning p) p old new (volatile objects entries) w here slots closing runs (settled here.settled) (laid here.told here.store.laid)
              (subst (λ (q : Params). IsUnseen q (old.reads Objects) (new.reads Objects)) here.store.params (unseen here.told here.store.laid.slots));
        }
    ends_here (Err e) sets settled laid unseen cause =
        let set : flag ≡ true = sets ∙ ap (λ (b : Bool). b || true) unset in
        record {
          usable = λ whole. absurd (both_ways _ whole set);
          call = call_inside log objects entries identities broken before is old new log later entries identities flag Failed meaning 0 Never (quiet_one old new Objects runs) closing.layout (omega arith) (omega arith) (inl tt) (inl tt) (inl tt)
              (λ stop ends. cc) (λ broken. tt, λ failed. set) (λ failed. cause refl);
          beside = subst (λ (s : StoreView). IsOnObjectsAlone old new s prepared) is (record { objects = record { runs = runs; log = refl; laid = inl set }; entries = λ k all. all });
          shows = λ p w shows. tt;
        }

  -- the same of objects whose cache is the same
  pub prepare_ends : before.broken ≡ false → (broken ≡ false → IsUsable (parts log objects entries) identities) → (flag : Bool) (after : Laid) → after.cache ≡ objects.cache → Runs (In Objects Any) Same old new → IsClosing objects.slots after.slots
      → {T E : Type 0} (r : Result T E) → flag ≡ (broken || has_failed (λ e. true) r) → (IsSettled old → OnOk r (IsSettled new)) → (old.tells_files → IsLaidOn objects (old.reads Objects) → OnOk r (IsLaidOn after (new.reads Objects)))
      → (old.tells_files → AreOf objects.slots (old.reads Objects) → OnOk r (IsUnseen objects.slots.params (old.reads Objects) (new.reads Objects))) → (IsErr r → Rises old.disk_faults new.disk_faults)
      → EndsPrepare meaning old new before (view_of log after entries identities flag) r
  prepare_ends fine used flag after same runs closing r sets settled laid unseen cause =
      let there : after ≡ record { slots = after.slots; cache = objects.cache } = λ i. record { slots = after.slots; cache = same i } in
      subst (λ (l : Laid). EndsPrepare meaning old new before (view_of log l entries identities flag) r) (sym there)
      (ends_here fine used flag after.slots runs closing r sets settled (subst (λ (l : Laid). old.tells_files → IsLaidOn objects (old.reads Objects) → OnOk r (IsLaidOn l (new.reads Objects))) there laid) unseen cause)

-- a store that was made ready took no step
pub prepare_takes : {O : Type 0} (meaning : Bounds → Meaning O) (old new : Disk) (before after : StoreView) {T E : Type 0} (r : Result T E) → EndsPrepare meaning old new before after r
    → (old.tells_moments → (p : Params) (w : World O) → VolatileShows (meaning_in meaning p) p old before.parts.volatile w → TakesSome (meaning_in meaning p) p old new w [])
    → Takes meaning old new before.parts after.parts (λ m w used. course [] used Through) (ending_of_force r)
prepare_takes {O} meaning old new before after (Ok value) ends steps =
    let same = ends.beside.objects.log in
    record {
      follows = λ p w shows.
          let m = meaning_in meaning p in
          let there = ends.shows p w (store_shown m p old before.parts w shows) in
          let log : ShowsLog m new before.parts.log w = record {
            stable = shows.log.stable;
            pending = shows.log.pending;
            keeps = keeps_beside m p old new before.parts.log shows.log.stable shows.log.pending (ends.beside.objects.runs.reads shows.told).others there.settled shows.log.keeps;
            base = shows.log.base;
            commands_before = shows.log.commands_before;
            forced = shows.log.forced;
            waiting = shows.log.waiting;
            tables = shows.log.tables;
            pending_tables = shows.log.pending_tables;
          } in
          let shown : Shows m p new after.parts w = record {
            told = there.told;
            running = shows.running;
            bounds = ap (λ (l : RecordLogView). l.bounds) same ∙ shows.bounds;
            store = there.store;
            log = subst (λ (l : RecordLogView). ShowsLog m new l w) (sym same) log;
          } in
          (refl, record { shows = subst (λ (v : World O). Shows m p new after.parts v) (sym (run_none m w)) shown; used = ap (λ (l : RecordLogView). used_of l.log) same });
      steps = λ told p w shows. steps told p w (store_shown (meaning_in meaning p) p old before.parts w shows);
    }
prepare_takes {O} meaning old new before after (Err e) ends steps =
    takes_failed meaning old new before.parts after.parts (λ m w used. course [] used Through) (λ told p w shows. steps told p w (store_shown (meaning_in meaning p) p old before.parts w shows))
