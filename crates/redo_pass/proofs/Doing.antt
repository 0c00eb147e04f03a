-- How far a redo has come in the log's records, over the calls that read the next one.
use Rattle.std.proofs.Common.{◌≡◌, ◌∙◌, refl, sym, ap, subst, ℕ, ◌<◌, Bool, true, false, Option, None, Some, List, [], ◌∷◌, ◌++◌, arith, append_assoc}
use Rattle.std.specs.Prelude.{All, Err}
use Rattle.std.proofs.lemmas.List.{append-nil, append_cancel_left}
use Rattle.std.proofs.lemmas.List.Elements.{All-nil}
use Rattle.disk_model.specs.Disk.{Any, Disk, Files, In, IsDisk, IsSettled, Rises, Runs, Same, Stays}
use Rattle.disk_model.specs.Moments.{agreed_before}
use Rattle.disk_model.specs.declared.machine.FileNo.{FileNo}
use Rattle.disk_model.specs.declared.machine.FileNo.TheVariants.{Objects}
use Rattle.oper_core.specs.Meaning.{IsSmall, Meaning, state_after}
use Rattle.oper_core.specs.declared.bounds.Bounds.{Bounds}
use Rattle.formats.specs.Objects.{bounds_of}
use Rattle.formats.specs.Reading.{FailsBy}
use Rattle.formats.specs.Records.{IsRecord, Rise}
use Rattle.formats.specs.declared.layout.Layout.{Layout}
use Rattle.formats.specs.declared.params.Params.{Params}
use Rattle.formats.specs.declared.read_err.ReadErr.{ReadErr}
use Rattle.formats.specs.declared.record.Record.{Record}
use Rattle.log_records.specs.CodecLaws.{HasCodes}
use Rattle.log_records.specs.LsnReaderLaws.{given_first, given_all, given_rise, last_in_grammar, goes_on_beside}
use Rattle.log_records.specs.LsnReader.{LsnReaderView, IsReadingFromLsn, AreAllFromLsn, HasGiven}
use Rattle.log_records.specs.RecordLog.{RecordLogView, Keeps}
use Rattle.log_records.specs.Rewriting.{from_lsn}
use Rattle.stable_objects.specs.SlotsView.{SlotsView, layout_of}
use Rattle.dirty_cache.specs.Contents.{held}
use Rattle.install_order.specs.declared.entry.Entry.{Entry}
use Rattle.write_graph.specs.Graph.{lsns}
use Rattle.explain_core.specs.History.{commands_of}
use Rattle.explain_core.specs.KeptLog.{kept_stable, turns_kept}
use Rattle.explain_core.specs.Sound.{IsSound}
use Rattle.explain_core.specs.Turns.{turns}
use Rattle.explain_core.specs.World.{World, Step, IsAllStable, IsLive, run, step}
use Rattle.explain_core.specs.World.Step.{Replay}
use Rattle.explain_core.specs.declared.marks.Marks.{Marks}
use Rattle.standing.specs.Crashed.{crashed-graph, crashed-stable}
use Rattle.standing.specs.Moments.{TakesSome}
use Rattle.standing.specs.OneStable.{small_store}
use Rattle.standing.specs.Shown.{IsUnseen}
use Rattle.standing.specs.Standing.{FilesShow}
use Rattle.analysis_pass.specs.Analysis.{PlanView}
use Rattle.running_store.specs.Calls.Beside.{IsOnObjectsAlone, objects_none}
use Rattle.running_store.specs.Calls.{IsCall, Never, call_none, ending_of_read, ending_of_store}
use Rattle.running_store.specs.Calls.Faults.{is_read_fault, read_from_store}
use Rattle.running_store.specs.Laid.LongSlot.{HasLongSlot, IsLongSlot, long_untold}
use Rattle.running_store.specs.Parts.{Parts, Volatile, ShowsVolatile, VolatileShows}
use Rattle.running_store.specs.Parts.Stored.{keeps_beside}
use Rattle.running_store.specs.StoreView.{StoreView, next_of, store_params}
use Rattle.running_store.specs.Taking.{ArePartsInUse, Ending}
use Rattle.running_store.specs.Taking.Ending.{Done}
use Rattle.running_store.specs.declared.store_err.StoreErr.{StoreErr}
use Rattle.redo_pass.specs.Causes.{IsSlotFault}
use Rattle.redo_pass.specs.Endings.{store_ends}
use Rattle.redo_pass.specs.Progress.{IsAbove, IsLimited, SoFar}
use Rattle.redo_pass.specs.Redo.{IsLogDue, IsRedone, redo_steps}
use Rattle.redo_pass.specs.Replayed.{IsNextRecord, IsReplay, after_record}
use Rattle.redo_pass.specs.Rising.{IsBelow}
use Rattle.redo_pass.proofs.Ends.{at, ended}
use Rattle.redo_pass.proofs.Failing.{never_stopped, read_failed, rises_of}
use Rattle.redo_pass.proofs.Fronts.{due_members, reached, reached_more, reached_rise}
use Rattle.redo_pass.proofs.Goes.{limited_so_far, turns_are_steps}
use Rattle.redo_pass.proofs.Leaves.{IsPart, fetch_log, part_fetch, part_laid, part_replay, part_settled, part_twice}
use Rattle.redo_pass.proofs.Limits.{store_shows_now, takes_none}
use Rattle.redo_pass.proofs.Loops.{IsOn, begun, behind_above, is_above, join_moments, next_is, on_record, stays_moments}

-- of all records that are due these were done, and the redo of the world has come to the others
pub record IsLeft {O : Type 0} (m : Meaning O) (p : Params) (files : Files) (it : Volatile) (marks : Marks) (w : World O) (all done : List (Record O)) : Type 0 where
  pub later : List (Record O)
  pub split : all ≡ done ++ later
  pub so_far : SoFar m p files it marks w later

-- the next one that is due is this one
pub record IsLeftWith {O : Type 0} (m : Meaning O) (p : Params) (files : Files) (it : Volatile) (marks : Marks) (w : World O) (all done : List (Record O)) (r : Record O) : Type 0 where
  pub rest : List (Record O)
  pub split : all ≡ (done ++ r ∷ []) ++ rest
  pub so_far : SoFar m p files it marks w (r ∷ rest)

-- that one was done, and nothing is installed after it yet
pub record IsOnWith {O : Type 0} (m : Meaning O) (p : Params) (files : Files) (it : Volatile) (marks : Marks) (w : World O) (all done : List (Record O)) (r : Record O) : Type 0 where
  pub rest : List (Record O)
  pub split : all ≡ (done ++ r ∷ []) ++ rest
  pub on : IsOn m p marks w files it rest

-- the redo of the world is due, with the log and the slots of this store
abbrev pub IsToDo : {O : Type 0} → (Bounds → Meaning O) → PlanView → StoreView → Disk → Params → World O → Type 0
IsToDo meaning plan first old p w = IsLogDue (meaning (bounds_of p)) p old first.parts.log first.parts.volatile.objects.slots plan w

-- Since the redo of this store began, so many records of its log were done.
pub record IsDone {O : Type 0} (meaning : Bounds → Meaning O) (marks : Marks) (plan : PlanView) (first : StoreView) (old mid : Disk) (now : StoreView) (given : List (Record O)) : Type 0 where
  pub part : IsPart meaning old mid first now Done
  pub above : All (λ n. n < reached 0 given) (lsns now.parts.volatile.entries)
  pub shown : old.tells_files → IsSettled old → (p : Params) (w : World O) → (to : IsToDo meaning plan first old p w)
      → IsLeft (meaning (bounds_of p)) p mid.reads now.parts.volatile marks w (from_lsn plan.start to.stable) given
  pub steps : old.tells_moments → IsSettled old → (p : Params) (w : World O) → IsToDo meaning plan first old p w
      → (n : ℕ) × TakesSome (meaning (bounds_of p)) p old mid w (turns (meaning (bounds_of p)) marks n w)

-- some records were done, and the reader has given these
pub record IsAt {O : Type 0} (meaning : Bounds → Meaning O) (marks : Marks) (plan : PlanView) (first : StoreView) (old mid : Disk) (now : StoreView) (reader : LsnReaderView) (done given : List (Record O)) : Type 0 where
  pub so_far : IsDone meaning marks plan first old mid now done
  pub from : reader.from ≡ plan.start
  pub bounds : reader.records.bounds ≡ first.parts.log.bounds
  pub reading : IsReadingFromLsn (meaning reader.records.bounds) mid first.parts.log reader given

-- those that it has given were done
abbrev pub IsDoing : {O : Type 0} → (Bounds → Meaning O) → Marks → PlanView → StoreView → Disk → Disk → StoreView → LsnReaderView → Type 0
IsDoing {O} meaning marks plan first old mid now reader = (given : List (Record O)) × IsAt meaning marks plan first old mid now reader given given

-- some turns are some of the steps of the redo
pub steps_of : {O : Type 0} (m : Meaning O) (p : Params) (marks : Marks) {old new : Disk} {log : RecordLogView} {slots : SlotsView} {plan : PlanView} (w : World O) → IsLogDue m p old log slots plan w
    → (n : ℕ) × TakesSome m p old new w (turns m marks n w) → TakesSome m p old new w (redo_steps m marks w)
steps_of m p marks {old} {new} w to some = turns_are_steps m p marks w (λ n. ap (λ (f : ℕ → Bool). f n) (crashed-graph m w to.due.found.crashed)) old new some.0 some.1

module _ {O : Type 0} {meaning : Bounds → Meaning O} {marks : Marks} {plan : PlanView} {first : StoreView} {old : Disk} where
  -- none was done
  pub done_none : IsDisk old → first.broken ≡ false → ((x : ℕ) → held first.parts.volatile.objects.cache x ≡ None) × (first.parts.volatile.entries ≡ []) → IsDone meaning marks plan first old old first []
  done_none lawful fine empty = record {
    part = record { call = call_none meaning old first Never lawful fine; objects = objects_none old first lawful };
    above = subst (λ (es : List Entry). All (λ n. n < 0) (lsns es)) (sym empty.1) (All-nil (λ n. n < 0));
    shown = λ told settled p w to.
        let m = meaning (bounds_of p) in
        let slots = first.parts.volatile.objects.slots in
        record {
          later = from_lsn plan.start to.stable;
          split = refl;
          so_far = begun m p marks w old.reads slots plan (from_lsn plan.start to.stable) first.parts.volatile to.due refl empty.0 empty.1
              (due_members m p old.reads slots plan to.stable w to.due);
        };
    steps = λ told settled p w to. let m = meaning (bounds_of p) in (0, takes_none m p marks w old lawful told settled to.due.found.shows (turns m marks 0 w));
  }

  module _ {mid : Disk} {now : StoreView} {given : List (Record O)} (done : IsDone meaning marks plan first old mid now given) where
    settled_now : IsSettled old → IsSettled mid
    settled_now = part_settled done.part

    -- what a crash leaves over a call that changes nothing
    pub still_moments : {next : Disk} → Stays mid next → old.tells_moments → IsSettled old → (p : Params) (w : World O) → IsToDo meaning plan first old p w → (n : ℕ) × TakesSome (meaning (bounds_of p)) p old next w (turns (meaning (bounds_of p)) marks n w)
    still_moments {next} kept steps settled p w to =
        let m = meaning (bounds_of p) in
        let runs = done.part.objects.runs in
        let told = runs.begins.telling steps in
        let so = (done.shown told settled p w to).so_far in
        let v = run m w (turns m marks so.turned w) in
        let before = done.steps steps settled p w to in
        let still = stays_moments m p marks w mid next v (turns m marks 0 v) (runs.time.moments_told.0 steps) (settled_now settled) kept so.shown.files_show in
        join_moments m p marks w old mid next before.0 so.turned 0 (runs.said told) before.1 still

    -- such a call
    pub done_still : {next : Disk} {after : StoreView} → Stays mid next → after ≡ record now { broken = false } → IsDone meaning marks plan first old next after given
    done_still {next} {after} kept same =
        let parts : after.parts ≡ now.parts = ap (λ (s : StoreView). s.parts) same in
        let read = part_fetch meaning Done (fetch_log {fault = ⊥} kept same (λ is. cc, λ none. absurd none)) (λ none. none, λ none. none) (λ stop is. cc) (λ none. absurd none) in
        record {
          part = part_twice done.part read;
          above = subst (λ (it : Parts). All (λ n. n < reached 0 given) (lsns it.volatile.entries)) (sym parts) done.above;
          shown = λ told settled p w to.
              let left = done.shown told settled p w to in
              let told_mid = done.part.objects.runs.time.files_told.0 told in
              record {
                later = left.later;
                split = left.split;
                so_far = subst (λ (f : Files). SoFar (meaning (bounds_of p)) p f after.parts.volatile marks w left.later) (sym (kept.reads told_mid))
                    (subst (λ (it : Parts). SoFar (meaning (bounds_of p)) p mid.reads it.volatile marks w left.later) (sym parts) left.so_far);
              };
          steps = still_moments kept;
        }

    -- such a call finds too long a value in the slot of one of these objects
    pub slot_fault : ((x : ℕ) → held first.parts.volatile.objects.cache x ≡ None) → {next : Disk} {after : SlotsView} {objects : List ℕ} {file : FileNo} {place : ℕ} → Stays mid next → after ≡ now.parts.volatile.objects.slots
        → HasLongSlot next now.parts.volatile.objects.slots objects file place → IsSlotFault old next first.parts.volatile.objects.slots after file place
    slot_fault none {next} {after} {objects} {file} {place} kept same long = record {
      never = λ told is.
          let laid = part_laid done.part told (record { slots = is; clean = λ x e clean had. let h : None ≡ Some e = sym (none x) ∙ had in cc }) in
          long_untold now.parts.volatile.objects.slots long.object file place kept (done.part.objects.runs.time.files_told.0 told) laid.slots long.slot;
      layout = ap layout_of same ∙ done.part.call.layout;
      object = long.object;
      long = subst (λ (s : SlotsView). IsLongSlot next s long.object file place) (sym same) long.slot;
    }

    module _ (used : ArePartsInUse first.parts) (told : old.tells_files) (settled : IsSettled old) (p : Params) (w : World O) (to : IsToDo meaning plan first old p w) (codes : HasCodes (meaning (bounds_of p))) where
      abbrev pub log : RecordLogView
      log = first.parts.log

      -- what is read now may be the files
      agree : mid.agrees mid.reads
      agree = done.part.objects.runs.ends.agreeing (done.part.objects.runs.time.files_told.0 told)

      -- the log's records are where they were
      keeps : Keeps (meaning (bounds_of p)) mid log to.stable []
      keeps = keeps_beside (meaning (bounds_of p)) p old mid log to.stable [] (done.part.objects.runs.reads told).others (settled_now settled) to.keeps

      same_bounds : log.bounds ≡ bounds_of p
      same_bounds = used.bounds ∙ ap (λ (q : Params). bounds_of q) to.due.params

      -- the reader has given one more
      pub next_left : {reader : LsnReaderView} {r : Record O} → reader.from ≡ plan.start → reader.records.bounds ≡ log.bounds → IsReadingFromLsn (meaning reader.records.bounds) mid log reader (given ++ r ∷ [])
          → IsLeftWith (meaning (bounds_of p)) p mid.reads now.parts.volatile marks w (from_lsn plan.start to.stable) given r
      next_left {reader} {r} from bounds reading =
          let m = meaning (bounds_of p) in
          let own = subst (λ (b : Bounds). IsReadingFromLsn (meaning b) mid log reader (given ++ r ∷ [])) (bounds ∙ same_bounds) reading in
          let front = given_first m codes mid log reader (given ++ r ∷ []) to.stable [] agree keeps own in
          let all : from_lsn plan.start to.stable ≡ (given ++ r ∷ []) ++ front.0 = ap (λ (n : ℕ). from_lsn n to.stable) (sym from) ∙ front.1 in
          let left = done.shown told settled p w to in
          let here : left.later ≡ r ∷ front.0 = append_cancel_left given left.later (r ∷ front.0) (sym left.split ∙ all ∙ append_assoc given (r ∷ []) front.0) in
          record { rest = front.0; split = all; so_far = subst (λ (l : List (Record O)). SoFar m p mid.reads now.parts.volatile marks w l) here left.so_far }

      -- or it has given all, and the redo is over
      pub all_done : {from : ℕ} → from ≡ plan.start → AreAllFromLsn (meaning log.bounds) mid log from given
          → ((n x : ℕ) → IsLive (at (meaning (bounds_of p)) marks w n) → ((at (meaning (bounds_of p)) marks w n).cache x).value ≡ state_after (meaning (bounds_of p)) (commands_of w.history) x)
          → IsRedone (meaning (bounds_of p)) p mid.reads now.parts.volatile marks w
      all_done {from} is ended_there map =
          let m = meaning (bounds_of p) in
          let own = subst (λ (b : Bounds). AreAllFromLsn (meaning b) mid log from given) same_bounds ended_there in
          let all : from_lsn plan.start to.stable ≡ given = ap (λ (n : ℕ). from_lsn n to.stable) (sym is) ∙ given_all m codes mid log from given to.stable [] agree keeps own in
          let left = done.shown told settled p w to in
          let none : left.later ≡ [] = append_cancel_left given left.later [] (sym left.split ∙ all ∙ sym (append-nil given)) in
          ended m marks w p mid.reads now.parts.volatile (λ n. ap (λ (f : ℕ → Bool). f n) (crashed-graph m w to.due.found.crashed)) map
          (subst (λ (l : List (Record O)). SoFar m p mid.reads now.parts.volatile marks w l) none left.so_far)

  -- what the next call of the reader gives
  module _ {mid : Disk} (next : Disk) {now : StoreView} {before : LsnReaderView} (after : LsnReaderView) (found : Option (Record O)) (is : IsDoing meaning marks plan first old mid now before)
      (gives : (other : RecordLogView) (given : List (Record O)) → IsReadingFromLsn (meaning before.records.bounds) mid other before given → HasGiven (meaning before.records.bounds) next other after given found) where
    pub next_given : {r : Record O} {later : StoreView} → Stays mid next → later ≡ record now { broken = false } → after ≡ record before { records = after.records } → after.records.bounds ≡ before.records.bounds → found ≡ Some r
        → IsAt meaning marks plan first old next later after is.0 (is.0 ++ r ∷ [])
    next_given {r} kept still same bounds one = record {
      so_far = done_still is.1.so_far kept still;
      from = ap (λ (v : LsnReaderView). v.from) same ∙ is.1.from;
      bounds = bounds ∙ is.1.bounds;
      reading = subst (λ (b : Bounds). IsReadingFromLsn (meaning b) next first.parts.log after (is.0 ++ r ∷ [])) (sym bounds)
          (subst (λ (o : Option (Record O)). HasGiven (meaning before.records.bounds) next first.parts.log after is.0 o) one (gives first.parts.log is.0 is.1.reading));
    }

    pub none_given : found ≡ None → AreAllFromLsn (meaning first.parts.log.bounds) next first.parts.log after.from is.0
    none_given none = subst (λ (b : Bounds). AreAllFromLsn (meaning b) next first.parts.log after.from is.0) is.1.bounds
        (subst (λ (o : Option (Record O)). HasGiven (meaning before.records.bounds) next first.parts.log after is.0 o) none (gives first.parts.log is.0 is.1.reading))

  module _ {mid : Disk} {now : StoreView} {reader : LsnReaderView} {given : List (Record O)} (r : Record O) (is : IsAt meaning marks plan first old mid now reader given (given ++ r ∷ [])) (used : ArePartsInUse first.parts) where
    -- it is of the grammar, and its LSN is above those before
    pub next_in_grammar : IsRecord (meaning (bounds_of (store_params now))) r
    next_in_grammar = subst (λ (l : Layout). IsRecord (meaning (bounds_of l.params)) r) (sym is.so_far.part.call.layout)
        (subst (λ (b : Bounds). IsRecord (meaning b) r) (is.bounds ∙ used.bounds) (last_in_grammar (meaning reader.records.bounds) mid first.parts.log reader given r is.reading))

    rising : Rise (reached 0 given) (next_of first) (r ∷ [])
    rising = (reached_rise 0 (next_of first) given (r ∷ []) (omega arith) (given_rise (meaning reader.records.bounds) mid first.parts.log reader (given ++ r ∷ []) 0 (next_of first) (omega arith) (omega arith) is.reading)).1

    pub next_above : IsAbove now r
    next_above = is_above (reached 0 given) now r is.so_far.above (subst (λ (l : RecordLogView). Rise (reached 0 given) l.next (r ∷ [])) (sym is.so_far.part.objects.log) rising)

    -- The record is replayed.
    module _ {next : Disk} {after : StoreView} (replayed : IsReplay mid next now after (λ k. IsBelow k r) ⊥)
        (shown : mid.tells_files → (p : Params) (w : World O) → IsSound (meaning (bounds_of p)) w → ShowsVolatile (meaning (bounds_of p)) p (mid.reads Objects) now.parts.volatile w → IsNextRecord w plan.table r
        → ShowsVolatile (meaning (bounds_of p)) p (mid.reads Objects) after.parts.volatile (after_record (meaning (bounds_of p)) w r))
        (codes : (b : Bounds) → IsSmall b → HasCodes (meaning b))
        (sound : (b : Bounds) (w : World O) (marks : Marks) (n : ℕ) → IsSmall b → IsSound (meaning b) w → IsAllStable w → IsSound (meaning b) (run (meaning b) w (turns (meaning b) marks n w)))
        (unseen : (p : Params) (files : Files) (w : World O) (next : Step O) → IsSound (meaning (bounds_of p)) w → IsUnseen next → FilesShow (meaning (bounds_of p)) p files w → FilesShow (meaning (bounds_of p)) p files (step (meaning (bounds_of p)) w next)) where
      abbrev all_of : (p : Params) (w : World O) → IsToDo meaning plan first old p w → List (Record O)
      all_of p w to = from_lsn plan.start to.stable

      pub part_on : IsPart meaning old next first after Done
      part_on = part_twice is.so_far.part (part_replay meaning Done replayed (λ stop ends. cc) (λ none. absurd none))

      above_on : All (λ n. n < reached 0 (given ++ r ∷ [])) (lsns after.parts.volatile.entries)
      above_on = subst (λ (k : ℕ). All (λ n. n < k) (lsns after.parts.volatile.entries)) (sym (reached_more 0 given r))
          (behind_above (reached 0 given) (next_of first) now.parts.volatile.entries after.parts.volatile.entries r is.so_far.above rising
          (λ k low all. replayed.set.entries k low (subst (λ (es : List Entry). All (λ n. n < k) (lsns es)) (sym replayed.read.entries) all)))

      sound_at : (p : Params) (w : World O) → IsToDo meaning plan first old p w → (n : ℕ) → IsSound (meaning (bounds_of p)) (at (meaning (bounds_of p)) marks w n)
      sound_at p w to n =
          let found = to.due.found in
          sound (bounds_of p) w marks n (small_store p (old.reads Objects) found.shows.objects) found.sound (crashed-stable (meaning (bounds_of p)) w found.crashed found.sound)

      next_on : old.tells_files → IsSettled old → (p : Params) (w : World O) → (to : IsToDo meaning plan first old p w) → IsOnWith (meaning (bounds_of p)) p next.reads after.parts.volatile marks w (all_of p w to) given r
      next_on told settled p w to =
          let m = meaning (bounds_of p) in
          let told_mid = is.so_far.part.objects.runs.time.files_told.0 told in
          let left = next_left is.so_far used told settled p w to (codes (bounds_of p) (small_store p (old.reads Objects) to.due.found.shows.objects)) is.from is.bounds is.reading in
          let so = left.so_far in
          let v = at m marks w so.turned in
          let shows = shown told_mid p v (sound_at p w to so.turned) so.shown.store_shows (next_is m p marks w plan.table to.due.table so.turned r left.rest so.members) in
          let on = on_record m p marks w mid.reads now.parts.volatile after.parts.volatile r left.rest so (unseen p mid.reads v Replay (sound_at p w to so.turned) tt so.shown.files_show) shows in
          record {
            rest = left.rest;
            split = left.split;
            on = subst (λ (f : Files). IsOn m p marks w f after.parts.volatile left.rest) (sym (replayed.read.read.stays.reads told_mid)) on;
          }

      stable_at : (p : Params) (w : World O) → IsToDo meaning plan first old p w → (n : ℕ) → IsAllStable (at (meaning (bounds_of p)) marks w n)
      stable_at p w to n =
          let m = meaning (bounds_of p) in
          kept_stable w (at m marks w n) (turns_kept m marks n w) (crashed-stable m w to.due.found.crashed to.due.found.sound)

      shows_on : (told : old.tells_files) (settled : IsSettled old) (p : Params) (w : World O) (to : IsToDo meaning plan first old p w) → VolatileShows (meaning (bounds_of p)) p next after.parts.volatile (at (meaning (bounds_of p)) marks w (next_on told settled p w to).on.turned)
      shows_on told settled p w to =
          let m = meaning (bounds_of p) in
          let on = (next_on told settled p w to).on in
          store_shows_now m p next after.parts.volatile (at m marks w on.turned) (part_on.objects.runs.time.files_told.0 told) (part_settled part_on settled)
          (sound_at p w to on.turned) (stable_at p w to on.turned) on.shown.files_show on.shown.store_shows

      -- Thin nodes are installed after it.
      module _ {new : Disk}
          (takes : next.tells_moments → (p : Params) (w : World O) → VolatileShows (meaning (bounds_of p)) p next after.parts.volatile w → IsAllStable w
          → (turned : ℕ) × TakesSome (meaning (bounds_of p)) p next new w (turns (meaning (bounds_of p)) marks turned w)) where
        pub moments_on : old.tells_moments → IsSettled old → (p : Params) (w : World O) → IsToDo meaning plan first old p w → (n : ℕ) × TakesSome (meaning (bounds_of p)) p old new w (turns (meaning (bounds_of p)) marks n w)
        moments_on steps settled p w to =
            let m = meaning (bounds_of p) in
            let runs = part_on.objects.runs in
            let told = runs.begins.telling steps in
            let turned = (next_on told settled p w to).on.turned in
            let still = still_moments is.so_far replayed.read.read.stays steps settled p w to in
            let installs = takes (runs.time.moments_told.0 steps) p (at m marks w turned) (shows_on told settled p w to) (stable_at p w to turned) in
            join_moments m p marks w old next new still.0 turned installs.0 (runs.said told) still.1 installs.1

        pub done_on : {last : StoreView} → IsPart meaning next new after last Done → ((k : ℕ) → All (λ n. n < k) (lsns after.parts.volatile.entries) → All (λ n. n < k) (lsns last.parts.volatile.entries))
            → ((p : Params) (w : World O) → VolatileShows (meaning (bounds_of p)) p next after.parts.volatile w → IsAllStable w → IsLimited (meaning (bounds_of p)) p new.reads last.parts.volatile marks w)
            → IsDone meaning marks plan first old new last (given ++ r ∷ [])
        done_on {last} part entries limited = record {
          part = part_twice part_on part;
          above = entries (reached 0 (given ++ r ∷ [])) above_on;
          shown = λ told settled p w to.
              let m = meaning (bounds_of p) in
              let is = next_on told settled p w to in
              record {
                later = is.rest;
                split = is.split;
                so_far = limited_so_far m p marks w new.reads last.parts.volatile is.on.turned is.rest (limited p (at m marks w is.on.turned) (shows_on told settled p w to) (stable_at p w to is.on.turned)) is.on.members;
              };
          steps = moments_on;
        }

    -- and the reader may go on when the objects have changed
    pub reads_on : {next new : Disk} → Stays mid next → Runs (In Objects Any) Same next new → IsReadingFromLsn (meaning reader.records.bounds) new first.parts.log reader (given ++ r ∷ [])
    reads_on {next} {new} kept runs =
        goes_on_beside (meaning reader.records.bounds) mid new first.parts.log reader (given ++ r ∷ [])
        (λ files agrees. let was = runs.agreed files agrees in (was.0, agreed_before kept was.0 was.1, was.2.others)) is.reading

-- a call that fails as the log is read
pub part_log : {O : Type 0} (T : Type 0) (meaning : Bounds → Meaning O) {old new : Disk} {before after : StoreView} (fault : FileNo → ℕ → Type 0) (why : ReadErr) → Stays old new → after ≡ record before { broken = is_read_fault why }
    → FailsBy (Rises old.disk_faults new.disk_faults) fault why → IsPart meaning old new before after (ending_of_read {T = T} (Err why))
part_log T meaning {old} {new} fault why stays same fails =
    part_fetch meaning (ending_of_read {T = T} (Err why)) (fetch_log {fault = is_read_fault why ≡ true} stays same (λ is. is, λ is. is)) (read_failed T why)
    (never_stopped T why) (rises_of T (Rises old.disk_faults new.disk_faults) fault why fails)

-- and one that fails as a thin node is installed
pub part_thin : {O : Type 0} (S T : Type 0) {meaning : Bounds → Meaning O} {old new : Disk} {before after : StoreView} (why : StoreErr) → IsCall meaning old new before after 0 Never (ending_of_store {T = S} (Err why)) → IsOnObjectsAlone old new before after
    → IsPart meaning old new before after (ending_of_read {T = T} (Err (read_from_store why)))
part_thin S T {meaning} {old} {new} {before} {after} why call beside = record {
  call = subst (λ (e : Ending). IsCall meaning old new before after 0 Never e) (store_ends S T why) call;
  objects = beside.objects;
}
