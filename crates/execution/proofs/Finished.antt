-- What holds of a command that has its place: it is done, or short of memory.
use Rattle.std.proofs.Common.{◌≡◌, ◌∙◌, sym, subst, ap, ℕ, ◌+◌, ◌<◌, List, length, map, refl, arith, inr}
use Rattle.std.specs.Prelude.{Bool, IsTrue, None, Ok, Err}
use Rattle.disk_model.specs.Disk.{Disk, IsDisk}
use Rattle.disk_model.specs.declared.machine.FileNo.TheVariants.{Objects}
use Rattle.oper_core.specs.Meaning.{Meaning, HasBounds, IsSmall, IsLawful, Accepts, read_values}
use Rattle.oper_core.specs.State.{is_among}
use Rattle.oper_core.specs.declared.bounds.Bounds.{Bounds}
use Rattle.formats.specs.Objects.{bounds_of}
use Rattle.formats.specs.Records.{record_code}
use Rattle.formats.specs.declared.params.Params.{Params}
use Rattle.explain_core.specs.History.{effect_of, reads_of}
use Rattle.explain_core.specs.History.Member.{Command}
use Rattle.explain_core.specs.Sound.{IsSound}
use Rattle.explain_core.specs.World.{World, step, IsLive}
use Rattle.explain_core.specs.World.Step.{Append}
use Rattle.log_blocks.specs.LogView.{used_of, growth_of}
use Rattle.log_records.specs.RecordLog.{RecordLogView}
use Rattle.stable_objects.specs.SlotsView.{SlotsView}
use Rattle.running_store.specs.Calls.AfterReads.{fetch_takes, fetch_then, fetch_unbroken, read_moments}
use Rattle.running_store.specs.Steps.Appended.{appended_shows}
use Rattle.running_store.specs.Laid.Among.{all_among}
use Rattle.running_store.specs.Calls.{IsCall, Never, call_as}
use Rattle.running_store.specs.Calls.Commands.{HasPlaceBelow, IsCommanded, IsLeft, IsReady, command_length, commanded_call, left_call, left_takes, length_with}
use Rattle.running_store.specs.Courses.{Course}
use Rattle.running_store.specs.Laid.Fetched.{fetched-twice}
use Rattle.running_store.specs.Calls.Fetches.{IsFetch}
use Rattle.running_store.specs.Courses.Growth.{code_length, end_more}
use Rattle.running_store.specs.Laid.{IsLaidOn, values_in}
use Rattle.running_store.specs.Parts.{IsAppended, Parts, Shows, meaning_in, record_of}
use Rattle.running_store.specs.Parts.Reads.{read_shows, untaken_fetched, with_objects}
use Rattle.running_store.specs.Parts.Stored.{run_one}
use Rattle.running_store.specs.StoreView.{StoreView, log_length, store_params}
use Rattle.running_store.specs.Taking.{Ending, Follows, Takes}
use Rattle.running_store.specs.Parts.Unchanged.{IsSameLog}
use Rattle.execution.specs.Answers.{HasCauseIn}
use Rattle.execution.specs.Courses.{exec_course, refusal_in}
use Rattle.execution.specs.Done.{IsExecuted, IsOutcome}
use Rattle.execution.specs.Stops.{StopsCommand}
use Rattle.execution.specs.declared.exec_err.ExecErr.TheVariants.{Memory}
use Rattle.execution.proofs.Admitted.{accepted, range_shown, read_here, ready_here, writes_there}
use Rattle.execution.proofs.Causes.{done_cause}
use Rattle.execution.proofs.Placed.{done_is}

-- the log is as long as it was to be
pub done_long : {O : Type 0} (m : Meaning O) (op : O) (made : List (List ℕ)) (before after : Parts) → IsAppended m before after (Command op) made → used_of after.log.log ≡ length_with before.log (command_length m op)
done_long m op made before after done =
    let bytes = record_code m (record_of before.log.next (Command op)) in
    let long : length bytes ≡ command_length m op = code_length m before.log.next (Command op) in
    ap (λ (r : RecordLogView). used_of r.log) done.log
    ∙ end_more before.log.log.end before.log.log.pending bytes (omega (arith, long))
    ∙ ap (λ (k : ℕ). used_of before.log.log + growth_of before.log.log.pending k) long

-- its place, by the store before a fetch
pub place_before : (old mid : Disk) (before here : StoreView) → IsFetch old mid before here ⊥ → (n k : ℕ) → n ≡ k → HasPlaceBelow (store_params here).limit here.parts.log n → HasPlaceBelow (store_params before).limit before.parts.log k
place_before old mid before here is n k same place =
    subst (λ (l : RecordLogView). HasPlaceBelow (store_params before).limit l k) is.log
    (subst (λ (q : SlotsView). HasPlaceBelow q.params.limit here.parts.log k) is.read.fetched.slots (subst (λ (j : ℕ). HasPlaceBelow (store_params here).limit here.parts.log j) same place))

module _ {O : Type 0} (meaning : Bounds → Meaning O) (grouped : Bool) (op : O) (old mid : Disk) (before here after : StoreView) (is : IsFetch old mid before here ⊥) (disk : IsDisk mid)
    (values : List (List ℕ)) (ready : IsReady meaning (store_params before) op values) (place : HasPlaceBelow (store_params before).limit before.parts.log (command_length (meaning_in meaning (store_params before)) op)) where
  abbrev p : Params
  p = store_params before

  abbrev whole : Meaning O → World O → ℕ → Course O
  whole m w used = exec_course m grouped p.limit op w used

  -- a call that is not stopped
  then_call : (ending : Ending) → IsCall meaning mid mid here after 0 Never ending → IsCall meaning old mid before after 0 (StopsCommand grouped p.limit) ending
  then_call ending call =
      fetch_then old mid before here is meaning mid after 0 (StopsCommand grouped p.limit) ending
      (call_as meaning mid mid here after 0 0 Never (StopsCommand grouped p.limit) ending refl (λ stop ends never. absurd never) call)

  -- it lacks memory
  module _ (left : IsLeft here after) where
    pub short_call : IsCall meaning old mid before after 0 (StopsCommand grouped p.limit) Ending.Short
    short_call = then_call Ending.Short (left_call meaning here after (fetch_unbroken old mid before here is) mid disk left)

    pub short_takes : Takes meaning old mid before.parts after.parts whole Ending.Short
    short_takes = fetch_takes old mid before here ⊥ is meaning mid after.parts whole Ending.Short (left_takes meaning here after (fetch_unbroken old mid before here is) mid disk left whole)

    pub short_outcome : IsOutcome meaning grouped old mid before.parts after.parts op (Err Memory)
    short_outcome = (
      record {
        log = subst (λ (l : RecordLogView). IsSameLog l after.parts.log) is.log left.untaken.log;
        objects = fetched-twice before.parts.volatile.objects here.parts.volatile.objects after.parts.volatile.objects is.read.fetched (untaken_fetched here.parts after.parts left.untaken);
        entries = left.untaken.entries ∙ is.entries;
      },
      inr ((values, ready), place),
    )

  -- it is done, on the values that it read
  module _ (done : IsCommanded meaning here after op values) where
    abbrev first : Parts
    first = with_objects before.parts here.parts.volatile.objects

    pub finished_call : IsCall meaning old mid before after 0 (StopsCommand grouped p.limit) Ending.Done
    finished_call = then_call Ending.Done (commanded_call meaning here after (fetch_unbroken old mid before here is) mid disk op values done)

    done_here : IsAppended (meaning_in meaning p) first after.parts (Command op) ((meaning_in meaning p).effect op values)
    done_here =
        let params : store_params here ≡ p = ap (λ (s : SlotsView). s.params) is.read.fetched.slots in
        let same : here.parts ≡ first = λ i. record { log = is.log i; volatile = record { objects = here.parts.volatile.objects; entries = is.entries i } } in
        subst (λ (q : Params). IsAppended (meaning_in meaning q) first after.parts (Command op) ((meaning_in meaning q).effect op values)) params
        (subst (λ (it : Parts). IsAppended (meaning_in meaning (store_params here)) it after.parts (Command op) ((meaning_in meaning (store_params here)).effect op values)) same done.appended)

    pub finished_outcome : (n : ℕ) → n ≡ after.parts.log.accepted → IsExecuted meaning before.parts after.parts op n
    finished_outcome n nth = record {
      admissible = (values, ready);
      place = place;
      log = done_here.log;
      nth = nth ∙ ap (λ (r : RecordLogView). r.accepted) done_here.log;
      slots = done_here.slots ∙ is.read.fetched.slots;
      entries = done_here.entries;
    }

    module _ (bounded : (b : Bounds) → HasBounds b (meaning b)) (lawful : (b : Bounds) → IsSmall b → IsLawful (meaning b))
        (told : old.tells_files → IsLaidOn before.parts.volatile.objects (old.reads Objects) → values ≡ read_values (meaning_in meaning p) (values_in before.parts.volatile.objects (old.reads Objects)) op)
        (keeps : (b : Bounds) (w : World O) (o : O) → IsSound (meaning b) w → IsLive w → Accepts (meaning b) (λ x. (w.cache x).value) o → IsSound (meaning b) (step (meaning b) w (Append (Command o)))) where
      module _ (q : Params) (w : World O) (shows : Shows (meaning_in meaning q) q old before.parts w) where
        abbrev m : Meaning O
        m = meaning_in meaning q

        abbrev made : List (List ℕ)
        made = m.effect op values

        said : values ≡ read_values (meaning_in meaning p) (values_in before.parts.volatile.objects (old.reads Objects)) op
        said = told shows.told shows.store.laid

        not_refused : refusal_in m w op ≡ None
        not_refused = accepted meaning bounded lawful q old before.parts w shows op values ready said

        ready_there : IsReady meaning q op values
        ready_there = ready_here meaning bounded lawful q old before.parts w shows op values ready said

        place_there : HasPlaceBelow p.limit before.parts.log (command_length m op)
        place_there = subst (λ (r : Params). HasPlaceBelow p.limit before.parts.log (command_length (meaning_in meaning r) op)) shows.store.params place

        done_there : IsAppended m first after.parts (Command op) made
        done_there = subst (λ (r : Params). IsAppended (meaning_in meaning r) first after.parts (Command op) ((meaning_in meaning r).effect op values)) shows.store.params done_here

        made_is : made ≡ effect_of m (Command op) (map (λ (x : ℕ). (w.cache x).value) (reads_of m (Command op)))
        made_is = ap (λ (l : List (List ℕ)). m.effect op l) (read_here meaning bounded lawful q old before.parts w shows op values ready said)

        writes_below : (x : ℕ) → IsTrue (is_among x (m.writes op)) → x < q.objects
        writes_below x among =
            all_among (λ y. y < q.objects) (m.writes op) x (writes_there meaning bounded lawful q (range_shown meaning bounded lawful q old before.parts w shows) op ready_there.shape (m.writes op) refl) among

        finished_shows : Shows m q mid after.parts (step m w (Append (Command op)))
        finished_shows =
            let low = place.lsn in
            appended_shows m q mid first after.parts (Command op) made w (read_shows m q old mid before.parts here.parts.volatile.objects w is.read shows) done_there made_is writes_below (omega (arith, low), ready_there.shape) low
            (keeps (bounds_of q) w op shows.running.sound shows.running.live not_refused)

        finished_follows : Follows m q mid after.parts w (whole m w (log_length before)) Ending.Done
        finished_follows =
            subst (λ (c : Course O). Follows m q mid after.parts w c Ending.Done) (sym (done_is m q old before.parts w shows grouped p.limit op not_refused place_there)) (
              refl,
              record {
                shows = subst (λ (u : World O). Shows m q mid after.parts u) (sym (run_one m w (Append (Command op)))) finished_shows;
                used = done_long m op made first after.parts done_there;
              },
            )

        pub finished_cause : (n : ℕ) → n ≡ after.parts.log.accepted → HasCauseIn grouped m q.limit w (log_length before) op (Ok n)
        finished_cause n nth =
            done_cause meaning grouped q old mid before.parts w shows op not_refused n (subst (λ (r : Params). HasPlaceBelow r.limit before.parts.log (command_length m op)) shows.store.params place_there)
            (nth ∙ ap (λ (r : RecordLogView). r.accepted) done_here.log)

      pub finished_takes : Takes meaning old mid before.parts after.parts whole Ending.Done
      finished_takes = record {
        follows = λ q w shows. finished_follows q w shows;
        steps = λ told q w shows. read_moments (meaning_in meaning q) q old mid before.parts w (whole (meaning_in meaning q) w (log_length before)).steps shows is.read.stays told;
      }
