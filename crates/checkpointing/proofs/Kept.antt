-- Upkeep: a trim and then a turn, each where it is due.
use Rattle.std.proofs.Common.{◌≡◌, ◌∙◌, sym, subst, ap, ℕ, List, [], ◌++◌, refl, Option, None, Some}
use Rattle.std.specs.Prelude.{max, Result, Ok, Err, IfOk, IfErr}
use Rattle.disk_model.specs.Disk.{Disk}
use Rattle.oper_core.specs.Meaning.{Meaning}
use Rattle.oper_core.specs.declared.bounds.Bounds.{Bounds}
use Rattle.formats.specs.Reading.{TellsDamage}
use Rattle.formats.specs.declared.params.Params.{Params}
use Rattle.formats.specs.declared.read_err.ReadErr.{ReadErr}
use Rattle.formats.specs.declared.read_err.ReadErr.TheVariants as of_read
use Rattle.log_records.specs.RecordLog.{RecordLogView}
use Rattle.log_records.specs.declared.rewrite_err.RewriteErr.{RewriteErr}
use Rattle.log_records.specs.declared.rewrite_err.RewriteErr.TheVariants as of_rewrite
use Rattle.explain_core.specs.History.{commands_of}
use Rattle.explain_core.specs.RunLaws.{allowed-append, run-append}
use Rattle.explain_core.specs.World.{World, Step, run}
use Rattle.running_store.specs.Calls.Laws.{logging_none}
use Rattle.running_store.specs.Calls.{IsCall, Never, ending_of_read}
use Rattle.running_store.specs.Courses.{Course, Stop}
use Rattle.running_store.specs.Steps.Finished.{IsQuiet}
use Rattle.running_store.specs.Parts.{Parts, Shows, meaning_in}
use Rattle.running_store.specs.Calls.Rewrites.{ending_of_rewrite}
use Rattle.running_store.specs.Running.{IsRunning, KeepsSound, MayBeTaken, may_be_taken}
use Rattle.running_store.specs.StoreView.{StoreView, log_length, logged_since, next_of}
use Rattle.running_store.specs.Taking.{Ending, Follows, Takes}
use Rattle.running_store.specs.Taking.Ending.{Done, Stopped, Short, Failed}
use Rattle.running_store.specs.Taking.Laws.{IsCut, takes_both, takes_first}
use Rattle.cache_manager.specs.Endings.{ending_of}
use Rattle.cache_manager.specs.InstallCourses.{turn_course}
use Rattle.cache_manager.specs.declared.install_err.InstallErr.{InstallErr}
use Rattle.cache_manager.specs.declared.install_err.InstallErr.TheVariants as of_install
use Rattle.checkpointing.specs.Courses.{trim_due, trim_within, turn_due, unstopped, upkeep_course}
use Rattle.checkpointing.specs.Left.{DamagedBy}
use Rattle.checkpointing.specs.Told.{TellsUpkeep, outcome_of, outcome_of_stop, outcome_of_trim, outcome_of_turn}
use Rattle.checkpointing.specs.declared.due.Due.{Due}
use Rattle.checkpointing.specs.declared.task_outcome.TaskOutcome.{TaskOutcome}
use Rattle.checkpointing.proofs.Allowed.{trim_taken}

-- ---- the steps may be taken

module _ {O : Type 0} (m : Meaning O) (keeps : KeepsSound m) where
  both_taken : (w : World O) (xs ys : List (Step O)) → MayBeTaken m w xs → MayBeTaken m (run m w xs) ys → MayBeTaken m w (xs ++ ys)
  both_taken w xs ys first second =
      let same = run-append m w xs ys in
      record {
        allowed = allowed-append m w xs ys first.allowed second.allowed;
        running = subst (λ (v : World O). IsRunning m v) (sym same) second.running;
        commands = ap (λ (v : World O). commands_of v.history) same ∙ second.commands ∙ first.commands;
      }

  none_taken : (w : World O) → IsRunning m w → MayBeTaken m w []
  none_taken w is = may_be_taken m w [] keeps is tt tt

  trim_due_taken : (due : Option ℕ) (epoch : ℕ) (w : World O) (used : ℕ) → IsRunning m w → MayBeTaken m w (trim_due m due epoch w used).steps
  trim_due_taken None epoch w used is = none_taken w is
  trim_due_taken (Some most) epoch w used is = trim_taken m keeps w is most epoch used

  module _ (turns : (copied most : ℕ) (w : World O) (used : ℕ) → IsRunning m w → MayBeTaken m w (turn_course m copied most w used).steps) where
    turn_due_taken : (due : Option ℕ) (copied : ℕ) (w : World O) (used : ℕ) → IsRunning m w → MayBeTaken m w (turn_due m due copied w used).steps
    turn_due_taken None copied w used is = none_taken w is
    turn_due_taken (Some most) copied w used is = turns copied (max 1 most) w used is

    pub upkeep_taken : (due : Due) (epoch copied : ℕ) (w : World O) (used : ℕ) → IsRunning m w → MayBeTaken m w (upkeep_course m due epoch copied w used).steps
    upkeep_taken due epoch copied w used is =
        let first = trim_due m due.trim epoch w used in
        let one = trim_due_taken due.trim epoch w used is in
        both_taken w first.steps (turn_due m due.turn copied (run m w first.steps) first.used).steps one (turn_due_taken due.turn copied (run m w first.steps) first.used one.running)

-- ---- what stops a trim or a turn is no end of upkeep

abbrev ending_on : Ending → Ending
ending_on Done = Done
ending_on (Stopped stop) = Done
ending_on Short = Short
ending_on Failed = Failed

takes_on : {O : Type 0} (meaning : Bounds → Meaning O) (old new : Disk) (before after : Parts) (one : Meaning O → World O → ℕ → Course O) (ending : Ending)
    → Takes meaning old new before after one ending → Takes meaning old new before after (λ m w used. unstopped (one m w used)) (ending_on ending)
takes_on meaning old new before after one Done is = record { follows = λ p w shows. let done = is.follows p w shows in (refl, record { shows = done.1.shows; used = done.1.used }); steps = is.steps }
takes_on meaning old new before after one (Stopped stop) is = record { follows = λ p w shows. let done = is.follows p w shows in (refl, record { shows = done.1.shows; used = done.1.used }); steps = is.steps }
takes_on meaning old new before after one Short is = record { follows = is.follows; steps = is.steps }
takes_on meaning old new before after one Failed is = record { follows = is.follows; steps = is.steps }

call_on : {O : Type 0} (meaning : Bounds → Meaning O) (old new : Disk) (before after : StoreView) (n : ℕ) (stops : RecordLogView → Stop → Type 0) (ending : Ending)
    → IsCall meaning old new before after n stops ending → IsCall meaning old new before after n Never (ending_on ending)
call_on meaning old new before after n stops Done is =
    record { quiet = is.quiet; layout = is.layout; rising = is.rising; identities = is.identities; settled = is.settled; kept = is.kept; attached = is.attached; stopped = λ stop same. cc; broken = is.broken; fault = is.fault }
call_on meaning old new before after n stops (Stopped stop) is =
    record { quiet = is.quiet; layout = is.layout; rising = is.rising; identities = is.identities; settled = is.settled; kept = is.kept; attached = is.attached; stopped = λ other same. cc; broken = is.broken; fault = is.fault }
call_on meaning old new before after n stops Short is =
    record { quiet = is.quiet; layout = is.layout; rising = is.rising; identities = is.identities; settled = is.settled; kept = is.kept; attached = is.attached; stopped = λ stop same. cc; broken = is.broken; fault = is.fault }
call_on meaning old new before after n stops Failed is =
    record { quiet = is.quiet; layout = is.layout; rising = is.rising; identities = is.identities; settled = is.settled; kept = is.kept; attached = is.attached; stopped = λ stop same. cc; broken = is.broken; fault = is.fault }

-- how a trim ends upkeep, and how a turn does
trim_on : {T : Type 0} (r : Result T RewriteErr) → ending_on (ending_of_rewrite r) ≡ ending_of_read (outcome_of_trim r)
trim_on (Ok value) = refl
trim_on (Err (of_rewrite.LogFull used need limit)) = refl
trim_on (Err (of_rewrite.Exhausted epoch)) = refl
trim_on (Err of_rewrite.DiskFault) = refl
trim_on (Err (of_rewrite.Damaged file place)) = refl
trim_on (Err of_rewrite.Memory) = refl

turn_on : {T : Type 0} (r : Result T InstallErr) → ending_on (ending_of r) ≡ ending_of_read (outcome_of_turn r)
turn_on (Ok value) = refl
turn_on (Err (of_install.LogFull used need limit)) = refl
turn_on (Err (of_install.LsnEnd lsn)) = refl
turn_on (Err of_install.DiskFault) = refl
turn_on (Err of_install.Memory) = refl

-- and what they tell
module _ {O : Type 0} (m : Meaning O) (p : Params) (new : Disk) (after : Parts) (w : World O) (c : Course O) where
  told : {stop : Stop} → c.stop ≡ stop → outcome_of_stop stop ≡ outcome_of_stop c.stop
  told is = ap outcome_of_stop (sym is)

  trim_tells : {T : Type 0} (r : Result T RewriteErr) → Follows m p new after w c (ending_of_rewrite r) → IfOk (outcome_of_trim r) (λ it. it ≡ outcome_of_stop c.stop)
  trim_tells (Ok value) is = told is.0
  trim_tells (Err (of_rewrite.LogFull used need limit)) is = told is.0
  trim_tells (Err (of_rewrite.Exhausted epoch)) is = told is.0
  trim_tells (Err of_rewrite.DiskFault) is = tt
  trim_tells (Err (of_rewrite.Damaged file place)) is = tt
  trim_tells (Err of_rewrite.Memory) is = tt

  turn_tells : {T : Type 0} (r : Result T InstallErr) → Follows m p new after w c (ending_of r) → IfOk (outcome_of_turn r) (λ it. it ≡ outcome_of_stop c.stop)
  turn_tells (Ok value) is = told is.0
  turn_tells (Err (of_install.LogFull used need limit)) is = told is.0
  turn_tells (Err (of_install.LsnEnd lsn)) is = told is.0
  turn_tells (Err of_install.DiskFault) is = tt
  turn_tells (Err of_install.Memory) is = tt

trim_undamaged : {T : Type 0} (r : Result T RewriteErr) → IfErr r (DamagedBy (λ file place. ⊥)) → IfErr (outcome_of_trim r) (λ e. TellsDamage e → ⊥)
trim_undamaged (Ok value) is = tt
trim_undamaged (Err (of_rewrite.LogFull used need limit)) is = tt
trim_undamaged (Err (of_rewrite.Exhausted epoch)) is = tt
trim_undamaged (Err of_rewrite.DiskFault) is = λ damage. damage
trim_undamaged (Err (of_rewrite.Damaged file place)) is = λ damage. is
trim_undamaged (Err of_rewrite.Memory) is = λ damage. damage

turn_undamaged : {T : Type 0} (r : Result T InstallErr) → IfErr (outcome_of_turn r) (λ e. TellsDamage e → ⊥)
turn_undamaged (Ok value) = tt
turn_undamaged (Err (of_install.LogFull used need limit)) = tt
turn_undamaged (Err (of_install.LsnEnd lsn)) = tt
turn_undamaged (Err of_install.DiskFault) = λ damage. damage
turn_undamaged (Err of_install.Memory) = λ damage. damage

module _ {O : Type 0} (meaning : Bounds → Meaning O) (old new : Disk) (before after : StoreView) (it : Result TaskOutcome ReadErr) where
  -- a trim of this answer
  module _ {T : Type 0} (r : Result T RewriteErr) (is : it ≡ outcome_of_trim r) where
    trim_ends : ending_on (ending_of_rewrite r) ≡ ending_of_read it
    trim_ends = trim_on r ∙ ap (λ (x : Result TaskOutcome ReadErr). ending_of_read x) (sym is)

    pub trimmed_call : (stops : RecordLogView → Stop → Type 0) → next_of after ≡ next_of before → IsCall meaning old new before after 0 stops (ending_of_rewrite r)
        → IsCall meaning old new before after (logged_since before after) Never (ending_of_read it)
    trimmed_call stops same call = logging_none meaning old new before after Never (ending_of_read it) same
        (subst (λ (e : Ending). IsCall meaning old new before after 0 Never e) trim_ends (call_on meaning old new before after 0 stops (ending_of_rewrite r) call))

    pub trimmed_takes : (most epoch : ℕ) → Takes meaning old new before.parts after.parts (λ m w used. trim_within m most epoch w used) (ending_of_rewrite r)
        → Takes meaning old new before.parts after.parts (λ m w used. unstopped (trim_within m most epoch w used)) (ending_of_read it)
    trimmed_takes most epoch takes =
        subst (λ (e : Ending). Takes meaning old new before.parts after.parts (λ m w used. unstopped (trim_within m most epoch w used)) e) trim_ends
        (takes_on meaning old new before.parts after.parts (λ m w used. trim_within m most epoch w used) (ending_of_rewrite r) takes)

    pub trimmed_told : (m : Meaning O) (p : Params) (w : World O) (c : Course O) → Follows m p new after.parts w c (ending_of_rewrite r) → IfOk it (λ it. it ≡ outcome_of_stop c.stop)
    trimmed_told m p w c follows = subst (λ (x : Result TaskOutcome ReadErr). IfOk x (λ it. it ≡ outcome_of_stop c.stop)) (sym is) (trim_tells m p new after.parts w c r follows)

    pub trimmed_undamaged : IfErr r (DamagedBy (λ file place. ⊥)) → IfErr it (λ e. TellsDamage e → ⊥)
    trimmed_undamaged none = subst (λ (x : Result TaskOutcome ReadErr). IfErr x (λ e. TellsDamage e → ⊥)) (sym is) (trim_undamaged r none)

  -- a turn of this answer
  module _ {T : Type 0} (r : Result T InstallErr) (is : it ≡ outcome_of_turn r) where
    turn_ends : ending_on (ending_of r) ≡ ending_of_read it
    turn_ends = turn_on r ∙ ap (λ (x : Result TaskOutcome ReadErr). ending_of_read x) (sym is)

    pub turned_call : (n : ℕ) (stops : RecordLogView → Stop → Type 0) → IsCall meaning old new before after n stops (ending_of r) → IsCall meaning old new before after n Never (ending_of_read it)
    turned_call n stops call = subst (λ (e : Ending). IsCall meaning old new before after n Never e) turn_ends (call_on meaning old new before after n stops (ending_of r) call)

    pub turned_takes : (copied most : ℕ) → Takes meaning old new before.parts after.parts (λ m w used. turn_course m copied most w used) (ending_of r)
        → Takes meaning old new before.parts after.parts (λ m w used. unstopped (turn_course m copied most w used)) (ending_of_read it)
    turned_takes copied most takes =
        subst (λ (e : Ending). Takes meaning old new before.parts after.parts (λ m w used. unstopped (turn_course m copied most w used)) e) turn_ends
        (takes_on meaning old new before.parts after.parts (λ m w used. turn_course m copied most w used) (ending_of r) takes)

    pub turned_told : (m : Meaning O) (p : Params) (w : World O) (c : Course O) → Follows m p new after.parts w c (ending_of r) → IfOk it (λ it. it ≡ outcome_of_stop c.stop)
    turned_told m p w c follows = subst (λ (x : Result TaskOutcome ReadErr). IfOk x (λ it. it ≡ outcome_of_stop c.stop)) (sym is) (turn_tells m p new after.parts w c r follows)

    pub turned_undamaged : IfErr it (λ e. TellsDamage e → ⊥)
    turned_undamaged = subst (λ (x : Result TaskOutcome ReadErr). IfErr x (λ e. TellsDamage e → ⊥)) (sym is) (turn_undamaged r)

-- ---- first the one, and then the other

read_cuts : (e : ReadErr) → IsCut (ending_of_read {T = Unit {0}} (Err e))
read_cuts of_read.DiskFault = tt
read_cuts (of_read.Damaged file place) = tt
read_cuts of_read.Memory = tt

module _ {O : Type 0} (meaning : Bounds → Meaning O) (due : Due) (epoch copied : ℕ) (old mid : Disk) (before here : StoreView) where
  -- the trim fails
  pub trim_fails : (e : ReadErr) → Takes meaning old mid before.parts here.parts (λ m w used. unstopped (trim_due m due.trim epoch w used)) (ending_of_read {T = Unit {0}} (Err e))
      → Takes meaning old mid before.parts here.parts (λ m w used. upkeep_course m due epoch copied w used) (ending_of_read {T = Unit {0}} (Err e))
  trim_fails e takes =
      takes_first meaning (λ m w used. unstopped (trim_due m due.trim epoch w used)) (λ m w used. unstopped (turn_due m due.turn copied w used)) old mid before.parts here.parts (ending_of_read {T = Unit {0}} (Err e)) (read_cuts e) takes

  -- it is done, or stopped
  module _ (new : Disk) (after : StoreView) (first : Takes meaning old mid before.parts here.parts (λ m w used. unstopped (trim_due m due.trim epoch w used)) Done) where
    pub turn_follows : (ending : Ending) → IsQuiet old mid → Takes meaning mid new here.parts after.parts (λ m w used. unstopped (turn_due m due.turn copied w used)) ending
        → Takes meaning old new before.parts after.parts (λ m w used. upkeep_course m due epoch copied w used) ending
    turn_follows ending quiet second =
        takes_both meaning (λ m w used. unstopped (trim_due m due.trim epoch w used)) (λ m w used. unstopped (turn_due m due.turn copied w used)) old mid new before.parts here.parts after.parts ending quiet first second

    pub both_told : (trim turn : TaskOutcome) → ((p : Params) (w : World O) → Shows (meaning_in meaning p) p old before.parts w → trim ≡ outcome_of due.trim (trim_due (meaning_in meaning p) due.trim epoch w (log_length before)).stop)
        → ((p : Params) (w : World O) → Shows (meaning_in meaning p) p mid here.parts w → turn ≡ outcome_of due.turn (turn_due (meaning_in meaning p) due.turn copied w (log_length here)).stop)
        → (p : Params) (w : World O) → Shows (meaning_in meaning p) p old before.parts w → TellsUpkeep (meaning_in meaning p) due epoch copied w (log_length before) (record { trim = trim; turn = turn })
    both_told trim turn trims turns p w shows =
        let m = meaning_in meaning p in
        let one = (first.follows p w shows).1 in
        let v = run m w (trim_due m due.trim epoch w (log_length before)).steps in
        record {
          trim = trims p w shows;
          turn = subst (λ (k : ℕ). turn ≡ outcome_of due.turn (turn_due m due.turn copied v k).stop) one.used (turns p v one.shows);
        }
