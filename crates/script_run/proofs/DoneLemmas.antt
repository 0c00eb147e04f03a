-- What a line asks for is done, and what the images of the moment then say.
use Rattle.std.proofs.Common.{◌≡◌, ◌∙◌, ap, sym, subst, refl, ◌⊎◌, inl, inr, ⊎_elim, ◌≤◌, ◌<◌, ◌+◌, ◌^◌, ◌++◌, ℕ, Bool, List, [], ◌∷◌, length, length-append, take, drop, arith, Result, Ok, Err, IfOk, Option, Some, None, true, false}
use Rattle.std.specs.Result.{IsErrOf}
use Rattle.std.specs.Option.{is_some}
use Rattle.std.specs.Prelude.{⊤, IsTrue, nat_lt, nat_le}
use Rattle.std.proofs.lemmas.Bool.{cond_both, false_from_ne_true}
use Rattle.std.proofs.lemmas.List.{append-nil, length-take-le}
use Rattle.std.proofs.Math.Path.{fun_ext}
use Rattle.disk_model.specs.Disk.{Files, Disk, IsDisk, LeavesOnly}
use Rattle.disk_model.specs.declared.machine.FileNo.{FileNo}
use Rattle.oper_core.specs.Meaning.{Meaning, refusal_of, state_after}
use Rattle.oper_core.specs.State.{State}
use Rattle.oper_core.specs.declared.refusal.Refusal.{Refusal}
use Rattle.formats.specs.Limits.{log_limit}
use Rattle.formats.specs.Image.{EndsAt, NextIs}
use Rattle.formats.specs.declared.params.Params.{Params}
use Rattle.log_records.specs.RecordLog.{RecordLogView}
use Rattle.op_codec.specs.AllOps.{all_meaning}
use Rattle.explain_core.specs.History.{commands_of}
use Rattle.explain_core.specs.History.Member.{Command as Logged_command}
use Rattle.explain_core.specs.Sound.{IsSound}
use Rattle.explain_core.specs.StableLaws.{commands_of-append}
use Rattle.explain_core.specs.World.{World, Step, step, run, end_of, IsLive}
use Rattle.explain_core.specs.World.Step.{Append, Block_gate}
use Rattle.standing.specs.Moments.{TakesSome}
use Rattle.running_store.specs.Calls.{IsFailed}
use Rattle.running_store.specs.Steps.Appended.{next_lsn}
use Rattle.running_store.specs.Courses.{Course, Stop, course, grown, waits, force_steps, force_course}
use Rattle.cache_manager.specs.InstallCourses.{logged_in}
use Rattle.running_store.specs.Courses.Stop.{Through, Full, At_end, Worn}
use Rattle.running_store.specs.Kept.{StopsAt}
use Rattle.running_store.specs.Running.{AreUpkeep, run_upkept}
use Rattle.running_store.specs.Taking.{Ending}
use Rattle.running_store.specs.Taking.Ending.{Done, Stopped, Short, Failed}
use Rattle.running_store.specs.Calls.Commands.{command_length}
use Rattle.cache_manager.specs.Upkeep.{upkeep_force}
use Rattle.execution.specs.Answers as of_world
use Rattle.execution.specs.Answers.{ending_of_exec}
use Rattle.execution.specs.Courses.{append_course, exec_course, needed, refusal_in, unless_refused, unplaced_steps}
use Rattle.execution.specs.Stops.{StopsCommand, StopsWithin}
use Rattle.execution.specs.declared.exec_err.ExecErr.{ExecErr}
use Rattle.execution.specs.declared.exec_err.ExecErr.TheVariants.{Refused, LogFull, LsnEnd, DiskFault, Damaged}
use Rattle.execution.specs.Failures.{IsExecFailure}
use Rattle.script_lines.specs.Grammar.{Request, AsksFor}
use Rattle.script_lines.specs.declared.line.Line.TheVariants.{Force as force, Group, Keep, Save}
use Rattle.script_lines.specs.declared.line.Upkeep.{Upkeep}
use Rattle.script_lines.specs.declared.line.Upkeep.TheVariants.{Trim as trim}
use Rattle.script_lines.specs.declared.line.Grouping.TheVariants.{Abort as abort_group}
use Rattle.script_lines.specs.declared.line.Saving.TheVariants.{Start as bstart}
use Rattle.script_lines.specs.Replies.{Reply, ok, ran, value, pairs, forced, bad, refused, bad_tree, tree_full, denied, in_group, no_group, full, end, object_value, command_count, stat, copied, saved, backup_denied, summary, absent, counted, silence, reply_of}
use Rattle.script_lines.specs.declared.answer.Answer.{Answer}
use Rattle.script_lines.specs.declared.answer.Answer.TheVariants as answers
use Rattle.script_lines.specs.declared.backup_denial.BackupDenial.TheVariants.{InBackup}
use Rattle.store_engine.specs.Calls.{IsForcing}
use Rattle.store_engine.specs.Engine.{EngineView, FollowsIn, InEachImage, IsAfterIn, IsOutcome, KeepsCommands, SaysStop, SaysStopWithin, EpochIs, accepted_in, params_of, used_in, forced_in, group_bytes, group_size, logged_since, needed_in}
use Rattle.store_engine.specs.FailureLaws.{still_none_damaged}
use Rattle.store_engine.specs.Grouping.{ungrouped}
use Rattle.store_engine.specs.Engine as of_engine
use Rattle.shell_base.specs.Store.{IsAttached, IsEngineCall, Command, meaning_in, record_length, refusal_after, HasCause, Stands, ShowsIn, Says, Holds, Between}
use Rattle.shell_base.specs.First.{Stage, stage_of}
use Rattle.shell_base.specs.declared.stop.Stop.{Stop as Early}
use Rattle.shell_base.specs.HoldLaws.{in_engine}
use Rattle.script_run.specs.Groups.{Becomes, Regroups, begun_after, open_in, size_of, waiting}
use Rattle.script_run.specs.Found.{EndsAtLast, EndsForced, IsStopped, IsOfEngine, IsDone, IsAnswerOf, MayStop, IsUpkept}
use Rattle.script_run.specs.Replies.{AsksCommand, Replies, IsDenied, IsGranted, IsLast, IsTrueIn}
use Rattle.script_run.specs.Made.{Made, made, AsksMade, AsksBehind}
use Rattle.script_run.specs.Run.{IsAnswerFound}
use Rattle.script_run.specs.Courses.{IsCourseDue, Works}
use Rattle.script_run.specs.Stages.{IsBesideBackup, Ends, GoesBy, stage_after, upkeep_course}
use Rattle.script_run.proofs.GroupLemmas.{none_open}
use Rattle.script_run.proofs.MomentLemmas.{works_by}
use Rattle.script_run.specs.StoryLaws.{grows_to}
use Rattle.script_run.proofs.OpenGroups.{Grows, open_size, same_open, waiting_are}
use Rattle.script_run.proofs.RunLemmas.{leads_on, run_nothing}
use Rattle.script_run.proofs.MadeLemmas.{made_alike, made_unless, made_ends, number_ends, worn_ends, is_numbered, worn_numbered, one_course}
use Rattle.script_run.proofs.CourseLemmas.{may_stop, are_upkeep, logged_command, logged_force}

-- what follows from what is true of each image is true of each
map_each : (d : Disk) (P Q : Files → Type 0) → ((f : Files) → P f → Q f) → InEachImage d P → InEachImage d Q
map_each d P Q so here = (so d.reads here.0, λ told f s left. so f (here.1 told f s left))

-- what an image says of a stop, while these commands of an open group wait
abbrev pub IsSaid : Params → List Command → Files → Stop → Type 0
IsSaid p ops files Through = ⊤
IsSaid p ops files (Full used need limit) = (place : ℕ) × EndsAt files place × (used ≡ place + group_bytes all_meaning p ops)
IsSaid p ops files (At_end number) = (next : ℕ) × NextIs (meaning_in p) files next × (number ≡ next + length ops)
IsSaid p ops files (Worn number) = (epoch : ℕ) × EpochIs files epoch × (number ≡ epoch + length ops)

-- why a call was stopped is what each image says
abbrev pub SaysStops : Params → Disk → EngineView → List Command → Type 0
SaysStops p d engine ops = (stop : Stop) → IsStopped engine stop → InEachImage d (λ f. IsSaid p ops f stop)

-- what the engine says of stops
abbrev pub SaysAlone : Disk → EngineView → Type 0
SaysAlone d engine = (p : Params) (w : World Command) (most : ℕ) (stop : Stop) → ShowsIn p d engine w → StopsAt most engine.parts.log stop → InEachImage d (λ f. SaysStop all_meaning p f stop)

abbrev pub SaysWithin : Disk → EngineView → Type 0
SaysWithin d engine = (p : Params) (w : World Command) (most : ℕ) (stop : Stop) → ShowsIn p d engine w → IsTrue (is_some w.group) → StopsWithin most engine.parts.log stop
    → InEachImage d (λ f. SaysStopWithin all_meaning p (commands_of (drop w.forced w.history)) f stop)

-- where nothing waits the files say the number itself
none_waits : (p : Params) (files : Files) (stop : Stop) → SaysStop all_meaning p files stop → IsSaid p [] files stop
none_waits p files Through is = tt
none_waits p files (Full used need limit) is = (used, is, omega arith)
none_waits p files (At_end number) is = (number, is, omega arith)
none_waits p files (Worn number) is = (number, is, omega arith)

some_wait : (p : Params) (most : ℕ) (log : RecordLogView) (ops : List Command) (files : Files) (stop : Stop) → StopsWithin most log stop → SaysStopWithin all_meaning p ops files stop → IsSaid p ops files stop
some_wait p most log ops files Through at is = tt
some_wait p most log ops files (Full used need limit) at is = is
some_wait p most log ops files (At_end number) at is = is
some_wait p most log ops files (Worn number) at is = absurd at

-- so a stop is said, with what waits of the open group
pub stops_said : {p : Params} {d : Disk} {engine : EngineView} {w : World Command} {commands : List Command} → SaysAlone d engine → SaysWithin d engine → ShowsIn p d engine w → commands_of w.history ≡ commands
    → SaysStops p d engine (waiting (open_in w) commands)
stops_said {p} {d} {engine} {w} {commands} alone within shows are stop is =
    subst (λ (l : List Command). InEachImage d (λ f. IsSaid p (waiting (open_in w) l) f stop)) are (by_group w.group refl (subst (λ (o : Option ℕ). StopsCommand (is_some o) is.0 engine.parts.log stop) (sym shows.group) is.1))
  where
    by_group : (group : Option ℕ) → w.group ≡ group → StopsCommand (is_some group) is.0 engine.parts.log stop → InEachImage d (λ f. IsSaid p (waiting (begun_after w w.group) (commands_of w.history)) f stop)
    by_group None none at =
        subst (λ (o : Option ℕ). InEachImage d (λ f. IsSaid p (waiting (begun_after w o) (commands_of w.history)) f stop)) (sym none)
        (map_each d (λ f. SaysStop all_meaning p f stop) (λ f. IsSaid p [] f stop) (λ f here. none_waits p f stop here) (alone p w is.0 stop shows at))
    by_group (Some begun) some at =
        let inside : IsTrue (is_some w.group) = ap (λ (o : Option ℕ). is_some o) some in
        let ops = commands_of (drop w.forced w.history) in
        subst (λ (l : List Command). InEachImage d (λ f. IsSaid p l f stop)) (sym (waiting_are shows.sound w.group refl inside))
        (map_each d (λ f. SaysStopWithin all_meaning p ops f stop) (λ f. IsSaid p ops f stop) (λ f here. some_wait p is.0 engine.parts.log ops f stop at here) (within p w is.0 stop shows inside at))

-- where a log was forced, an engine that has been stopped for lack of room ends so
as_stopped : {engine : EngineView} {used : ℕ} → EndsForced engine used → IsStopped engine (Full used 1 0)
as_stopped {engine} {used} ends = (0, subst (λ (o : Option ℕ). StopsCommand (is_some o) 0 engine.parts.log (Full used 1 0)) (sym ends.alone) (ends.used_is, ends.none_waits, omega arith, refl))

-- what an answer to a line says of the engine is true of each image
tied_by : {p : Params} {d : Disk} {engine : EngineView} {commands : List Command} (ops : List Command) (line : List ℕ) (reply : Reply) → IsOfEngine engine line reply → Says p d engine commands → SaysStops p d engine ops → InEachImage d (λ f. IsTrueIn p f ops line reply)
tied_by ops line ok is says stops = (tt, λ told f s left. tt)
tied_by ops line (ran k) is says stops = (tt, λ told f s left. tt)
tied_by ops line (value bytes) is says stops = (tt, λ told f s left. tt)
tied_by ops line (pairs pair others) is says stops = (tt, λ told f s left. tt)
tied_by ops line (forced n) is says stops = (tt, λ told f s left. tt)
tied_by ops line bad is says stops = (tt, λ told f s left. tt)
tied_by ops line (refused why) is says stops = (tt, λ told f s left. tt)
tied_by ops line bad_tree is says stops = (tt, λ told f s left. tt)
tied_by ops line tree_full is says stops = (tt, λ told f s left. tt)
tied_by ops line (denied why) is says stops = (tt, λ told f s left. tt)
tied_by ops line in_group is says stops = (tt, λ told f s left. tt)
tied_by ops line no_group is says stops = (tt, λ told f s left. tt)
tied_by ops line (full used need limit) is says stops = ⊎_elim (λ stopped. stops (Full used need limit) stopped) (λ ends. stops (Full used 1 0) (as_stopped ends)) is
tied_by ops line (copied now) is says stops = (tt, λ told f s left. tt)
tied_by ops line (saved n) is says stops = (tt, λ told f s left. tt)
tied_by ops line (backup_denied why) is says stops = (tt, λ told f s left. tt)
tied_by {p} {d} {engine} ops line (end number) is says stops = end_tied is.0 is.1 is.2
  where
    of_number : (request : Request) → AsksFor line request → ((f : Files) (next : ℕ) → NextIs (meaning_in p) f next → IsLast p f request next) → IsStopped engine (At_end number) → InEachImage d (λ f. IsTrueIn p f ops line (end number))
    of_number request asks so last =
        map_each d (λ f. IsSaid p ops f (At_end number)) (λ f. IsTrueIn p f ops line (end number)) (λ f here. (request, asks, (here.0, so f here.0 here.1, here.2))) (stops (At_end number) last)

    end_tied : (request : Request) → AsksFor line request → EndsAtLast engine request number → InEachImage d (λ f. IsTrueIn p f ops line (end number))
    end_tied (Keep trim) asks worn = map_each d (λ f. IsSaid p ops f (Worn number)) (λ f. IsTrueIn p f ops line (end number)) (λ f here. (Keep trim, asks, here)) (stops (Worn number) worn)
    end_tied request asks last = of_number request asks (λ f next here. here) last
tied_by {p} {d} {engine} {commands} ops line (stat counts) is says stops =
    map_each d (λ f. Stands p f (take (forced_in engine) commands)) (λ f. IsTrueIn p f ops line (stat counts))
    (λ f here. (take (forced_in engine) commands, here, length-take-le (forced_in engine) commands says.forced ∙ sym is)) says.images
tied_by ops line (object_value object bytes) is says stops = (tt, λ told f s left. tt)
tied_by ops line (command_count n) is says stops = (tt, λ told f s left. tt)
tied_by ops line (summary totals) is says stops = (tt, λ told f s left. tt)
tied_by ops line absent is says stops = (tt, λ told f s left. tt)
tied_by ops line (counted n) is says stops = (tt, λ told f s left. tt)
tied_by ops line silence is says stops = (tt, λ told f s left. tt)

-- an answer that is stopped leaves the group as it was, and no other says anything of what waits
pub tied_before : {p : Params} {d : Disk} {engine : EngineView} {all : List Command} (commands added : List Command) (before after : Option ℕ) (line : List ℕ) (reply : Reply) → Becomes line reply before commands added all → Regroups line reply commands before after
    → IsOfEngine engine line reply → Says p d engine all → SaysStops p d engine (waiting after all) → InEachImage d (λ f. IsTrueIn p f (waiting before (commands ++ added)) line reply)
tied_before commands added before after line ok becomes same is says stops = (tt, λ told f s left. tt)
tied_before {p} {d} {all = all} commands added before after line reply becomes same is says stops =
    subst (λ (l : List Command). InEachImage d (λ f. IsTrueIn p f (waiting before l) line reply)) becomes
    (subst (λ (group : Option ℕ). InEachImage d (λ f. IsTrueIn p f (waiting group all) line reply)) same (tied_by (waiting after all) line reply is says stops))

-- no fewer commands are forced after a call on an engine that stood for these: as many, or, where no group was open, at least
-- these
pub record HasRisen (before after : EngineView) (commands : List Command) : Type 0 where
  pub rising : forced_in before ≤ forced_in after
  pub which : (forced_in after ≡ forced_in before) ⊎ ((before.group ≡ None) × (length commands ≤ forced_in after))

pub risen : {p : Params} {old now : Disk} {before after : EngineView} {commands others : List Command} → Holds p old before commands → of_engine.Kept all_meaning p before now after others → HasRisen before after commands
risen {commands = commands} holds kept = record {
  rising = kept.rising;
  which = ⊎_elim (λ same. inl same) (λ all. inr (all.0, omega (arith, all.1, holds.says.accepted))) kept.which;
}

-- the images of a call, as the engine says it
pub images_of : {p : Params} {old now : Disk} {before : EngineView} {commands others : List Command} → Holds p old before commands
    → LeavesOnly old now (of_engine.Between all_meaning p old before.group (forced_in before) (accepted_in before) others) → LeavesOnly old now (Between p old before.group (forced_in before) (length commands) others)
images_of {p} {old} {now} {before} {commands} {others} holds images =
    subst (λ (n : ℕ). LeavesOnly old now (Between p old before.group (forced_in before) n others)) holds.says.accepted images

-- as the engine holds it
abbrev pub done_holds : {p : Params} {old now : Disk} {before after : EngineView} {w : World Command} {commands : List Command} {line : List ℕ} {reply : Reply}
    → (d : IsDone p old now before after w commands line reply) → of_engine.Holds all_meaning p now after (commands_of d.world.history)
done_holds d = record { world = d.world; shows = d.shows; commands_are = refl }

-- the answer is found
abbrev pub found_of : {p : Params} {old now : Disk} {before after : EngineView} {commands : List Command} {line : List ℕ} {reply : Reply} → (holds : Holds p old before commands)
    → (d : IsDone p old now before after holds.world commands line reply) → Says p now after (commands_of d.world.history) → SaysAlone now after → SaysWithin now after → IsAnswerFound p old now before after holds.world commands line reply
found_of {p} {old} {now} {before} {after} {commands} {line} {reply} holds d says alone within = record {
  added = d.added;
  replies = d.replies;
  quiet = d.quiet;
  all = commands_of d.world.history;
  becomes = d.becomes;
  kept = record {
    holds = record { world = d.world; shows = d.shows; commands_are = refl; says = says };
    rising = d.rising;
    which = ⊎_elim (λ same. inl same) (λ all. inr (all.0, omega (arith, all.1, holds.says.accepted))) d.which;
  };
  regroups = d.regroups;
  tied = tied_before commands d.added (open_in holds.world) (open_in d.world) line reply d.becomes d.regroups d.is_of says (stops_said alone within d.shows refl);
  leads = leads_on commands d.added reply holds.commands_are d.becomes d.replies d.goes;
  acked = λ n is. let here : IsOfEngine after line (forced n) = subst (λ (r : Reply). IsOfEngine after line r) is d.is_of in omega (arith, here);
}

-- a course leads from stage to stage
pub stage_on : (p : Params) (before after : EngineView) (w : World Command) (c : Course Command) → used_in after ≡ c.used
    → after.identities ≡ before.identities + length (logged_in c.steps) → after.copied ≡ before.copied → stage_of after (run (meaning_in p) w c.steps) ≡ stage_after p (stage_of before w) c
stage_on p before after w c used logged same = λ i. record { world = run (meaning_in p) w c.steps; used = used i; identities = logged i; copied = same i }

-- in a sound live world the cache is the state after its commands
abbrev pub IsLiveMap : Meaning Command → Type 0
IsLiveMap m = (w : World Command) (x : ℕ) → IsSound m w → IsLive w → (w.cache x).value ≡ state_after m (commands_of w.history) x

-- What a call on an engine says of a command.
pub record IsExec (p : Params) (old now : Disk) (before after : EngineView) (w : World Command) (commands : List Command) (op : Command) (result : Result ℕ ExecErr) : Type 0 where
  pub call : IsEngineCall (params_of before).limit old now before after 0 (ending_of_exec result)
  pub follows : FollowsIn all_meaning p now after w (exec_course (meaning_in p) (is_some w.group) (params_of before).limit op w (used_in before)) (ending_of_exec result)
  pub answers : of_world.HasCauseIn (is_some w.group) (meaning_in p) p.limit w (used_in before) op result
  pub exactly : HasCause (group_size before) p commands op result
  pub risen : IsErrOf result DiskFault ⊎ HasRisen before after commands

module _ (m : Meaning Command) (op : Command) (w : World Command) (limit used : ℕ) where
  abbrev one : Course Command
  one = append_course m (is_some w.group) limit op w used

  -- what is done without a place
  abbrev without : List (Step Command)
  without = unplaced_steps m (is_some w.group) w

  -- it is that, where the log has no room or no number is left, or the append
  by_placed : (P : Course Command → Type 0) → ((need : ℕ) → P (course without used (Full used need limit))) → ((number : ℕ) → P (course without used (At_end number)))
      → ((longer : ℕ) → P (course (Append (Logged_command op) ∷ []) longer Through)) → P one
  by_placed P long last fits =
      cond_both (nat_lt limit (grown m w used (command_length m op))) _ _ P (λ over. long (needed m (is_some w.group) w (command_length m op)))
      (λ not_over. cond_both (nat_le (2 ^ 62) (end_of w)) _ _ P (λ none. last (end_of w)) (λ low. fits (grown m w used (command_length m op))))

  -- the command is after all others
  appended : commands_of (run m w (Append (Logged_command op) ∷ [])).history ≡ commands_of w.history ++ op ∷ []
  unfolding step run
  appended = commands_of-append w.history (Logged_command op ∷ [])

  -- a command's record that has its place is appended
  goes_through : one.stop ≡ Through → commands_of (run m w one.steps).history ≡ commands_of w.history ++ op ∷ []
  goes_through = by_placed (λ (c : Course Command). c.stop ≡ Through → commands_of (run m w c.steps).history ≡ commands_of w.history ++ op ∷ []) (λ need e. cc e) (λ number e. cc e) (λ longer e. appended)

  -- one that has none adds nothing
  unplaced_same : (group : Option ℕ) → w.group ≡ group → IsLive w → commands_of (run m w (unplaced_steps m (is_some group) w)).history ≡ commands_of w.history
  unfolding run
  unplaced_same (Some begun) inside live = refl
  unplaced_same None none live = (run_upkept m w (force_steps m w) (upkeep_force m w) live none).commands

  stays_out : IsLive w → (one.stop ≡ Through → ⊥) → commands_of (run m w one.steps).history ≡ commands_of w.history
  stays_out live =
      let P : Course Command → Type 0 = λ c. (c.stop ≡ Through → ⊥) → commands_of (run m w c.steps).history ≡ commands_of w.history in
      by_placed P (λ need no. unplaced_same w.group refl live) (λ number no. unplaced_same w.group refl live) (λ longer no. absurd (no refl))

  -- the members that were there stay in front
  grows_none : Grows w (run m w [])
  unfolding run
  grows_none = record { more = []; history = sym (append-nil w.history) }

  grows_gate : Grows w (run m w (Block_gate ∷ []))
  unfolding step run
  grows_gate = record { more = []; history = sym (append-nil w.history) }

  grows_append : Grows w (run m w (Append (Logged_command op) ∷ []))
  unfolding step run
  grows_append = record { more = Logged_command op ∷ []; history = refl }

  grows_without : (grouped : Bool) → Grows w (run m w (unplaced_steps m grouped w))
  grows_without true = grows_none
  grows_without false = cond_both (waits m w) (Block_gate ∷ []) [] (λ (l : List (Step Command)). Grows w (run m w l)) (λ some. grows_gate) (λ none. grows_none)

  grows : Grows w (run m w one.steps)
  grows = by_placed (λ (c : Course Command). Grows w (run m w c.steps)) (λ need. grows_without (is_some w.group)) (λ number. grows_without (is_some w.group)) (λ longer. grows_append)

-- a command that nothing refuses takes the course of its record
accepted_course : (p : Params) (engine : EngineView) (w : World Command) (op : Command) → params_of engine ≡ p → refusal_in (meaning_in p) w op ≡ None
    → exec_course (meaning_in p) (is_some w.group) (params_of engine).limit op w (used_in engine) ≡ append_course (meaning_in p) (is_some w.group) p.limit op w (used_in engine)
accepted_course p engine w op params none =
    ap (λ (q : Params). exec_course (meaning_in p) (is_some w.group) q.limit op w (used_in engine)) params
    ∙ ap (λ r. unless_refused (used_in engine) (append_course (meaning_in p) (is_some w.group) p.limit op w (used_in engine)) r) none

refused_course : (p : Params) (engine : EngineView) (w : World Command) (op : Command) (why : Refusal) → params_of engine ≡ p → refusal_in (meaning_in p) w op ≡ Some why
    → exec_course (meaning_in p) (is_some w.group) (params_of engine).limit op w (used_in engine) ≡ course [] (used_in engine) Through
refused_course p engine w op why params some =
    ap (λ (q : Params). exec_course (meaning_in p) (is_some w.group) q.limit op w (used_in engine)) params
    ∙ ap (λ r. unless_refused (used_in engine) (append_course (meaning_in p) (is_some w.group) p.limit op w (used_in engine)) r) some

-- what the log's numbers are where a command is stopped, within a group or outside
pub over_limit : (grouped : Bool) (most : ℕ) (log : RecordLogView) (used need limit : ℕ) → StopsCommand grouped most log (Full used need limit) → limit < used + need
over_limit true most log used need limit stops = stops.1
over_limit false most log used need limit stops = stops.2

pub last_number : (grouped : Bool) (most : ℕ) (log : RecordLogView) (number : ℕ) → StopsCommand grouped most log (At_end number) → number ≡ 2 ^ 62
last_number true most log number stops = stops.1
last_number false most log number stops = stops.2

last_epoch_is : (grouped : Bool) (most : ℕ) (log : RecordLogView) (epoch : ℕ) → StopsCommand grouped most log (Worn epoch) → epoch ≡ 2 ^ 62
last_epoch_is true most log epoch stops = absurd stops
last_epoch_is false most log epoch stops = stops.1

-- the engine is left so
pub left_stopped : {old now : Disk} {before after : EngineView} {most n : ℕ} (stop : Stop) → IsEngineCall most old now before after n (Stopped stop) → IsStopped after stop
left_stopped {before = before} {after = after} {most = most} stop call =
    (most, subst (λ (o : Option ℕ). StopsCommand (is_some o) most after.parts.log stop) (sym call.group) (call.stopped stop refl))

-- what a line asks for after the commands of a world that is shown
pub asks_in : {p : Params} {d : Disk} {engine : EngineView} {commands : List Command} {line : List ℕ} {it : Made} → (holds : Holds p d engine commands) → AsksMade p commands line it → AsksMade p (commands_of holds.world.history) line it
asks_in {p} {line = line} {it = it} holds asks = subst (λ (l : List Command). AsksMade p l line it) (sym holds.commands_are) asks

module _ (p : Params) (old now : Disk) (before after : EngineView) (commands : List Command) (line : List ℕ) (op : Command) (holds : Holds p old before commands) (asks : AsksCommand line op) where
  abbrev w : World Command
  w = holds.world

  abbrev m : Meaning Command
  m = meaning_in p

  abbrev its : Course Command
  its = append_course m (is_some w.group) p.limit op w (used_in before)

  params : params_of before ≡ p
  params = holds.shows.shows.store.params

  -- it logs no identity write
  none_logged : after.identities ≡ before.identities + 0 → after.identities ≡ before.identities + length (logged_in its.steps)
  none_logged same = same ∙ ap (λ (l : List ℕ). before.identities + length l) (sym (logged_command m (is_some w.group) p.limit op w (used_in before)))

  -- what the line asks for
  asked : refusal_after p commands op ≡ None → AsksMade p commands line (made (op ∷ []) ok)
  asked none = made_unless p commands line op None none asks

  -- so it ends
  ends_so : {most : ℕ} {ending : Ending} (stop : Stop) → refusal_after p commands op ≡ None → its.stop ≡ stop → IsAfterIn all_meaning p now after w its → IsEngineCall most old now before after 0 ending
      → Ends p (stage_of before w) line stop (stage_of after (run m w its.steps))
  ends_so stop none is there call =
      (its, inl (made (op ∷ []) ok, asks_in holds (asked none), sym (one_course m p.limit op w (used_in before))), is, stage_on p before after w its there.used (none_logged call.identities) call.copied)

  -- nothing is after it
  last_one : refusal_after p commands op ≡ None → AsksBehind p commands line [] op
  last_one none = record { it = made (op ∷ []) ok; asks = asked none; rest = []; next = refl }

  -- the same group is open
  still_open : {most n : ℕ} {ending : Ending} → IsEngineCall most old now before after n ending → IsAfterIn all_meaning p now after w its → open_in (run m w its.steps) ≡ open_in w
  still_open call there = same_open w (run m w its.steps) holds.shows.sound (there.shows.group ∙ call.group ∙ sym holds.shows.group) (grows m op w p.limit (used_in before))

  pub exec_done : (n : ℕ) → IsExec p old now before after w commands op (Ok n) → IsDone p old now before after w commands line ok
  exec_done n e =
      let same = accepted_course p before w op params e.answers.0 in
      let there = subst (λ (c : Course Command). (c.stop ≡ Through) × IsAfterIn all_meaning p now after w c) same e.follows in
      let its_request = asked e.exactly.0 in
      let regroups : Regroups line ok commands (open_in w) (open_in (run m w its.steps)) = (its_request.request, its_request.asks, still_open e.call there.1 ∙ sym (made_alike p commands commands (made (op ∷ []) ok) (open_in w) its_request.request its_request.makes)) in
      let risen = ⊎_elim (λ none. cc none) (λ (r : HasRisen before after commands). r) e.risen in
      record {
        added = op ∷ [];
        replies = inl (asked e.exactly.0, omega (arith, e.exactly.1, length-append commands (op ∷ [])));
        quiet = e.call.quiet holds.shows.shows.told;
        world = run m w its.steps;
        shows = there.1.shows;
        becomes = grows_to line ok commands (op ∷ []) (open_in w) (open_in (run m w its.steps)) regroups (still_open e.call there.1) (goes_through m op w p.limit (used_in before) there.0 ∙ ap (λ (l : List Command). l ++ op ∷ []) holds.commands_are);
        regroups = regroups;
        rising = risen.rising;
        which = risen.which;
        goes = inl (ends_so Through e.exactly.0 there.0 there.1 e.call);
        is_of = tt;
      }

  pub exec_refused : (why : Refusal) → IsExec p old now before after w commands op (Err (Refused why)) → IsDone p old now before after w commands line (refused why)
  exec_refused why e =
      let same = refused_course p before w op why params e.answers in
      let there = subst (λ (c : Course Command). (c.stop ≡ Through) × IsAfterIn all_meaning p now after w c) same e.follows in
      let here : run m w [] ≡ w = run_nothing m w in
      let refused_one = made_unless p commands line op (Some why) e.exactly asks in
      let risen = ⊎_elim (λ none. cc none) (λ (r : HasRisen before after commands). r) e.risen in
      record {
        added = [];
        replies = inl refused_one;
        quiet = e.call.quiet holds.shows.shows.told;
        world = w;
        shows = subst (λ (v : World Command). ShowsIn p now after v) here there.1.shows;
        becomes = holds.commands_are ∙ sym (append-nil commands);
        regroups = refl;
        rising = risen.rising;
        which = risen.which;
        goes = (
          course [] (used_in before) Through,
          inl (made [] (refused why), asks_in holds refused_one, refl),
          refl,
          λ i. record { world = sym here i; used = there.1.used i; identities = e.call.identities i; copied = e.call.copied i },
        );
        is_of = tt;
      }

  -- one that is stopped
  stopped : (stop : Stop) → (stop ≡ Through → ⊥) → refusal_in m w op ≡ None
      → ((exec_course m (is_some w.group) (params_of before).limit op w (used_in before)).stop ≡ stop) × IsAfterIn all_meaning p now after w (exec_course m (is_some w.group) (params_of before).limit op w (used_in before))
      → (its.stop ≡ stop) × IsAfterIn all_meaning p now after w its × (commands_of (run m w its.steps).history ≡ commands ++ [])
  stopped stop other none follows =
      let there = subst (λ (c : Course Command). (c.stop ≡ stop) × IsAfterIn all_meaning p now after w c) (accepted_course p before w op params none) follows in (
        there.0,
        there.1,
        stays_out m op w p.limit (used_in before) holds.shows.shows.running.live (λ through. other (sym there.0 ∙ through)) ∙ holds.commands_are ∙ sym (append-nil commands),
      )

  -- what a command needs that adds nothing
  needs : needed_in (group_size before) (record_length p op) ≡ needed_in (size_of (open_in w) (commands ++ [])) (record_length p op)
  needs = ap (λ (size : Option ℕ). needed_in size (record_length p op)) (open_size holds.shows holds.commands_are ∙ ap (λ (l : List Command). size_of (open_in w) l) (sym (append-nil commands)))

  pub exec_full : (used need limit : ℕ) → IsExec p old now before after w commands op (Err (LogFull used need limit)) → IsDone p old now before after w commands line (full used need limit)
  exec_full used need limit e =
      let there = stopped (Full used need limit) (λ x. cc) e.answers.0 e.follows in
      let risen = ⊎_elim (λ none. cc none) (λ (r : HasRisen before after commands). r) e.risen in
      record {
        added = [];
        replies = inl (op, last_one e.exactly.0, e.exactly.1 ∙ needs, e.exactly.2, over_limit (is_some before.group) _ _ used need limit (e.call.stopped (Full used need limit) refl));
        quiet = e.call.quiet holds.shows.shows.told;
        world = run m w its.steps;
        shows = there.1.shows;
        becomes = there.2;
        regroups = still_open e.call there.1;
        rising = risen.rising;
        which = risen.which;
        goes = inl (ends_so (Full used need limit) e.exactly.0 there.0 there.1 e.call);
        is_of = inl (left_stopped (Full used need limit) e.call);
      }

  pub exec_end : (number : ℕ) → IsExec p old now before after w commands op (Err (LsnEnd number)) → IsDone p old now before after w commands line (end number)
  exec_end number e =
      let there = stopped (At_end number) (λ x. cc) e.answers.0 e.follows in
      let risen = ⊎_elim (λ none. cc none) (λ (r : HasRisen before after commands). r) e.risen in
      record {
        added = [];
        replies = (inl (op, last_one e.exactly), last_number (is_some before.group) _ _ number (e.call.stopped (At_end number) refl));
        quiet = e.call.quiet holds.shows.shows.told;
        world = run m w its.steps;
        shows = there.1.shows;
        becomes = there.2;
        regroups = still_open e.call there.1;
        rising = risen.rising;
        which = risen.which;
        goes = inl (ends_so (At_end number) e.exactly there.0 there.1 e.call);
        is_of = let its_request = asked e.exactly in (its_request.request, its_request.asks, made_ends p commands (made (op ∷ []) ok) after number its_request.request its_request.makes (left_stopped (At_end number) e.call));
      }

  -- what is done while the command is run is of the course that the line has
  pub exec_works : IsLiveMap m → (old.tells_moments → TakesSome m p old now w (exec_course m (is_some w.group) (params_of before).limit op w (used_in before)).steps) → Works p old now (stage_of before w) line
  exec_works map takes = by_refusal (refusal_in m w op) refl
    where
      same : refusal_in m w op ≡ refusal_after p commands op
      same =
          ap (λ (s : State). refusal_of m s op) (fun_ext (λ (x : ℕ). map w x holds.shows.sound holds.shows.shows.running.live))
          ∙ ap (λ (l : List Command). refusal_after p l op) holds.commands_are

      by_course : (c : Course Command) → IsCourseDue p (stage_of before w) (line ∷ []) c → exec_course m (is_some w.group) (params_of before).limit op w (used_in before) ≡ c → Works p old now (stage_of before w) line
      by_course c due is = works_by p old now (stage_of before w) line c due (λ told. subst (λ (d : Course Command). TakesSome m p old now w d.steps) is (takes told))

      by_refusal : (o : Option Refusal) → refusal_in m w op ≡ o → Works p old now (stage_of before w) line
      by_refusal None none = by_course its (inl (inl (made (op ∷ []) ok, asks_in holds (asked (sym same ∙ none)), sym (one_course m p.limit op w (used_in before))))) (accepted_course p before w op params none)
      by_refusal (Some why) is = by_course (course [] (used_in before) Through) (inr (inr (inl refl))) (refused_course p before w op why params is)

-- what is answered where nothing is done
abbrev pub unmoved : {p : Params} {d : Disk} {engine : EngineView} {commands : List Command} {line : List ℕ} (reply : Reply) → (holds : Holds p d engine commands) → Replies p (open_in holds.world) commands line reply [] → GoesBy p (stage_of engine holds.world) line reply (stage_of engine holds.world)
    → Regroups line reply commands (open_in holds.world) (open_in holds.world) → IsOfEngine engine line reply → IsDone p d d engine engine holds.world commands line reply
unmoved {engine = engine} {commands} {line} reply holds replies goes regroups is_of = record {
  added = [];
  replies = replies;
  quiet = refl;
  world = holds.world;
  shows = holds.shows;
  becomes = grows_to line reply commands [] (open_in holds.world) (open_in holds.world) regroups refl (holds.commands_are ∙ sym (append-nil commands));
  regroups = regroups;
  rising = omega arith;
  which = inl refl;
  goes = goes;
  is_of = is_of;
}

-- a trim that no backup allows is denied beside one
pub denied_here : (copies : Option ℕ) (upkeep : Upkeep) → (IsBesideBackup copies (Keep upkeep) → ⊥) → IsDenied InBackup (Keep upkeep) × IsTrue (is_some copies)
denied_here None trim beside = absurd (beside refl)
denied_here (Some n) trim beside = (tt, refl)
denied_here copies upkeep beside = absurd (beside tt)

-- what is answered where objects were read at most: no group begins or ends
pub read_done : {p : Params} {old mid : Disk} {before after : EngineView} {w : World Command} {commands : List Command} {line : List ℕ} (reply : Reply) → Replies p (open_in w) commands line reply [] → ((group : Option ℕ) → Regroups line reply commands group group)
    → ((s : Stage) → GoesBy p s line reply s) → IsOfEngine after line reply → mid.said ≡ old.said → (v : World Command) → ShowsIn p mid after v → commands_of v.history ≡ commands → forced_in before ≤ forced_in after
    → (forced_in after ≡ forced_in before) ⊎ ((before.group ≡ None) × (length commands ≤ forced_in after)) → stage_of after v ≡ stage_of before w → IsDone p old mid before after w commands line reply
read_done {p} {before = before} {w = w} {commands} {line} reply replies regroups goes is_of quiet v shows are rising which same = record {
  added = [];
  replies = replies;
  quiet = quiet;
  world = v;
  shows = shows;
  becomes = grows_to line reply commands [] (open_in w) (open_in w) (regroups (open_in w)) refl (are ∙ sym (append-nil commands));
  regroups = subst (λ (s : Stage). Regroups line reply commands (open_in w) (open_in s.world)) (sym same) (regroups (open_in w));
  rising = rising;
  which = which;
  goes = subst (λ (s : Stage). GoesBy p (stage_of before w) line reply s) (sym same) (goes (stage_of before w));
  is_of = is_of;
}

-- within a group, or outside
pub by_group : {P : Type 0} (group : Option ℕ) → (IsTrue (is_some group) → P) → (group ≡ None → P) → P
by_group None inside alone = alone refl
by_group (Some begun) inside alone = inside refl

-- beside a backup, or where none is in the way of the request
pub by_backup : {P : Type 0} (copies : Option ℕ) (request : Request) → ((IsBesideBackup copies request → ⊥) → P) → (IsBesideBackup copies request → P) → P
by_backup None (Keep trim) against beside = beside refl
by_backup (Some n) (Keep trim) against beside = against (λ none. cc none)
by_backup copies (Save bstart) against beside = against (λ it. it)
by_backup copies (Group abort_group) against beside = against (λ it. it)
by_backup copies request against beside = beside tt

pub force_works : {p : Params} {old now : Disk} {before : EngineView} {commands : List Command} {line : List ℕ} → (holds : Holds p old before commands) → AsksFor line force → before.group ≡ None
    → (old.tells_moments → TakesSome (meaning_in p) p old now holds.world (force_course (meaning_in p) holds.world (used_in before)).steps) → Works p old now (stage_of before holds.world) line
force_works {p} {old} {now} {before} {line = line} holds asks none takes =
    works_by p old now (stage_of before holds.world) line (force_course (meaning_in p) holds.world (used_in before)) (inr (inl (force, tt, asks, holds.shows.group ∙ none, refl))) takes

-- a force that is done
pub force_done : {p : Params} {old now : Disk} {before after : EngineView} {commands : List Command} {line : List ℕ} (n : ℕ) → (holds : Holds p old before commands) → AsksFor line force → before.group ≡ None
    → IsForcing all_meaning old now before after (Ok n) → IsDone p old now before after holds.world commands line (forced n)
force_done {p} {old} {now} {before} {after} {commands} {line} n holds asks alone it =
    let m = meaning_in p in
    let w = holds.world in
    let there = it.takes.follows p w holds.shows in
    let none = holds.shows.group ∙ alone in
    let rose = risen holds (⊎_elim (λ failed. absurd failed) (λ (k : of_engine.Kept all_meaning p before now after commands). k) (it.commands.holds p commands (in_engine holds))) in
    record {
      added = [];
      replies = (asks, none_open holds.shows alone, (it.forced p commands (in_engine holds)).0, refl);
      quiet = it.call.quiet holds.shows.shows.told;
      world = run m w (force_steps m w);
      shows = there.1.shows;
      becomes = (run_upkept m w (force_steps m w) (upkeep_force m w) holds.shows.shows.running.live none).commands ∙ holds.commands_are ∙ sym (append-nil commands);
      regroups = none_open there.1.shows (it.call.group ∙ alone) ∙ sym (none_open holds.shows alone);
      rising = rose.rising;
      which = rose.which;
      goes = stage_on p before after w (force_course m w (used_in before)) there.1.used (it.call.identities ∙ ap (λ (l : List ℕ). before.identities + length l) (sym (logged_force m w))) it.call.copied;
      is_of = it.count;
    }

-- so many identity writes are logged by steps that add no command
abbrev pub AreCounted : Type 0
AreCounted = (p : Params) (w : World Command) (steps : List (Step Command)) → AreUpkeep steps → length (run (meaning_in p) w steps).history ≡ length w.history + length (logged_in steps)

module _ (p : Params) (old now : Disk) (before after : EngineView) (commands : List Command) (line : List ℕ) (upkeep : Upkeep) (result : Result Answer Early) (counts : AreCounted)
    (holds : Holds p old before commands) (asks : AsksFor line (Keep upkeep)) (alone : before.group ≡ None) (u : IsUpkept old now before after (Keep upkeep) result) where
  abbrev start : World Command
  start = holds.world

  abbrev mean : Meaning Command
  mean = meaning_in p

  abbrev copies : ℕ
  copies = of_engine.so_far before.copied

  abbrev way : Course Command
  way = upkeep_course u.epoch copies (Keep upkeep) mean start (used_in before)

  plain : AreUpkeep way.steps
  plain = are_upkeep mean u.epoch copies (Keep upkeep) tt start (used_in before)

  -- no group is open, before it and after it
  none_before : open_in start ≡ None
  none_before = none_open holds.shows alone

  none_after : IsAfterIn all_meaning p now after start way → open_in (run mean start way.steps) ≡ None
  none_after there = none_open there.shows (u.call.group ∙ alone)

  granted : IsGranted (open_in start) (Keep upkeep)
  granted = (tt, none_before)

  count_is : IsAfterIn all_meaning p now after start way → u.logged ≡ length (logged_in way.steps)
  count_is there = ⊎_elim
      (λ (since : u.logged ≡ logged_since before after).
      let first = next_lsn mean p old before.parts (ungrouped start) holds.shows.shows in
      let last = next_lsn mean p now after.parts (ungrouped (run mean start way.steps)) there.shows.shows in
      omega (arith, since, first, last, counts p start way.steps plain))
      (λ none. none.0 ∙ ap (λ (l : List ℕ). length l) (sym (none.1 mean start (used_in before))))
      u.counted

  ends_as : (stop : Stop) → way.stop ≡ stop → IsAfterIn all_meaning p now after start way → Ends p (stage_of before start) line stop (stage_of after (run mean start way.steps))
  ends_as stop is there =
      (way, inr (inl (Keep upkeep, u.epoch, granted, u.beside, asks, refl)), is, stage_on p before after start way there.used (u.call.identities ∙ ap (λ (n : ℕ). before.identities + n) (count_is there)) u.call.copied)

  rose : (ending : Ending) → (IsFailed ending → ⊥) → KeepsCommands all_meaning old now before after ending → HasRisen before after commands
  rose ending working keeps = ⊎_elim (λ failed. absurd (working failed)) (λ (k : of_engine.Kept all_meaning p before now after commands). risen holds k) (keeps.holds p commands (in_engine holds))

  -- none is open still
  none_still : IsAfterIn all_meaning p now after start way → open_in (run mean start way.steps) ≡ open_in start
  none_still there = none_after there ∙ sym none_before

  -- a reply to it that adds nothing
  replies_so : (reply : Reply) (ending : Ending) → (IsFailed ending → ⊥) → IsEngineCall log_limit old now before after u.logged ending → KeepsCommands all_meaning old now before after ending → IsAfterIn all_meaning p now after start way
      → Replies p (open_in start) commands line reply [] → Regroups line reply commands (open_in start) (open_in (run mean start way.steps)) → GoesBy p (stage_of before start) line reply (stage_of after (run mean start way.steps)) → IsOfEngine after line reply
      → IsDone p old now before after start commands line reply
  replies_so reply ending working call keeps there replies regroups goes is_of = record {
    added = [];
    replies = replies;
    quiet = call.quiet holds.shows.shows.told;
    world = run mean start way.steps;
    shows = there.shows;
    becomes = grows_to line reply commands [] (open_in start) (open_in (run mean start way.steps)) regroups (none_still there)
        ((run_upkept mean start way.steps plain holds.shows.shows.running.live (holds.shows.group ∙ alone)).commands ∙ holds.commands_are ∙ sym (append-nil commands));
    regroups = regroups;
    rising = (rose ending working keeps).rising;
    which = (rose ending working keeps).which;
    goes = goes;
    is_of = is_of;
  }

  may : (stop : Stop) → way.stop ≡ stop → MayStop (Keep upkeep) stop
  may stop is = subst (λ (s : Stop). MayStop (Keep upkeep) s) is (may_stop mean u.epoch copies (Keep upkeep) tt start (used_in before))

  -- the answer by how the call ended
  abbrev Answered : Result Answer Early → Type 0
  Answered r = IfOk r (λ answer. IsDone p old now before after start commands line (reply_of answer))

  by_ending : (ending : Ending) (r : Result Answer Early) → IsAnswerOf ending r → IsEngineCall log_limit old now before after u.logged ending → FollowsIn all_meaning p now after start way ending → KeepsCommands all_meaning old now before after ending → Answered r
  by_ending Done r is call there keeps =
      subst (λ (x : Result Answer Early). Answered x) (sym is)
      (replies_so ok Done (λ f. f) call keeps there.1 (inr (Keep upkeep, granted, asks, refl)) (Keep upkeep, asks, none_still there.1) (inl (ends_as Through there.0 there.1)) tt)
  by_ending (Stopped Through) r is call there keeps = absurd is
  by_ending (Stopped (Full used need limit)) r is call there keeps =
      let over = over_limit (is_some before.group) _ _ used need limit (call.stopped (Full used need limit) refl) in
      let bound = may (Full used need limit) there.0 in
      subst (λ (x : Result Answer Early). Answered x) (sym is)
      (replies_so (full used need limit) (Stopped (Full used need limit)) (λ f. f) call keeps there.1 (inr (Keep upkeep, tt, asks, none_before, bound.0, bound.1 over, refl)) (none_still there.1) (inl (ends_as (Full used need limit) there.0 there.1)) (inl (left_stopped (Full used need limit) call)))
  by_ending (Stopped (At_end number)) r is call there keeps =
      let number_is = last_number (is_some before.group) _ _ number (call.stopped (At_end number) refl) in
      subst (λ (x : Result Answer Early). Answered x) (sym is)
      (replies_so (end number) (Stopped (At_end number)) (λ f. f) call keeps there.1 (inr (Keep upkeep, is_numbered number (Keep upkeep) (may (At_end number) there.0), asks, none_before, refl), number_is) (none_still there.1) (inl (ends_as (At_end number) there.0 there.1))
      (Keep upkeep, asks, number_ends after number (Keep upkeep) (may (At_end number) there.0) (left_stopped (At_end number) call)))
  by_ending (Stopped (Worn number)) r is call there keeps =
      let number_is = last_epoch_is (is_some before.group) _ _ number (call.stopped (Worn number) refl) in
      subst (λ (x : Result Answer Early). Answered x) (sym is)
      (replies_so (end number) (Stopped (Worn number)) (λ f. f) call keeps there.1 (inr (Keep upkeep, worn_numbered number (Keep upkeep) (may (Worn number) there.0), asks, none_before, refl), number_is) (none_still there.1) (inr (ends_as (Worn number) there.0 there.1))
      (Keep upkeep, asks, worn_ends after number (Keep upkeep) (may (Worn number) there.0) (left_stopped (Worn number) call)))
  by_ending Short r is call there keeps = subst (λ (x : Result Answer Early). Answered x) (sym is.2) tt
  by_ending Failed r is call there keeps = subst (λ (x : Result Answer Early). Answered x) (sym is) tt

  pub upkeep_done : IfOk result (λ answer. IsDone p old now before after holds.world commands line (reply_of answer))
  upkeep_done = by_ending u.ending result u.answered u.call (u.takes.follows p holds.world holds.shows) u.commands

  pub upkeep_works : Works p old now (stage_of before start) line
  upkeep_works = works_by p old now (stage_of before start) line way (inl (inr (inl (Keep upkeep, u.epoch, granted, u.beside, asks, refl)))) (λ told. u.takes.steps told p start holds.shows)

-- what holds of a call that did not fail with the disk
pub still_attached : {old new : Disk} {before after : EngineView} {most n : ℕ} {ending : Ending} → IsEngineCall most old new before after n ending → (IsFailed ending → ⊥) → IsAttached old before → IsAttached new after
still_attached call working attached = ⊎_elim (λ failed. absurd (working failed)) (λ keeps. keeps attached) call.attached

pub still_whole : {old new : Disk} {before after : EngineView} {most n : ℕ} {ending : Ending} → IsEngineCall most old new before after n ending → (IsFailed ending → ⊥) → after.broken ≡ false
still_whole {after = after} call working = false_from_ne_true after.broken (λ e. working (call.broken.0 e))

-- an error of a command that is no fault
pub works_on : {e : ExecErr} (v : ExecErr) → e ≡ v → (IsFailed (ending_of_exec {T = ℕ} (Err v)) → ⊥) → IsFailed (ending_of_exec {T = ℕ} (Err e)) → ⊥
works_on v is working failed = working (subst (λ (x : ExecErr). IsFailed (ending_of_exec {T = ℕ} (Err x))) is failed)

pub fails_so : {e : ExecErr} → e ≡ DiskFault → IsFailed (ending_of_exec {T = ℕ} (Err e))
fails_so is = subst (λ (x : ExecErr). IsFailed (ending_of_exec {T = ℕ} (Err x))) (sym is) tt

-- no slot of an engine with its files is damaged
pub exec_undamaged : {old new : Disk} (before after : EngineView) {most n : ℕ} (op : Command) {e : ExecErr} (file : FileNo) (place : ℕ) → IsDisk new → IsEngineCall most old new before after n (ending_of_exec {T = ℕ} (Err e))
    → IsOutcome all_meaning old new before after.parts op (Err e) → e ≡ Damaged file place → old.tells_files → IsAttached old before → ⊥
exec_undamaged {old} {new} before after op file place disk call outcome is told attached =
    let here = subst (λ (x : ExecErr). IsExecFailure all_meaning (is_some before.group) old new before.parts op x) is outcome.1 in
    still_none_damaged all_meaning before.parts after.parts disk call.time outcome.0.objects.slots (still_attached call (works_on (Damaged file place) is (λ failed. failed))) told attached here.slot
