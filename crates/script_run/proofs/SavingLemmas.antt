-- How a backup goes on beside the lines of a script.
use Rattle.std.proofs.Common.{◌≡◌, ◌∙◌, ap, sym, subst, refl, ◌⊎◌, inl, inr, ⊎_elim, ◌≤◌, ◌+◌, ◌-◌, ◌++◌, ℕ, List, [], ◌∷◌, length, length-append, take, drop, arith, Contains, Option, Some, None, Result, Ok, Err, IsErr, IfOk, Bool}
use Rattle.std.specs.Prelude.{IfSome, IsTrue}
use Rattle.std.specs.Option.{is_some}
use Rattle.std.proofs.lemmas.List.{append-nil, take-append-drop, take-append-le, take-take, take_all}
use Rattle.std.proofs.lemmas.List.Elements.{Contains-append_left}
use Rattle.disk_model.specs.Disk.{Files, Disk}
use Rattle.disk_model.specs.declared.machine.FileNo.TheVariants.{Objects}
use Rattle.formats.specs.Objects.{BeginsStore, IsObjectsFile, bounds_of}
use Rattle.formats.specs.declared.params.Params.{Params}
use Rattle.oper_core.specs.Meaning.{IsSmall, Meaning}
use Rattle.oper_core.specs.declared.bounds.Bounds.{Bounds}
use Rattle.explain_core.specs.History.{commands_of}
use Rattle.explain_core.specs.RunLaws.{Begins, begins-all}
use Rattle.explain_core.specs.World.{World, Step, run}
use Rattle.standing.specs.OneStable.{small_store}
use Rattle.running_store.specs.Courses.{Course, Stop, course, force_course, force_steps}
use Rattle.running_store.specs.Courses.Stop.{Through, Full, At_end, Worn}
use Rattle.running_store.specs.Running.{IsRunning}
use Rattle.cache_manager.specs.InstallCourses.{drain_course, install_course}
use Rattle.checkpointing.specs.Courses.{checkpoint_course}
use Rattle.restart.specs.Starts.{or_weaker}
use Rattle.op_codec.specs.AllOps.{all_meaning}
use Rattle.script_lines.specs.Grammar.{Request, AsksFor}
use Rattle.script_lines.specs.declared.line.Line.TheVariants.{Keep, Group, Save}
use Rattle.script_lines.specs.declared.line.Upkeep.TheVariants.{Install as install, Drain as drain, Checkpoint as checkpoint, Trim as trim}
use Rattle.script_lines.specs.declared.line.Grouping.TheVariants.{Begin as begin_group, End as end_group, Abort as abort_group}
use Rattle.script_lines.specs.declared.line.Saving.TheVariants.{Start as bstart, Copy as bcopy, Finish as bfinish}
use Rattle.script_lines.specs.Replies.{Reply, ok, ran, value, pairs, forced, bad, refused, bad_tree, tree_full, denied, in_group, no_group, full, end, object_value, command_count, stat, copied, saved, backup_denied, summary, absent, counted, silence}
use Rattle.script_lines.specs.declared.backup_denial.BackupDenial.TheVariants.{AlreadyStore}
use Rattle.store_engine.specs.Beside.{MayGoBeside}
use Rattle.store_engine.specs.Calls.{begin_course, end_course}
use Rattle.store_engine.specs.Engine.{EngineView, InEachImage, forced_in, group_size, so_far}
use Rattle.store_engine.specs.Lists.{commands_course}
use Rattle.backup_copy.specs.Copies.{Copies}
use Rattle.shell_base.specs.First.{Stage, stage_of}
use Rattle.shell_base.specs.Store.{Command, Holds, ShowsIn, Stands, meaning_in}
use Rattle.shell_base.specs.declared.stop.Stop.{Stop as Early}
use Rattle.script_run.specs.Found.{IsDone}
use Rattle.script_run.specs.Groups.{Becomes, begun_after, open_in, size_of}
use Rattle.script_run.specs.Made.{Made, AsksMade}
use Rattle.script_run.specs.Replies.{IsDenied, IsGranted, IsOfBackup, Replies}
use Rattle.script_run.specs.Run.{Answering}
use Rattle.script_run.specs.Saving.{AllFindStore, AnsweringBeside, AsksBackup, IsDoneBeside, AsksFinish, BackupGoesOn, BackupGoing, BackupSoFar, BackupStays, FindsStore, FinishIsFull, IsNoneOrSaved, MayBeLeft, SaysOfBackup, store_after, store_behind}
use Rattle.script_run.specs.Stages.{Aborts, Ends, GoesBy, HasCourse, IsBackupFull, IsBesideBackup, IsQuestion, StartsBackup, forced_stage, stage_after, upkeep_course}
use Rattle.script_run.specs.StoryLaws.{IsCut, answer_cases, becomes_cuts}
use Rattle.script_run.proofs.OpenGroups.{open_size}

-- What is said of the courses of the engine beside a copy, and of a backup beside them, between two states of the store's
-- machine, while the backup's is not touched.
pub record BesideLaws (old new backup : Disk) : Type 0 where
  pub force : (b : Bounds) (n : ℕ) (w : World Command) (used : ℕ) → IsSmall b → IsRunning (all_meaning b) w → MayGoBeside (all_meaning b) n w (force_course (all_meaning b) w used).steps
  pub install : (b : Bounds) (n : ℕ) (w : World Command) (used : ℕ) → IsSmall b → IsRunning (all_meaning b) w → MayGoBeside (all_meaning b) n w (install_course (all_meaning b) n w used).steps
  pub drain : (b : Bounds) (n : ℕ) (w : World Command) (used : ℕ) → IsSmall b → IsRunning (all_meaning b) w → MayGoBeside (all_meaning b) n w (drain_course (all_meaning b) n w used).steps
  pub checkpoint : (b : Bounds) (n : ℕ) (w : World Command) (used : ℕ) → IsSmall b → IsRunning (all_meaning b) w → MayGoBeside (all_meaning b) n w (checkpoint_course (all_meaning b) w used).steps
  pub begin : (b : Bounds) (n : ℕ) (w : World Command) (used : ℕ) → IsSmall b → IsRunning (all_meaning b) w → MayGoBeside (all_meaning b) n w (begin_course (all_meaning b) w used).steps
  pub end : (b : Bounds) (n : ℕ) (w : World Command) (used : ℕ) → IsTrue (is_some w.group) → MayGoBeside (all_meaning b) n w (end_course (all_meaning b) w used).steps
  pub steps : (p : Params) (before after : EngineView) (w : World Command) (steps taken : List (Step Command)) → Copies all_meaning p old before w backup → MayGoBeside (meaning_in p) (so_far before.copied) w steps → Begins steps taken
      → ShowsIn p new after (run (meaning_in p) w taken) → after.copied ≡ before.copied → Copies all_meaning p new after (run (meaning_in p) w taken) backup
  pub commands : (p : Params) (before after : EngineView) (w : World Command) (limit used : ℕ) (ops : List Command) → Copies all_meaning p old before w backup
      → ShowsIn p new after (run (meaning_in p) w (commands_course (meaning_in p) limit ops w used).steps) → after.copied ≡ before.copied
      → Copies all_meaning p new after (run (meaning_in p) w (commands_course (meaning_in p) limit ops w used).steps) backup

none_some : {n : ℕ} → None ≡ Some n → ⊥
none_some is = cc is

group_none : (w : World Command) (group : Option ℕ) → begun_after w group ≡ None → group ≡ None
group_none w None is = refl
group_none w (Some n) is = cc is

group_some : (w : World Command) (group : Option ℕ) → IsTrue (is_some (begun_after w group)) → IsTrue (is_some group)
group_some w None is = is
group_some w (Some n) is = refl

-- the numbers of a store that is shown are small
pub small_in : {p : Params} {d : Disk} {engine : EngineView} {w : World Command} → ShowsIn p d engine w → IsSmall (bounds_of p)
small_in {p} {d} shows =
    let store = shows.shows.store in
    small_store p (d.reads Objects) (subst (λ (q : Params). IsObjectsFile q (d.reads Objects)) store.params store.laid.slots.whole)

module _ {old new backup : Disk} (laws : BesideLaws old new backup) {p : Params} {before : EngineView} {w : World Command} (shows : ShowsIn p old before w) where
  abbrev m : Meaning Command
  m = meaning_in p

  abbrev b : Bounds
  b = bounds_of p

  abbrev here : Stage
  here = stage_of before w

  running : w.group ≡ None → IsRunning m w
  running alone = record { sound = shows.sound; live = shows.shows.running.live; alone = alone }

  -- what is granted beside a backup goes beside it
  granted_beside : (n : ℕ) → before.copied ≡ Some n → (epoch used : ℕ) (request : Request) → IsGranted (open_in w) request → IsBesideBackup before.copied request → MayGoBeside m n w (upkeep_course epoch n request m w used).steps
  granted_beside n copies epoch used (Keep install) may beside = laws.install b n w used (small_in shows) (running (group_none w w.group may.1))
  granted_beside n copies epoch used (Keep drain) may beside = laws.drain b n w used (small_in shows) (running (group_none w w.group may.1))
  granted_beside n copies epoch used (Keep checkpoint) may beside = laws.checkpoint b n w used (small_in shows) (running (group_none w w.group may.1))
  granted_beside n copies epoch used (Keep trim) may beside = absurd (none_some (sym beside ∙ copies))
  granted_beside n copies epoch used (Group begin_group) may beside = laws.begin b n w used (small_in shows) (running (group_none w w.group may))
  granted_beside n copies epoch used (Group end_group) may beside = laws.end b n w used (group_some w w.group may)
  granted_beside n copies epoch used (Save bstart) may beside = absurd beside
  granted_beside n copies epoch used (Group abort_group) may beside = absurd beside
  granted_beside n copies epoch used request may beside = absurd may.0

  module _ (after : EngineView) where
    -- where engine and files show this world, the copying stands as it stood
    abbrev StillCopies : World Command → Type 0
    StillCopies v = ShowsIn p new after v → after.copied ≡ before.copied → Copies all_meaning p old before w backup → Copies all_meaning p new after v backup

    by_steps : (steps : List (Step Command)) → MayGoBeside m (so_far before.copied) w steps → StillCopies (run m w steps)
    by_steps steps may now same copies = laws.steps p before after w steps steps copies may (begins-all steps) now same

    by_none : StillCopies w
    unfolding run
    by_none = by_steps [] (record { allowed = tt; beside = tt })

    -- so it is after the course that a line has
    course_keeps : (line : List ℕ) (c : Course Command) → HasCourse p here line c → StillCopies (run m w c.steps)
    unfolding run
    course_keeps line c has = ⊎_elim
        (λ (made_so : (it : Made) × AsksMade p (commands_of w.history) line it × (c ≡ commands_course m p.limit it.ops w here.used)).
        subst (λ (x : Course Command). StillCopies (run m w x.steps)) (sym made_so.2) (λ now same copies. laws.commands p before after w p.limit here.used made_so.0.ops copies now same))
        (λ (rest : ((request : Request) × (epoch : ℕ) × IsGranted (open_in w) request × IsBesideBackup before.copied request × AsksFor line request × (c ≡ upkeep_course epoch (so_far before.copied) request m w here.used))
        ⊎ ((request : Request) × IsQuestion request × AsksFor line request × (c ≡ course [] here.used Through))). ⊎_elim
        (λ (u : (request : Request) × (epoch : ℕ) × IsGranted (open_in w) request × IsBesideBackup before.copied request × AsksFor line request × (c ≡ upkeep_course epoch (so_far before.copied) request m w here.used)).
        subst (λ (x : Course Command). StillCopies (run m w x.steps)) (sym u.5) (λ now same copies.
        by_steps (upkeep_course u.1 (so_far before.copied) u.0 m w here.used).steps
        (subst (λ (o : Option ℕ). MayGoBeside m (so_far o) w (upkeep_course u.1 (so_far o) u.0 m w here.used).steps) (sym copies.so_far) (granted_beside copies.done copies.so_far u.1 here.used u.0 u.2 u.3)) now same copies))
        (λ (q : (request : Request) × IsQuestion request × AsksFor line request × (c ≡ course [] here.used Through)). subst (λ (x : Course Command). StillCopies (run m w x.steps)) (sym q.3) by_none)
        rest)
        has

    -- a stage to which a line leads that is of no backup
    record Goes (now : Stage) : Type 0 where
      pub copies : now.copied ≡ before.copied
      pub keeps : StillCopies now.world

    goes_as : (mid now : Stage) → now ≡ mid → Goes mid → Goes now
    goes_as mid now same goes = subst (λ (s : Stage). Goes s) (sym same) goes

    by_course : (line : List ℕ) (stop : Stop) (now : Stage) → Ends p here line stop now → Goes now
    by_course line stop now ends = goes_as (stage_after p here ends.0) now ends.3 (record { copies = refl; keeps = course_keeps line ends.0 ends.1 })

    still : (now : Stage) → now ≡ here → Goes now
    still now same = goes_as here now same (record { copies = refl; keeps = by_none })

    by_force : (now : Stage) → open_in w ≡ None → now ≡ forced_stage p here → Goes now
    by_force now alone same = goes_as (forced_stage p here) now same
        (record { copies = refl; keeps = by_steps (force_steps m w) (laws.force b (so_far before.copied) w here.used (small_in shows) (running (group_none w w.group alone))) })

    -- so it does after each line, or none is made any more
    goes_on : (line : List ℕ) (reply : Reply) (commands added : List Command) (now : Stage) → (AsksBackup line → ⊥) → Replies p (open_in w) commands line reply added → GoesBy p here line reply now → Goes now ⊎ (now.copied ≡ None)
    goes_on line ok commands added now other replies goes = ⊎_elim
        (λ (ends : Ends p here line Through now). inl (by_course line Through now ends))
        (λ (rest : StartsBackup here line (forced_stage p here) now ⊎ Aborts p here line now). ⊎_elim
        (λ (starts : StartsBackup here line (forced_stage p here) now). absurd (other (Save bstart, tt, starts.0)))
        (λ (aborts : Aborts p here line now). inr (ap (λ (s : Stage). s.copied) aborts.2))
        rest)
        goes
    goes_on line (ran k) commands added now other replies goes = inl (by_course line Through now goes)
    goes_on line (refused why) commands added now other replies goes = inl (by_course line Through now goes)
    goes_on line bad_tree commands added now other replies goes = inl (by_course line Through now goes)
    goes_on line tree_full commands added now other replies goes = inl (by_course line Through now goes)
    goes_on line (denied why) commands added now other replies goes = inl (by_course line Through now goes)
    goes_on line (full used need limit) commands added now other replies goes = ⊎_elim
        (λ (ends : Ends p here line (Full used need limit) now). inl (by_course line (Full used need limit) now ends))
        (λ (saves : IsBackupFull p here line used need (forced_stage p here) now). absurd (other (Save bfinish, tt, saves.0)))
        goes
    goes_on line (end number) commands added now other replies goes = ⊎_elim
        (λ (last : Ends p here line (At_end number) now). inl (by_course line (At_end number) now last))
        (λ (worn : Ends p here line (Worn number) now). inl (by_course line (Worn number) now worn))
        goes
    goes_on line (forced k) commands added now other replies goes = inl (by_force now replies.1 goes)
    goes_on line (stat counts) commands added now other replies goes = inl (still now goes.1)
    goes_on line (copied k) commands added now other replies goes = absurd (other (Save (bcopy goes.1), tt, goes.2))
    goes_on line (saved k) commands added now other replies goes = absurd (other (Save bfinish, tt, replies.0))
    goes_on line (backup_denied why) commands added now other replies goes = inl (still now goes.1)
    goes_on line (value bytes) commands added now other replies goes = inl (still now goes)
    goes_on line (pairs pair others) commands added now other replies goes = inl (still now goes)
    goes_on line bad commands added now other replies goes = inl (still now goes)
    goes_on line in_group commands added now other replies goes = inl (still now goes)
    goes_on line no_group commands added now other replies goes = inl (still now goes)
    goes_on line absent commands added now other replies goes = inl (still now goes)
    goes_on line (counted n) commands added now other replies goes = inl (still now goes)
    goes_on line silence commands added now other replies goes = inl (still now goes)
    goes_on line (object_value object bytes) commands added now other replies goes = inl (still now goes)
    goes_on line (command_count k) commands added now other replies goes = inl (still now goes)
    goes_on line (summary totals) commands added now other replies goes = inl (still now goes)

-- What the answers say of a backup goes on with each answer.

pub store_more : (there : Type 0) (replies : List Reply) (reply : Reply) → store_behind there (replies ++ reply ∷ []) ≡ store_after (store_behind there replies) reply
store_more there [] reply = refl
store_more there (r ∷ replies) reply = store_more (store_after there r) replies reply

finds_more : (there : Type 0) (lines : List (List ℕ)) (replies : List Reply) (line : List ℕ) (reply : Reply) → AllFindStore there lines replies → FindsStore (store_behind there replies) line reply → AllFindStore there (lines ++ line ∷ []) (replies ++ reply ∷ [])
finds_more there [] [] line reply all here = (here, tt)
finds_more there (l ∷ lines) (r ∷ replies) line reply all here = (all.0, finds_more (store_after there r) lines replies line reply all.1 here)
finds_more there [] (r ∷ replies) line reply all here = absurd all
finds_more there (l ∷ lines) [] line reply all here = absurd all

-- no other answer than `saved` makes a store
pub same_store : (there : Type 0) (reply : Reply) → ((n : ℕ) → reply ≡ saved n → ⊥) → store_after there reply ≡ there
same_store there (saved n) none = absurd (none n refl)
same_store there reply none = refl

-- a line of no backup is not answered by one
denied_start : (request : Request) → IsDenied AlreadyStore request → IsOfBackup request
denied_start (Save bstart) is = tt
denied_start request is = absurd is

module _ (p : Params) (group : Option ℕ) (commands : List Command) (line : List ℕ) (added : List Command) (other : AsksBackup line → ⊥) where
  other_saves : (reply : Reply) → Replies p group commands line reply added → (n : ℕ) → reply ≡ saved n → ⊥
  other_saves reply replies n is = let here = subst (λ (r : Reply). Replies p group commands line r added) is replies in other (Save bfinish, tt, here.0)

  other_finds : (there : Type 0) (reply : Reply) → Replies p group commands line reply added → FindsStore there line reply
  other_finds there (backup_denied AlreadyStore) replies = absurd (other (replies.0, denied_start replies.0 replies.1, replies.2))
  other_finds there ok replies = λ asks is. other (Save bstart, tt, asks)
  other_finds there reply replies = tt

-- no line is none that ends a backup
no_finish : AsksFinish [] → ⊥
no_finish (line, has, asks) = omega (arith, has.1)

-- one line more, with its answer
full_later : (line : List ℕ) (reply : Reply) (lines : List (List ℕ)) (replies : List Reply) → FinishIsFull lines replies → FinishIsFull (line ∷ lines) (reply ∷ replies)
full_later line (full used need limit) lines replies later = inr later
full_later line reply lines replies later = later

full_more : (lines : List (List ℕ)) (replies : List Reply) (line : List ℕ) (reply : Reply) → FinishIsFull lines replies → FinishIsFull (lines ++ line ∷ []) (replies ++ reply ∷ [])
full_more [] replies line reply is = absurd is
full_more (l ∷ lines) [] line reply is = absurd is
full_more (l ∷ lines) (full used need limit ∷ replies) line reply is = ⊎_elim (λ (asks : AsksFor l (Save bfinish)). inl asks) (λ (later : FinishIsFull lines replies). inr (full_more lines replies line reply later)) is
full_more (l ∷ lines) (r ∷ replies) line reply is = full_more lines replies line reply is

-- the last one got `full`
pub full_last : (there : Type 0) (lines : List (List ℕ)) (replies : List Reply) (line : List ℕ) (used need limit : ℕ) → AllFindStore there lines replies → AsksFor line (Save bfinish) → FinishIsFull (lines ++ line ∷ []) (replies ++ full used need limit ∷ [])
full_last there [] [] line used need limit all asks = inl asks
full_last there (l ∷ lines) (r ∷ replies) line used need limit all asks = full_later l r (lines ++ line ∷ []) (replies ++ full used need limit ∷ []) (full_last (store_after there r) lines replies line used need limit all.1 asks)
full_last there [] (r ∷ replies) line used need limit all asks = absurd all
full_last there (l ∷ lines) [] line used need limit all asks = absurd all

module _ {p : Params} where
  -- what is left, where another next line may end the backup too
  left_next : (lines : List (List ℕ)) (replies : List Reply) (next other : List (List ℕ)) (commands : List Command) (files : Files) → (AsksFinish next → AsksFinish other) → MayBeLeft p lines replies next commands files → MayBeLeft p lines replies other commands files
  left_next lines replies next other commands files so (inl here) = inl here
  left_next lines replies next other commands files so (inr (asks, stands)) = inr (so asks, stands)

  -- and with one answer more, where the last line ends no backup or this is known of it
  left_more : (lines : List (List ℕ)) (replies : List Reply) (next : List (List ℕ)) (commands : List Command) (line : List ℕ) (reply : Reply) (added : List Command) (files : Files) → ((n : ℕ) → Contains replies (saved n) → n ≤ length commands)
      → (AsksFinish next → Stands p files commands → IsNoneOrSaved p (lines ++ line ∷ []) (replies ++ reply ∷ []) (commands ++ added) files)
      → MayBeLeft p lines replies next commands files → MayBeLeft p (lines ++ line ∷ []) (replies ++ reply ∷ []) [] (commands ++ added) files
  left_more lines replies next commands line reply added files few last (inl (inl none)) = inl (inl none)
  left_more lines replies next commands line reply added files few last (inl (inr (inl (n, has, stands)))) =
      inl (inr (inl (n, Contains-append_left replies (reply ∷ []) (saved n) has, subst (λ (l : List Command). Stands p files l) (sym (take-append-le n commands added (few n has))) stands)))
  left_more lines replies next commands line reply added files few last (inl (inr (inr (is_full, n, le, stands)))) =
      inl (inr (inr (full_more lines replies line reply is_full, n, omega (arith, le, length-append commands added), subst (λ (l : List Command). Stands p files l) (sym (take-append-le n commands added le)) stands)))
  left_more lines replies next commands line reply added files few last (inr (asks, stands)) = inl (last asks stands)

module _ {p : Params} {start : Disk} where
  -- what is said, where another next line may end the backup too
  pub says_next : {lines : List (List ℕ)} {replies : List Reply} {commands : List Command} {now : Disk} (next other : List (List ℕ)) → (AsksFinish next → AsksFinish other) → SaysOfBackup p start lines replies next commands now → SaysOfBackup p start lines replies other commands now
  says_next {lines} {replies} {commands} {now} next other so says = record {
    time = says.time;
    saves = says.saves;
    finds = says.finds;
    kept = says.kept;
    images = λ told. or_weaker start now (λ files said. MayBeLeft p lines replies next commands files) (λ files said. MayBeLeft p lines replies other commands files) (says.images told) (λ files said. left_next lines replies next other commands files so);
  }

  -- a line more got no answer
  pub says_come : {lines : List (List ℕ)} {replies : List Reply} {commands : List Command} {now : Disk} (next : List (List ℕ)) → SaysOfBackup p start lines replies [] commands now → SaysOfBackup p start lines replies next commands now
  says_come next says = says_next [] next (λ (none : AsksFinish []). absurd (no_finish none)) says

  -- what is said with one answer more
  pub says_on : {lines : List (List ℕ)} {replies : List Reply} {next : List (List ℕ)} {commands : List Command} {now : Disk} (line : List ℕ) (reply : Reply) (added : List Command) → SaysOfBackup p start lines replies next commands now
      → ((n : ℕ) → reply ≡ saved n → (n ≤ length (commands ++ added)) × InEachImage now (λ files. Stands p files (take n (commands ++ added))))
      → ((files : Files) → AsksFinish next → Stands p files commands → IsNoneOrSaved p (lines ++ line ∷ []) (replies ++ reply ∷ []) (commands ++ added) files)
      → FindsStore (store_behind (BeginsStore (start.reads Objects)) replies) line reply → SaysOfBackup p start (lines ++ line ∷ []) (replies ++ reply ∷ []) [] (commands ++ added) now
  says_on {lines} {replies} {next} {commands} {now} line reply added says saves last finds = record {
    time = says.time;
    saves = λ n has. ⊎_elim
        (λ (was : Contains replies (saved n)). let (le, each) = says.saves n was in (
          omega (arith, le, length-append commands added),
          subst (λ (l : List Command). InEachImage now (λ files. Stands p files l)) (sym (take-append-le n commands added le)) each,
        ))
        (saves n)
        (answer_cases replies reply (saved n) has);
    finds = finds_more (BeginsStore (start.reads Objects)) lines replies line reply says.finds finds;
    kept = says.kept;
    images = λ told. or_weaker start now (λ files said. MayBeLeft p lines replies next commands files) (λ files said. MayBeLeft p (lines ++ line ∷ []) (replies ++ reply ∷ []) [] (commands ++ added) files) (says.images told)
        (λ files said. left_more lines replies next commands line reply added files (λ n has. (says.saves n has).0) (last files));
  }

  -- one that saves no store
  pub says_more : {lines : List (List ℕ)} {replies : List Reply} {commands : List Command} {now : Disk} (line : List ℕ) (reply : Reply) (added : List Command) → SaysOfBackup p start lines replies [] commands now → ((n : ℕ) → reply ≡ saved n → ⊥)
      → FindsStore (store_behind (BeginsStore (start.reads Objects)) replies) line reply → SaysOfBackup p start (lines ++ line ∷ []) (replies ++ reply ∷ []) [] (commands ++ added) now
  says_more line reply added says none finds = says_on line reply added says (λ n is. absurd (none n is)) (λ files asks stands. absurd (no_finish asks)) finds

  -- what is said of the first commands is true of all
  pub says_longer : {lines : List (List ℕ)} {replies : List Reply} {now : Disk} (n : ℕ) (commands : List Command) → SaysOfBackup p start lines replies [] (take n commands) now → SaysOfBackup p start lines replies [] commands now
  says_longer {lines} {replies} {now} n commands says =
      let split : take n commands ++ drop n commands ≡ commands = take-append-drop n commands in
      let long : length (take n commands) ≤ length commands = omega (arith, ap length split, length-append (take n commands) (drop n commands)) in
      let first : (k : ℕ) → k ≤ length (take n commands) → take k (take n commands) ≡ take k commands
      = λ k le. sym (take-append-le k (take n commands) (drop n commands) le) ∙ ap (λ (l : List Command). take k l) split in
      record {
        time = says.time;
        saves = λ k has. let (le, each) = says.saves k has in (omega (arith, le, long), subst (λ (l : List Command). InEachImage now (λ files. Stands p files l)) (first k le) each);
        finds = says.finds;
        kept = says.kept;
        images = λ told. or_weaker start now (λ files said. MayBeLeft p lines replies [] (take n commands) files) (λ files said. MayBeLeft p lines replies [] commands files) (says.images told)
            (λ files said. left_longer files long first (λ k has. (says.saves k has).0));
      }
    where
      left_longer : (files : Files) → length (take n commands) ≤ length commands → ((k : ℕ) → k ≤ length (take n commands) → take k (take n commands) ≡ take k commands) → ((k : ℕ) → Contains replies (saved k) → k ≤ length (take n commands))
          → MayBeLeft p lines replies [] (take n commands) files → MayBeLeft p lines replies [] commands files
      left_longer files long first few (inl (inl none)) = inl (inl none)
      left_longer files long first few (inl (inr (inl (k, has, stands)))) = inl (inr (inl (k, has, subst (λ (l : List Command). Stands p files l) (first k (few k has)) stands)))
      left_longer files long first few (inl (inr (inr (is_full, k, le, stands)))) = inl (inr (inr (is_full, k, omega (arith, le, long), subst (λ (l : List Command). Stands p files l) (first k le) stands)))
      left_longer files long first few (inr (asks, stands)) = absurd (no_finish asks)

  -- so the backup is, of all commands
  abbrev pub whole_going : {lines : List (List ℕ)} {replies : List Reply} {commands : List Command} {d : Disk} {engine : EngineView} {w : World Command} {now : Disk} → BackupSoFar p start lines replies commands d engine w now → BackupGoing p start lines replies commands d engine w now
  whole_going {commands = commands} g = record { says = says_longer g.count commands g.going.says; store = g.going.store; copying = g.going.copying }

module _ (p : Params) (start old new : Disk) (before after : EngineView) (w : World Command) (commands : List Command) (line : List ℕ) (backup backed : Disk) where
  -- the same of all commands, which stay: how the backup goes on, and what stays true where there is no answer
  abbrev pub GoesOnAll : Reply → World Command → Type 0
  GoesOnAll reply v = backup.tells_files → (lines : List (List ℕ)) (replies : List Reply) → BackupGoing p start lines replies commands old before w backup
      → BackupGoing p start (lines ++ line ∷ []) (replies ++ reply ∷ []) (commands ++ []) new after v backed

  abbrev pub StaysAll : Type 0
  StaysAll = backup.tells_files → (lines : List (List ℕ)) (replies : List Reply) → BackupGoing p start lines replies commands old before w backup → SaysOfBackup p start lines replies (line ∷ []) commands backed

  pub stays_so : StaysAll → BackupStays p start old new before after w commands line backup backed
  stays_so stays told lines replies g = stays told lines replies (whole_going g)

  -- where all commands are forced, it goes on with all
  pub goes_all : (reply : Reply) (v : World Command) {all : List Command} → length commands ≤ forced_in after → all ≡ commands ++ [] → GoesOnAll reply v → BackupGoesOn p start old new before after w commands line backup backed reply all v
  goes_all reply v {all} enough same goes told lines replies g = record {
    count = length commands;
    forced = enough;
    going = subst (λ (l : List Command). BackupGoing p start (lines ++ line ∷ []) (replies ++ reply ∷ []) l new after v backed)
        (append-nil commands ∙ sym (take_all (length commands) commands (omega arith)) ∙ ap (λ (l : List Command). take (length commands) l) (sym (same ∙ append-nil commands)))
        (goes told lines replies (whole_going g));
  }

-- or with those of which it is said so far
pub goes_so : {p : Params} {start old new : Disk} {before after : EngineView} {w : World Command} {commands all : List Command} {line : List ℕ} {backup backed : Disk} (reply : Reply) (v : World Command) → forced_in before ≤ forced_in after
    → ((n : ℕ) → n ≤ forced_in before → take n all ≡ take n commands) → ((n : ℕ) → GoesOnAll p start old new before after w (take n commands) line backup backed reply v) → BackupGoesOn p start old new before after w commands line backup backed reply all v
goes_so {p} {start} {new = new} {after = after} {commands = commands} {all} {line} {backed = backed} reply v rising first goes told lines replies g = record {
  count = g.count;
  forced = omega (arith, g.forced, rising);
  going = subst (λ (l : List Command). BackupGoing p start (lines ++ line ∷ []) (replies ++ reply ∷ []) l new after v backed) (append-nil (take g.count commands) ∙ sym (first g.count g.forced)) (goes g.count told lines replies g.going);
}

-- the commands are the same
pub same_first : (commands all : List Command) (most : ℕ) → all ≡ commands ++ [] → (n : ℕ) → n ≤ most → take n all ≡ take n commands
same_first commands all most same n le = ap (λ (l : List Command). take n l) (same ∙ append-nil commands)

-- or those that are forced are still there: no group that is open has any of them
pub forced_first : {p : Params} {d : Disk} {engine : EngineView} {commands : List Command} (holds : Holds p d engine commands) (line : List ℕ) (reply : Reply) (added all : List Command) → Becomes line reply (open_in holds.world) commands added all
    → (n : ℕ) → n ≤ forced_in engine → take n all ≡ take n commands
forced_first {engine = engine} {commands} holds line reply added all becomes n le = ⊎_elim
    (λ (same : all ≡ commands ++ added). ap (λ (l : List Command). take n l) same ∙ take-append-le n commands added (omega (arith, le, holds.says.forced)))
    (λ (cut : IsCut (open_in holds.world) commands all). ap (λ (l : List Command). take n l) cut.left ∙ take-take n cut.before commands (omega (arith, le, early cut.before cut.group_is)))
    (becomes_cuts line reply (open_in holds.world) commands added all becomes)
  where
    early : (k : ℕ) → open_in holds.world ≡ Some k → forced_in engine ≤ k
    early k is =
        let size : group_size engine ≡ Some (length commands - k) = open_size holds.shows holds.commands_are ∙ ap (λ (o : Option ℕ). size_of o commands) is in
        let sum = subst (λ (o : Option ℕ). IfSome o (λ n. forced_in engine + n ≡ length commands)) size holds.says.group_waits in
        omega (arith, sum)

module _ {p : Params} {start : Disk} where
  -- a line of no backup leaves it as it was
  module _ {old new backup : Disk} (laws : BesideLaws old new backup) {before after : EngineView} {commands : List Command} {line : List ℕ} (other : AsksBackup line → ⊥) (holds : Holds p old before commands) where
    other_goes_on : (reply : Reply) (d : IsDone p old new before after holds.world commands line reply) (n : ℕ) → GoesOnAll p start old new before after holds.world (take n commands) line backup backup reply d.world
    other_goes_on reply d n told lines replies g =
        let group = open_in holds.world in
        let begins = BeginsStore (start.reads Objects) in
        let it = goes_on laws holds.shows after line reply commands d.added (stage_of after d.world) other d.replies d.goes in
        let same = store_more begins replies reply ∙ same_store (store_behind begins replies) reply (other_saves p group commands line d.added other reply d.replies) in
        record {
          says = says_more line reply [] g.says (other_saves p group commands line d.added other reply d.replies) (other_finds p group commands line d.added other (store_behind begins replies) reply d.replies);
          store = (λ is. subst (λ (A : Type 0). A) (sym same) (g.store.0 is), λ is. g.store.1 (subst (λ (A : Type 0). A) same is));
          copying = ⊎_elim
              (λ (goes : Goes laws holds.shows after (stage_of after d.world)). still_copying d.world d.shows goes before.copied refl g.copying)
              (λ (none : after.copied ≡ None). subst (λ (x : Option ℕ). IfSome x (λ n. Copies all_meaning p new after d.world backup)) (sym none) tt)
              it;
        }
      where
        still_copying : (v : World Command) → ShowsIn p new after v → Goes laws holds.shows after (stage_of after v) → (o : Option ℕ) → before.copied ≡ o → IfSome o (λ n. Copies all_meaning p old before holds.world backup) → IfSome after.copied (λ n. Copies all_meaning p new after v backup)
        still_copying v now it None was copies = subst (λ (x : Option ℕ). IfSome x (λ n. Copies all_meaning p new after v backup)) (sym (it.copies ∙ was)) tt
        still_copying v now it (Some n) was copies = subst (λ (x : Option ℕ). IfSome x (λ n. Copies all_meaning p new after v backup)) (sym (it.copies ∙ was)) (it.keeps now it.copies copies)

    pub done_beside : {A : Type 0} (reply : A → Reply) (result : Result A Early) → IfOk result (λ found. IsDone p old new before after holds.world commands line (reply found)) → IsDoneBeside p start old new before after holds.world commands line backup backup reply result
    done_beside reply (Ok found) d = record {
      whole = (d, goes_so (reply found) d.world d.rising (forced_first holds line (reply found) d.added (commands_of d.world.history) d.becomes) (other_goes_on (reply found) d));
      stopped = tt;
    }
    done_beside reply (Err stop) d = record { whole = tt; stopped = stays_so p start old new before after holds.world commands line backup backup (λ told lines replies g. says_come (line ∷ []) g.says) }

  -- nothing was said of the line, whatever it asks
  pub beside_quiet : {old new : Disk} {before after : EngineView} {w : World Command} {commands : List Command} {line : List ℕ} (backup : Disk) (result : Result Bool Early) → IsErr result → new.said ≡ old.said
      → Answering p old new before after w commands line result → AnsweringBeside p start old new before after w commands line backup backup result
  beside_quiet backup (Ok refusing) is quiet a = absurd (cc is)
  beside_quiet {line = line} backup (Err stop) is quiet a = record { whole = tt; partly = inl (quiet, λ told lines replies g. says_come (line ∷ []) (whole_going g).says); images = a.images; steps = a.steps }
