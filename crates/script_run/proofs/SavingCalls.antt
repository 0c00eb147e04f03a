-- What the calls for a backup make of engine and machine, and how they are answered.
use Rattle.std.proofs.Common.{◌≡◌, ◌∙◌, ap, sym, subst, refl, ◌⊎◌, ⊎_elim, ◌≤◌, ◌<◌, ℕ, List, arith, Option, Some, None, Result, Ok, Err, IfErr, IfOk, OnOk, Bool, true, false}
use Rattle.std.specs.Prelude.{⊤, IsTrue, if◌then◌else◌, nat_lt}
use Rattle.std.specs.Option.{is_some}
use Rattle.std.specs.Result.{IsErrOf}
use Rattle.std.proofs.lemmas.Bool.{false_from_ne_true}
use Rattle.std.proofs.lemmas.Bool.Decides.{nat_tests}
use Rattle.std.proofs.lemmas.Result.{on_ok_weaker}
use Rattle.disk_model.specs.Disk.{Files, Disk, IsDisk, Passes, Rises, Stays}
use Rattle.disk_model.specs.Moments.{first_call, passes_none, started}
use Rattle.disk_model.specs.Silent.{IsSilent}
use Rattle.disk_model.specs.declared.machine.Failed.{Failed as Failure}
use Rattle.disk_model.specs.declared.machine.FileNo.{FileNo}
use Rattle.formats.specs.declared.params.Params.{Params}
use Rattle.explain_core.specs.World.{World, Step}
use Rattle.standing.specs.Moments.{TakesSome, moments_none}
use Rattle.standing.specs.Standing.{FilesShow}
use Rattle.running_store.specs.Calls.{IsFailed, ending_of_force}
use Rattle.oper_core.specs.Meaning.{Meaning}
use Rattle.running_store.specs.Courses.{Course, force_course}
use Rattle.op_codec.specs.AllOps.{all_meaning}
use Rattle.script_lines.specs.Grammar.{Request}
use Rattle.script_lines.specs.declared.line.Line.TheVariants.{Save}
use Rattle.script_lines.specs.declared.line.Saving.TheVariants.{Start as bstart, Copy as bcopy, Finish as bfinish}
use Rattle.script_lines.specs.declared.answer.Answer.{Answer}
use Rattle.script_lines.specs.declared.answer.Answer.TheVariants as answers
use Rattle.store_engine.specs.Engine.{EngineView, IsEngineRead, commands_since, params_of, used_in}
use Rattle.backup_copy.specs.Calls.{CopyFailsBy, FinishFailsBy, ForcesFirst, HasForced, HasStartCause, IsUntouched, LooksFirst, but_copied}
use Rattle.backup_copy.specs.Refusals.{IsRefusedSo, begun, judge_copy, judge_finish, judge_start, unstarted, whole}
use Rattle.backup_copy.specs.declared.backup_err.BackupErr.{BackupErr}
use Rattle.backup_copy.specs.declared.backup_err.BackupErr.TheVariants as errors
use Rattle.shell_base.specs.Stops.{IsUndamaged}
use Rattle.shell_base.specs.Store.{Command, IsAttached, ShowsIn, meaning_in}
use Rattle.shell_base.specs.declared.stop.Stop.{Stop as Early}
use Rattle.shell_base.specs.declared.stop.Stop.TheVariants.{BackupFault, Damaged, DiskFault, Memory}
use Rattle.shell_base.specs.HoldLaws.{always, attached_said, holds_between, in_engine, stays_between}
use Rattle.script_run.specs.Run.{IsCausedBeside}
use Rattle.script_run.specs.Saving.{IsSaving, answer_of_backup_error, saving_course}
use Rattle.script_run.proofs.DoneLemmas.{images_of, still_attached, still_whole}
use Rattle.script_run.proofs.MomentLemmas.{images_show}

-- how a call is answered, where it is done so
abbrev pub answer_of_call : {A : Type 0} → (A → Answer) → Result A BackupErr → Result Answer Early
answer_of_call done (Ok value) = Ok (done value)
answer_of_call done (Err e) = answer_of_backup_error e

-- some first steps, none
takes_none : {p : Params} {d : Disk} {engine : EngineView} {w : World Command} (steps : List (Step Command)) → IsDisk d → ShowsIn p d engine w → d.tells_moments → TakesSome (meaning_in p) p d d w steps
takes_none {p} {d} {w = w} steps lawful shows told = moments_none (meaning_in p) p d d w steps
    (started d (IsSilent (λ files. FilesShow (meaning_in p) p files w) d.said) (λ files said left. record { silent = lawful.said_now told files said left; holds = images_show shows told files said left }))

takes_still : {p : Params} {old new : Disk} {engine : EngineView} {w : World Command} (steps : List (Step Command)) → Stays old new → ShowsIn p old engine w → old.tells_moments → TakesSome (meaning_in p) p old new w steps
takes_still {p} {old} {new} {w = w} steps stays shows told = moments_none (meaning_in p) p old new w steps
    (first_call old new (IsSilent (λ files. FilesShow (meaning_in p) p files w) old.said) told stays.time (λ files said left.
    let from = stays.crash told files said left in
    record { silent = from.1; holds = subst (λ (f : Files). FilesShow (meaning_in p) p f w) (sym from.0.2) (images_show shows told from.0.0 old.said from.0.1) }))

-- Nothing was done with the machine.
still_saving : {d : Disk} {engine : EngineView} (request : Request) (backup backed : Disk) (result : Result Answer Early) → IsDisk d → engine.broken ≡ false → Passes backup backed → IfErr result (λ stop. IsCausedBeside stop d d backup backed)
    → IfErr result IsUndamaged → IsSaving request d d engine engine backup backed result
still_saving {d} {engine} request backup backed result lawful fine time cause none = record {
  time = passes_none d;
  backup_time = time;
  quiet = λ told. refl;
  images = λ p commands holds told. holds_between lawful holds told;
  steps = λ p w shows alone told. takes_none (saving_course request (meaning_in p) w (used_in engine)).steps lawful shows told;
  cause = cause;
  undamaged = λ told attached. none;
  attached = λ attached. always result attached;
  unbroken = always result fine;
}

-- It was only read.
read_saving : {old new : Disk} {before after : EngineView} {failed : Type 0} (request : Request) (backup backed : Disk) (result : Result Answer Early) → IsEngineRead all_meaning old new before (but_copied before after) failed → OnOk result (failed → ⊥) → Passes backup backed
    → IfErr result (λ stop. IsCausedBeside stop old new backup backed) → (old.tells_files → IsAttached old before → IfErr result IsUndamaged) → IsSaving request old new before after backup backed result
read_saving {old} {new} {before} {after} request backup backed result read well time cause none = record {
  time = read.kept.time;
  backup_time = time;
  quiet = λ told. read.kept.said told;
  images = λ p commands holds told. stays_between read.kept holds told;
  steps = λ p w shows alone told. takes_still (saving_course request (meaning_in p) w (used_in before)).steps read.kept shows told;
  cause = cause;
  undamaged = none;
  attached = λ attached. always result (subst (λ (e : EngineView). IsAttached new e) (sym read.engine) (attached_said old new before read.kept attached));
  unbroken = on_ok_weaker result (λ none. false_from_ne_true after.broken (λ broken. none (read.broken.0 broken))) well;
}

-- The log was forced.
forced_saving : {old new : Disk} {before after : EngineView} (request : Request) → ((m : Meaning Command) (w : World Command) (used : ℕ) → force_course m w used ≡ saving_course request m w used) → (backup backed : Disk) (answer : Result ℕ Failure) (result : Result Answer Early) → HasForced all_meaning old new before after answer → OnOk result (IsFailed (ending_of_force answer) → ⊥) → Passes backup backed
    → IfErr result (λ stop. IsCausedBeside stop old new backup backed) → (old.tells_files → IsAttached old before → IfErr result IsUndamaged) → IsSaving request old new before after backup backed result
forced_saving {old} {new} {before} {after} request forcing backup backed answer result it well time cause none = record {
  time = it.call.time;
  backup_time = time;
  quiet = it.call.quiet;
  images = λ p commands holds told. images_of holds (it.commands.images told p commands (in_engine holds));
  steps = λ p w shows alone told. subst (λ (c : Course Command). TakesSome (meaning_in p) p old new w c.steps) (forcing (meaning_in p) w (used_in before)) (it.takes.steps told p w shows);
  cause = cause;
  undamaged = none;
  attached = λ attached. on_ok_weaker result (λ well. still_attached it.call well attached) well;
  unbroken = on_ok_weaker result (λ well. still_whole it.call well) well;
}

-- A call that was refused left all as it was.
module _ {A M T : Type 0} {why : BackupErr} {old new : M} {t u : T} {before after : EngineView} {call : Result A BackupErr} (r : IsRefusedSo why old new t u before after call) (done : A → Answer) where
  pub refused_along : (Q : M → EngineView → T → Result Answer Early → Type 0) → Q old before t (answer_of_backup_error why) → Q new after u (answer_of_call done call)
  refused_along Q here =
      subst (λ (x : M). Q x after u (answer_of_call done call)) (sym r.machine)
      (subst (λ (e : EngineView). Q old e u (answer_of_call done call)) (sym r.engine)
      (subst (λ (x : T). Q old before x (answer_of_call done call)) (sym r.target_is)
      (subst (λ (x : Result A BackupErr). Q old before t (answer_of_call done x)) (sym r.answer) here)))

-- what refuses a call is answered
abbrev pub IsAnswered : BackupErr → Type 0
IsAnswered (errors.InGroup size) = ⊤
IsAnswered (errors.InBackup n) = ⊤
IsAnswered errors.NoBackup = ⊤
IsAnswered errors.AlreadyStore = ⊤
IsAnswered (errors.NotCopied n) = ⊤
IsAnswered why = ⊥

pub answered_still : {d backup : Disk} {engine : EngineView} (request : Request) (why : BackupErr) → IsAnswered why → IsDisk d → engine.broken ≡ false → IsSaving request d d engine engine backup backup (answer_of_backup_error why)
answered_still {d} {backup} request (errors.InGroup size) is lawful fine = still_saving request backup backup (answer_of_backup_error (errors.InGroup size)) lawful fine (passes_none backup) tt tt
answered_still {d} {backup} request (errors.InBackup n) is lawful fine = still_saving request backup backup (answer_of_backup_error (errors.InBackup n)) lawful fine (passes_none backup) tt tt
answered_still {d} {backup} request errors.NoBackup is lawful fine = still_saving request backup backup (answer_of_backup_error errors.NoBackup) lawful fine (passes_none backup) tt tt
answered_still {d} {backup} request errors.AlreadyStore is lawful fine = still_saving request backup backup (answer_of_backup_error errors.AlreadyStore) lawful fine (passes_none backup) tt tt
answered_still {d} {backup} request (errors.NotCopied n) is lawful fine = still_saving request backup backup (answer_of_backup_error (errors.NotCopied n)) lawful fine (passes_none backup) tt tt
answered_still request errors.DiskFault is lawful fine = absurd is
answered_still request errors.TargetFault is lawful fine = absurd is
answered_still request (errors.Damaged file place) is lawful fine = absurd is
answered_still request (errors.LogFull used need limit) is lawful fine = absurd is
answered_still request errors.Memory is lawful fine = absurd is

-- How a start is judged.
pub data StartJudged (engine : EngineView) : Type 0 where
  start_barred : (size : ℕ) → IsTrue (is_some engine.group) → judge_start engine ≡ Err (errors.InGroup size) → StartJudged engine
  start_denied : (n : ℕ) → engine.group ≡ None → engine.copied ≡ Some n → judge_start engine ≡ Err (errors.InBackup n) → StartJudged engine
  start_allowed : engine.group ≡ None → engine.copied ≡ None → judge_start engine ≡ Ok tt → StartJudged engine

pub start_judged : (engine : EngineView) → StartJudged engine
start_judged engine = by_group engine.group refl
  where
    by_copied : engine.group ≡ None → (copies : Option ℕ) → engine.copied ≡ copies → StartJudged engine
    by_copied none (Some n) is = start_denied n none is (ap (λ (o : Option ℕ). unstarted (commands_since engine.parts.log.next o) engine.copied) none ∙ ap (λ (o : Option ℕ). unstarted None o) is)
    by_copied none None is = start_allowed none is (ap (λ (o : Option ℕ). unstarted (commands_since engine.parts.log.next o) engine.copied) none ∙ ap (λ (o : Option ℕ). unstarted None o) is)

    by_group : (group : Option ℕ) → engine.group ≡ group → StartJudged engine
    by_group (Some begun) some = start_barred _ (subst (λ (o : Option ℕ). IsTrue (is_some o)) (sym some) refl) (ap (λ (o : Option ℕ). unstarted (commands_since engine.parts.log.next o) engine.copied) some)
    by_group None none = by_copied none engine.copied refl

-- How any other call is judged.
pub data CopyJudged (engine : EngineView) : Type 0 where
  copy_barred : (size : ℕ) → IsTrue (is_some engine.group) → judge_copy engine ≡ Err (errors.InGroup size) → CopyJudged engine
  copy_denied : engine.group ≡ None → engine.copied ≡ None → judge_copy engine ≡ Err errors.NoBackup → CopyJudged engine
  copy_allowed : (n : ℕ) → engine.group ≡ None → engine.copied ≡ Some n → judge_copy engine ≡ Ok n → CopyJudged engine

pub copy_judged : (engine : EngineView) → CopyJudged engine
copy_judged engine = by_group engine.group refl
  where
    by_copied : engine.group ≡ None → (copies : Option ℕ) → engine.copied ≡ copies → CopyJudged engine
    by_copied none (Some n) is = copy_allowed n none is (ap (λ (o : Option ℕ). begun (commands_since engine.parts.log.next o) engine.copied) none ∙ ap (λ (o : Option ℕ). begun None o) is)
    by_copied none None is = copy_denied none is (ap (λ (o : Option ℕ). begun (commands_since engine.parts.log.next o) engine.copied) none ∙ ap (λ (o : Option ℕ). begun None o) is)

    by_group : (group : Option ℕ) → engine.group ≡ group → CopyJudged engine
    by_group (Some first) some = copy_barred _ (subst (λ (o : Option ℕ). IsTrue (is_some o)) (sym some) refl) (ap (λ (o : Option ℕ). begun (commands_since engine.parts.log.next o) engine.copied) some)
    by_group None none = by_copied none engine.copied refl

abbrev objects_in : EngineView → ℕ
objects_in engine = (params_of engine).objects

pub data FinishJudged (engine : EngineView) : Type 0 where
  finish_barred : (size : ℕ) → IsTrue (is_some engine.group) → judge_finish engine ≡ Err (errors.InGroup size) → FinishJudged engine
  finish_denied : engine.group ≡ None → engine.copied ≡ None → judge_finish engine ≡ Err errors.NoBackup → FinishJudged engine
  finish_early : (n : ℕ) → engine.group ≡ None → engine.copied ≡ Some n → n < (params_of engine).objects → judge_finish engine ≡ Err (errors.NotCopied n) → FinishJudged engine
  finish_allowed : (n : ℕ) → engine.group ≡ None → engine.copied ≡ Some n → (params_of engine).objects ≤ n → judge_finish engine ≡ Ok tt → FinishJudged engine

pub finish_judged : (engine : EngineView) → FinishJudged engine
finish_judged engine = by_group engine.group refl
  where
    by_count : engine.group ≡ None → (n : ℕ) → engine.copied ≡ Some n → (early : Bool) → nat_lt n (objects_in engine) ≡ early → FinishJudged engine
    by_count none n is true early = finish_early n none is (grind (arith, nat_tests, early)) (ap (λ (o : Option ℕ). whole (objects_in engine) (commands_since engine.parts.log.next o) engine.copied) none ∙ ap (λ (o : Option ℕ). whole (objects_in engine) None o) is
        ∙ ap (λ (t : Bool). if t then Err (errors.NotCopied n) else Ok tt) early)
    by_count none n is false late = finish_allowed n none is (grind (arith, nat_tests, late)) (ap (λ (o : Option ℕ). whole (objects_in engine) (commands_since engine.parts.log.next o) engine.copied) none ∙ ap (λ (o : Option ℕ). whole (objects_in engine) None o) is
        ∙ ap (λ (t : Bool). if t then Err (errors.NotCopied n) else Ok tt) late)

    by_copied : engine.group ≡ None → (copies : Option ℕ) → engine.copied ≡ copies → FinishJudged engine
    by_copied none (Some n) is = by_count none n is (nat_lt n (objects_in engine)) refl
    by_copied none None is = finish_denied none is (ap (λ (o : Option ℕ). whole (objects_in engine) (commands_since engine.parts.log.next o) engine.copied) none ∙ ap (λ (o : Option ℕ). whole (objects_in engine) None o) is)

    by_group : (group : Option ℕ) → engine.group ≡ group → FinishJudged engine
    by_group (Some first) some = finish_barred _ (subst (λ (o : Option ℕ). IsTrue (is_some o)) (sym some) refl) (ap (λ (o : Option ℕ). whole (objects_in engine) (commands_since engine.parts.log.next o) engine.copied) some)
    by_group None none = by_copied none engine.copied refl

-- The three calls, on every machine.
module _ {M T : Type 0} (disk : M → Disk) (other : T → Disk) (old new : M) (t u : T) (before after : EngineView) (lawful : IsDisk (disk old)) (fine : before.broken ≡ false) (time : Passes (other t) (other u)) where
  abbrev Saves : Request → Result Answer Early → Type 0
  Saves request result = IsSaving request (disk old) (disk new) before after (other t) (other u) result

  refused_saving : {A : Type 0} (request : Request) (call : Result A BackupErr) (done : A → Answer) (why : BackupErr) → IsAnswered why → IsRefusedSo why old new t u before after call → Saves request (answer_of_call done call)
  refused_saving request call done why is r = refused_along r done (λ x e y result. IsSaving request (disk old) (disk x) before e (other t) (other y) result) (answered_still {backup = other t} request why is lawful fine)

  untouched_saving : (request : Request) (result : Result Answer Early) → IsUntouched old new before after → IfErr result (λ stop. IsCausedBeside stop (disk old) (disk old) (other t) (other u)) → IfErr result IsUndamaged → Saves request result
  untouched_saving request result it cause none = subst (λ (x : M). IsSaving request (disk old) (disk x) before after (other t) (other u) result) (sym it.machine)
      (subst (λ (e : EngineView). IsSaving request (disk old) (disk old) before e (other t) (other u) result) (sym it.engine) (still_saving request (other t) (other u) result lawful fine time cause none))

  -- a start that is allowed looks for a store first, and forces the log
  start_goes : (begins none : Type 0) (call : Result (Unit {0}) BackupErr) → LooksFirst all_meaning (disk old) (disk new) before after (IsUntouched old new before after) call
      → HasStartCause begins none (Rises (disk old).disk_faults (disk new).disk_faults) (Rises (other t).disk_faults (other u).disk_faults) call → Saves (Save bstart) (answer_of_call (λ done. answers.Done) call)
  start_goes begins none (Ok done) forced cause = forced_saving (Save bstart) (λ m w used. refl) (other t) (other u) (Ok forced.0) (Ok answers.Done) forced.1 (λ failed. failed) time tt (λ told attached. tt)
  start_goes begins none (Err errors.AlreadyStore) untouched cause = untouched_saving (Save bstart) (answer_of_backup_error errors.AlreadyStore) untouched tt tt
  start_goes begins none (Err errors.DiskFault) failed cause = forced_saving (Save bstart) (λ m w used. refl) (other t) (other u) (Err failed.0) (Err DiskFault) failed.1 tt time cause.1 (λ told attached. tt)
  start_goes begins none (Err errors.TargetFault) way cause = ⊎_elim
      (λ (untouched : IsUntouched old new before after). untouched_saving (Save bstart) (Err BackupFault) untouched cause tt)
      (λ (forced : (n : ℕ) × HasForced all_meaning (disk old) (disk new) before after (Ok n)). forced_saving (Save bstart) (λ m w used. refl) (other t) (other u) (Ok forced.0) (Err BackupFault) forced.1 tt time cause (λ told attached. tt))
      way
  start_goes begins none (Err (errors.InGroup size)) way cause = absurd way
  start_goes begins none (Err (errors.InBackup n)) way cause = absurd way
  start_goes begins none (Err errors.NoBackup) way cause = absurd way
  start_goes begins none (Err (errors.NotCopied n)) way cause = absurd way
  start_goes begins none (Err (errors.Damaged file place)) way cause = absurd way
  start_goes begins none (Err (errors.LogFull used need limit)) way cause = absurd way
  start_goes begins none (Err errors.Memory) way cause = absurd way

  pub start_saving : (begins none : Type 0) (call : Result (Unit {0}) BackupErr) → IfErr (judge_start before) (λ why. IsRefusedSo why old new t u before after call)
      → IfOk (judge_start before) (λ done. LooksFirst all_meaning (disk old) (disk new) before after (IsUntouched old new before after) call)
      → IfOk (judge_start before) (λ done. HasStartCause begins none (Rises (disk old).disk_faults (disk new).disk_faults) (Rises (other t).disk_faults (other u).disk_faults) call) → Saves (Save bstart) (answer_of_call (λ done. answers.Done) call)
  start_saving begins none call refused looks cause = judged (start_judged before)
    where
      judged : StartJudged before → Saves (Save bstart) (answer_of_call (λ done. answers.Done) call)
      judged (start_barred size some is) = refused_saving (Save bstart) call (λ done. answers.Done) (errors.InGroup size) tt (subst (λ (r : Result (Unit {0}) BackupErr). IfErr r (λ why. IsRefusedSo why old new t u before after call)) is refused)
      judged (start_denied n alone copies is) = refused_saving (Save bstart) call (λ done. answers.Done) (errors.InBackup n) tt (subst (λ (r : Result (Unit {0}) BackupErr). IfErr r (λ why. IsRefusedSo why old new t u before after call)) is refused)
      judged (start_allowed alone copies is) = start_goes begins none call
          (subst (λ (r : Result (Unit {0}) BackupErr). IfOk r (λ done. LooksFirst all_meaning (disk old) (disk new) before after (IsUntouched old new before after) call)) is looks)
          (subst (λ (r : Result (Unit {0}) BackupErr). IfOk r (λ done. HasStartCause begins none (Rises (disk old).disk_faults (disk new).disk_faults) (Rises (other t).disk_faults (other u).disk_faults) call)) is cause)

  -- what a call that may find a slot damaged says of that
  never_damaged : {A : Type 0} (call : Result A BackupErr) (done : A → Answer) → ((file : FileNo) (place : ℕ) → IsErrOf call (errors.Damaged file place) → ⊥) → IfErr (answer_of_call done call) IsUndamaged
  never_damaged (Ok value) done none = tt
  never_damaged (Err (errors.InGroup size)) done none = tt
  never_damaged (Err (errors.InBackup n)) done none = tt
  never_damaged (Err errors.NoBackup) done none = tt
  never_damaged (Err errors.AlreadyStore) done none = tt
  never_damaged (Err (errors.NotCopied n)) done none = tt
  never_damaged (Err errors.DiskFault) done none = tt
  never_damaged (Err errors.TargetFault) done none = tt
  never_damaged (Err (errors.Damaged file place)) done none = none file place refl
  never_damaged (Err (errors.LogFull used need limit)) done none = tt
  never_damaged (Err errors.Memory) done none = tt

  -- why a copy fails is why the run ends
  copy_cause : (e : BackupErr) → CopyFailsBy (disk new) before after.copied (Rises (disk old).disk_faults (disk new).disk_faults) (Rises (other t).disk_faults (other u).disk_faults) e
      → IfErr (answer_of_backup_error e) (λ stop. IsCausedBeside stop (disk old) (disk new) (other t) (other u))
  copy_cause errors.DiskFault cause = cause
  copy_cause errors.TargetFault cause = cause
  copy_cause (errors.Damaged file place) cause = tt
  copy_cause errors.Memory cause = tt
  copy_cause (errors.InGroup size) cause = tt
  copy_cause (errors.InBackup n) cause = tt
  copy_cause errors.NoBackup cause = tt
  copy_cause errors.AlreadyStore cause = tt
  copy_cause (errors.NotCopied n) cause = tt
  copy_cause (errors.LogFull used need limit) cause = tt

  copy_caused : (call : Result ℕ BackupErr) → IfErr call (CopyFailsBy (disk new) before after.copied (Rises (disk old).disk_faults (disk new).disk_faults) (Rises (other t).disk_faults (other u).disk_faults))
      → IfErr (answer_of_call answers.Copied call) (λ stop. IsCausedBeside stop (disk old) (disk new) (other t) (other u))
  copy_caused (Ok n) cause = tt
  copy_caused (Err e) cause = copy_cause e cause

  -- an answer to a copy is no fault of the disk
  copy_works : (call : Result ℕ BackupErr) → OnOk (answer_of_call answers.Copied call) (IsErrOf call errors.DiskFault → ⊥)
  copy_works (Ok n) = λ failed. cc failed
  copy_works (Err (errors.InGroup size)) = λ failed. cc failed
  copy_works (Err (errors.InBackup n)) = λ failed. cc failed
  copy_works (Err errors.NoBackup) = λ failed. cc failed
  copy_works (Err errors.AlreadyStore) = λ failed. cc failed
  copy_works (Err (errors.NotCopied n)) = λ failed. cc failed
  copy_works (Err errors.DiskFault) = tt
  copy_works (Err errors.TargetFault) = tt
  copy_works (Err (errors.Damaged file place)) = tt
  copy_works (Err (errors.LogFull used need limit)) = λ failed. cc failed
  copy_works (Err errors.Memory) = tt

  -- a copy only reads
  pub copy_saving : (count : ℕ) (call : Result ℕ BackupErr) → IfErr (judge_copy before) (λ why. IsRefusedSo why old new t u before after call) → IsEngineRead all_meaning (disk old) (disk new) before (but_copied before after) (IsErrOf call errors.DiskFault)
      → ((disk old).tells_files → IsAttached (disk old) before → (file : FileNo) (place : ℕ) → IsErrOf call (errors.Damaged file place) → ⊥)
      → IfOk (judge_copy before) (λ copied. IfErr call (CopyFailsBy (disk new) before after.copied (Rises (disk old).disk_faults (disk new).disk_faults) (Rises (other t).disk_faults (other u).disk_faults))) → Saves (Save (bcopy count)) (answer_of_call answers.Copied call)
  copy_saving count call refused read none cause = judged (copy_judged before)
    where
      judged : CopyJudged before → Saves (Save (bcopy count)) (answer_of_call answers.Copied call)
      judged (copy_barred size some is) = refused_saving (Save (bcopy count)) call answers.Copied (errors.InGroup size) tt (subst (λ (r : Result ℕ BackupErr). IfErr r (λ why. IsRefusedSo why old new t u before after call)) is refused)
      judged (copy_denied alone copies is) = refused_saving (Save (bcopy count)) call answers.Copied errors.NoBackup tt (subst (λ (r : Result ℕ BackupErr). IfErr r (λ why. IsRefusedSo why old new t u before after call)) is refused)
      judged (copy_allowed n alone copies is) = read_saving (Save (bcopy count)) (other t) (other u) (answer_of_call answers.Copied call) read (copy_works call) time
          (copy_caused call (subst (λ (r : Result ℕ BackupErr). IfOk r (λ copied. IfErr call (CopyFailsBy (disk new) before after.copied (Rises (disk old).disk_faults (disk new).disk_faults) (Rises (other t).disk_faults (other u).disk_faults)))) is cause))
          (λ told attached. never_damaged call answers.Copied (none told attached))

  -- a finish that is allowed forces the log first
  finish_goes : (fault : FileNo → ℕ → Type 0) (call : Result ℕ BackupErr) → ForcesFirst all_meaning (disk old) (disk new) before after call
      → IfErr call (FinishFailsBy (Rises (disk old).disk_faults (disk new).disk_faults) (Rises (other t).disk_faults (other u).disk_faults) fault after)
      → ((disk old).tells_files → IsAttached (disk old) before → (file : FileNo) (place : ℕ) → IsErrOf call (errors.Damaged file place) → ⊥) → Saves (Save bfinish) (answer_of_call answers.Saved call)
  finish_goes fault (Ok n) forced cause none = forced_saving (Save bfinish) (λ m w used. refl) (other t) (other u) (Ok n) (Ok (answers.Saved n)) forced (λ failed. failed) time tt (λ told attached. tt)
  finish_goes fault (Err errors.DiskFault) failed cause none = forced_saving (Save bfinish) (λ m w used. refl) (other t) (other u) (Err failed.0) (Err DiskFault) failed.1 tt time cause (λ told attached. tt)
  finish_goes fault (Err errors.TargetFault) forced cause none = forced_saving (Save bfinish) (λ m w used. refl) (other t) (other u) (Ok forced.0) (Err BackupFault) forced.1 tt time cause (λ told attached. tt)
  finish_goes fault (Err (errors.Damaged file place)) forced cause none = forced_saving (Save bfinish) (λ m w used. refl) (other t) (other u) (Ok forced.0) (Err (Damaged file place)) forced.1 tt time tt (λ told attached. none told attached file place refl)
  finish_goes fault (Err (errors.LogFull used need limit)) forced cause none = forced_saving (Save bfinish) (λ m w used. refl) (other t) (other u) (Ok forced.0) (Ok (answers.Full used need limit)) forced.1 (λ failed. failed) time tt (λ told attached. tt)
  finish_goes fault (Err errors.Memory) forced cause none = forced_saving (Save bfinish) (λ m w used. refl) (other t) (other u) (Ok forced.0) (Err Memory) forced.1 tt time tt (λ told attached. tt)
  finish_goes fault (Err (errors.InGroup size)) forced cause none = absurd cause
  finish_goes fault (Err (errors.InBackup n)) forced cause none = absurd cause
  finish_goes fault (Err errors.NoBackup) forced cause none = absurd cause
  finish_goes fault (Err errors.AlreadyStore) forced cause none = absurd cause
  finish_goes fault (Err (errors.NotCopied n)) forced cause none = absurd cause

  pub finish_saving : (fault : FileNo → ℕ → Type 0) (call : Result ℕ BackupErr) → IfErr (judge_finish before) (λ why. IsRefusedSo why old new t u before after call)
      → IfOk (judge_finish before) (λ done. ForcesFirst all_meaning (disk old) (disk new) before after call)
      → IfOk (judge_finish before) (λ done. IfErr call (FinishFailsBy (Rises (disk old).disk_faults (disk new).disk_faults) (Rises (other t).disk_faults (other u).disk_faults) fault after))
      → ((disk old).tells_files → IsAttached (disk old) before → (file : FileNo) (place : ℕ) → IsErrOf call (errors.Damaged file place) → ⊥) → Saves (Save bfinish) (answer_of_call answers.Saved call)
  finish_saving fault call refused forces cause none = judged (finish_judged before)
    where
      judged : FinishJudged before → Saves (Save bfinish) (answer_of_call answers.Saved call)
      judged (finish_barred size some is) = refused_saving (Save bfinish) call answers.Saved (errors.InGroup size) tt (subst (λ (r : Result (Unit {0}) BackupErr). IfErr r (λ why. IsRefusedSo why old new t u before after call)) is refused)
      judged (finish_denied alone copies is) = refused_saving (Save bfinish) call answers.Saved errors.NoBackup tt (subst (λ (r : Result (Unit {0}) BackupErr). IfErr r (λ why. IsRefusedSo why old new t u before after call)) is refused)
      judged (finish_early n alone copies low is) = refused_saving (Save bfinish) call answers.Saved (errors.NotCopied n) tt (subst (λ (r : Result (Unit {0}) BackupErr). IfErr r (λ why. IsRefusedSo why old new t u before after call)) is refused)
      judged (finish_allowed n alone copies high is) = finish_goes fault call
          (subst (λ (r : Result (Unit {0}) BackupErr). IfOk r (λ done. ForcesFirst all_meaning (disk old) (disk new) before after call)) is forces)
          (subst (λ (r : Result (Unit {0}) BackupErr). IfOk r (λ done. IfErr call (FinishFailsBy (Rises (disk old).disk_faults (disk new).disk_faults) (Rises (other t).disk_faults (other u).disk_faults) fault after))) is cause) none

-- within a group nothing is done
none_inside : {group : Option ℕ} → group ≡ None → IsTrue (is_some group) → ⊥
none_inside none some = cc (subst (λ (o : Option ℕ). IsTrue (is_some o)) none some)

module _ {A M T : Type 0} (old new : M) (t u : T) (before after : EngineView) (call : Result A BackupErr) (inside : IsTrue (is_some before.group)) where
  pub start_inside : IfErr (judge_start before) (λ why. IsRefusedSo why old new t u before after call) → new ≡ old
  start_inside refused = judged (start_judged before)
    where
      judged : StartJudged before → new ≡ old
      judged (start_barred size some is) = (subst (λ (r : Result (Unit {0}) BackupErr). IfErr r (λ why. IsRefusedSo why old new t u before after call)) is refused).machine
      judged (start_denied n alone copies is) = absurd (none_inside alone inside)
      judged (start_allowed alone copies is) = absurd (none_inside alone inside)

  pub copy_inside : IfErr (judge_copy before) (λ why. IsRefusedSo why old new t u before after call) → new ≡ old
  copy_inside refused = judged (copy_judged before)
    where
      judged : CopyJudged before → new ≡ old
      judged (copy_barred size some is) = (subst (λ (r : Result ℕ BackupErr). IfErr r (λ why. IsRefusedSo why old new t u before after call)) is refused).machine
      judged (copy_denied alone copies is) = absurd (none_inside alone inside)
      judged (copy_allowed n alone copies is) = absurd (none_inside alone inside)

  pub finish_inside : IfErr (judge_finish before) (λ why. IsRefusedSo why old new t u before after call) → new ≡ old
  finish_inside refused = judged (finish_judged before)
    where
      judged : FinishJudged before → new ≡ old
      judged (finish_barred size some is) = (subst (λ (r : Result (Unit {0}) BackupErr). IfErr r (λ why. IsRefusedSo why old new t u before after call)) is refused).machine
      judged (finish_denied alone copies is) = absurd (none_inside alone inside)
      judged (finish_early n alone copies low is) = absurd (none_inside alone inside)
      judged (finish_allowed n alone copies high is) = absurd (none_inside alone inside)
