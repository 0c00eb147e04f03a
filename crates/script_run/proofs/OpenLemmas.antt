-- A run from before the store was opened.
use Rattle.std.proofs.Common.{◌≡◌, ◌≢◌, ◌⊎◌, inl, inr, ⊎_elim, List, ℕ, length, None, sym, subst, arith, Bool, Result, Ok, Err, IfOk}
use Rattle.disk_model.specs.Disk.{Files, Disk, IsDisk, Passes, LeavesOnly}
use Rattle.disk_model.specs.Moments.{runs_on, weaker}
use Rattle.formats.specs.declared.params.Params.{Params}
use Rattle.restart.specs.Starts.{OrAtStart, or_weaker, from_settled}
use Rattle.store_engine.specs.Engine.{EngineView, InEachImage}
use Rattle.shell_base.specs.Store.{Command, IsWellFormed, Stands, Opens, Holds, Between}
use Rattle.shell_base.specs.First.{Stage, IsFirst, stage_of, OpeningMoment}
use Rattle.shell_base.specs.Open.{OpensFiles, IsOpen, IsUnopened}
use Rattle.shell_base.specs.Status.{status_of, status_after, IsCut, IsOfUnopened, IsOfOpened, IsOfRun}
use Rattle.shell_base.specs.declared.budget.Budget.{Budget}
use Rattle.shell_base.specs.declared.status.Status.{Status}
use Rattle.shell_base.specs.declared.status.Status.TheVariants.{Done, DoneWithRefusals, NotAStore, Damaged, Usage, AlreadyStore, AlreadyTwo, Smaller, Gone, BadStream, StandbyFull}
use Rattle.shell_base.specs.declared.stop.Stop.{Stop}
use Rattle.shell_base.specs.declared.stop.Stop.TheVariants.{DiskFault, Damaged as SlotDamaged, ReadFault, SayFault, BackupFault, Memory, TooLong}
use Rattle.shell_base.specs.OpeningLaws.{OpensSo, opening_failed, start_refused}
use Rattle.script_run.specs.declared.tending.Tending.{Tending}
use Rattle.script_run.specs.Answers.{Moment}
use Rattle.script_run.specs.RunCalls.{IsRunOn}
use Rattle.script_run.specs.Courses.{RunMoment, StageMoment}
use Rattle.script_run.specs.Run.{IsRun, IsComplete, MomentSoFar}
use Rattle.script_run.specs.Saving.{IsBackedUp}
use Rattle.script_run.specs.StartLaws.{AreFew, first_moment, start_so_far, says_from, complete_from, says_nothing}

-- so it is a moment of the run, at which no group is open
opening_so_far : AreFew → {p : Params} {start mid : Disk} {commands : List Command} (script : List (List ℕ)) → OpensSo p start mid commands → start.tells_moments
    → LeavesOnly start mid (OrAtStart start (MomentSoFar p commands script start.said))
opening_so_far few {p} {start} {mid} {commands} script opening told =
    or_weaker start mid (Between p start None (length commands) (length commands) commands) (MomentSoFar p commands script start.said) (opening told) (λ f s b. first_moment few script f s b)

pub opening_images : AreFew → {p : Params} {start mid : Disk} {commands : List Command} (script : List (List ℕ)) → OpensSo p start mid commands → start.tells_moments
    → LeavesOnly start mid (OrAtStart start (Moment p commands script start.said))
opening_images few {p} {start} {mid} {commands} script opening told =
    or_weaker start mid (MomentSoFar p commands script start.said) (Moment p commands script start.said) (opening_so_far few script opening told) (λ f s m. m.is)

pub start_moment : AreFew → {p : Params} (start : Disk) {commands : List Command} (script : List (List ℕ)) → Stands p start.reads commands → Moment p commands script start.said start.reads start.said
start_moment few start script stands = (start_so_far few start script start.reads stands).is

-- then the script is answered
pub run_images : AreFew → {tending : Tending} {p : Params} {first : Stage} {start mid new : Disk} {commands : List Command} (script : List (List ℕ)) {status : Status} → OpensSo p start mid commands → Passes start mid → mid.said ≡ start.said
    → IsRun tending p first mid new commands script status
    → start.tells_moments → LeavesOnly start new (OrAtStart start (Moment p commands script start.said))
run_images few {tending} {p} {first} {start} {mid} {new} {commands} script opening time quiet run told =
    runs_on start mid new (OrAtStart start (Moment p commands script start.said)) (opening_images few script opening told)
    (weaker mid new (Moment p commands script start.said) (OrAtStart start (Moment p commands script start.said))
    (subst (λ (s : List ℕ). LeavesOnly mid new (Moment p commands script s)) quiet (run.images (time.moments_told.0 told))) (λ f s m. inr m))

-- where it was cut short nothing of an open group is stable
run_unclosed : AreFew → {p : Params} {start mid new : Disk} {commands : List Command} (script : List (List ℕ)) → OpensSo p start mid commands → mid.said ≡ start.said → LeavesOnly mid new (MomentSoFar p commands script mid.said)
    → start.tells_moments → LeavesOnly start new (OrAtStart start (MomentSoFar p commands script start.said))
run_unclosed few {p} {start} {mid} {new} {commands} script opening quiet leaves told =
    runs_on start mid new (OrAtStart start (MomentSoFar p commands script start.said)) (opening_so_far few script opening told)
    (weaker mid new (MomentSoFar p commands script start.said) (OrAtStart start (MomentSoFar p commands script start.said))
    (subst (λ (s : List ℕ). LeavesOnly mid new (MomentSoFar p commands script s)) quiet leaves) (λ f s m. inr m))

-- a status that reports an early end is none of a whole run
not_early : (stop : Stop) → (status_of stop ≡ Done) ⊎ (status_of stop ≡ DoneWithRefusals) → ⊥
not_early DiskFault is = ⊎_elim (λ (e : status_of DiskFault ≡ Done). cc) (λ (e : status_of DiskFault ≡ DoneWithRefusals). cc) is
not_early (SlotDamaged file place) is = ⊎_elim (λ (e : status_of (SlotDamaged file place) ≡ Done). cc) (λ (e : status_of (SlotDamaged file place) ≡ DoneWithRefusals). cc) is
not_early ReadFault is = ⊎_elim (λ (e : status_of ReadFault ≡ Done). cc) (λ (e : status_of ReadFault ≡ DoneWithRefusals). cc) is
not_early SayFault is = ⊎_elim (λ (e : status_of SayFault ≡ Done). cc) (λ (e : status_of SayFault ≡ DoneWithRefusals). cc) is
not_early BackupFault is = ⊎_elim (λ (e : status_of BackupFault ≡ Done). cc) (λ (e : status_of BackupFault ≡ DoneWithRefusals). cc) is
not_early Memory is = ⊎_elim (λ (e : status_of Memory ≡ Done). cc) (λ (e : status_of Memory ≡ DoneWithRefusals). cc) is
not_early TooLong is = ⊎_elim (λ (e : status_of TooLong ≡ Done). cc) (λ (e : status_of TooLong ≡ DoneWithRefusals). cc) is

pub run_completes : {tending : Tending} {p : Params} {first : Stage} (start new : Disk) {commands : List Command} {script : List (List ℕ)} (outcome : Result Bool Stop) (status : Status) → status ≡ status_after outcome
    → IfOk outcome (λ refusing. IsComplete tending p first start new commands script (status_after (Ok refusing))) → (status ≡ Done) ⊎ (status ≡ DoneWithRefusals) → IsComplete tending p first start new commands script status
run_completes {tending} {p} {first} start new {commands} {script} (Ok refusing) status is all done = subst (λ (s : Status). IsComplete tending p first start new commands script s) (sym is) all
run_completes start new (Err stop) status is all done = absurd (not_early stop (subst (λ (s : Status). (s ≡ Done) ⊎ (s ≡ DoneWithRefusals)) is done))

-- it ended with the status that reports it
pub run_ends : {tending : Tending} {p : Params} {first : Stage} (start new : Disk) {commands : List Command} {script : List (List ℕ)} (outcome : Result Bool Stop) (status : Status) → status ≡ status_after outcome
    → IsRun tending p first start new commands script (status_after outcome) → IsRun tending p first start new commands script status
run_ends {tending} {p} {first} start new {commands} {script} outcome status is run = subst (λ (s : Status). IsRun tending p first start new commands script s) (sym is) run

-- each image at the end of calls is one at a moment of them
ends_behind : (At : List ℕ → Files → List ℕ → Type 0) (old mid new : Disk) → IsDisk new → Passes mid new → mid.said ≡ old.said → mid.tells_moments → LeavesOnly mid new (At mid.said) → InEachImage new (λ files. At old.said files new.said)
ends_behind At old mid new lawful time quiet told leaves =
    let image : (files : Files) (said : List ℕ) → new.left_since new.clock files said → At old.said files new.said
    = λ files said left.
    let same : said ≡ new.said = lawful.said_now (time.moments_told.0 told) files said left in
    let here : At mid.said files said = leaves.each files said (lawful.among mid.clock new.clock files said time.later (omega arith) left) in
    subst (λ (l : List ℕ). At l files new.said) quiet (subst (λ (l : List ℕ). At mid.said files l) same here) in
    (image new.reads new.said (lawful.as_read (time.moments_told.0 told)), λ told_new. image)

-- what is done at each moment, after the opening by the courses of the lines
run_steps : {budget : Budget} {tending : Tending} {p : Params} {first : Stage} {old mid new : Disk} {commands : List Command} (script : List (List ℕ)) {status : Status} → OpensFiles budget p commands old mid → Passes old mid → IsRun tending p first mid new commands script status
    → old.tells_moments → (is : IsFirst budget p commands old first) → LeavesOnly old new (OrAtStart old (RunMoment tending budget p commands old first is script))
run_steps {budget} {tending} {p} {first} {old} {mid} {new} {commands} script files before run told is =
    runs_on old mid new (OrAtStart old (RunMoment tending budget p commands old first is script))
    (or_weaker old mid (OpeningMoment budget p commands old first is) (RunMoment tending budget p commands old first is script) (files.steps told first is) (λ f s here. inl here))
    (weaker mid new (StageMoment tending p first script old.said) (OrAtStart old (RunMoment tending budget p commands old first is script))
    (subst (λ (s : List ℕ). LeavesOnly mid new (StageMoment tending p first script s)) files.quiet (run.steps (before.moments_told.0 told))) (λ f s m. inr (inr m)))

-- what a run on an open store says, from this stage
abbrev pub RunsFrom : Tending → Params → List Command → List (List ℕ) → Disk → Disk → Status → Stage → Type 0
RunsFrom tending p commands script mid new status first = IsRun tending p first mid new commands script status × ((status ≡ Done) ⊎ (status ≡ DoneWithRefusals) → IsComplete tending p first mid new commands script status)

-- so from each stage that the opening has
pub runs_from_each : {budget : Budget} {tending : Tending} {p : Params} {commands : List Command} {old mid : Disk} {engine : EngineView} (script : List (List ℕ)) (new : Disk) (status : Status) → IsOpen budget p commands old mid engine
    → ((holds : Holds p mid engine commands) → RunsFrom tending p commands script mid new status (stage_of engine holds.world)) → (first : Stage) → IsFirst budget p commands old first → RunsFrom tending p commands script mid new status first
runs_from_each {budget} {tending} {p} {commands} {old} {mid} script new status opened runs first is =
    let shown = opened.shows first is in
    subst (λ (s : Stage). RunsFrom tending p commands script mid new status s) (sym shown.1) (runs shown.0)

-- a run on files that stand for commands, from before they were opened
pub run_on : AreFew → {budget : Budget} {tending : Tending} {p : Params} (old mid new : Disk) {commands : List Command} (script : List (List ℕ)) (status : Status) → IsDisk old → IsDisk new → Opens p old commands → OpensFiles budget p commands old mid → Passes old mid → Passes mid new
    → ((first : Stage) → IsFirst budget p commands old first → RunsFrom tending p commands script mid new status first) → (status ≢ NotAStore) × (status ≢ Damaged) → IsOfOpened status → IsRunOn tending budget p commands script old new status
run_on few {budget} {tending} {p} old mid new {commands} script status lawful ends opens files before time runs store fine =
    let begun : IsRun tending p files.first.0 mid new commands script status = (runs files.first.0 files.first.1).0 in
    let images : old.tells_moments → LeavesOnly old new (OrAtStart old (Moment p commands script old.said)) = run_images few script files.images before files.quiet begun in
    let unclosed : old.tells_moments → IsCut status → LeavesOnly old new (OrAtStart old (MomentSoFar p commands script old.said))
    = λ told cut. run_unclosed few script files.images files.quiet (begun.unclosed cut (before.moments_told.0 told)) told in
    record {
      images = images;
      from_settled = λ told settled. from_settled old new (Moment p commands script old.said) lawful told settled (start_moment few old script opens.stands) (images told);
      opened = λ told disk memory. ends_behind (Moment p commands script) old mid new ends time files.quiet (before.moments_told.0 told) (begun.images (before.moments_told.0 told));
      unclosed = unclosed;
      unclosed_from_settled = λ told settled cut. from_settled old new (MomentSoFar p commands script old.said) lawful told settled (start_so_far few old script old.reads opens.stands) (unclosed told cut);
      unclosed_now = λ told cut memory. ends_behind (MomentSoFar p commands script) old mid new ends time files.quiet (before.moments_told.0 told) (begun.unclosed cut (before.moments_told.0 told));
      first = files.first;
      answers = λ first is. says_from lawful files.images before files.quiet (runs first is).0.says;
      steps = λ told first is. run_steps script files before (runs first is).0 told is;
      complete = λ first is done. complete_from files.quiet ((runs first is).1 done);
      unopened = λ told is. absurd (subst IsOfOpened is fine);
      store = store;
    }

-- a run that ended where no store was opened
pub not_done : (status : Status) → IsOfUnopened status → (status ≡ Done) ⊎ (status ≡ DoneWithRefusals) → ⊥
not_done status of done = ⊎_elim
    (λ (is : status ≡ Done). subst (λ (s : Status). IsOfUnopened s) is of)
    (λ (is : status ≡ DoneWithRefusals). subst (λ (s : Status). IsOfUnopened s) is of)
    done

pub run_unopened : AreFew → {budget : Budget} {tending : Tending} {p : Params} (old mid : Disk) {commands : List Command} (script : List (List ℕ)) (status : Status) → IsDisk old → Opens p old commands → OpensFiles budget p commands old mid → Passes old mid
    → IsWellFormed old.reads → IsUnopened old mid status → IsRunOn tending budget p commands script old mid status
run_unopened few {budget} {tending} {p} old mid {commands} script status lawful opens files before image unopened =
    let images : old.tells_moments → LeavesOnly old mid (OrAtStart old (Moment p commands script old.said)) = opening_images few script files.images in
    let store : (status ≢ NotAStore) × (status ≢ Damaged) = (unopened.judged opens.told).store image in
    record {
      images = images;
      from_settled = λ told settled. from_settled old mid (Moment p commands script old.said) lawful told settled (start_moment few old script opens.stands) (images told);
      opened = λ told disk memory. absurd (opening_failed status unopened.ends store (unopened.quiet opens.told image) disk memory);
      unclosed = λ told cut. opening_so_far few script files.images told;
      unclosed_from_settled = λ told settled cut. from_settled old mid (MomentSoFar p commands script old.said) lawful told settled (start_so_far few old script old.reads opens.stands) (opening_so_far few script files.images told);
      unclosed_now = λ told cut memory. absurd (opening_failed status unopened.ends store (unopened.quiet opens.told image) (λ is. subst IsCut is cut) memory);
      first = files.first;
      answers = λ first is. says_nothing script before files.quiet;
      steps = λ told first is. or_weaker old mid (OpeningMoment budget p commands old first is) (RunMoment tending budget p commands old first is script) (files.steps told first is) (λ f s here. inl here);
      complete = λ first is done. absurd (not_done status unopened.ends done);
      unopened = λ told is. start_refused p commands files told;
      store = store;
    }

-- What was made of the backup, from before the store was opened.
module _ {T : Type 0} (disk : T → Disk) {before after : T} {tending : Tending} {p : Params} {commands : List Command} {script : List (List ℕ)} {old mid : Disk} where
  pub backed_from : {budget : Budget} {first : Stage} {new : Disk} → IsDisk old → OpensFiles budget p commands old mid → Passes old mid → IsBackedUp tending disk p first commands script mid new before after → IsBackedUp tending disk p first commands script old new before after
  backed_from lawful files time b = record { truly = says_from lawful files.images time files.quiet b.truly; passes = b.passes; says = b.says }

  -- from each stage that the opening has
  pub backed_each : {budget : Budget} {new : Disk} {engine : EngineView} → IsOpen budget p commands old mid engine → ((holds : Holds p mid engine commands) → IsBackedUp tending disk p (stage_of engine holds.world) commands script mid new before after)
      → (first : Stage) → IsFirst budget p commands old first → IsBackedUp tending disk p first commands script mid new before after
  backed_each {budget} {new} opened runs first is =
      let shown = opened.shows first is in
      subst (λ (s : Stage). IsBackedUp tending disk p s commands script mid new before after) (sym shown.1) (runs shown.0)

pub unopened_run : (status : Status) → IsOfUnopened status → IsOfRun status
unopened_run Usage of = of
unopened_run AlreadyStore of = of
unopened_run AlreadyTwo of = of
unopened_run Smaller of = of
unopened_run Gone of = of
unopened_run BadStream of = of
unopened_run StandbyFull of = of
unopened_run status of = tt
