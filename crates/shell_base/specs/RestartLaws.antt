-- What the opening of a store says of the files.
use Rattle.std.proofs.Common.{◌≡◌, ◌≢◌, ◌⊎◌, Err, inr, ⊎_elim, ◌∙◌, ◌++◌, List, [], ◌∷◌, ℕ, refl, ap, sym, subst, arith, length, take, drop, false, Option, None}
use Rattle.std.specs.Prelude.{IfSome}
use Rattle.std.proofs.lemmas.List.{append-nil, length-append, take-append-drop}
use Rattle.disk_model.specs.Disk.{Files, Disk, Passes, Stays}
use Rattle.disk_model.specs.declared.machine.FileNo.TheVariants.{Objects}
use Rattle.stable_objects.specs.Laws.{begins_store}
use Rattle.disk_model.specs.declared.machine.FileNo.{FileNo}
use Rattle.formats.specs.Objects.{BeginsStore}
use Rattle.formats.specs.Image.{EndsAt}
use Rattle.formats.specs.declared.params.Params.{Params}
use Rattle.op_codec.specs.AllOps.{all_meaning}
use Rattle.explain_core.specs.History.{Member, commands_of}
use Rattle.explain_core.specs.StableLaws.{commands_of-append}
use Rattle.explain_core.specs.World.{World, run, step}
use Rattle.running_store.specs.Parts.{Shows}
use Rattle.running_store.specs.Taking.{IsAfter}
use Rattle.stable_objects.specs.Reading.{IsNoDamage}
use Rattle.restart.specs.Courses.{restart_course}
use Rattle.restart.specs.Damage.{IsReported}
use Rattle.restart.specs.Opening.{IsJudged, IsOpening, OpensOn}
use Rattle.restart.specs.Reopened.{IsReopened}
use Rattle.stable_objects.specs.declared.open_err.OpenErr.{OpenErr}
use Rattle.stable_objects.specs.declared.open_err.OpenErr.TheVariants.{NotAStore, Damaged, Memory}
use Rattle.standing.specs.Standing.{IsFound}
use Rattle.store_engine.specs.Engine.{EngineView}
use Rattle.store_engine.specs.Engine as of_engine
use Rattle.store_engine.specs.Grouping.{ungrouped_alone}
use Rattle.shell_base.specs.declared.status.Status.{Status}
use Rattle.shell_base.specs.declared.status.Status.TheVariants.{Done, DoneWithRefusals, ReadFault, TooLong, AlreadyTwo, Smaller, BackupFault, Gone, BadStream, StandbyFull, NotAStore as NoStore, Damaged as FilesDamaged, DiskFault as DiskFailed, SayFault, Memory as OutOfMemory}
use Rattle.shell_base.specs.Status.{IsOfStore, IsOfUnopened, LacksMemory}
use Rattle.shell_base.specs.Keeps.{KeepsFiles}
use Rattle.shell_base.specs.Notices.{damaged, not_a_store}
use Rattle.shell_base.specs.Open.{HandsOn, IsUnopened}
use Rattle.shell_base.specs.declared.budget.Budget.{Budget}
use Rattle.shell_base.specs.First.{Stage, IsFirst, marks_of, stage_of}
use Rattle.shell_base.specs.Store.{Command, meaning_in, IsWellFormed, Opens, Holds, Says, ShowsIn}
use Rattle.shell_base.specs.HoldLaws.{holds_of, rises_within}
use Rattle.shell_base.specs.KeepLaws.{keeps_behind}

-- where no store was opened the script is not read, and a run or a dump may end so
pub unopened_reads_none : (status : Status) → IsOfUnopened status → IsOfStore status → ⊥
unopened_reads_none Done of is = of
unopened_reads_none DoneWithRefusals of is = of
unopened_reads_none ReadFault of is = of
unopened_reads_none TooLong of is = of
unopened_reads_none AlreadyTwo of is = of
unopened_reads_none Smaller of is = of
unopened_reads_none BackupFault of is = of
unopened_reads_none Gone of is = of
unopened_reads_none BadStream of is = of
unopened_reads_none StandbyFull of is = of
unopened_reads_none status of is = is

-- a world that the files show, with these commands, and the length of their log
abbrev pub Starts : Params → Disk → List Command → Type 0
Starts p old commands = (used : ℕ) × (w : World Command) × IsFound (meaning_in p) p old.reads commands w × EndsAt old.reads used

-- the stage that a restart makes of it
abbrev pub first_of : {budget : Budget} {p : Params} {old : Disk} {commands : List Command} → Opens p old commands → Starts p old commands → (first : Stage) × IsFirst budget p commands old first
first_of {budget} {p} {old} {commands} opens starts =
    let course = restart_course (meaning_in p) (marks_of budget p) starts.1 starts.0 in
    let found : OpensOn (meaning_in p) p old starts.0 starts.1 = record { told = opens.told; sound = starts.2.sound; shows = starts.2.shows; ends = starts.3 } in (
      record { world = run (meaning_in p) starts.1 course.steps; used = course.used; identities = 0; copied = None },
      record { used = starts.0; world = starts.1; found = found; commands_are = starts.2.commands_are; world_is = refl; used_is = refl; none_logged = refl; none_copied = refl },
    )

-- its commands are those of the files
pub first_commands : {budget : Budget} {p : Params} {old : Disk} {commands : List Command} (opens : Opens p old commands) (starts : Starts p old commands) → IsReopened (meaning_in p) starts.1 (run (meaning_in p) starts.1 (restart_course (meaning_in p) (marks_of budget p) starts.1 starts.0).steps)
    → (first : Stage) × IsFirst budget p commands old first × (commands_of first.world.history ≡ commands)
unfolding step
first_commands opens starts reopened =
    let first = first_of opens starts in
    (first.0, first.1, reopened.commands ∙ ap (λ (w : World Command). commands_of w.history) starts.2.crashed ∙ starts.2.commands_are)

-- a front that is as long as the whole is the whole
whole_front : (a b whole : List Command) → a ++ b ≡ whole → length a ≡ length whole → a ≡ whole
whole_front a [] whole is same = sym (append-nil a) ∙ is
whole_front a (x ∷ b) whole is same =
    let both = length-append a (x ∷ b) in
    let long = ap length is in
    absurd (omega (arith, both, long, same))

-- so the commands of a front of a history are all of them, where they are as many
all_in_front : (n : ℕ) (h : List (Member Command)) (commands : List Command) → commands_of h ≡ commands → length (commands_of (take n h)) ≡ length commands → commands_of (take n h) ≡ commands
all_in_front n h commands is same =
    let split : commands_of (take n h) ++ commands_of (drop n h) ≡ commands_of h = sym (commands_of-append (take n h) (drop n h)) ∙ ap (λ (l : List (Member Command)). commands_of l) (take-append-drop n h) in
    whole_front (commands_of (take n h)) (commands_of (drop n h)) commands (split ∙ is) same

-- the world that a restart makes of files that stand for commands
abbrev pub restarted : {budget : Budget} {p : Params} {commands : List Command} {old : Disk} {first : Stage} → IsFirst budget p commands old first → World Command
restarted {budget} {p} is = run (meaning_in p) is.world (restart_course (meaning_in p) (marks_of budget p) is.world is.used).steps

-- where no group is open an engine shows what its parts show
pub shown_alone : {p : Params} {d : Disk} {engine : EngineView} {w : World Command} → engine.broken ≡ false → engine.group ≡ None → Shows (meaning_in p) p d engine.parts w → ShowsIn p d engine w
shown_alone {p} {d} {engine} {w} unbroken alone shows = record {
  unbroken = unbroken;
  sound = shows.running.sound;
  group = shows.running.alone ∙ sym alone;
  shows = subst (λ (v : World Command). Shows (meaning_in p) p d engine.parts v) (sym (ungrouped_alone w shows.running.alone)) shows;
  no_checkpoint = subst (λ (group : Option ℕ). IfSome group (λ begun. w.pending ≡ [])) (sym alone) tt;
}

-- The engine that was opened shows each first stage: of the commands of that world no fewer are stable than the engine has
-- accepted, so all of them are.
pub shows_first : {budget : Budget} {p : Params} {old new : Disk} {engine : EngineView} {commands : List Command} (first : Stage) (is : IsFirst budget p commands old first) → engine.broken ≡ false → engine.group ≡ None → engine.copied ≡ None → engine.identities ≡ 0
    → IsAfter (meaning_in p) p new engine.parts is.world (restart_course (meaning_in p) (marks_of budget p) is.world is.used)
    → IsReopened (meaning_in p) is.world (restarted is) → of_engine.Holds all_meaning p new engine commands
    → ((others : List Command) → of_engine.Holds all_meaning p new engine others → Says p new engine others)
    → (holds : Holds p new engine commands) × (first ≡ stage_of engine holds.world)
shows_first {budget} {p} {old} {new} {engine} {commands} first is unbroken alone uncopied none after reopened holds says =
    let shown = shown_alone unbroken alone after.shows in
    let mine : of_engine.Holds all_meaning p new engine (commands_of (restarted is).history) = record { world = restarted is; shows = shown; commands_are = refl } in
    let many : length (commands_of (restarted is).history) ≡ length commands = sym (says (commands_of (restarted is).history) mine).accepted ∙ (says commands holds).accepted in
    let front = all_in_front is.world.forced is.world.history commands is.commands_are (ap length (sym reopened.commands) ∙ many) in (
      holds_of (record { world = restarted is; shows = shown; commands_are = reopened.commands ∙ front }) (says commands),
      λ i. record { world = is.world_is i; used = (is.used_is ∙ sym after.used) i; identities = (is.none_logged ∙ sym none) i; copied = (is.none_copied ∙ sym uncopied) i },
    )

-- files that do not meet their format are left as they are
pub stays_unless : {P : Type 0} {old new : Disk} → P ⊎ Stays old new → (P → ⊥) → Stays old new
stays_unless kept none = ⊎_elim (λ is. absurd (none is)) (λ stays. stays) kept

pub no_damage : (cause : OpenErr) → IsNoDamage cause → cause ≢ NotAStore
no_damage cause none is = subst (λ (e : OpenErr). IsNoDamage e) is none

pub not_damaged : (cause : OpenErr) {file : FileNo} {place : ℕ} → cause ≡ Damaged file place → IsNoDamage cause → ⊥
not_damaged cause is none = subst (λ (e : OpenErr). IsNoDamage e) is none

-- files that meet their format begin a store
pub image_begins : {files : Files} → IsWellFormed files → BeginsStore (files Objects)
image_begins {files} image = begins_store image.params (files Objects) image.objects

-- How a call ends that found no store to open for this cause.
pub record EndsUnopened (old new : Disk) (cause : OpenErr) (status : Status) : Type 0 where
  pub time : Passes old new
  pub keeps : KeepsFiles old new
  pub no_store : old.tells_files → status ≡ NoStore → (cause ≡ NotAStore) × (new.said ≡ old.said ++ not_a_store)
  pub damaged : old.tells_files → status ≡ FilesDamaged → (file : FileNo) × (place : ℕ) × (cause ≡ Damaged file place) × (new.said ≡ old.said ++ damaged file place)
  pub read : status ≡ NoStore → (cause ≡ NotAStore) × ((files : Files) → new.agrees files → old.agrees files)
  pub quiet : cause ≢ NotAStore → IsNoDamage cause → (new.said ≡ old.said) × (status ≢ NoStore) × (status ≢ FilesDamaged) × (status ≢ SayFault) × (status ≢ OutOfMemory)
  pub silent : (status ≡ DiskFailed) ⊎ LacksMemory status → new.said ≡ old.said
  pub ends : IsOfUnopened status
  pub faults : HandsOn cause old new status
  pub memory : LacksMemory status → (cause ≡ Memory) ⊎ ((file : FileNo) × (place : ℕ) × (cause ≡ Damaged file place))

-- why no store was opened
pub unopened_so : {old mid new : Disk} {cause : OpenErr} {status : Status} → IsOpening all_meaning old mid (Err cause) → (old.tells_files → IsJudged all_meaning old mid (Err cause)) → IsReported all_meaning old mid (Err cause)
    → EndsUnopened mid new cause status → IsUnopened old new status
unopened_so {old} {mid} {new} {cause} {status} opening judges reported it = record {
  ends = it.ends;
  judged = λ told.
      let told_mid = opening.time.files_told.0 told in
      let judged = judges told in
      record {
        no_store = λ is.
            let said = it.no_store told_mid is in
            let stays = stays_unless judged.kept (λ image. no_damage cause (judged.whole image) said.0) in
            (judged.no_store (cc (said.0)), it.keeps.reads told_mid ∙ stays.reads told, said.1 ∙ ap (λ (l : List ℕ). l ++ not_a_store) (opening.quiet told));
        damaged = λ is.
            let said = it.damaged told_mid is in
            let stays = stays_unless judged.kept (λ image. not_damaged cause said.2 (judged.whole image)) in (
              said.0,
              said.1,
              judged.damaged said.0 said.1 (cc (said.2)),
              it.keeps.reads told_mid ∙ stays.reads told,
              said.3 ∙ ap (λ (l : List ℕ). l ++ damaged said.0 said.1) (opening.quiet told),
            );
        store = λ image. let whole = judged.whole image in let quiet = it.quiet (no_damage cause whole) whole in (quiet.1, quiet.2);
        opened = λ of. absurd (unopened_reads_none status it.ends of);
        keeps = λ broken. keeps_behind old mid new (stays_unless judged.kept broken) it.keeps;
        memory = λ is. ⊎_elim (λ e. judged.memory (cc e)) (λ broken. (judged.damaged broken.0 broken.1 (cc (broken.2))).gate) (it.memory is);
        silent = λ broken is. it.silent is ∙ opening.quiet told;
        unopened = λ is. it.silent (inr (subst LacksMemory (sym is) tt)) ∙ opening.quiet told;
      };
  read = λ is files agrees. let said = it.read is in reported.no_store (cc (said.0)) files (said.1 files agrees);
  quiet = λ told image. let whole = (judges told).whole image in let quiet = it.quiet (no_damage cause whole) whole in (quiet.3, quiet.4);
  faults = record {
    disk = λ is. rises_within _ _ _ _ (omega arith) it.time.disk_faults (opening.fault (cc (it.faults.disk is)));
    output = λ is. rises_within _ _ _ _ opening.time.say_faults (omega arith) (it.faults.output is);
  };
}
