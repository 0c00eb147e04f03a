-- Upkeep before a line is read.
use Rattle.std.proofs.Common.{◌≡◌, ◌∙◌, ap, refl, sym, subst, arith, inl, inr, ⊎_elim, ◌⊎◌, ◌+◌, ℕ, List, [], length, Option, None, Some, false, Result, Ok, Err}
use Rattle.std.specs.Prelude.{IfOk, IfSome, IsTrue}
use Rattle.std.specs.Option.{is_some}
use Rattle.disk_model.specs.Disk.{Disk, IsDisk, LeavesOnly, Rises}
use Rattle.disk_model.specs.Moments.{passes_none, started}
use Rattle.disk_model.specs.Silent.{IsSilent, silent_weaker}
use Rattle.disk_model.specs.declared.machine.FileNo.{FileNo}
use Rattle.oper_core.specs.Meaning.{IsSmall, Meaning}
use Rattle.oper_core.specs.declared.bounds.Bounds.{Bounds}
use Rattle.formats.specs.Objects.{bounds_of}
use Rattle.formats.specs.declared.params.Params.{Params}
use Rattle.formats.specs.declared.read_err.ReadErr.{ReadErr}
use Rattle.formats.specs.declared.read_err.ReadErr.TheVariants as of_read
use Rattle.op_codec.specs.AllOps.{all_meaning}
use Rattle.explain_core.specs.World.{World, run}
use Rattle.standing.specs.Moments.{ShowsSome}
use Rattle.running_store.specs.Calls.{IsFailed, ending_of_read}
use Rattle.running_store.specs.Courses.{Course}
use Rattle.running_store.specs.Steps.Appended.{next_lsn}
use Rattle.running_store.specs.Running.{IsRunning, run_upkept}
use Rattle.cache_manager.specs.InstallCourses.{logged_in}
use Rattle.checkpointing.specs.Courses.{upkeep_course as tending_course}
use Rattle.checkpointing.specs.Told.{TellsUpkeep}
use Rattle.checkpointing.specs.declared.due.Due.{Due}
use Rattle.checkpointing.specs.declared.upkeep_report.UpkeepReport.{UpkeepReport}
use Rattle.store_engine.specs.Beside.{MayGoBeside}
use Rattle.store_engine.specs.Engine as of_engine
use Rattle.store_engine.specs.Engine.{EngineView, IsAfterIn, forced_in, group_size, logged_since, params_of, so_far, used_in}
use Rattle.store_engine.specs.Grouping.{ungrouped}
use Rattle.store_engine.specs.Paces.{pace_after}
use Rattle.store_engine.specs.Upkept.{IsKeptUp as IsEngineKept, IsLeftAlone, epoch_in, nothing_due}
use Rattle.store_engine.specs.declared.pace.Pace.{Pace}
use Rattle.shell_base.specs.HoldLaws.{holds_between, in_engine}
use Rattle.shell_base.specs.Status.{stop_from_read}
use Rattle.shell_base.specs.Stops.{IsCaused, IsUndamaged}
use Rattle.shell_base.specs.Store.{Between, Command, Holds, Says, meaning_in}
use Rattle.shell_base.specs.declared.stop.Stop.{Stop}
use Rattle.script_run.specs.Courses.{IsBetween}
use Rattle.script_run.specs.Stages.{IsTendedIn, IsUpkeep, due_in, paced_in}
use Rattle.script_run.specs.Tended.{IsTended, Tends}
use Rattle.script_run.specs.declared.tending.Tending.{Tending}
use Rattle.script_run.specs.declared.tending.Tending.TheVariants.{ByHand, ByLine}
use Rattle.script_run.proofs.CourseLemmas.{upkeep_due}
use Rattle.script_run.proofs.DoneLemmas.{AreCounted, by_group, images_of, risen, stage_on, still_attached, still_whole}
use Rattle.script_run.proofs.GroupLemmas.{none_open}
use Rattle.script_run.proofs.MomentLemmas.{images_show}
use Rattle.script_run.proofs.OpenGroups.{in_open}
use Rattle.script_run.proofs.RunLemmas.{nothing_between, run_nothing}
use Rattle.script_run.proofs.SavingLemmas.{small_in}

-- what is said of some number is said of it anyway
if_some : {X Y : ℕ → Type 0} (o : Option ℕ) → IfSome o X → ((n : ℕ) → X n → Y n) → IfSome o Y
if_some None is so = tt
if_some (Some n) is so = so n is

any_some : {Y : ℕ → Type 0} (o : Option ℕ) → ((n : ℕ) → Y n) → IfSome o Y
any_some None so = tt
any_some (Some n) so = so n

-- tending leaves each stage of the engine as it is
abbrev pub LeavesStages : Tending → EngineView → Type 0
LeavesStages tending engine = (p : Params) (w : World Command) (pace : Pace) → w.group ≡ engine.group → IsTendedIn (epoch_in engine) tending p (paced_in engine w pace) (paced_in engine w pace)

pub left_by_hand : (tending : Tending) (engine : EngineView) → tending ≡ ByHand → LeavesStages tending engine
left_by_hand tending engine is = subst (λ (t : Tending). LeavesStages t engine) (sym is) (λ p w pace same. refl)

left_in_group : (engine : EngineView) → IsTrue (is_some engine.group) → LeavesStages ByLine engine
left_in_group engine some p w pace same = inl (subst (λ (o : Option ℕ). IsTrue (is_some o)) (sym same) some, refl)

-- nothing is done
pub tends_none : {T : Type 0} (tending : Tending) {d : Disk} {engine : EngineView} {pace : Pace} (value : T) → IsDisk d → engine.broken ≡ false → LeavesStages tending engine → Tends tending d d engine engine pace pace (Ok value)
tends_none tending {d} {engine} {pace} value lawful fine left = record {
  time = passes_none d;
  quiet = λ told. refl;
  cause = tt;
  undamaged = λ told attached. tt;
  attached = λ attached. attached;
  unbroken = fine;
  images = λ p commands holds told. holds_between lawful holds told;
  works = λ p commands holds told. started d (IsSilent (IsBetween tending p (paced_in engine holds.world pace)) d.said)
      (λ files said left. record { silent = lawful.said_now told files said left; holds = nothing_between tending p (paced_in engine holds.world pace) files (images_show holds.shows told files said left) });
  done = λ p commands holds. record {
    kept = record { holds = holds; rising = omega arith; which = inl refl };
    same = refl;
    leads = left p holds.world pace holds.shows.group;
    copied = refl;
    beside = any_some engine.copied (λ n. ([], record { allowed = tt; beside = tt }, sym (run_nothing (meaning_in p) holds.world)));
  };
}

-- What is said of upkeep without a trim beside a copy.
abbrev pub GoesBeside : Type 0
GoesBeside = (b : Bounds) (due : Due) (epoch copied : ℕ) (w : World Command) (used : ℕ) → due.trim ≡ None → IsSmall b → IsRunning (all_meaning b) w
    → MayGoBeside (all_meaning b) copied w (tending_course (all_meaning b) due epoch copied w used).steps

-- The engine was kept up, outside groups.
module _ {old now : Disk} {before after : EngineView} {pace later : Pace} {answer : Result UpkeepReport ReadErr} (counts : AreCounted) (beside : GoesBeside) (stands : (p : Params) (all : List Command) → of_engine.Holds all_meaning p now after all → Says p now after all)
    (alone : before.group ≡ None) (k : IsEngineKept all_meaning old now before after pace later answer) where
  module _ (p : Params) (commands : List Command) (holds : Holds p old before commands) where
    abbrev w : World Command
    w = holds.world

    abbrev m : Meaning Command
    m = meaning_in p

    abbrev way : Course Command
    way = tending_course m k.due (epoch_in before) (so_far before.copied) w (used_in before)

    none : w.group ≡ None
    none = holds.shows.group ∙ alone

    running : IsRunning m w
    running = record { sound = holds.shows.sound; live = holds.shows.shows.running.live; alone = none }

    found_due : k.due ≡ due_in p (paced_in before w pace)
    found_due = k.at_pace p w holds.shows

    is_upkeep : IsUpkeep p (paced_in before w pace) (epoch_in before) way
    is_upkeep = record { alone = none; course_is = ap (λ (d : Due). tending_course m d (epoch_in before) (so_far before.copied) w (used_in before)) found_due }

    tending_works : old.tells_moments → LeavesOnly old now (IsSilent (IsBetween ByLine p (paced_in before w pace)) old.said)
    tending_works told = silent_weaker old now (ShowsSome m p w way.steps) (IsBetween ByLine p (paced_in before w pace)) (λ files shows. inr (epoch_in before, way, is_upkeep, shows)) (k.done.takes.steps told p w holds.shows)

    -- it took its course, and the pace goes on
    tended : (upkeep : UpkeepReport) → answer ≡ Ok upkeep → IsAfterIn all_meaning p now after w way → IsTended ByLine p now before after pace later w commands
    tended upkeep is there =
        let working : IsFailed (ending_of_read answer) → ⊥ = subst (λ (r : Result UpkeepReport ReadErr). IsFailed (ending_of_read r) → ⊥) (sym is) (λ failed. failed) in
        let told = subst (λ (r : Result UpkeepReport ReadErr). IfOk r (TellsUpkeep m k.due (epoch_in before) (so_far before.copied) w (used_in before))) is (k.done.told p w holds.shows) in
        let plain = upkeep_due m k.due (epoch_in before) (so_far before.copied) w (used_in before) in
        let are = (run_upkept m w way.steps plain holds.shows.shows.running.live none).commands ∙ holds.commands_are in
        let rose = ⊎_elim (λ failed. absurd (working failed)) (λ (kept : of_engine.Kept all_meaning p before now after commands). risen holds kept) (k.done.commands.holds p commands (in_engine holds)) in
        let first = next_lsn m p old before.parts (ungrouped w) holds.shows.shows in
        let last = next_lsn m p now after.parts (ungrouped (run m w way.steps)) there.shows.shows in
        let counted : logged_since before after ≡ length (logged_in way.steps) = omega (arith, first, last, counts p w way.steps plain) in
        let logged = k.done.call.identities ∙ ap (λ (n : ℕ). before.identities + n) counted in
        record {
          kept = record {
            holds = record { world = run m w way.steps; shows = there.shows; commands_are = are; says = stands p commands (record { world = run m w way.steps; shows = there.shows; commands_are = are }) };
            rising = rose.rising;
            which = ⊎_elim (λ same. inl same) (λ all. inr (all.0, omega (arith, all.1, holds.says.accepted))) rose.which;
          };
          same = none_open there.shows (k.done.call.group ∙ alone) ∙ sym (none_open holds.shows alone);
          leads = inr (record {
            its = way;
            due = is_upkeep;
            report = upkeep;
            told = subst (λ (d : Due). TellsUpkeep m d (epoch_in before) (so_far before.copied) w (used_in before) upkeep) found_due told;
            stage_is = stage_on p before after w way there.used logged k.done.call.copied;
            pace_is = k.paced ∙ ap (λ (r : Result UpkeepReport ReadErr). pace_after pace r (used_in after) (params_of after).limit) is ∙ ap (λ (q : Params). pace_after pace (Ok upkeep) (used_in after) q.limit) there.shows.shows.store.params;
          });
          copied = k.done.call.copied;
          beside = if_some before.copied k.modest.beside (λ n untrimmed. (way.steps, beside (bounds_of p) k.due (epoch_in before) (so_far before.copied) w (used_in before) untrimmed (small_in holds.shows) running, refl));
        }

  tending_images : (p : Params) (commands : List Command) → Holds p old before commands → old.tells_moments → LeavesOnly old now (Between p old before.group (forced_in before) (length commands) commands)
  tending_images p commands holds told = images_of holds (k.done.commands.images told p commands (in_engine holds))

-- so it is where it was done, or where it failed
pub tends_done : {T : Type 0} {old now : Disk} {before after : EngineView} {pace later : Pace} (upkeep : UpkeepReport) (value : T) → AreCounted → GoesBeside → ((p : Params) (all : List Command) → of_engine.Holds all_meaning p now after all → Says p now after all)
    → before.group ≡ None → IsEngineKept all_meaning old now before after pace later (Ok upkeep) → Tends ByLine old now before after pace later (Ok value)
tends_done upkeep value counts beside stands alone k = record {
  time = k.done.call.time;
  quiet = k.done.call.quiet;
  cause = tt;
  undamaged = λ told attached. tt;
  attached = still_attached k.done.call (λ failed. failed);
  unbroken = still_whole k.done.call (λ failed. failed);
  images = tending_images counts beside stands alone k;
  works = λ p commands holds told. tending_works counts beside stands alone k p commands holds told;
  done = λ p commands holds. tended counts beside stands alone k p commands holds upkeep refl (k.done.takes.follows p holds.world holds.shows).1;
}

-- why it failed
read_cause : (old now : Disk) (error : ReadErr) → (IsFailed (ending_of_read {T = UpkeepReport} (Err error)) → Rises old.disk_faults now.disk_faults) → IsCaused (stop_from_read error) old now
read_cause old now of_read.DiskFault fault = fault tt
read_cause old now (of_read.Damaged file place) fault = tt
read_cause old now of_read.Memory fault = tt

read_undamaged : (error : ReadErr) → ((file : FileNo) (place : ℕ) → error ≡ of_read.Damaged file place → ⊥) → IsUndamaged (stop_from_read error)
read_undamaged of_read.DiskFault whole = tt
read_undamaged (of_read.Damaged file place) whole = whole file place refl
read_undamaged of_read.Memory whole = tt

pub tends_failed : {T : Type 0} {old now : Disk} {before after : EngineView} {pace later : Pace} (error : ReadErr) (stop : Stop) → stop ≡ stop_from_read error → AreCounted → GoesBeside → ((p : Params) (all : List Command) → of_engine.Holds all_meaning p now after all → Says p now after all)
    → before.group ≡ None → IsEngineKept all_meaning old now before after pace later (Err error) → Tends {T = T} ByLine old now before after pace later (Err stop)
tends_failed {old = old} {now = now} error stop is counts beside stands alone k = record {
  time = k.done.call.time;
  quiet = k.done.call.quiet;
  cause = subst (λ (s : Stop). IsCaused s old now) (sym is) (read_cause old now error k.done.call.fault);
  undamaged = λ told attached. subst IsUndamaged (sym is) (read_undamaged error (λ file place damaged. k.done.undamaged told attached file place (ap (λ e. Err e) damaged)));
  attached = λ attached. tt;
  unbroken = tt;
  images = tending_images counts beside stands alone k;
  works = λ p commands holds told. tending_works counts beside stands alone k p commands holds told;
  done = λ p commands holds. tt;
}

module _ {M T : Type 0} (disk : M → Disk) {old now : M} {before after : EngineView} {pace later : Pace} {answer : Result UpkeepReport ReadErr} (counts : AreCounted) (beside : GoesBeside)
    (stands : (p : Params) (all : List Command) → of_engine.Holds all_meaning p (disk now) after all → Says p (disk now) after all)
    (within : IfSome (group_size before) (λ size. IsLeftAlone old now before after pace later answer)) (alone : before.group ≡ None → IsEngineKept all_meaning (disk old) (disk now) before after pace later answer) where
  -- within a group nothing is done
  pub tends_ok : (upkeep : UpkeepReport) (value : T) → answer ≡ Ok upkeep → IsDisk (disk old) → before.broken ≡ false → Tends ByLine (disk old) (disk now) before after pace later (Ok value)
  tends_ok upkeep value is lawful fine = by_group before.group
      (λ some.
      let left = (in_open (λ size. IsLeftAlone old now before after pace later answer) before within some).1 in
      subst (λ (m : M). Tends ByLine (disk old) (disk m) before after pace later (Ok value)) (sym left.machine)
      (subst (λ (e : EngineView). Tends ByLine (disk old) (disk old) before e pace later (Ok value)) (sym left.engine)
      (subst (λ (q : Pace). Tends ByLine (disk old) (disk old) before before pace q (Ok value)) (sym left.same) (tends_none ByLine value lawful fine (left_in_group before some)))))
      (λ none. tends_done upkeep value counts beside stands none (subst (λ (r : Result UpkeepReport ReadErr). IsEngineKept all_meaning (disk old) (disk now) before after pace later r) is (alone none)))

  pub tends_err : (error : ReadErr) (stop : Stop) → answer ≡ Err error → stop ≡ stop_from_read error → Tends {T = T} ByLine (disk old) (disk now) before after pace later (Err stop)
  tends_err error stop is same = by_group before.group
      (λ some. let left = (in_open (λ size. IsLeftAlone old now before after pace later answer) before within some).1 in absurd (not_both left.answer_is))
      (λ none. tends_failed error stop same counts beside stands none (subst (λ (r : Result UpkeepReport ReadErr). IsEngineKept all_meaning (disk old) (disk now) before after pace later r) is (alone none)))
    where
      not_both : answer ≡ Ok nothing_due → ⊥
      not_both was = cc (sym is ∙ was)
