-- The answer to a line of a backup is said.
use Rattle.std.proofs.Common.{◌≡◌, ◌∙◌, sym, subst, refl, inl, inr, ◌++◌, arith, ℕ, List, [], ◌∷◌, take, Option, Some, None, Result, Ok, Err, IfErr, IfOk, IsErr, OnErr, OnOk, Bool}
use Rattle.std.specs.Prelude.{IfSome, IsTrue}
use Rattle.std.specs.Option.{is_some}
use Rattle.std.specs.Result.{IsErrAnd}
use Rattle.std.proofs.lemmas.List.{take-take}
use Rattle.disk_model.specs.Disk.{Disk, IsDisk, LeavesOnly, Passes, Runs, Same, SaysFront}
use Rattle.formats.specs.declared.params.Params.{Params}
use Rattle.explain_core.specs.History.{commands_of}
use Rattle.explain_core.specs.World.{World}
use Rattle.standing.specs.Moments.{TakesSome}
use Rattle.op_codec.specs.AllOps.{all_meaning}
use Rattle.script_lines.specs.Grammar.{AsksFor}
use Rattle.script_lines.specs.declared.line.Line.TheVariants.{Save}
use Rattle.script_lines.specs.declared.line.Saving.{Saving}
use Rattle.script_lines.specs.declared.line.Saving.TheVariants.{Start as bstart, Copy as bcopy, Finish as bfinish}
use Rattle.script_lines.specs.Replies.{Reply, said_line}
use Rattle.store_engine.specs.Engine as of_engine
use Rattle.backup_copy.specs.Copies.{Copies}
use Rattle.store_engine.specs.Engine.{EngineView, forced_in, used_in}
use Rattle.shell_base.specs.Stops.{IsCaused}
use Rattle.shell_base.specs.First.{Stage, stage_of}
use Rattle.shell_base.specs.Store.{Command, Holds, Says, meaning_in}
use Rattle.shell_base.specs.declared.stop.Stop.{Stop}
use Rattle.shell_base.specs.declared.stop.Stop.TheVariants.{DiskFault, Damaged, ReadFault, SayFault, BackupFault, Memory, TooLong}
use Rattle.shell_base.specs.HoldLaws.{rises_within, shows_stays}
use Rattle.script_run.specs.Courses.{IsCourseDue, Works}
use Rattle.script_run.specs.Found.{IsDone}
use Rattle.script_run.specs.Groups.{open_in}
use Rattle.script_run.specs.Replies.{is_refusing}
use Rattle.script_run.specs.Run.{Answering, IsCausedBeside, Working}
use Rattle.script_run.specs.Saving.{AnsweringBeside, BackupGoesOn, BackupGoing, BackupIsSaid, BackupStays, IsDoneBeside, SaysOfBackup, saving_course}
use Rattle.script_run.specs.StoryLaws.{becomes_front}
use Rattle.script_run.proofs.DoneLemmas.{SaysAlone, SaysWithin, by_group, done_holds, found_of}
use Rattle.script_run.proofs.MomentLemmas.{works_at_once, works_by}
use Rattle.script_run.proofs.RunLemmas.{found_partly, found_said, stops_before}
use Rattle.script_run.proofs.SavingLemmas.{says_longer}

-- what may be done for the line
saving_due : (p : Params) (s : Stage) (line : List ℕ) (saving : Saving) → AsksFor line (Save saving) → s.world.group ≡ None → IsCourseDue p s (line ∷ []) (saving_course (Save saving) (meaning_in p) s.world s.used)
saving_due p s line bstart asks alone = inr (inl (Save bstart, tt, asks, alone, refl))
saving_due p s line (bcopy count) asks alone = inr (inr (inl refl))
saving_due p s line bfinish asks alone = inr (inl (Save bfinish, tt, asks, alone, refl))

pub saving_works : {p : Params} {old now : Disk} {before : EngineView} {commands : List Command} {line : List ℕ} (saving : Saving) → IsDisk old → (holds : Holds p old before commands) → AsksFor line (Save saving)
    → (IsTrue (is_some before.group) → now ≡ old) → (holds.world.group ≡ None → old.tells_moments → TakesSome (meaning_in p) p old now holds.world (saving_course (Save saving) (meaning_in p) holds.world (used_in before)).steps)
    → Works p old now (stage_of before holds.world) line
saving_works {p} {old} {now} {before} {line = line} saving lawful holds asks inside takes = by_group before.group (λ some. subst (λ (d : Disk). Works p old d (stage_of before holds.world) line) (sym (inside some)) (works_at_once line lawful holds))
    (λ none.
    let alone = holds.shows.group ∙ none in
    works_by p old now (stage_of before holds.world) line (saving_course (Save saving) (meaning_in p) holds.world (used_in before)) (saving_due p (stage_of before holds.world) line saving asks alone) (takes alone))

-- what ended it is handed on
pub passed_beside : {S T : Type 0} (result : Result T Stop) (answered : Result S Stop) (why : Stop) (old now backup backed : Disk) → IsErrAnd result (λ stop. stop ≡ why) → answered ≡ Err why
    → IfErr answered (λ stop. IsCausedBeside stop old now backup backed) → IfErr result (λ stop. IsCausedBeside stop old now backup backed)
passed_beside (Ok value) answered why old now backup backed is was cause = tt
passed_beside {S} (Err stop) answered why old now backup backed is was cause =
    subst (λ (s : Stop). IsCausedBeside s old now backup backed) (sym is) (subst (λ (r : Result S Stop). IfErr r (λ s. IsCausedBeside s old now backup backed)) was cause)

-- or the output failed, or memory ran out
module _ (old mid new backup backed : Disk) (time : Passes old mid) where
  later_cause : (stop : Stop) → IsCaused stop mid new → IsCausedBeside stop old new backup backed
  later_cause DiskFault cause = rises_within old.disk_faults mid.disk_faults new.disk_faults new.disk_faults time.disk_faults (omega arith) cause
  later_cause (Damaged file place) cause = tt
  later_cause ReadFault cause = cause
  later_cause SayFault cause = rises_within old.say_faults mid.say_faults new.say_faults new.say_faults time.say_faults (omega arith) cause
  later_cause BackupFault cause = absurd cause
  later_cause Memory cause = tt
  later_cause TooLong cause = cause

pub said_beside : {T : Type 0} (result : Result T Stop) (old mid new backup backed : Disk) → Passes old mid → IfErr result (λ stop. IsCaused stop mid new) → IfErr result (λ stop. IsCausedBeside stop old new backup backed)
said_beside (Ok value) old mid new backup backed time cause = tt
said_beside (Err stop) old mid new backup backed time cause = later_cause old mid new backup backed time stop cause

-- the call ended without an answer
pub saving_stopped : {A : Type 0} (reply : A → Reply) {p : Params} {start old new : Disk} {before after : EngineView} {w : World Command} {commands : List Command} {line : List ℕ} {backup backed : Disk} {stop : Stop} (result : Result Bool Stop) (found : Result A Stop) → found ≡ Err stop → IsErr result
    → IsDoneBeside p start old new before after w commands line backup backed reply found → (old.tells_moments → LeavesOnly old new (Working p old before commands line)) → Works p old new (stage_of before w) line → new.said ≡ old.said
    → AnsweringBeside p start old new before after w commands line backup backed result
saving_stopped reply (Ok refusing) found was is done images works quiet = absurd (cc is)
saving_stopped {A} reply {p} {start} {old} {new} {before} {after} {w} {commands} {line} {backup} {backed} (Err stop) found was is done images works quiet =
    let a : Answering p old new before after w commands line (Err stop) = stops_before (Err stop) is images works quiet in
    record {
      whole = tt;
      partly = inl (quiet, subst (λ (r : Result A Stop). OnErr r (BackupStays p start old new before after w commands line backup backed)) was done.stopped);
      images = a.images;
      steps = a.steps;
    }

-- so it does once the answer is said
said_going : {p : Params} {start mid new : Disk} {after : EngineView} {lines : List (List ℕ)} {replies : List Reply} {commands : List Command} {w : World Command} {backed : Disk} {says : List ℕ → List ℕ → Type 0} → Runs Same says mid new
    → BackupGoing p start lines replies commands mid after w backed → BackupGoing p start lines replies commands new after w backed
said_going {p} {start} {mid} {new} {after} {lines} {replies} {commands} {w} {backed} say b = record {
  says = b.says;
  store = b.store;
  copying = some_still after.copied (λ n (c : Copies all_meaning p mid after w backed). record {
    shows = shows_stays say c.shows;
    done = c.done;
    so_far = c.so_far;
    within = c.within;
    cells = c.cells;
    copied = c.copied;
    target = c.target;
  }) b.copying;
}
  where
    some_still : (o : Option ℕ) → (ℕ → Copies all_meaning p mid after w backed → Copies all_meaning p new after w backed) → IfSome o (λ n. Copies all_meaning p mid after w backed) → IfSome o (λ n. Copies all_meaning p new after w backed)
    some_still None goes here = tt
    some_still (Some n) goes here = goes n here

-- what is said of the backup with a beginning of the answer
said_partly : {p : Params} {start old mid : Disk} {before after : EngineView} {commands : List Command} (new : Disk) (line : List ℕ) (reply : Reply) (holds : Holds p old before commands) (d : IsDone p old mid before after holds.world commands line reply)
    → Says p mid after (commands_of d.world.history) → (backup backed : Disk) → BackupGoesOn p start old mid before after holds.world commands line backup backed reply (commands_of d.world.history) d.world
    → BackupIsSaid p start old new before after holds.world commands line backup backed reply d.added
said_partly {p} {start} {after = after} {commands} new line reply holds d says backup backed goes =
    let all = commands_of d.world.history in
    let kept = forced_in after in
    let front = becomes_front line reply (open_in holds.world) commands d.added all d.becomes kept says.forced in (
      kept,
      front.0,
      d.which,
      λ told lines replies g.
          let b = goes told lines replies g in
          subst (λ (l : List Command). SaysOfBackup p start (lines ++ line ∷ []) (replies ++ reply ∷ []) [] l backed) front.1
          (says_longer b.count (take kept all) (subst (λ (l : List Command). SaysOfBackup p start (lines ++ line ∷ []) (replies ++ reply ∷ []) [] l backed) (sym (take-take b.count kept all b.forced)) b.going.says)),
    )

-- the answer that was found has been said, or a beginning of it
pub saving_said : {A : Type 0} (reply : A → Reply) (found : A) {p : Params} {start old mid new : Disk} {before after : EngineView} {commands : List Command} {line : List ℕ} {backup backed : Disk} (result : Result Bool Stop)
    → (holds : Holds p old before commands) → IsDoneBeside p start old mid before after holds.world commands line backup backed reply (Ok found)
    → ((all : List Command) → of_engine.Holds all_meaning p mid after all → Says p mid after all) → SaysAlone mid after → SaysWithin mid after
    → (old.tells_moments → LeavesOnly old mid (Working p old before commands line)) → Works p old mid (stage_of before holds.world) line → Passes old mid
    → Runs Same (SaysFront (said_line (reply found))) mid new → (mid.tells_files → OnOk result (new.said ≡ mid.said ++ said_line (reply found))) → IfOk result (λ kind. kind ≡ is_refusing (reply found))
    → AnsweringBeside p start old new before after holds.world commands line backup backed result
saving_said reply found {p} {start} {old} {mid} {new} {before} {after} {commands} {line} {backup} {backed} result holds done says alone within images works time say all is = by_result result all is
  where
    by_result : (result : Result Bool Stop) → (mid.tells_files → OnOk result (new.said ≡ mid.said ++ said_line (reply found))) → IfOk result (λ kind. kind ≡ is_refusing (reply found))
        → AnsweringBeside p start old new before after holds.world commands line backup backed result
    by_result (Ok kind) all is =
        let d = done.whole.0 in
        let a = found_said (Ok kind) holds.says.accepted images works time (found_of holds d (says (commands_of d.world.history) (done_holds d)) alone within) say all is in
        record {
          whole = (a.whole, λ told lines replies g. let b = done.whole.1 told lines replies g in record { count = b.count; forced = b.forced; going = said_going say b.going });
          partly = tt;
          images = a.images;
          steps = a.steps;
        }
    by_result (Err stop) all is =
        let d = done.whole.0 in
        let it = found_of holds d (says (commands_of d.world.history) (done_holds d)) alone within in
        let a = found_said (Err stop) holds.says.accepted images works time it say all is in
        record {
          whole = tt;
          partly = inr (found_partly images time it say, said_partly new line (reply found) holds d (says (commands_of d.world.history) (done_holds d)) backup backed done.whole.1);
          images = a.images;
          steps = a.steps;
        }
