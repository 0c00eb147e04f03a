-- What is done at each moment while a line is answered.
use Rattle.std.proofs.Common.{◌∙◌, ap, sym, subst, refl, inl, inr, ◌++◌, ℕ, List, [], ◌∷◌, take}
use Rattle.std.proofs.Math.Path.{fun_ext}
use Rattle.disk_model.specs.Disk.{Files, Disk, IsDisk, LeavesOnly, Passes, Runs, Same, SaysFront, Stays}
use Rattle.disk_model.specs.Moments.{first_call, runs_on, started, weaker}
use Rattle.disk_model.specs.Silent.{IsSilent, silent_weaker}
use Rattle.disk_model.specs.declared.machine.FileNo.{FileNo}
use Rattle.formats.specs.declared.params.Params.{Params}
use Rattle.explain_core.specs.Taken.{after_none}
use Rattle.explain_core.specs.World.{World}
use Rattle.standing.specs.Moments.{ShowsSome, TakesSome}
use Rattle.standing.specs.Standing.{FilesShow}
use Rattle.running_store.specs.Courses.{Course, course}
use Rattle.running_store.specs.Courses.Stop.{Through}
use Rattle.running_store.specs.Steps.Forced.{files_shown}
use Rattle.script_lines.specs.Replies.{Reply, said_line}
use Rattle.store_engine.specs.Engine.{EngineView}
use Rattle.store_engine.specs.Grouping.{ungrouped}
use Rattle.shell_base.specs.First.{Stage, stage_of}
use Rattle.shell_base.specs.Store.{Command, Holds, ShowsIn, meaning_in}
use Rattle.script_run.specs.Courses.{IsCourseDue, IsWorkedOn, Works}
use Rattle.script_run.specs.Run.{IsAnswerFound, LineStage}
use Rattle.script_run.specs.Stages.{finish_course}

-- each image of a moment shows the world that engine and files show
pub images_show : {p : Params} {d : Disk} {engine : EngineView} {w : World Command} → ShowsIn p d engine w → d.tells_moments → (files : Files) (said : List ℕ) → d.left_since d.clock files said → FilesShow (meaning_in p) p files w
images_show {p} {d} {engine} {w} shows told files said left =
    subst (λ (f : Files). FilesShow (meaning_in p) p f w) (fun_ext (λ (n : FileNo). sym (shows.shows.log.keeps.settled n told files said left))) (files_shown (meaning_in p) p d engine.parts (ungrouped w) shows.shows)

-- nothing is done yet
pub worked_none : (p : Params) (s : Stage) (todo : List (List ℕ)) (files : Files) → FilesShow (meaning_in p) p files s.world → IsWorkedOn p s todo files
worked_none p s [] files shows = record {
  its = finish_course (meaning_in p) s.world s.used;
  due = refl;
  shows = after_none (meaning_in p) (FilesShow (meaning_in p) p files) s.world (finish_course (meaning_in p) s.world s.used).steps shows;
}
worked_none p s (line ∷ todo) files shows = record {
  its = course [] s.used Through;
  due = inr (inr (inl refl));
  shows = after_none (meaning_in p) (FilesShow (meaning_in p) p files) s.world [] shows;
}

-- a call that takes some first steps of what is due
pub works_by : (p : Params) (old mid : Disk) (s : Stage) (line : List ℕ) (c : Course Command) → IsCourseDue p s (line ∷ []) c → (old.tells_moments → TakesSome (meaning_in p) p old mid s.world c.steps) → Works p old mid s line
works_by p old mid s line c due takes told =
    silent_weaker old mid (ShowsSome (meaning_in p) p s.world c.steps) (IsWorkedOn p s (line ∷ [])) (λ files shows. record { its = c; due = due; shows = shows }) (takes told)

-- no call at all
pub works_at_once : {p : Params} {d : Disk} {engine : EngineView} {commands : List Command} (line : List ℕ) → IsDisk d → (holds : Holds p d engine commands) → Works p d d (stage_of engine holds.world) line
works_at_once {p} {d} {engine} line lawful holds told =
    let s = stage_of engine holds.world in
    started d (IsSilent (IsWorkedOn p s (line ∷ [])) d.said)
    (λ files said left. record { silent = lawful.said_now told files said left; holds = worked_none p s (line ∷ []) files (images_show holds.shows told files said left) })

-- calls that change nothing
pub works_still : {p : Params} {old mid : Disk} {engine : EngineView} {commands : List Command} (line : List ℕ) → Stays old mid → (holds : Holds p old engine commands) → Works p old mid (stage_of engine holds.world) line
works_still {p} {old} {mid} {engine} line stays holds told =
    let s = stage_of engine holds.world in
    first_call old mid (IsSilent (IsWorkedOn p s (line ∷ [])) old.said) told stays.time
    (λ files said left.
    let from = stays.crash told files said left in
    record { silent = from.1; holds = worked_none p s (line ∷ []) files (subst (λ (f : Files). FilesShow (meaning_in p) p f s.world) (sym from.0.2) (images_show holds.shows told from.0.0 old.said from.0.1)) })

-- nothing is said of the line
pub works_line : {p : Params} {old mid : Disk} {s : Stage} {line : List ℕ} → Works p old mid s line → old.tells_moments → LeavesOnly old mid (LineStage p s old.said line)
works_line {p} {old} {mid} {s} {line} works told = weaker old mid (IsSilent (IsWorkedOn p s (line ∷ [])) old.said) (LineStage p s old.said line) (works told) (λ files said is. inl is)

-- then an answer to it is said
pub found_steps : {p : Params} {old mid new : Disk} {before after : EngineView} {w : World Command} {commands : List Command} {line : List ℕ} {reply : Reply} → Works p old mid (stage_of before w) line → Passes old mid
    → IsAnswerFound p old mid before after w commands line reply → Runs Same (SaysFront (said_line reply)) mid new → old.tells_moments → LeavesOnly old new (LineStage p (stage_of before w) old.said line)
found_steps {p} {old} {mid} {new} {before} {after} {w} {commands} {line} {reply} works time found say told =
    runs_on old mid new (LineStage p (stage_of before w) old.said line) (works_line works told) (first_call mid new (LineStage p (stage_of before w) old.said line) told_now say.time during)
  where
    told_now : mid.tells_moments
    told_now = time.moments_told.0 told

    during : (f : Files) (s : List ℕ) → new.left_since mid.clock f s → LineStage p (stage_of before w) old.said line f s
    during f s left =
        let from = say.crash told_now f s left in
        let holds = found.kept.holds in
        let part : List ℕ = take from.1.0 (said_line reply) in
        inr (
          part,
          from.1.2 ∙ ap (λ (l : List ℕ). l ++ part) found.quiet,
          record {
            reply = reply;
            after = stage_of after holds.world;
            leads = found.leads;
            count = from.1.0;
            begun = refl;
            shows = subst (λ (x : Files). FilesShow (meaning_in p) p x holds.world) (sym from.0.2) (images_show holds.shows told_now from.0.0 mid.said from.0.1);
          },
        )
