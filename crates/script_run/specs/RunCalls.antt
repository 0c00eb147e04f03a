-- What a run of a script makes of the files, as a whole.
use Rattle.std.specs.Prelude.{◌≡◌, ◌≢◌, ◌⊎◌, ◌<◌, ◌^◌, ℕ, List, [], length}
use Rattle.disk_model.specs.Disk.{Disk, LeavesOnly, IsSettled}
use Rattle.formats.specs.declared.params.Params.{Params}
use Rattle.script_lines.specs.Grammar.{lines_of}
use Rattle.store_engine.specs.Engine.{InEachImage}
use Rattle.restart.specs.Starts.{OrAtStart}
use Rattle.shell_base.specs.declared.budget.Budget.{Budget}
use Rattle.shell_base.specs.Store.{Command, Opens}
use Rattle.shell_base.specs.Again.{IsStartRefused}
use Rattle.shell_base.specs.Judging.{JudgesFiles, ReadsNoStore}
use Rattle.shell_base.specs.First.{Stage, IsFirst}
use Rattle.shell_base.specs.Status.{IsCut, IsOfRun}
use Rattle.shell_base.specs.declared.status.Status.{Status}
use Rattle.shell_base.specs.declared.status.Status.TheVariants.{Done, DoneWithRefusals, NotAStore, Damaged, DiskFault, RestartMemory}
use Rattle.script_run.specs.Answers.{Moment, SaysTruly}
use Rattle.script_run.specs.Run.{IsComplete, MomentSoFar}
use Rattle.script_run.specs.Courses.{RunMoment}
use Rattle.script_run.specs.declared.tending.Tending.{Tending}

-- A run of a script of these lines, on files that stand for commands as they are read, whatever a process before this one
-- left unsynced.
pub record IsRunOn (tending : Tending) (budget : Budget) (p : Params) (commands : List Command) (script : List (List ℕ)) (old new : Disk) (status : Status) : Type 0 where
  -- what a crash at any moment leaves is what a crash at the start could leave, with nothing said since, or it stands for
  -- these commands and a beginning of those that the script has added, which splits no group; all together are no fewer than any
  -- number that was printed to be forced, and what was said is the answers to the script's lines
  pub images : old.tells_moments → LeavesOnly old new (OrAtStart old (Moment p commands script old.said))
  -- from a settled start what a crash at the start could leave is what reads give
  pub from_settled : old.tells_moments → IsSettled old → LeavesOnly old new (Moment p commands script old.said)
  -- but where the disk may have failed, or memory the opening, the syncs at its start are done: what a crash then leaves
  -- stands for these commands and a beginning of those that the script has added, with all that was said
  pub opened : old.tells_moments → status ≢ DiskFault → status ≢ RestartMemory → InEachImage new (λ files. Moment p commands script old.said files new.said)
  -- where the input or the output failed, the input was too long or memory ran out, nothing of an open group is stable at any
  -- moment: it was neither closed nor forced
  pub unclosed : old.tells_moments → IsCut status → LeavesOnly old new (OrAtStart old (MomentSoFar p commands script old.said))
  pub unclosed_from_settled : old.tells_moments → IsSettled old → IsCut status → LeavesOnly old new (MomentSoFar p commands script old.said)
  pub unclosed_now : old.tells_moments → IsCut status → status ≢ RestartMemory → InEachImage new (λ files. MomentSoFar p commands script old.said files new.said)
  -- from each stage that a restart may make of the files, of which there is at least one, what was said is the answers to the
  -- script's lines, whatever the status
  pub first : (first : Stage) × IsFirst budget p commands old first
  pub answers : (first : Stage) → IsFirst budget p commands old first → SaysTruly tending p first commands script old new
  -- from each of them, what a crash at any moment leaves is what one at the start could leave, or it is made by the courses
  -- of the restart and of the lines: at each moment some first steps of the course that is due then are done, and all of it
  -- before anything is said of the answer
  pub steps : old.tells_moments → (first : Stage) → (is : IsFirst budget p commands old first) → LeavesOnly old new (OrAtStart old (RunMoment tending budget p commands old first is script))
  -- with status 0 or 1 the whole script is answered, and the files stand for all of it
  pub complete : (first : Stage) → IsFirst budget p commands old first → (status ≡ Done) ⊎ (status ≡ DoneWithRefusals) → IsComplete tending p first old new commands script status
  -- where the restart was refused memory, the files stand for these commands still
  pub unopened : old.tells_moments → status ≡ RestartMemory → IsStartRefused budget p commands old new
  -- such files are never taken for no store or for damaged
  pub store : (status ≢ NotAStore) × (status ≢ Damaged)

-- A run of the script that a source gives. The input had `left` at its start and has `rest` at its end, where the source
-- reports that (`told`).
pub record IsRunCall (tending : Tending) (budget : Budget) (told : Type 0) (left rest : List ℕ) (old new : Disk) (status : Status) : Type 0 where
  pub script : (p : Params) (commands : List Command) → Opens p old commands → told → IsRunOn tending budget p commands (lines_of left) old new status
  -- of a source that reports nothing the same holds with some script
  pub untold : (script : List (List ℕ)) × ((p : Params) (commands : List Command) → Opens p old commands → IsRunOn tending budget p commands script old new status)
  -- with status 0 or 1 the input is read to its end, and has fewer bytes than it may have
  pub input : told → (status ≡ Done) ⊎ (status ≡ DoneWithRefusals) → (rest ≡ []) × (length left < 2 ^ 40)
  pub ends : IsOfRun status
  pub judged : old.tells_files → JudgesFiles old new status
  pub read : status ≡ NotAStore → ReadsNoStore new
