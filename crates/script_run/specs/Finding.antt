-- What a line has the program do: the answer is found, and then it is said.
use Rattle.std.specs.Prelude.{◌≡◌, ◌++◌, ⊤, ℕ, List, [], false, Bool, Option, None, Some, Result, Ok, Err, IfErr, IfOk, OnOk}
use Rattle.disk_model.specs.Disk.{Disk, LeavesOnly, Passes, Runs, Same, SaysFront}
use Rattle.formats.specs.declared.params.Params.{Params}
use Rattle.script_lines.specs.Grammar.{AsksFor, IsBad, Request}
use Rattle.script_lines.specs.Replies.{Reply, reply_of, said_line, silence, value}
use Rattle.script_lines.specs.declared.answer.Answer.{Answer}
use Rattle.running_store.specs.Laid.{values_in}
use Rattle.store_engine.specs.Engine.{EngineView, IsCached}
use Rattle.shell_base.specs.Stops.{IsCaused, IsUndamaged}
use Rattle.shell_base.specs.First.{stage_of}
use Rattle.shell_base.specs.Store.{Command, Holds, IsAttached}
use Rattle.shell_base.specs.declared.stop.Stop.{Stop}
use Rattle.script_run.specs.Courses.{Works}
use Rattle.script_run.specs.Found.{IsDone, reply_in}
use Rattle.script_run.specs.Replies.{is_refusing}
use Rattle.script_run.specs.Run.{IsCausedBeside, Working}
use Rattle.script_run.specs.Saving.{AnsweringBeside, AsksBackup, IsDoneBeside}
use Rattle.script_run.specs.declared.asking.Found.{Found as FoundIn}
use Rattle.script_run.specs.declared.outcome.Outcome.{Outcome}
use Rattle.script_run.specs.declared.outcome.Outcome.TheVariants.{Told, Found, Cached, Nothing}

-- the line asks this, or is outside the grammar where nothing is asked
abbrev pub IsLineOf : Option Request → List ℕ → Type 0
IsLineOf None line = IsBad line
IsLineOf (Some request) line = AsksFor line request

-- the line is this
abbrev pub IsThis : List ℕ → List ℕ → Type 0
IsThis this line = line ≡ this

-- what is replied, by what a line comes to
abbrev pub outcome_reply : EngineView → Outcome → Reply
outcome_reply engine (Told answer) = reply_of answer
outcome_reply engine (Found found) = reply_in found
outcome_reply engine (Cached object) = value (values_in engine.parts.volatile.objects [] object)
outcome_reply engine Nothing = silence

abbrev pub reply_if : Option Answer → Reply
reply_if None = silence
reply_if (Some answer) = reply_of answer

-- the value that is to be said is cached
abbrev pub IsReadable : EngineView → Outcome → Type 0
IsReadable engine (Cached object) = IsCached engine object
IsReadable engine outcome = ⊤

-- what was found, or why nothing was
abbrev pub told : Result Answer Stop → Result Outcome Stop
told (Ok answer) = Ok (Told answer)
told (Err stop) = Err stop

abbrev pub found_out : Result FoundIn Stop → Result Outcome Stop
found_out (Ok found) = Ok (Found found)
found_out (Err stop) = Err stop

-- The reply was said as a line, or a beginning of it.
pub record IsSaid (reply : Reply) (old new : Disk) (result : Result Bool Stop) : Type 0 where
  pub runs : Runs Same (SaysFront (said_line reply)) old new
  pub all : old.tells_files → OnOk result (new.said ≡ old.said ++ said_line reply)
  pub kind : IfOk result (λ refusing. refusing ≡ is_refusing reply)
  pub cause : IfErr result (λ stop. IsCaused stop old new)
  pub undamaged : IfErr result IsUndamaged

-- The answer to such lines was found, and nothing is said of it yet: what the line asks is done, where engine and files stand for
-- commands, or the call has ended early. What stands before `images` holds on every machine.
pub record FindsAnswer {A : Type 0} (reply : A → Reply) (asks : List ℕ → Type 0) (old now : Disk) (before after : EngineView) (result : Result A Stop) : Type 0 where
  pub time : Passes old now
  pub quiet : old.tells_files → now.said ≡ old.said
  pub cause : IfErr result (λ stop. IsCaused stop old now)
  pub undamaged : old.tells_files → IsAttached old before → IfErr result IsUndamaged
  pub attached : IsAttached old before → OnOk result (IsAttached now after)
  pub unbroken : OnOk result (after.broken ≡ false)
  pub images : (p : Params) (commands : List Command) (line : List ℕ) → asks line → Holds p old before commands → old.tells_moments → LeavesOnly old now (Working p old before commands line)
  pub works : (p : Params) (commands : List Command) (line : List ℕ) → asks line → (holds : Holds p old before commands) → Works p old now (stage_of before holds.world) line
  pub done : (p : Params) (commands : List Command) (line : List ℕ) → asks line → (holds : Holds p old before commands) → IfOk result (λ found. IsDone p old now before after holds.world commands line (reply found))

-- So it was, beside a backup on a second machine, with which only a line of a backup does anything.
pub record FindsBeside {A T : Type 0} (reply : A → Reply) (disk : T → Disk) (asks : List ℕ → Type 0) (old now : Disk) (before after : EngineView) (backup backed : T) (result : Result A Stop) : Type 0 where
  pub time : Passes old now
  pub backup_time : Passes (disk backup) (disk backed)
  pub quiet : old.tells_files → now.said ≡ old.said
  pub cause : IfErr result (λ stop. IsCausedBeside stop old now (disk backup) (disk backed))
  pub undamaged : old.tells_files → IsAttached old before → IfErr result IsUndamaged
  pub attached : IsAttached old before → OnOk result (IsAttached now after)
  pub unbroken : OnOk result (after.broken ≡ false)
  pub idle : (line : List ℕ) → asks line → (AsksBackup line → ⊥) → backed ≡ backup
  pub images : (p : Params) (commands : List Command) (line : List ℕ) → asks line → Holds p old before commands → old.tells_moments → LeavesOnly old now (Working p old before commands line)
  pub works : (p : Params) (commands : List Command) (line : List ℕ) → asks line → (holds : Holds p old before commands) → Works p old now (stage_of before holds.world) line
  pub done : (start : T) (p : Params) (commands : List Command) (line : List ℕ) → asks line → (holds : Holds p old before commands)
      → IsDoneBeside p (disk start) old now before after holds.world commands line (disk backup) (disk backed) reply result

-- Such lines were answered: the answer was found, and said or a beginning of it.
pub record AnswersBeside {T : Type 0} (disk : T → Disk) (asks : List ℕ → Type 0) (old new : Disk) (before after : EngineView) (backup backed : T) (result : Result Bool Stop) : Type 0 where
  pub time : Passes old new
  pub backup_time : Passes (disk backup) (disk backed)
  pub cause : IfErr result (λ stop. IsCausedBeside stop old new (disk backup) (disk backed))
  pub undamaged : old.tells_files → IsAttached old before → IfErr result IsUndamaged
  pub attached : IsAttached old before → OnOk result (IsAttached new after)
  pub unbroken : OnOk result (after.broken ≡ false)
  pub idle : (line : List ℕ) → asks line → (AsksBackup line → ⊥) → backed ≡ backup
  pub answers : (start : T) (p : Params) (commands : List Command) (line : List ℕ) → asks line → (holds : Holds p old before commands)
      → AnsweringBeside p (disk start) old new before after holds.world commands line (disk backup) (disk backed) result
