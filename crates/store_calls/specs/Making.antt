-- What a call leaves that fetches objects and runs commands.
use Rattle.std.specs.Prelude.{◌≡◌, ◌≤◌, ◌<◌, ⊤, ℕ, Option, None, Some, IfSome, List, [], ◌∷◌, ◌++◌, length, take}
use Rattle.disk_model.specs.Disk.{Disk}
use Rattle.oper_core.specs.Meaning.{Meaning}
use Rattle.oper_core.specs.declared.bounds.Bounds.{Bounds}
use Rattle.oper_core.specs.declared.refusal.Refusal.{Refusal}
use Rattle.formats.specs.declared.params.Params.{Params}
use Rattle.running_store.specs.Calls.{IsFailed}
use Rattle.running_store.specs.Courses.{Stop}
use Rattle.running_store.specs.Taking.{Ending}
use Rattle.running_store.specs.Taking.Ending.{Done, Stopped}
use Rattle.execution.specs.declared.exec_err.ExecErr.{ExecErr}
use Rattle.execution.specs.declared.exec_err.ExecErr.TheVariants.{Refused, LogFull, LsnEnd, DiskFault, Damaged, Memory}
use Rattle.store_engine.specs.Lists.{ending_of}
use Rattle.store_engine.specs.Store.{refusal_after}
use Rattle.store_calls.specs.View.{View}

-- a command that is accepted is added, and one that is refused is not
abbrev pub one_accepted : {O : Type 0} → O → Option Refusal → List O
one_accepted op None = op ∷ []
one_accepted op (Some refusal) = []

-- what is answered of a command with this refusal, or none: it is done, or stopped by the log, only where nothing refuses it, and refused
-- only so
abbrev pub Answers : Option Refusal → Option ExecErr → Type 0
Answers refusal None = refusal ≡ None
Answers refusal (Some (Refused told)) = refusal ≡ Some told
Answers refusal (Some (LogFull used need limit)) = refusal ≡ None
Answers refusal (Some (LsnEnd lsn)) = refusal ≡ None
Answers refusal (Some DiskFault) = ⊤
Answers refusal (Some (Damaged file place)) = ⊤
Answers refusal (Some Memory) = ⊤

module _ {O S : Type 0} (view : View O S) (old new : Disk) (before after : S) where
  -- On a store that stands for the commands the call was to add these to them, and has added a front of them. Where it ended
  -- early this is so whatever would have come after them.
  abbrev pub Adds : Params → List O → List O → Option ExecErr → Type 0
  Adds p commands ops error = (rest : List O) → (ending_of error ≡ Done → rest ≡ []) → view.adds p old new before after commands (ops ++ rest) (ending_of error)

  -- What holds on every machine of calls that answer this error, or none: what the store says of them; its numbers stay; and it
  -- is unbroken unless the disk failed.
  pub record Calls (error : Option ExecErr) : Type 0 where
    pub own : view.calls old new before after error
    pub params : view.params after ≡ view.params before
    pub unbroken : (IsFailed (ending_of error) → ⊥) → view.unbroken after

  -- What holds of the call on every machine; and where the store stands for commands, the call adds those that are a function of
  -- these.
  pub record Makes (ops : Params → List O → List O) (error : Option ExecErr) : Type 0 where
    pub calls : Calls error
    pub adds : (p : Params) (commands : List O) → view.holds p old before commands → Adds p commands (ops p commands) error

  -- it adds none
  abbrev pub Reads : Option ExecErr → Type 0
  Reads error = Makes (λ p commands. []) error

  -- one command is run; where it is not done, nothing is added
  pub record Runs (meaning : Bounds → Meaning O) (op : O) (error : Option ExecErr) : Type 0 where
    pub makes : Makes (λ p commands. one_accepted op (refusal_after meaning p commands op)) error
    pub answers : (p : Params) (commands : List O) → view.holds p old before commands → Answers (refusal_after meaning p commands op) error
    pub keeps : IfSome error (λ e. view.keeps old new before after (ending_of error))

-- The store stands for these commands, and for the first `done` of those that calls were to add: all of them where the calls are done, and
-- not all where the log stopped one.
pub record HasFront {O S : Type 0} (view : View O S) (p : Params) (d : Disk) (s : S) (commands ops : List O) (ending : Ending) : Type 0 where
  pub done : ℕ
  pub front : done ≤ length ops
  pub all : ending ≡ Done → done ≡ length ops
  pub stopped : (stop : Stop) → ending ≡ Stopped stop → done < length ops
  pub holds : view.holds p d s (commands ++ take done ops)
