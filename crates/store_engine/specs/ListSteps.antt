-- How what calls have added goes on over a further call. Here `disk` is what proofs know of a machine.
use Rattle.std.specs.Prelude.{◌≡◌, ℕ, List, [], ◌∷◌, ◌++◌, Option, None, Some, Ok, Err}
use Rattle.disk_model.specs.Disk.{Disk}
use Rattle.oper_core.specs.Meaning.{Meaning}
use Rattle.oper_core.specs.declared.bounds.Bounds.{Bounds}
use Rattle.oper_core.specs.declared.refusal.Refusal.{Refusal}
use Rattle.formats.specs.declared.params.Params.{Params}
use Rattle.formats.specs.declared.read_err.ReadErr.{ReadErr}
use Rattle.explain_core.specs.History.{commands_of}
use Rattle.explain_core.specs.World.{World}
use Rattle.running_store.specs.Courses.{Stop}
use Rattle.running_store.specs.Taking.{Ending}
use Rattle.running_store.specs.Taking.Ending.{Done, Stopped, Short}
use Rattle.execution.specs.Failures.{exec_from_read}
use Rattle.execution.specs.declared.exec_err.ExecErr.{ExecErr}
use Rattle.execution.specs.declared.exec_err.ExecErr.TheVariants.{Refused}
use Rattle.store_engine.specs.Engine.{EngineView, ShowsIn}
use Rattle.store_engine.specs.Lists.{AddsFront, AreCalls, ComesNext, IsCutOff, ending_of}
use Rattle.store_engine.specs.Commands.{HasRun, HasFetched}

module _ {O T : Type 0} (meaning : Bounds → Meaning O) (disk : T → Disk) where
  -- what holds on every machine holds of calls after calls of which none failed
  abbrev pub CallsBehind : Type 0
  CallsBehind = (old mid new : T) (before between after : EngineView) (error : Option ExecErr)
      → AreCalls meaning (disk old) (disk mid) before between None → AreCalls meaning (disk mid) (disk new) between after error → AreCalls meaning (disk old) (disk new) before after error

  -- one command more is done
  abbrev pub ExecDone : Type 0
  ExecDone = (old mid new : T) (before between after : EngineView) (p : Params) (w : World O) (commands front : List O) (op : O) (n : ℕ)
      → AddsFront meaning p (disk old) (disk mid) before between w commands front Done → HasRun meaning (disk mid) (disk new) between after op (Ok n)
      → AddsFront meaning p (disk old) (disk new) before after w commands (front ++ op ∷ []) Done

  -- a command is refused, and nothing is added
  abbrev pub ExecRefused : Type 0
  ExecRefused = (old mid new : T) (before between after : EngineView) (p : Params) (w : World O) (commands front : List O) (op : O) (refusal : Refusal)
      → AddsFront meaning p (disk old) (disk mid) before between w commands front Done → HasRun meaning (disk mid) (disk new) between after op (Err (Refused refusal))
      → AddsFront meaning p (disk old) (disk new) before after w commands front Done

  -- the log stops a command, whatever would have come after it
  abbrev pub ExecStopped : Type 0
  ExecStopped = (old mid new : T) (before between after : EngineView) (p : Params) (w : World O) (commands front : List O) (op : O) (rest : List O) (e : ExecErr) (stop : Stop)
      → AddsFront meaning p (disk old) (disk mid) before between w commands front Done → HasRun meaning (disk mid) (disk new) between after op (Err e)
      → ending_of (Some e) ≡ Stopped stop → AddsFront meaning p (disk old) (disk new) before after w commands (front ++ op ∷ rest) (Stopped stop)

  -- memory or the disk ends it at a command, which comes next of those that were to come, or is refused
  abbrev pub ExecFailed : Type 0
  ExecFailed = (old mid new : T) (before between after : EngineView) (p : Params) (w : World O) (commands front : List O) (op : O) (rest : List O) (e : ExecErr)
      → AddsFront meaning p (disk old) (disk mid) before between w commands front Done → HasRun meaning (disk mid) (disk new) between after op (Err e)
      → ComesNext meaning p (commands ++ front) op rest → IsCutOff (ending_of (Some e))
      → AddsFront meaning p (disk old) (disk new) before after w commands (front ++ rest) (ending_of (Some e))

  -- an object is fetched, or there is none
  abbrev pub FetchDone : Type 0
  FetchDone = (old mid new : T) (before between after : EngineView) (p : Params) (w : World O) (commands front : List O) (object : ℕ)
      → AddsFront meaning p (disk old) (disk mid) before between w commands front Done → HasFetched meaning (disk mid) (disk new) between after object None
      → AddsFront meaning p (disk old) (disk new) before after w commands front Done

  -- a fetch fails, whatever was to come
  abbrev pub FetchFailed : Type 0
  FetchFailed = (old mid new : T) (before between after : EngineView) (p : Params) (w : World O) (commands front rest : List O) (object : ℕ) (e : ReadErr)
      → AddsFront meaning p (disk old) (disk mid) before between w commands front Done → HasFetched meaning (disk mid) (disk new) between after object (Some e)
      → AddsFront meaning p (disk old) (disk new) before after w commands (front ++ rest) (ending_of (Some (exec_from_read e)))

  -- memory runs out after what was added, whatever was to come
  abbrev pub RunsShort : Type 0
  RunsShort = (old now : T) (before after : EngineView) (p : Params) (w : World O) (commands front rest : List O)
      → AddsFront meaning p (disk old) (disk now) before after w commands front Done → AddsFront meaning p (disk old) (disk now) before after w commands (front ++ rest) Short

  -- calls after calls: what the second adds, in each world that engine and files then show, is after what the first added
  abbrev pub AddsBehind : Type 0
  AddsBehind = (old mid new : T) (before between after : EngineView) (p : Params) (w : World O) (commands front ops : List O) (ending : Ending)
      → AddsFront meaning p (disk old) (disk mid) before between w commands front Done
      → ((v : World O) → ShowsIn meaning p (disk mid) between v → commands_of v.history ≡ commands ++ front → AddsFront meaning p (disk mid) (disk new) between after v (commands ++ front) ops ending)
      → AddsFront meaning p (disk old) (disk new) before after w commands (front ++ ops) ending
