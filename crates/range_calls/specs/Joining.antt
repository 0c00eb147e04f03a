-- How what calls make goes on over a further call. Here `disk` is what proofs know of a machine.
use Rattle.std.specs.Prelude.{◌≡◌, ◌++◌, Option, None, Some, List, []}
use Rattle.disk_model.specs.Disk.{Disk}
use Rattle.formats.specs.declared.params.Params.{Params}
use Rattle.running_store.specs.Taking.Ending.{Done}
use Rattle.execution.specs.declared.exec_err.ExecErr.{ExecErr}
use Rattle.execution.specs.declared.exec_err.ExecErr.TheVariants.{Memory}
use Rattle.store_engine.specs.Lists.{ending_of}
use Rattle.store_calls.specs.Making.{Adds, Makes, Reads}
use Rattle.store_calls.specs.View.{View}
use Rattle.range_calls.specs.Store.{Command}

module _ {S T : Type 0} (view : View Command S) (disk : T → Disk) where
  -- a call after calls that only read makes what it makes alone
  abbrev pub ReadsBehind : Type 0
  ReadsBehind = (old mid new : T) (before between after : S) (ops : Params → List Command → List Command) (error : Option ExecErr)
      → Reads view (disk old) (disk mid) before between None → Makes view (disk mid) (disk new) between after ops error → Makes view (disk old) (disk new) before after ops error

  -- the store stands for the same commands after calls that only read
  abbrev pub HoldsBehind : Type 0
  HoldsBehind = (p : Params) (old mid : T) (before between : S) (commands : List Command) → Reads view (disk old) (disk mid) before between None → view.holds p (disk old) before commands
      → view.holds p (disk mid) between commands

  -- a call after calls that have added commands adds its own after them
  abbrev pub AddsOn : Type 0
  AddsOn = (old mid new : T) (before between after : S) (error : Option ExecErr) (p : Params) (commands front ops rest : List Command)
      → view.adds p (disk old) (disk mid) before between commands front Done → Adds view (disk mid) (disk new) between after p (commands ++ front) ops error
      → (ending_of error ≡ Done → rest ≡ []) → view.adds p (disk old) (disk new) before after commands (front ++ (ops ++ rest)) (ending_of error)

  -- calls that only read, and then run out of memory
  abbrev pub ReadsShort : Type 0
  ReadsShort = (old now : T) (before after : S) → Reads view (disk old) (disk now) before after None → Reads view (disk old) (disk now) before after (Some Memory)
