-- A store as the contracts of calls see it: an engine, or an engine under commands that are staged.
use Rattle.std.specs.Prelude.{◌≡◌, ℕ, List, Option}
use Rattle.disk_model.specs.Disk.{Disk}
use Rattle.formats.specs.declared.params.Params.{Params}
use Rattle.running_store.specs.Taking.{Ending}
use Rattle.execution.specs.declared.exec_err.ExecErr.{ExecErr}

-- `O` are its operations, and `S` is what contracts know of the store itself. A machine is passed to each call, and a `Disk` is
-- what they know of that.
pub record View (O S : Type 0) : Type 1 where
  -- how many objects it has, how many bytes each may hold, and how long its log may be
  pub params : S → Params
  -- no call was answered that the disk failed
  pub unbroken : S → Type 0
  -- store and files stand for the commands, in its own numbers
  pub holds : Params → Disk → S → List O → Type 0
  pub numbers : (p : Params) (d : Disk) (s : S) (commands : List O) → holds p d s commands → params s ≡ p
  -- what holds on every machine of calls that answer this error, or none
  pub calls : Disk → Disk → S → S → Option ExecErr → Type 0
  -- Calls on a store that stood for the commands were to add these to them, and have added as many as the ending says: all
  -- of them where it is done.
  pub adds : Params → Disk → Disk → S → S → List O → List O → Ending → Type 0
  -- Calls that end so have added nothing: the store stands for what it stood for, unless the disk failed.
  pub keeps : Disk → Disk → S → S → Ending → Type 0
  -- an object's value is in memory, and this is the value
  pub cached : S → ℕ → Type 0
  pub value : S → ℕ → List ℕ
