-- How calls on a store go on over further ones. Here `disk` is what proofs know of a machine.
use Rattle.std.specs.Prelude.{◌⊎◌, ◌++◌, List, Option, None, Some}
use Rattle.disk_model.specs.Disk.{Disk}
use Rattle.oper_core.specs.declared.refusal.Refusal.{Refusal}
use Rattle.formats.specs.declared.params.Params.{Params}
use Rattle.running_store.specs.Calls.{IsFailed}
use Rattle.running_store.specs.Taking.{Ending}
use Rattle.running_store.specs.Taking.Ending.{Done, Short}
use Rattle.execution.specs.declared.exec_err.ExecErr.{ExecErr}
use Rattle.execution.specs.declared.exec_err.ExecErr.TheVariants.{Refused, Memory}
use Rattle.store_calls.specs.Making.{Calls, HasFront}
use Rattle.store_calls.specs.View.{View}

pub record GoOn {O S T : Type 0} (view : View O S) (disk : T → Disk) : Type 0 where
  -- calls after calls of which none failed
  pub calls : (old mid new : T) (s t u : S) (error : Option ExecErr) → Calls view (disk old) (disk mid) s t None → Calls view (disk mid) (disk new) t u error
      → Calls view (disk old) (disk new) s u error
  -- none failed in a call that is refused; and after any call memory may run out
  pub refused : (old new : T) (s t : S) (refusal : Refusal) → Calls view (disk old) (disk new) s t (Some (Refused refusal)) → Calls view (disk old) (disk new) s t None
  pub short : (old new : T) (s t : S) → Calls view (disk old) (disk new) s t None → Calls view (disk old) (disk new) s t (Some Memory)
  -- what calls add is added after what those before them added
  pub adds : (old mid new : T) (s t u : S) (p : Params) (commands front ops : List O) (ending : Ending) → view.adds p (disk old) (disk mid) s t commands front Done
      → view.adds p (disk mid) (disk new) t u (commands ++ front) ops ending → view.adds p (disk old) (disk new) s u commands (front ++ ops) ending
  -- memory runs out after what was added, whatever was to come
  pub cut : (old new : T) (s t : S) (p : Params) (commands front rest : List O) → view.adds p (disk old) (disk new) s t commands front Done
      → view.adds p (disk old) (disk new) s t commands (front ++ rest) Short
  -- where all are added, the store stands for all
  pub holds : (old new : T) (s t : S) (p : Params) (commands ops : List O) → view.holds p (disk old) s commands → view.adds p (disk old) (disk new) s t commands ops Done
      → view.holds p (disk new) t (commands ++ ops)
  -- where they ended early it stands for a front of them, unless the disk failed; and where nothing was added, for what it stood for
  pub front : (old new : T) (s t : S) (p : Params) (commands ops : List O) (ending : Ending) → view.holds p (disk old) s commands → view.adds p (disk old) (disk new) s t commands ops ending
      → IsFailed ending ⊎ HasFront view p (disk new) t commands ops ending
  pub kept : (old new : T) (s t : S) (p : Params) (commands : List O) (ending : Ending) → view.holds p (disk old) s commands → view.keeps (disk old) (disk new) s t ending
      → IsFailed ending ⊎ view.holds p (disk new) t commands
