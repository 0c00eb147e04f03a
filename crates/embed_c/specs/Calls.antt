-- What a call on a store in memory says, and what C is told of it.
use Rattle.std.specs.Prelude.{◌≡◌, true, false, ℕ, List, Option, None, Some, Result, Ok, IfOk, IfSome}
use Rattle.std.specs.Result.{result_err}
use Rattle.disk_model.specs.Disk.{Disk}
use Rattle.formats.specs.declared.params.Params.{Params}
use Rattle.formats.specs.declared.read_err.ReadErr.{ReadErr}
use Rattle.formats.specs.declared.read_err.ReadErr.TheVariants as reading
use Rattle.log_records.specs.declared.rewrite_err.RewriteErr.{RewriteErr}
use Rattle.cache_manager.specs.declared.install.Install.{Install}
use Rattle.cache_manager.specs.declared.install.Install.TheVariants as installing
use Rattle.execution.specs.declared.exec_err.ExecErr.{ExecErr}
use Rattle.execution.specs.declared.exec_err.ExecErr.TheVariants as commands
use Rattle.op_codec.specs.AllOps.{AllOps, all_meaning}
use Rattle.store_engine.specs.declared.work_err.WorkErr.{WorkErr}
use Rattle.store_engine.specs.declared.work_err.WorkErr.TheVariants as work
use Rattle.store_engine.specs.Calls.{IsBeginning, IsTakingCheckpoint, IsDraining, IsForcing, IsInstalling, IsRefused, IsRefusedBeside, IsTrimming, work_of_checkpoint, work_of_force, work_of_install, work_of_trim}
use Rattle.store_engine.specs.Commands.{HasFetched, HasRun}
use Rattle.store_engine.specs.Engine.{EngineView, Holds, group_size}
use Rattle.store_engine.specs.Lists.{AddsFront, AreCalls, ending_of}
use Rattle.store_engine.specs.Store.{state_of}
use Rattle.app_steps.specs.Steps.{HasAnswer, steps}
use Rattle.transactions.specs.declared.transaction.Transaction.{Transaction}
use Rattle.write_queue.specs.Memory.{disk_of, first_files, taken_from}
use Rattle.write_queue.specs.declared.queue_mem.QueueMem.{QueueMem}
use Rattle.embed.specs.Embedded.{GivesValue, IsStillBroken}
use Rattle.embed.specs.Within.{IsCallWithin}
use Rattle.embed.specs.declared.store.Store.{Store}
use Rattle.embed_c.specs.declared.answer.Answer.{Answer}
use Rattle.embed_c.specs.declared.session.Session.{Session}

-- what was handed to a machine, and the calls that were taken from it, are as they were
pub record IsUntaken (old new : QueueMem) : Type 0 where
  pub first : first_files new ≡ first_files old
  pub calls : taken_from new ≡ taken_from old

-- A call on the store of a session came to something, and that is what C is told: its number is answered, what is beside it is
-- kept. No call is taken from the machine, those that were taken for C are as they were, and so are the pairs
-- that were found for it, and the transaction that is open, if one is.
module _ {R : Type 0} (told : R → Answer) (does : Store QueueMem → Store QueueMem → R → Type 0) (old new : Session) (answer : ℕ) where
  pub record IsCalled : Type 0 where
    pub made : R
    pub store : does old.store new.store made
    pub number : answer ≡ (told made).number
    pub detail : new.detail ≡ (told made).detail
    pub untaken : IsUntaken old.store.machine new.store.machine
    pub taken : new.taken ≡ old.taken
    pub pairs : new.pairs ≡ old.pairs
    pub snapshot : new.snapshot ≡ old.snapshot
    pub staging : new.staging ≡ old.staging

-- C is told this, and nothing is done
pub record DoesNothing (told : Answer) (old new : Session) (answer : ℕ) : Type 0 where
  pub number : answer ≡ told.number
  pub detail : new.detail ≡ told.detail
  pub store : new.store ≡ old.store
  pub taken : new.taken ≡ old.taken
  pub pairs : new.pairs ≡ old.pairs
  pub snapshot : new.snapshot ≡ old.snapshot
  pub staging : new.staging ≡ old.staging

-- a command was run
pub record DoesExec (op : AllOps) (old new : Store QueueMem) (made : Result ℕ ExecErr) : Type 0 where
  pub run : old.engine.broken ≡ false → HasRun all_meaning (disk_of old.machine) (disk_of new.machine) old.engine new.engine op made
  pub calls : old.engine.broken ≡ false → AreCalls all_meaning (disk_of old.machine) (disk_of new.machine) old.engine new.engine (result_err made)
  pub broken : old.engine.broken ≡ true → IsStillBroken commands.DiskFault old new made

-- steps that are each this command were done, until so many were or one was refused
pub record DoesRun (command : AllOps) (most : ℕ) (old new : Store QueueMem) (made : Result ℕ ExecErr) : Type 0 where
  pub calls : old.engine.broken ≡ false → AreCalls all_meaning (disk_of old.machine) (disk_of new.machine) old.engine new.engine (result_err made)
  pub adds : (p : Params) (commands : List AllOps) → (holds : Holds all_meaning p (disk_of old.machine) old.engine commands) →
      AddsFront all_meaning p (disk_of old.machine) (disk_of new.machine) old.engine new.engine holds.world commands (steps p commands command most) (ending_of (result_err made))
  pub answer : (p : Params) (commands : List AllOps) → Holds all_meaning p (disk_of old.machine) old.engine commands → HasAnswer p commands command most made
  pub broken : old.engine.broken ≡ true → IsStillBroken commands.DiskFault old new made

-- the same within a transaction: the steps are staged
abbrev pub StagesRun : AllOps → ℕ → Store QueueMem → Store QueueMem → Transaction AllOps → Transaction AllOps → Result ℕ ExecErr → Type 0
StagesRun command most old new t u made = IsCallWithin disk_of old new t u (λ p commands. steps p commands command most) (λ p commands. HasAnswer p commands command most made) commands.DiskFault (result_err made) made

-- how many steps were done
abbrev pub TellsSteps : Result ℕ ExecErr → ℕ → Type 0
TellsSteps made count = IfOk made (λ n. count ≡ n)

-- the front of an object's value was copied into some room
pub record DoesGet (object : ℕ) (before after : List ℕ) (old new : Store QueueMem) (made : Result (Option ℕ) ReadErr) : Type 0 where
  pub fetched : old.engine.broken ≡ false → HasFetched all_meaning (disk_of old.machine) (disk_of new.machine) old.engine new.engine object (result_err made)
  pub value : (p : Params) (commands : List AllOps) → Holds all_meaning p (disk_of old.machine) old.engine commands →
      IfOk made (GivesValue p.objects object (state_of all_meaning p commands object) before after)
  pub broken : old.engine.broken ≡ true → IsStillBroken reading.DiskFault old new made

-- Work was done that an open group bars: its own answer, of which this is said of the disk and the engine, became what the store
-- answers.
module _ {T E : Type 0} (as_work : Result T E → Result T WorkErr) (does : Disk → Disk → EngineView → EngineView → Result T E → Type 0) (old new : Store QueueMem) (made : Result T WorkErr) where
  pub record DoesWork : Type 0 where
    pub in_group : old.engine.broken ≡ false → IfSome (group_size old.engine) (λ size. IsRefused size old.machine new.machine old.engine new.engine made)
    pub alone : old.engine.broken ≡ false → old.engine.group ≡ None → (its : Result T E) × (made ≡ as_work its) × does (disk_of old.machine) (disk_of new.machine) old.engine new.engine its
    pub broken : old.engine.broken ≡ true → IsStillBroken work.DiskFault old new made

-- all commands were made durable, once C has made the calls that wait
abbrev pub DoesForce : Store QueueMem → Store QueueMem → Result ℕ WorkErr → Type 0
DoesForce = DoesWork work_of_force (IsForcing all_meaning)

-- all commands were made durable, and a group was opened
abbrev pub DoesBegin : Store QueueMem → Store QueueMem → Result (Unit {0}) WorkErr → Type 0
DoesBegin = DoesWork work_of_force (λ d e before after its. IsBeginning all_meaning d e before after its)

-- a node of the write graph was installed, or there was none
abbrev pub DoesInstall : Store QueueMem → Store QueueMem → Result Install WorkErr → Type 0
DoesInstall = DoesWork work_of_install (IsInstalling all_meaning)

-- all nodes of the write graph were installed
abbrev pub DoesDrain : Store QueueMem → Store QueueMem → Result ℕ WorkErr → Type 0
DoesDrain = DoesWork work_of_install (IsDraining all_meaning)

-- a checkpoint was logged and forced
abbrev pub DoesCheckpoint : Store QueueMem → Store QueueMem → Result (Unit {0}) WorkErr → Type 0
DoesCheckpoint = DoesWork work_of_checkpoint (λ d e before after its. IsTakingCheckpoint all_meaning d e before after its)

-- the log was rewritten; a backup bars that too
pub record DoesTrim (old new : Store QueueMem) (made : Result (Unit {0}) WorkErr) : Type 0 where
  pub in_group : old.engine.broken ≡ false → IfSome (group_size old.engine) (λ size. IsRefused size old.machine new.machine old.engine new.engine made)
  pub in_backup : old.engine.broken ≡ false → old.engine.group ≡ None → IfSome old.engine.copied (λ copied. IsRefusedBeside copied old.machine new.machine old.engine new.engine made)
  pub alone : old.engine.broken ≡ false → old.engine.group ≡ None → old.engine.copied ≡ None → (its : Result (Unit {0}) RewriteErr) × (made ≡ work_of_trim its) × IsTrimming all_meaning (disk_of old.machine) (disk_of new.machine) old.engine new.engine its
  pub broken : old.engine.broken ≡ true → IsStillBroken work.DiskFault old new made

-- the open group was closed, or none is open
pub record DoesEnd (old new : Store QueueMem) (made : Result (Option ℕ) WorkErr) : Type 0 where
  pub none : old.engine.broken ≡ false → old.engine.group ≡ None → (made ≡ Ok None) × (new ≡ old)
  pub some : old.engine.broken ≡ false → IfSome (group_size old.engine) (λ size. (made ≡ Ok (Some size)) × (new ≡ record old { engine = record old.engine { group = None } }))
  pub broken : old.engine.broken ≡ true → IsStillBroken work.DiskFault old new made

-- C is told the count of a call that was done
abbrev pub TellsCount : Result ℕ WorkErr → ℕ → Type 0
TellsCount made count = IfOk made (λ n. count ≡ n)

-- how long the value is that was read
abbrev pub TellsLength : {E : Type 0} → Result (Option ℕ) E → ℕ → Type 0
TellsLength made count = IfOk made (λ found. IfSome found (λ n. count ≡ n))

-- whether a node was installed
abbrev pub installs : Install → ℕ
installs (installing.Installed ops flushed identities) = 1
installs installing.Clean = 0

abbrev pub TellsInstall : Result Install WorkErr → ℕ → Type 0
TellsInstall made count = IfOk made (λ done. count ≡ installs done)
