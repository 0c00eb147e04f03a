use Rattle.std.proofs.Common.{[], ◌∷◌, ◌++◌, refl}
use Rattle.execution.specs.declared.exec_err.ExecErr.TheVariants.{LogFull}
use Rattle.running_store.specs.Courses.Stop.{Full}
use Rattle.transactions.proofs.RoomLemmas.{none_full}
use Rattle.transactions.proofs.enough_room.room_is_enough.Goals as goal

pub returns-clause-call : goal.returns-clause-call
returns-clause-call g c = λ old new before after p w commands ops bytes used need limit shows room fits adds.
    none_full g.O.Oper.meaning p (g.M.Machine.disk old) (g.M.Machine.disk new) before after w commands ops bytes used need limit shows room fits adds

pub returns-clause-command : goal.returns-clause-command
returns-clause-command g c = λ old mid new before between after p w commands ops op bytes used need limit shows room fits adds ran.
    none_full g.O.Oper.meaning p (g.M.Machine.disk old) (g.M.Machine.disk new) before after w commands (ops ++ op ∷ []) bytes used need limit shows room fits
    (c.exec_goes_on.ensures.stopped old mid new before between after p w commands ops op [] (LogFull used need limit) (Full used need limit) adds ran refl)
