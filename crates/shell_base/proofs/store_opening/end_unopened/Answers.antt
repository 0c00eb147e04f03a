use Rattle.std.proofs.Common.{⊎_elim, rules, subst, sym}
use Rattle.disk_model.specs.Disk.{Files}
use Rattle.shell_base.specs.StopLaws.{no_disk_fault}
use Rattle.shell_base.specs.KeepLaws.{keeps_once, keeps_none}
use Rattle.shell_base.proofs.store_opening.end_unopened.Goals as goal

pub returns-in-NotAStore-clause-keeps : goal.returns-in-NotAStore-clause-keeps
returns-in-NotAStore-clause-keeps g c = keeps_once (g.M.Machine.disk c.args.machine.now) (g.M.Machine.disk c.end_with.new.machine) c.end_with.ensures.runs

pub returns-in-NotAStore-clause-read : goal.returns-in-NotAStore-clause-read
returns-in-NotAStore-clause-read g c = λ is.
    (c.in-NotAStore.is, λ files agrees. let from = c.end_with.ensures.runs.agreed files agrees in subst (λ (f : Files). (g.M.Machine.disk c.args.machine.now).agrees f) (sym from.2) from.1)

pub returns-in-Damaged-clause-read : goal.returns-in-Damaged-clause-read
returns-in-Damaged-clause-read g c = λ is. absurd (⊎_elim (λ e. cc (e, is)) (λ rest. ⊎_elim (λ e. cc (e, is)) (λ e. cc (e, is)) rest) c.end_damaged.ensures.status)

pub returns-in-DiskFault-clause-keeps : goal.returns-in-DiskFault-clause-keeps
returns-in-DiskFault-clause-keeps g c = keeps_none (g.M.Machine.disk c.args.machine.now) (g.met.M.Machine.lawful c.args.machine.now)

pub returns-in-Memory-clause-keeps : goal.returns-in-Memory-clause-keeps
returns-in-Memory-clause-keeps g c = keeps_none (g.M.Machine.disk c.args.machine.now) (g.met.M.Machine.lawful c.args.machine.now)

pub returns-in-Memory-clause-status : goal.returns-in-Memory-clause-status
returns-in-Memory-clause-status g c = search rules

pub returns-in-Memory-clause-quiet : goal.returns-in-Memory-clause-quiet
returns-in-Memory-clause-quiet g c = search rules

pub returns-in-Memory-clause-no_store : goal.returns-in-Memory-clause-no_store
returns-in-Memory-clause-no_store g c = search rules

pub returns-in-Memory-clause-damaged : goal.returns-in-Memory-clause-damaged
returns-in-Memory-clause-damaged g c = search rules

pub returns-in-NotAStore-clause-faults : goal.returns-in-NotAStore-clause-faults
returns-in-NotAStore-clause-faults g c = record {
  disk = λ is. absurd (⊎_elim (λ e. cc (e, is)) (λ e. cc (e, is)) c.end_with.ensures.status);
  output = λ is. ⊎_elim (λ e. cc e) (λ rises. rises) (c.end_with.ensures.cause is);
}

pub returns-in-Damaged-clause-faults : goal.returns-in-Damaged-clause-faults
returns-in-Damaged-clause-faults g c = record {
  disk = λ is. absurd (no_disk_fault c.end_damaged.result c.end_damaged.ensures.status is);
  output = c.end_damaged.ensures.cause;
}

pub returns-in-DiskFault-clause-faults : goal.returns-in-DiskFault-clause-faults
returns-in-DiskFault-clause-faults g c = record { disk = λ is. c.in-DiskFault.is; output = λ is. cc is }

pub returns-in-Memory-clause-faults : goal.returns-in-Memory-clause-faults
returns-in-Memory-clause-faults g c = record { disk = λ is. cc is; output = λ is. cc is }
