use Rattle.std.proofs.Common.{◌≡◌, ◌<◌, ap, sym, subst, List}
use Rattle.std.specs.Prelude.{◌^◌, IsErrOf, OnOk}
use Rattle.disk_model.specs.Disk.{Disk}
use Rattle.formats.specs.declared.record.Record.{Record}
use Rattle.log_records.specs.LogCopy.{copied_length, HoldsCopy, IsCopyWithin}
use Rattle.log_records.specs.RecordLog.{RecordLogView, Keeps}
use Rattle.log_records.specs.declared.copy_err.CopyErr.TheVariants.{DiskFault}
use Rattle.store_engine.specs.Engine.{EngineView, IsAttached, IsEngineRead, engine_of}
use Rattle.store_engine.proofs.LogCopies.{copy_fails_so}
use Rattle.store_engine.proofs.SlotReads.{engine_read}
use Rattle.store_engine.proofs.engine.Engine.copy_log.Given.{Over}
use Rattle.store_engine.proofs.engine.Engine.copy_log.Goals.{After-copy_log}
use Rattle.store_engine.proofs.engine.Engine.copy_log.Goals as goal

-- the log of the engine
log_is : (g : Over) (c : After-copy_log g) → c.self.inside.store.parts.log ≡ c.args.self.now.parts.log
log_is g c = ap (λ (e : EngineView). e.parts.log) c.self.view_is

pub returns-clause-read : goal.returns-clause-read
returns-clause-read g c =
    let old : Disk = g.M.Machine.disk c.args.machine.now in
    let new : Disk = g.M.Machine.disk c.copy_log.new.machine in
    subst (λ (e : EngineView). IsEngineRead g.O.Oper.meaning old new e (engine_of c.copy_log.new.self c.self.inside.group c.self.inside.copied) (IsErrOf c.copy_log.result DiskFault)) c.self.view_is
    (engine_read g.O.Oper.meaning old new c.self.inside.store c.self.inside.group c.self.inside.copied c.copy_log.new.self _ (IsErrOf c.copy_log.result DiskFault) c.copy_log.ensures.kept (copy_fails_so c.copy_log.result))

pub returns-clause-copied : goal.returns-clause-copied
returns-clause-copied g c = λ told target_told is_new.
    subst (λ (l : RecordLogView). (stable pending : List (Record g.row.O.Denot)) → Keeps (g.O.Oper.meaning l.bounds) (g.M.Machine.disk c.args.machine.now) l stable pending
    → OnOk c.copy_log.result (HoldsCopy (g.O.Oper.meaning l.bounds) l.log stable (g.T.Machine.disk c.copy_log.new.target).reads)) (log_is g (goal.at.returns-clause-copied g c).After-copy_log)
    (c.copy_log.ensures.copied told target_told is_new)

pub returns-clause-within : goal.returns-clause-within
returns-clause-within g c =
    subst (λ (l : RecordLogView). OnOk c.copy_log.result (IsCopyWithin (g.O.Oper.meaning l.bounds) (g.M.Machine.disk c.args.machine.now) l)) (log_is g (goal.at.returns-clause-within g c).After-copy_log) c.copy_log.ensures.within

pub returns-clause-long : goal.returns-clause-long
returns-clause-long g c = λ told.
    subst (λ (l : RecordLogView). (stable pending : List (Record g.row.O.Denot)) → Keeps (g.O.Oper.meaning l.bounds) (g.M.Machine.disk c.args.machine.now) l stable pending
    → 2 ^ 48 < copied_length (g.O.Oper.meaning l.bounds) l.log stable → c.copy_log.new.target ≡ c.args.target.now) (log_is g (goal.at.returns-clause-long g c).After-copy_log)
    (c.copy_log.ensures.long told)

pub returns-clause-undamaged : goal.returns-clause-undamaged
returns-clause-undamaged g c = λ told attached.
    let own = subst (λ (e : EngineView). IsAttached g.O.Oper.meaning (g.M.Machine.disk c.args.machine.now) e) (sym c.self.view_is) attached in
    let log = (own told).1 in
    c.copy_log.ensures.undamaged told log.stable log.pending log.keeps
