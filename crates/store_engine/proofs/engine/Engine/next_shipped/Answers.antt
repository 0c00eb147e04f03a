use Rattle.std.proofs.Common.{◌∙◌, ap, subst}
use Rattle.std.specs.Prelude.{IfErr, IsErrOf, Result}
use Rattle.disk_model.specs.Disk.{Disk, Rises}
use Rattle.formats.specs.Reading.{FailsBy}
use Rattle.formats.specs.declared.read_err.ReadErr.{ReadErr}
use Rattle.formats.specs.declared.read_err.ReadErr.TheVariants.{DiskFault}
use Rattle.log_records.specs.CodecLaws.{HasCodes}
use Rattle.log_records.specs.Loading.{IsTailFault}
use Rattle.oper_core.specs.declared.bounds.Bounds.{Bounds}
use Rattle.store_engine.specs.Engine.{EngineView, IsEngineRead, engine_of}
use Rattle.store_engine.proofs.Shipped.{codes_of, log_undamaged}
use Rattle.store_engine.proofs.SlotReads.{engine_read, read_fails_so}
use Rattle.store_engine.proofs.engine.Engine.next_shipped.Goals as goal

pub returns-clause-read : goal.returns-clause-read
returns-clause-read g c =
    let old : Disk = g.M.Machine.disk c.args.machine.now in
    let new : Disk = g.M.Machine.disk c.next_block.new.machine in
    subst (λ (e : EngineView). IsEngineRead g.O.Oper.meaning old new e (engine_of c.next_block.new.self c.self.inside.group c.self.inside.copied) (IsErrOf c.next_block.result DiskFault)) c.self.view_is
    (engine_read g.O.Oper.meaning old new c.self.inside.store c.self.inside.group c.self.inside.copied c.next_block.new.self _ (IsErrOf c.next_block.result DiskFault) c.next_block.ensures.kept (read_fails_so c.next_block.result))

pub returns-clause-undamaged : goal.returns-clause-undamaged
returns-clause-undamaged g c = λ told attached bounds given reading file place is.
    let old : Disk = g.M.Machine.disk c.args.machine.now in
    let new : Disk = g.M.Machine.disk c.next_block.new.machine in
    let engine = c.args.self.now in
    let unbroken = ap (λ (e : EngineView). e.broken) c.self.view_is ∙ c.requires.unbroken in
    let codes = subst (λ (e : EngineView). HasCodes (g.O.Oper.meaning e.parts.log.bounds)) c.self.view_is
    (codes_of g.O.Oper.meaning g.met.O.Oper.bounded g.met.O.Oper.lawful c.self.inside.store.parts (c.params-params.ensures.in_use unbroken) c.params-params.ensures.range) in
    let fault = subst (λ (r : Result _ ReadErr). IfErr r (FailsBy (Rises old.disk_faults new.disk_faults) (IsTailFault (g.O.Oper.meaning c.args.reader.now.records.bounds) new engine.parts.log.log))) is (c.next_block.ensures.cause engine.parts.log.log given reading) in
    log_undamaged g.O.Oper.meaning engine codes c.next_block.ensures.kept.stays told attached file place (subst (λ (b : Bounds). IsTailFault (g.O.Oper.meaning b) new engine.parts.log.log file place) bounds fault)

pub returns-clause-cause : goal.returns-clause-cause
returns-clause-cause g c = λ given reading. c.next_block.ensures.cause c.args.self.now.parts.log.log given reading
