use Rattle.std.proofs.Common.{◌≡◌, subst, true, false}
use Rattle.std.specs.Prelude.{IsErrOf, Ok}
use Rattle.disk_model.specs.Disk.{Disk}
use Rattle.running_store.specs.Calls.Faults.{is_read_fault}
use Rattle.store_engine.specs.Engine.{EngineView, IsEngineRead, engine_of}
use Rattle.store_engine.specs.declared.ship_err.ShipErr.TheVariants.{DiskFault}
use Rattle.store_engine.proofs.Shipped.{read_fails}
use Rattle.store_engine.proofs.SlotReads.{engine_read}
use Rattle.store_engine.proofs.engine.Engine.ship.Goals as goal

pub returns-in_err-block_reader-clause-read : goal.returns-in_err-block_reader-clause-read
returns-in_err-block_reader-clause-read g c =
    let old : Disk = g.M.Machine.disk c.args.machine.now in
    let new : Disk = g.M.Machine.disk c.block_reader.new.machine in
    let e = c.in_err-block_reader.field-0.0 in
    read_fails g.O.Oper.meaning c.from_residual.result e c.from_residual.ensures.1
    (subst (λ (before : EngineView). IsEngineRead g.O.Oper.meaning old new before (engine_of c.block_reader.new.self c.self.inside.group c.self.inside.copied) (is_read_fault e ≡ true)) c.self.view_is
    (engine_read g.O.Oper.meaning old new c.self.inside.store c.self.inside.group c.self.inside.copied c.block_reader.new.self (is_read_fault e) (is_read_fault e ≡ true) c.in_err-block_reader.ensures.kept (λ is. is, λ is. is)))

pub returns-clause-read : goal.returns-clause-read
returns-clause-read g c =
    let old : Disk = g.M.Machine.disk c.args.machine.now in
    let new : Disk = g.M.Machine.disk c.block_reader.new.machine in
    subst (λ (before : EngineView). IsEngineRead g.O.Oper.meaning old new before (engine_of c.block_reader.new.self c.self.inside.group c.self.inside.copied) (IsErrOf (Ok c.in_ok-block_reader.field-0) DiskFault)) c.self.view_is
    (engine_read g.O.Oper.meaning old new c.self.inside.store c.self.inside.group c.self.inside.copied c.block_reader.new.self false (IsErrOf (Ok c.in_ok-block_reader.field-0) DiskFault) c.in_ok-block_reader.ensures.kept (λ is. cc, λ is. cc))
