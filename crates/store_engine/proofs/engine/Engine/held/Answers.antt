use Rattle.std.proofs.Common.{◌<◌, sym, subst}
use Rattle.std.specs.Prelude.{IsErrOf}
use Rattle.disk_model.specs.Disk.{Disk}
use Rattle.formats.specs.declared.read_err.ReadErr.TheVariants.{DiskFault}
use Rattle.store_engine.specs.Engine.{EngineView, IsAttached, IsEngineRead, ShowsIn, engine_of, params_of}
use Rattle.store_engine.proofs.SlotReads.{engine_read, read_fails_so, slot_pair, slot_undamaged}
use Rattle.store_engine.proofs.engine.Engine.held.Goals as goal

pub returns-clause-read : goal.returns-clause-read
returns-clause-read g c =
    let old : Disk = g.M.Machine.disk c.args.machine.now in
    let new : Disk = g.M.Machine.disk c.read_slot.new.machine in
    subst (λ (e : EngineView). IsEngineRead g.O.Oper.meaning old new e (engine_of c.read_slot.new.self c.self.inside.group c.self.inside.copied) (IsErrOf c.read_slot.result DiskFault)) c.self.view_is
    (engine_read g.O.Oper.meaning old new c.self.inside.store c.self.inside.group c.self.inside.copied c.read_slot.new.self _ (IsErrOf c.read_slot.result DiskFault) c.read_slot.ensures.kept (read_fails_so c.read_slot.result))

pub returns-clause-pair : goal.returns-clause-pair
returns-clause-pair g c = λ p w shows.
    let old : Disk = g.M.Machine.disk c.args.machine.now in
    slot_pair g.O.Oper.meaning old (g.M.Machine.disk c.read_slot.new.machine) c.self.inside.store c.self.inside.group c.self.inside.copied c.args.object
    (subst (λ (e : EngineView). c.args.object < (params_of e).objects) (sym c.self.view_is) c.requires.below) c.read_slot.result c.read_slot.new.into.items c.read_slot.ensures.pair p w
    (subst (λ (e : EngineView). ShowsIn g.O.Oper.meaning p old e w) (sym c.self.view_is) shows)

pub returns-clause-undamaged : goal.returns-clause-undamaged
returns-clause-undamaged g c = λ told attached file place is.
    let old : Disk = g.M.Machine.disk c.args.machine.now in
    slot_undamaged g.O.Oper.meaning old (g.M.Machine.disk c.read_slot.new.machine) c.self.inside.store c.self.inside.group c.self.inside.copied c.args.object
    (subst (λ (e : EngineView). c.args.object < (params_of e).objects) (sym c.self.view_is) c.requires.below) c.read_slot.result c.read_slot.new.into.items c.read_slot.ensures.kept.stays c.read_slot.ensures.cause told
    (subst (λ (e : EngineView). IsAttached g.O.Oper.meaning old e) (sym c.self.view_is) attached) file place is
