use Rattle.std.proofs.Common.{◌≡◌, ◌∙◌, sym, subst, [], refl}
use Rattle.std.specs.Prelude.{Err}
use Rattle.running_store.specs.declared.store_err.StoreErr.TheVariants.{DiskFault}
use Rattle.store_engine.specs.Calls.{IsForcing}
use Rattle.standby_node.specs.Standby.{IsFollowing, StandbyView}
use Rattle.standby_node.specs.Upkeep.{HasForcedAndTended}
use Rattle.standby_node.specs.Upkeep.HasForcedAndTended.{not_forced, tended}
use Rattle.standby_node.proofs.KeptUp as kept
use Rattle.standby_node.proofs.standby.Standby.tend_thin.Goals as goal

pub returns-then-is_err-clause-tended : goal.returns-then-is_err-clause-tended
returns-then-is_err-clause-tended g c =
    let meaning = g.O.Oper.meaning in
    let disk = g.M.Machine.disk in
    let inside = c.self.inside in
    let call = c.force.ensures.alone c.self.invariant.0.group in
    let failed = kept.not_forced (λ a. IsForcing meaning (disk c.args.machine.now) (disk c.force.new.machine) inside.engine c.force.new.self a) c.force.result call.0 call.1 (sym c.is_err.ensures.value ∙ c.if-is_err.true) call.2 in
    subst (λ (s : StandbyView). HasForcedAndTended meaning disk c.args.machine.now c.force.new.machine s.engine c.force.new.self c.args.most (Err DiskFault)) c.self.view_is (not_forced failed.0 failed.1 refl)

pub returns-clause-tended : goal.returns-clause-tended
returns-clause-tended g c =
    let meaning = g.O.Oper.meaning in
    let disk = g.M.Machine.disk in
    let inside = c.self.inside in
    let call = c.force.ensures.alone c.self.invariant.0.group in
    let made = kept.is_forced (λ a. IsForcing meaning (disk c.args.machine.now) (disk c.force.new.machine) inside.engine c.force.new.self a) c.force.result call.0 call.1 (sym c.is_err.ensures.value ∙ c.if-is_err.false) call.2 in
    subst (λ (s : StandbyView). HasForcedAndTended meaning disk c.args.machine.now c.tend_thin.new.machine s.engine c.tend_thin.new.self c.args.most c.tend_thin.result) c.self.view_is
    (tended c.force.new.machine c.force.new.self made.0 made.1 c.tend_thin.ensures.tended)

pub returns-clause-kept : goal.returns-clause-kept
returns-clause-kept g c p first bytes f =
    let meaning = g.O.Oper.meaning in
    let disk = g.M.Machine.disk in
    let old = disk c.args.machine.now in
    let inside = c.self.inside in
    let parts : StandbyView = record { engine = inside.engine; frames = inside.frames; done = inside.done; stopped = inside.stopped } in
    let was : IsFollowing meaning p first bytes old parts = subst (λ (s : StandbyView). IsFollowing meaning p first bytes old s) (sym c.self.view_is) f in
    let between : parts.frames.kept ≡ [] = subst (λ (s : StandbyView). s.frames.kept ≡ []) (sym c.self.view_is) c.requires.ready.between in
    let call = c.force.ensures.alone c.self.invariant.0.group in
    let made = kept.is_forced (λ a. IsForcing meaning old (disk c.force.new.machine) inside.engine c.force.new.self a) c.force.result call.0 call.1 (sym c.is_err.ensures.value ∙ c.if-is_err.false) call.2 in
    kept.thinned_following meaning p first bytes old (disk c.force.new.machine) (disk c.tend_thin.new.machine) parts between was c.force.new.self c.tend_thin.new.self made.0 made.1 c.args.most c.tend_thin.result c.tend_thin.ensures.tended
