use Rattle.std.proofs.Common.{◌≡◌, sym, subst, [], ◌⊎◌}
use Rattle.std.specs.Prelude.{IsErrOf}
use Rattle.store_engine.specs.declared.work_err.WorkErr.TheVariants.{DiskFault, Memory}
use Rattle.standby_node.specs.Standby.{IsFollowing, StandbyView}
use Rattle.standby_node.proofs.KeptUp.{checkpointed_following}
use Rattle.standby_node.proofs.standby.Standby.checkpoint.Goals as goal

pub returns-clause-kept : goal.returns-clause-kept
returns-clause-kept g c p first bytes f =
    let meaning = g.O.Oper.meaning in
    let old = g.M.Machine.disk c.args.machine.now in
    let new = g.M.Machine.disk c.checkpoint.new.machine in
    let inside = c.self.inside in
    let parts : StandbyView = record { engine = inside.engine; frames = inside.frames; done = inside.done; stopped = inside.stopped } in
    let was : IsFollowing meaning p first bytes old parts = subst (λ (s : StandbyView). IsFollowing meaning p first bytes old s) (sym c.self.view_is) f in
    let between : parts.frames.kept ≡ [] = subst (λ (s : StandbyView). s.frames.kept ≡ []) (sym c.self.view_is) c.requires.ready.between in
    let call = c.checkpoint.ensures.alone c.self.invariant.0.group in
    subst (λ r. (IsErrOf r DiskFault ⊎ IsErrOf r Memory) ⊎ IsFollowing meaning p first bytes new (record parts { engine = c.checkpoint.new.self })) (sym call.1)
    (checkpointed_following meaning p first bytes old parts between was new c.checkpoint.new.self call.0 call.2)
