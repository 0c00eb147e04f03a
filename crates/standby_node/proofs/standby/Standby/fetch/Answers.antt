use Rattle.std.proofs.Common.{sym, subst, inl, inr, ⊎_elim}
use Rattle.store_engine.specs.Engine.{Holds}
use Rattle.standby_node.specs.Standby.{IsFollowing, StandbyView}
use Rattle.standby_node.proofs.KeptUp.{error_told}
use Rattle.standby_node.proofs.Recorded.{same_world}
use Rattle.standby_node.proofs.standby.Standby.fetch.Goals as goal

pub returns-clause-value : goal.returns-clause-value
returns-clause-value g c p commands holds =
    c.fetch.ensures.value p commands (subst (λ (s : StandbyView). Holds g.O.Oper.meaning p (g.M.Machine.disk c.args.machine.now) s.engine commands) (sym c.self.view_is) holds)

pub returns-clause-kept : goal.returns-clause-kept
returns-clause-kept g c p first bytes f =
    let meaning = g.O.Oper.meaning in
    let old = g.M.Machine.disk c.args.machine.now in
    let new = g.M.Machine.disk c.fetch.new.machine in
    let inside = c.self.inside in
    let parts : StandbyView = record { engine = inside.engine; frames = inside.frames; done = inside.done; stopped = inside.stopped } in
    let was : IsFollowing meaning p first bytes old parts = subst (λ (s : StandbyView). IsFollowing meaning p first bytes old s) (sym c.self.view_is) f in
    ⊎_elim (λ failed. inl (error_told c.fetch.result _ failed)) (λ there. inr (same_world meaning p first bytes old new parts c.fetch.new.self was there)) (c.fetch.ensures.fetched.shows p was.world was.shows)
