use Rattle.std.specs.Prelude.{[], ◌∷◌}
use Rattle.std.specs.Option.{is_some}
use Rattle.explain_core.specs.World.Step.{End}
use Rattle.running_store.specs.Courses.{force_steps}
use Rattle.cache_manager.specs.FreeSteps.{free_beside}
use Rattle.store_engine.proofs.Besides.{begin_may, free_begin, free_checkpoint, free_exec, free_force, upkeep_beside}
use Rattle.store_engine.proofs.beside.calls_go_beside_a_copy.Goals as goal

pub returns-clause-exec : goal.returns-clause-exec
returns-clause-exec g c = λ b copied limit op w used small sound live.
    let m = g.O.Oper.meaning b in
    record { allowed = (c.exec_may_be_taken.ensures b w limit op used small sound live).allowed; beside = free_beside m copied w _ (free_exec m copied (is_some w.group) limit op w used) }

pub returns-clause-force : goal.returns-clause-force
returns-clause-force g c = λ b copied w used small is.
    let m = g.O.Oper.meaning b in
    record { allowed = (c.force_may_be_taken.ensures b w used small is).allowed; beside = free_beside m copied w (force_steps m w) (free_force m copied w) }

pub returns-clause-install : goal.returns-clause-install
returns-clause-install g c = λ b copied w used small is.
    record { allowed = (c.install_may_be_taken.ensures b copied w used small is).allowed; beside = c.installs_go_beside_a_copy.ensures.install b copied w used small is }

pub returns-clause-turn : goal.returns-clause-turn
returns-clause-turn g c = λ b copied most w used small is.
    record { allowed = (c.turn_may_be_taken.ensures b copied most w used small is).allowed; beside = c.installs_go_beside_a_copy.ensures.turn b copied most w used small is }

pub returns-clause-drain : goal.returns-clause-drain
returns-clause-drain g c = λ b copied w used small is.
    record { allowed = (c.drain_may_be_taken.ensures.taken b copied w used small is).allowed; beside = c.installs_go_beside_a_copy.ensures.drain b copied w used small is }

pub returns-clause-checkpoint : goal.returns-clause-checkpoint
returns-clause-checkpoint g c = λ b copied w used small is.
    let m = g.O.Oper.meaning b in
    record { allowed = (c.checkpoint_may_be_taken.ensures b w used small is).allowed; beside = free_beside m copied w _ (free_checkpoint m copied w used) }

pub returns-clause-begin : goal.returns-clause-begin
returns-clause-begin g c = λ b copied w used small is.
    let m = g.O.Oper.meaning b in
    let may = c.force_may_be_taken.ensures b w used small is in
    record { allowed = begin_may m w is may.allowed may.running; beside = free_beside m copied w _ (free_begin m copied w) }

pub returns-clause-end : goal.returns-clause-end
returns-clause-end g c = λ b copied w used in_one. record { allowed = (in_one, tt); beside = free_beside (g.O.Oper.meaning b) copied w (End ∷ []) (λ v. tt, tt) }

pub returns-clause-upkeep : goal.returns-clause-upkeep
returns-clause-upkeep g c = λ b due epoch copied w used none small is.
    let m = g.O.Oper.meaning b in
    record {
      allowed = (c.upkeep_may_be_taken.ensures b w due epoch copied used small is).allowed;
      beside = upkeep_beside m copied w (λ most used. c.installs_go_beside_a_copy.ensures.turn b copied most w used small is) due epoch used none;
    }
