use Rattle.std.proofs.Common.{Ok, Err, sym, subst}
use Rattle.script_run.specs.Tended.{Tends}
use Rattle.script_run.specs.declared.tending.Tending.{Tending}
use Rattle.script_run.proofs.TendLemmas.{left_by_hand, tends_err, tends_none, tends_ok}
use Rattle.script_run.proofs.tending.tend.Goals as goal

pub returns-in-ByHand : goal.returns-in-ByHand
returns-in-ByHand g c = tends_none c.args.tending _ (g.met.M.Machine.lawful c.args.machine.now) c.requires (left_by_hand c.args.tending c.args.engine.now c.in-ByHand.is)

pub returns-in-Ok : goal.returns-in-Ok
returns-in-Ok g c =
    subst (λ (t : Tending). Tends t (g.M.Machine.disk c.args.machine.now) (g.M.Machine.disk c.keep_up-kept.new.machine) c.args.engine.now c.keep_up-kept.new.self c.args.pace.now c.keep_up-kept.new.pace (Ok _)) (sym c.in-ByLine.is)
    (tends_ok g.M.Machine.disk c.identities_are_counted.ensures c.calls_go_beside_a_copy.ensures.upkeep c.engine_stands.ensures c.keep_up-kept.ensures.in_group c.keep_up-kept.ensures.alone c.in-Ok.field-0 _ c.in-Ok.is (g.met.M.Machine.lawful c.args.machine.now) c.requires)

pub returns-in-Err : goal.returns-in-Err
returns-in-Err g c =
    subst (λ (t : Tending). Tends t (g.M.Machine.disk c.args.machine.now) (g.M.Machine.disk c.keep_up-kept.new.machine) c.args.engine.now c.keep_up-kept.new.self c.args.pace.now c.keep_up-kept.new.pace (Err c.from.result)) (sym c.in-ByLine.is)
    (tends_err g.M.Machine.disk c.identities_are_counted.ensures c.calls_go_beside_a_copy.ensures.upkeep c.engine_stands.ensures c.keep_up-kept.ensures.in_group c.keep_up-kept.ensures.alone c.in-Err.error c.from.result c.in-Err.is c.from.ensures)
