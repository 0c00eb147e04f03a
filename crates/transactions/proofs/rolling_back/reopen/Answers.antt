use Rattle.std.specs.Prelude.{take}
use Rattle.store_engine.specs.Engine.{forced_in}
use Rattle.transactions.proofs.Undone.{as_many_forced, forced_again, leaves_these, opens, undamaged_where}
use Rattle.transactions.proofs.rolling_back.reopen.Goals as goal

pub returns-clause-opening : goal.returns-clause-opening
returns-clause-opening g c = c.restart.ensures.opening

pub returns-clause-ready : goal.returns-clause-ready
returns-clause-ready g c = c.restart.ensures.ready

pub returns-clause-back : goal.returns-clause-back
returns-clause-back g c = λ told p commands holds.
    let meaning = g.O.Oper.meaning in
    let d = g.M.Machine.disk c.args.machine.now in
    let says = c.engine_stands.ensures p commands holds in
    let these = take (forced_in c.args.engine) commands in
    forced_again meaning p (g.M.Machine.disk c.restart.new.machine) these (forced_in c.args.engine) (as_many_forced meaning p d c.args.engine commands says) c.restart.result
    (c.restart.ensures.holds p these (opens meaning p d c.args.engine commands says told))

pub returns-clause-images : goal.returns-clause-images
returns-clause-images g c = λ told p commands holds.
    let meaning = g.O.Oper.meaning in
    let d = g.M.Machine.disk c.args.machine.now in
    let lawful = g.met.M.Machine.lawful c.args.machine.now in
    let says = c.engine_stands.ensures p commands holds in
    leaves_these meaning p d c.args.engine commands says lawful told (g.M.Machine.disk c.restart.new.machine)
    (c.restart.ensures.images told p (take (forced_in c.args.engine) commands) (opens meaning p d c.args.engine commands says (lawful.telling told)))

pub returns-clause-again : goal.returns-clause-again
returns-clause-again g c = λ told p commands holds.
    let d = g.M.Machine.disk c.args.machine.now in
    let says = c.engine_stands.ensures p commands holds in
    c.restart.ensures.again told p (take (forced_in c.args.engine) commands) (opens g.O.Oper.meaning p d c.args.engine commands says ((g.met.M.Machine.lawful c.args.machine.now).telling told))

pub returns-clause-undamaged : goal.returns-clause-undamaged
returns-clause-undamaged g c = λ told p commands holds.
    let d = g.M.Machine.disk c.args.machine.now in
    let says = c.engine_stands.ensures p commands holds in
    undamaged_where c.restart.result ((c.restart.ensures.judged told).whole
    (c.standing_files_meet_their_format.ensures.format p d.reads (take (forced_in c.args.engine) commands) (opens g.O.Oper.meaning p d c.args.engine commands says told).stands))
