use Rattle.transactions.proofs.Begun.{begun_images, begun_where_ok}
use Rattle.transactions.proofs.beginning.begin.Goals as goal

pub returns-clause-begun : goal.returns-clause-begun
returns-clause-begun g c = λ p commands holds.
    let disk = g.M.Machine.disk in
    let call = c.begin-answer.ensures.alone c.requires.alone in
    begun_where_ok g.O.Oper.meaning p (disk c.args.machine.now) (disk c.begin-answer.new.machine) c.args.engine.now c.begin-answer.new.self commands holds (c.engine_stands.ensures p commands holds)
    call.0 c.begin-answer.result call.1 call.2 (λ all there. c.engine_stands-2.ensures p all there)

pub returns-clause-images : goal.returns-clause-images
returns-clause-images g c = λ told p commands holds.
    let disk = g.M.Machine.disk in
    let call = c.begin-answer.ensures.alone c.requires.alone in
    begun_images g.O.Oper.meaning p (disk c.args.machine.now) (disk c.begin-answer.new.machine) c.args.engine.now c.begin-answer.new.self commands holds (c.engine_stands.ensures p commands holds) c.requires.alone
    (call.2.commands.images told p commands holds)
