use Rattle.running_store.proofs.Inside.{force_call, force_is, force_taken}
use Rattle.running_store.proofs.store.Store.force.Goals as goal

pub returns-clause-call : goal.returns-clause-call
returns-clause-call g c =
    let is = c.force-answer.ensures in
    force_call (g.M.Machine.disk c.args.machine.now) (g.M.Machine.disk c.force-answer.new.m) c.self.inside.log c.force-answer.new.self c.self.inside.objects c.self.inside.graph.entries c.self.inside.identities c.self.inside.broken c.note.new.broken c.args.self.now
    c.self.view_is c.requires.unbroken g.O.Oper.meaning is.runs c.force-answer.result c.note.ensures is.forced is.kept is.settled is.acknowledged is.cause

pub returns-clause-takes : goal.returns-clause-takes
returns-clause-takes g c =
    let is = c.force-answer.ensures in
    force_taken (g.M.Machine.disk c.args.machine.now) (g.M.Machine.disk c.force-answer.new.m) c.self.inside.log c.force-answer.new.self c.self.inside.objects c.self.inside.graph.entries c.self.inside.identities c.self.inside.broken c.note.new.broken c.args.self.now
    c.self.view_is c.requires.unbroken g.O.Oper.meaning is.runs c.force-answer.result is.forced is.acknowledged c.block_gate_keeps.ensures is.any_moment

pub returns-clause-forced : goal.returns-clause-forced
returns-clause-forced g c =
    let is = c.force-answer.ensures in
    force_is (g.M.Machine.disk c.args.machine.now) (g.M.Machine.disk c.force-answer.new.m) c.self.inside.log c.force-answer.new.self c.self.inside.objects c.self.inside.graph.entries c.self.inside.identities c.self.inside.broken c.note.new.broken c.args.self.now
    c.self.view_is c.requires.unbroken g.O.Oper.meaning is.runs c.force-answer.result c.note.ensures is.forced is.kept
