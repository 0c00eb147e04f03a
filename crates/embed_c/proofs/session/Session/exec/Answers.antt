use Rattle.std.proofs.Common.{◌∙◌, sym}
use Rattle.embed_c.proofs.Transacting.{runs_outside, stages_inside}
use Rattle.embed_c.proofs.session.Session.exec.Goals as goal

pub returns-then-in_transaction : goal.returns-then-in_transaction
returns-then-in_transaction c = stages_inside c.args.op c.args.self.now c.stage.new.self c.stage.result c.args.self.now.staging (sym c.in_transaction.ensures ∙ c.if-in_transaction.true) c.stage.ensures

pub returns : goal.returns
returns c = runs_outside c.args.op c.args.self.now c.run.new.self c.run.result c.args.self.now.staging (sym c.in_transaction.ensures ∙ c.if-in_transaction.false) c.run.ensures
