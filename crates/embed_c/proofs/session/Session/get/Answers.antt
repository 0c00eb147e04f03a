use Rattle.std.proofs.Common.{◌∙◌, sym}
use Rattle.embed_c.proofs.Transacting.{reads_outside, sees_inside}
use Rattle.embed_c.proofs.session.Session.get.Goals as goal

pub returns-then-in_transaction : goal.returns-then-in_transaction
returns-then-in_transaction c = sees_inside c.args.object c.args.into.now c.see.new.into c.see.new.length c.args.self.now c.see.new.self c.see.result c.args.self.now.staging (sym c.in_transaction.ensures ∙ c.if-in_transaction.true) c.see.ensures

pub returns : goal.returns
returns c = reads_outside c.args.object c.args.into.now c.read.new.into c.read.new.length c.args.self.now c.read.new.self c.read.result c.args.self.now.staging (sym c.in_transaction.ensures ∙ c.if-in_transaction.false) c.read.ensures
