use Rattle.std.proofs.Common.{◌∙◌, sym}
use Rattle.number_lists.proofs.Placed.{with-new, with-old}
use Rattle.number_lists.proofs.number_set.NumberSet.add.Goals as goal

pub returns-then-contains : goal.returns-then-contains
returns-then-contains c = with-old c.args.self.now c.args.n (sym c.contains.ensures ∙ c.if-contains.true)

pub returns : goal.returns
returns c = with-new c.args.self.now c.insert.new.self c.args.n c.insert.ensures.members c.insert.ensures.end c.insert.ensures.room
