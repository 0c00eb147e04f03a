use Rattle.std.proofs.Common.{◌∙◌, refl, sym}
use Rattle.op_codec.specs.AllOps.{all_meaning}
use Rattle.redo_log.proofs.TallyLemmas.{tallies_kind, tallies_none}
use Rattle.redo_log.proofs.tally.count.Goals as goal

pub returns-then-asked : goal.returns-then-asked
returns-then-asked c b long =
    tallies_kind c.args.choice (all_meaning b) c.args.it.now c.args.tally.now.items c.raise.new.tally.items c.args.size c.kind_of.result (sym (c.admits-asked.ensures b) ∙ c.if-asked.true) long c.kind_of.ensures c.raise.ensures.within c.raise.ensures.beyond

pub returns-else-asked : goal.returns-else-asked
returns-else-asked c b long = tallies_none c.args.choice (all_meaning b) c.args.it.now c.args.tally.now.items c.args.tally.now.items (sym (c.admits-asked.ensures b) ∙ c.if-asked.false) refl
