use Rattle.std.proofs.Common.{sym, ◌∙◌, arith}
use Rattle.key_entries.proofs.PlaceLemmas.{passed_none, passed_more, passed_less, passed_equal, passed_all}
use Rattle.key_entries.proofs.pairs.place_of.Goals as goal

pub loop-i-init : goal.loop-i-init
loop-i-init c = passed_none c.args.key c.args.pairs.now

pub returns-in-Less-clause-value : goal.returns-in-Less-clause-value
returns-in-Less-clause-value c = passed_less c.args.key c.args.pairs.now c.loop-i.i c.index-pairs-i.result c.loop-i.invariant c.loop-i-test.true (sym c.cmp.ensures ∙ c.in-Less.is)

pub returns-in-Equal-clause-value : goal.returns-in-Equal-clause-value
returns-in-Equal-clause-value c = passed_equal c.args.key c.args.pairs.now c.loop-i.i c.index-pairs-i.result c.loop-i.invariant c.loop-i-test.true (sym c.cmp.ensures ∙ c.in-Equal.is)

pub loop-i-preserved : goal.loop-i-preserved
loop-i-preserved c = passed_more c.args.key c.args.pairs.now c.loop-i.i c.index-pairs-i.result c.loop-i.invariant c.loop-i-test.true (sym c.cmp.ensures ∙ c.in-Greater.is)

pub returns-clause-value : goal.returns-clause-value
returns-clause-value c = passed_all c.args.key c.args.pairs.now c.loop-i.i c.loop-i.invariant (omega (arith, c.loop-i-test.false, c.loop-i.auto.i-end))
