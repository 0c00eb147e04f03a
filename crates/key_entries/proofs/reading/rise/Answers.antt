use Rattle.std.proofs.Common.{sym, arith}
use Rattle.key_entries.proofs.OneByOne.{keys_rise, keys_fall}
use Rattle.key_entries.proofs.reading.rise.Goals as goal

pub returns-then-ge : goal.returns-then-ge
returns-then-ge g c = sym (keys_fall c.args.entries.now c.loop-i.i c.index-entries-i.result c.index-entries-i-in-loop-i.result c.loop-i.auto.i c.loop-i-test.true c.if-ge.ensures)

pub returns : goal.returns
returns g c = sym (keys_rise c.args.entries.now (λ k d within. c.loop-i.invariant k d (omega (arith, within, c.loop-i-test.false))))
