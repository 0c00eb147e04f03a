use Rattle.std.proofs.Common.{◌∙◌, arith}
use Rattle.redo_log.proofs.TallyLemmas.{all_told, table_is}
use Rattle.redo_log.proofs.tally.tally_text.Goals as goal

pub returns : goal.returns
returns c w m records is =
    let inv = c.loop-kind.invariant in
    all_told c.loop-kind.text.items c.loop-kind.kind c.args.tally.now (omega (arith, c.loop-kind-test.false)) inv.so_far ∙ table_is w m records c.args.tally.now is
