use Rattle.std.proofs.Common.{refl, arith}
use Rattle.write_queue.proofs.Windows.{laid, not_laid}
use Rattle.write_queue.proofs.looking.lay_over.Goals as goal

pub returns-then-first-end : goal.returns-then-first-end
returns-then-first-end c old shows =
    laid c.args.at c.args.from c.max-first.result c.min-end.result c.args.bytes.now old c.args.into.now shows (omega (arith, c.max-first.ensures)) (omega (arith, c.requires, c.saturating_add.ensures, c.min-end.ensures))
    (omega (arith, c.if-first-end.true)) _ c.copy_into.new.into refl c.copy_into.ensures

pub returns-else-first-end : goal.returns-else-first-end
returns-else-first-end c old shows =
    not_laid c.args.at c.args.from c.max-first.result c.min-end.result c.args.bytes.now old c.args.into.now shows (omega (arith, c.max-first.ensures)) (omega (arith, c.requires, c.saturating_add.ensures, c.min-end.ensures))
    (omega (arith, c.if-first-end.false))
