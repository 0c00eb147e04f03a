use Rattle.page_ops.proofs.LayoutLemmas.{numbers_count}
use Rattle.page_ops.proofs.layout.Cells.count.Goals as goal

pub returns-clause-value : goal.returns-clause-value
returns-clause-value c = numbers_count c.args.self.now.places.now
