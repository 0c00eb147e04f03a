use Rattle.std.proofs.Common.{◌≡◌, ◌++◌, length}
use Rattle.page_ops.specs.Layout.{moved, numbers_in}
use Rattle.page_ops.proofs.layout.Cells.write_places.Given as goal

abbrev pub invariant-loop-rest : goal.invariant-loop-rest
invariant-loop-rest l =
    l.out.items ++ moved l.self.from l.at (numbers_in l.rest) ≡ l.fn.out.items ++ moved l.self.from l.at (numbers_in l.self.places.now)

abbrev pub decreases-loop-rest : goal.decreases-loop-rest
decreases-loop-rest l = length l.rest
