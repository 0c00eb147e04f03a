use Rattle.std.proofs.Common.{arith}
use Rattle.page_map.proofs.FittingLemmas.{child_told, no_child}
use Rattle.page_map.proofs.fitting.child_beside.Goals as goal

pub returns-then-bytes-ne4 : goal.returns-then-bytes-ne4
returns-then-bytes-ne4 c = no_child c.args.map.now c.args.bytes.now (λ e. absurd (omega (arith, c.if-bytes-ne4.true, e)))

pub returns : goal.returns
returns c =
    child_told c.args.map.now c.args.bytes.now (omega (arith, c.if-bytes-ne4.false)) (λ i. omega (arith, c.type_inv.bytes i)) c.read_u32-child.result c.read_u32-child.ensures
    (omega (arith, c.if-child-root.false, c.root.ensures)) (omega (arith, c.if-child-last.false, c.last.ensures.value))
