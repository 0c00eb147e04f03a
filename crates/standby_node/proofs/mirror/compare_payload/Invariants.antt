use Rattle.std.specs.Prelude.{◌≡◌, ◌≤◌, ◌-◌, length}
use Rattle.standby_node.proofs.Compared.{IsPart}
use Rattle.standby_node.proofs.mirror.compare_payload.Given as goal

abbrev pub invariant-loop-at : goal.invariant-loop-at
invariant-loop-at g l = record {
  part : IsPart l.fn.base (g.O.Oper.meaning l.fn.b) l.fn.codes.items l.codes.items l.fn.payload l.at;
  within : l.at ≤ length l.fn.payload;
}

abbrev pub decreases-loop-at : goal.decreases-loop-at
decreases-loop-at g l = length l.fn.payload - l.at
