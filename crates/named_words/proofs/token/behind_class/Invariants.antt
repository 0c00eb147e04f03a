use Rattle.std.proofs.Common.{◌≡◌, ◌≤◌, length}
use Rattle.named_words.specs.Patterns.{class_at}
use Rattle.named_words.proofs.token.behind_class.Given as goal

abbrev pub invariant-loop-rest : goal.invariant-loop-rest
invariant-loop-rest l = record {
  behind : (class_at l.class).1 ≡ (class_at l.fn.class).1;
  less : length l.class ≤ length l.fn.class;
}

abbrev pub decreases-loop-rest : goal.decreases-loop-rest
decreases-loop-rest l = length l.class
