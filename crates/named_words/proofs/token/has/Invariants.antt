use Rattle.std.proofs.Common.{◌≡◌, length}
use Rattle.named_words.specs.Patterns.{class_at, is_in}
use Rattle.named_words.proofs.token.has.Given as goal

abbrev pub invariant-loop-low : goal.invariant-loop-low
invariant-loop-low l = is_in (class_at l.class).0 l.byte ≡ is_in (class_at l.fn.class).0 l.byte

abbrev pub decreases-loop-low : goal.decreases-loop-low
decreases-loop-low l = length l.class
