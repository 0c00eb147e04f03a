use Rattle.std.proofs.Common.{◌≡◌, ◌+◌, length}
use Rattle.named_words.specs.Patterns.{fits_pieces, pieces_of, some_end}
use Rattle.named_words.proofs.pattern.some_end_fits.Given as goal

abbrev pub invariant-loop-behind : goal.invariant-loop-behind
invariant-loop-behind l = some_end (fits_pieces (pieces_of l.pattern)) l.text ≡ some_end (fits_pieces (pieces_of l.fn.pattern)) l.fn.text

abbrev pub decreases-loop-behind : goal.decreases-loop-behind
decreases-loop-behind l = length l.pattern + length l.text
