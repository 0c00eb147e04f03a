use Rattle.std.proofs.Common.{◌≡◌, ◌≤◌, true, length}
use Rattle.named_words.specs.Patterns.{fits_pieces, pieces_of, some_end}
use Rattle.named_words.proofs.pattern.go_together.Given as goal

abbrev pub invariant-loop-token : goal.invariant-loop-token
invariant-loop-token l = record {
  same : fits_pieces (pieces_of l.fn.pattern) l.fn.text ≡ fits_pieces (pieces_of l.pattern) l.text;
  later : some_end (fits_pieces (pieces_of l.fn.pattern)) l.fn.text ≡ true → some_end (fits_pieces (pieces_of l.pattern)) l.text ≡ true;
  less : length l.pattern ≤ length l.fn.pattern;
  shorter : length l.text ≤ length l.fn.text;
}

abbrev pub decreases-loop-token : goal.decreases-loop-token
decreases-loop-token l = length l.pattern
