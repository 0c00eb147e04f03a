use Rattle.std.proofs.Common.{◌++◌, List, ℕ, length, map}
use Rattle.resp_words.specs.Lines.{AreWords}
use Rattle.resp_words.proofs.line.words_in_line.Given as goal

abbrev pub invariant-loop-word : goal.invariant-loop-word
invariant-loop-word l = (others : List (List ℕ)) → AreWords l.rest others → AreWords l.line (map (λ word. word.now) l.words.items ++ others)

abbrev pub decreases-loop-word : goal.decreases-loop-word
decreases-loop-word l = length l.rest
