use Rattle.key_entries.proofs.PlaceLemmas.{IsPassed}
use Rattle.key_entries.proofs.pairs.place_of.Given as goal

abbrev pub invariant-loop-i : goal.invariant-loop-i
invariant-loop-i l = IsPassed l.key l.pairs l.i
