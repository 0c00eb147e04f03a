use Rattle.std.proofs.Common.{◌≡◌, ◌≤◌, ◌++◌, ◌-◌, ℕ, List, drop, length}
use Rattle.redo_log.proofs.TallyLemmas.{lines_of}
use Rattle.redo_log.proofs.tally.tally_text.Given as goal

-- behind the lines that the text has come those of the other kinds
pub record IsTelling (text : List ℕ) (kind : ℕ) (tally : List (ℕ × ℕ)) : Type 0 where
  pub within : kind ≤ length tally
  pub so_far : text ++ lines_of kind (drop kind tally) ≡ lines_of 0 tally

abbrev pub invariant-loop-kind : goal.invariant-loop-kind
invariant-loop-kind l = IsTelling l.text.items l.kind l.tally

abbrev pub decreases-loop-kind : goal.decreases-loop-kind
decreases-loop-kind l = length l.tally - l.kind
