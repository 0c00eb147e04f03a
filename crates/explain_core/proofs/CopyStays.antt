-- What is copied stays so, step by step.
use Rattle.std.proofs.Common.{ℕ, List, [], ◌∷◌}
use Rattle.oper_core.specs.Cell.{Cell}
use Rattle.oper_core.specs.Meaning.{Meaning}
use Rattle.explain_core.specs.Backup.{AreBeside, IsCopied, MayWhileCopied}
use Rattle.explain_core.specs.Sound.{IsSound}
use Rattle.explain_core.specs.World.{AreAllowed, IsAllowed, Step, World, run, step}

module _ {O : Type 0} (m : Meaning O) (copied : ℕ) (cells : ℕ → Cell) (one : (w : World O) (s : Step O) → IsSound m w → IsCopied m w copied cells → IsAllowed m w s → MayWhileCopied w copied s → IsCopied m (step m w s) copied cells)
    (sound : (w : World O) (s : Step O) → IsSound m w → IsAllowed m w s → IsSound m (step m w s)) where
  pub goes_on : (w : World O) (steps : List (Step O)) → IsSound m w → IsCopied m w copied cells → AreAllowed m w steps → AreBeside m copied w steps → IsCopied m (run m w steps) copied cells
  unfolding run
  goes_on w [] is has may beside = has
  goes_on w (s ∷ steps) is has may beside = goes_on (step m w s) steps (sound w s is may.0) (one w s is has may.0 beside.0) may.1 beside.1

-- a run of one step is the step
pub run_one : {O : Type 0} (m : Meaning O) (w : World O) (s : Step O) → IsSound m (run m w (s ∷ [])) → IsSound m (step m w s)
unfolding run
run_one m w s is = is
