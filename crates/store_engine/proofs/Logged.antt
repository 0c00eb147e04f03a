-- Steps that add no command make a history longer by what they log.
use Rattle.std.proofs.Common.{◌≡◌, ◌+◌, List, [], ◌∷◌, length, arith, length-append}
use Rattle.oper_core.specs.Meaning.{Meaning}
use Rattle.explain_core.specs.History.Member.{Command, Identity}
use Rattle.explain_core.specs.World.{World, Step, step, run}
use Rattle.explain_core.specs.World.Step.{Begin, End, Append, Block_gate, Checkpoint, Slot_gate, Removal, Header_gate, Replay, Crash}
use Rattle.cache_manager.specs.InstallCourses.{logged_by, logged_in}
use Rattle.running_store.specs.Running.{IsUpkeep, AreUpkeep}

module _ {O : Type 0} (m : Meaning O) where
  one_longer : (w : World O) (s : Step O) → IsUpkeep s → length (step m w s).history ≡ length w.history + length (logged_by s)
  unfolding step
  one_longer w Begin is = absurd is
  one_longer w End is = absurd is
  one_longer w (Append (Command op)) is = absurd is
  one_longer w (Append (Identity x value)) is = length-append w.history (Identity x value ∷ [])
  one_longer w Block_gate is = omega arith
  one_longer w Checkpoint is = omega arith
  one_longer w (Slot_gate node x) is = omega arith
  one_longer w (Removal node) is = omega arith
  one_longer w (Header_gate base) is = omega arith
  one_longer w Replay is = absurd is
  one_longer w Crash is = absurd is

  pub history_longer : (w : World O) (steps : List (Step O)) → AreUpkeep steps → length (run m w steps).history ≡ length w.history + length (logged_in steps)
  unfolding run
  history_longer w [] are = omega arith
  history_longer w (s ∷ steps) are = omega (arith, history_longer (step m w s) steps are.1, one_longer w s are.0, length-append (logged_by s) (logged_in steps))
