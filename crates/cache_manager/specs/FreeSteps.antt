-- Steps that may be taken in any world while the slots are copied.
use Rattle.std.specs.Prelude.{ℕ, List, [], ◌∷◌}
use Rattle.std.specs.List.{AllByRecursion}
use Rattle.oper_core.specs.Meaning.{Meaning}
use Rattle.explain_core.specs.Backup.{AreBeside, MayWhileCopied}
use Rattle.explain_core.specs.World.{World, Step, step}

abbrev pub IsFree : {O : Type 0} → ℕ → Step O → Type 0
IsFree {O} copied s = (v : World O) → MayWhileCopied v copied s

pub free_beside : {O : Type 0} (m : Meaning O) (copied : ℕ) (w : World O) (steps : List (Step O)) → AllByRecursion (IsFree copied) steps → AreBeside m copied w steps
free_beside m copied w [] are = tt
free_beside m copied w (s ∷ steps) are = (are.0 w, free_beside m copied (step m w s) steps are.1)
