-- The groups of a run.
use Rattle.std.specs.Prelude.{ℕ, ◌+◌, ◌<◌, ◌≤◌, nat_le, Option, None, Some, List, [], ◌∷◌, filter, ◌⊎◌}
use Rattle.oper_core.specs.Meaning.{Meaning}
use Rattle.explain_core.specs.World.{World, Step, step, end_of}
use Rattle.explain_core.specs.World.Step.{Begin, End, Append, Block_gate, Checkpoint, Slot_gate, Removal, Header_gate, Replay, Crash}

-- a closed group: its members are those from this LSN to below that one
pub record Group : Type 0 where
  pub begun : ℕ
  pub ended : ℕ

-- all of its members are among the first `forced` of the history, or none is
abbrev pub IsUnsplit : ℕ → Group → Type 0
IsUnsplit forced g = (g.ended ≤ forced + 1) ⊎ (forced < g.begun)

-- with the open group, if there is one, closed before this LSN
abbrev pub with_closed : Option ℕ → ℕ → List Group → List Group
with_closed None end groups = groups
with_closed (Some begun) end groups = record { begun = begun; ended = end } ∷ groups

-- the closed groups after a step: the end of a group adds it, and a crash takes away those of which it leaves no member
abbrev pub groups_after : {O : Type 0} → World O → Step O → List Group → List Group
groups_after w Begin groups = groups
groups_after w End groups = with_closed w.group (end_of w) groups
groups_after w (Append member) groups = groups
groups_after w Block_gate groups = groups
groups_after w Checkpoint groups = groups
groups_after w (Slot_gate node x) groups = groups
groups_after w (Removal node) groups = groups
groups_after w (Header_gate base) groups = groups
groups_after w Replay groups = groups
groups_after w Crash groups = filter (λ g. nat_le g.begun w.forced) groups

-- the closed groups after a list of steps, from a world that has these
abbrev pub groups_of : {O : Type 0} → Meaning O → World O → List Group → List (Step O) → List Group
groups_of m w groups [] = groups
groups_of m w groups (s ∷ steps) = groups_of m (step m w s) (groups_after w s groups) steps
