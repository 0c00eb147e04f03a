-- What is stable, and the histories of which it may be the rest.
use Rattle.std.specs.Prelude.{◌≡◌, ℕ, ◌+◌, ◌-◌, ◌<◌, ◌≤◌, Bool, false, IsTrue, None, List, [], length, drop, take}
use Rattle.std.specs.List.{AllByRecursion}
use Rattle.oper_core.specs.Meaning.{Meaning}
use Rattle.explain_core.specs.History.{Member, accesses_of, value_at, IsHistory, commands_of}
use Rattle.oper_core.specs.Cell.{Cell}
use Rattle.explain_core.specs.Explains.{Explains}
use Rattle.explain_core.specs.World.{World, Starts, plan_of, start_of}
use Rattle.explain_core.specs.Sound.{SkipsNothing}

-- the stable parts of a store
pub record Stable (O : Type 0) : Type 0 where
  pub slots : ℕ → Cell
  pub tables : List Starts  -- the newest first
  pub base : ℕ
  pub commands_before : ℕ  -- so many commands are before the base
  pub records : List (Member O)  -- the members from the base on

-- the parts may be what is stable of this history, where these members are installed
pub record IsStableOf {O : Type 0} (m : Meaning O) (parts : Stable O) (history : List (Member O)) (installed : ℕ → Bool) : Type 0 where
  pub base : 1 ≤ parts.base
  pub reached : parts.base ≤ length history + 1
  -- the records are the members from the base on, and the commands before it are counted
  pub records : drop (parts.base - 1) history ≡ parts.records
  pub counted : parts.commands_before ≡ length (commands_of (take (parts.base - 1) history))
  pub members : IsHistory m history
  pub within : (n : ℕ) → IsTrue (installed n) → n ≤ length history
  -- all before the base is installed, and the installed members explain the slots
  pub below : (n : ℕ) → n < parts.base → IsTrue (installed n)
  pub slots : Explains (accesses_of m history) (value_at m history) installed parts.slots
  -- a redo by any of the checkpoints skips nothing
  pub tables : AllByRecursion (SkipsNothing (accesses_of m history) installed parts.base (length history + 1)) parts.tables

-- the world just after a crash that these make
abbrev pub world_of : {O : Type 0} → Meaning O → Stable O → List (Member O) → (ℕ → Bool) → World O
world_of m parts history installed = record {
  history = history;
  forced = length history;
  installed = installed;
  slots = parts.slots;
  cache = parts.slots;
  graph = λ n. false;
  tables = parts.tables;
  pending = [];
  base = parts.base;
  commands_before = parts.commands_before;
  next = start_of m.objects (plan_of parts.tables parts.base);
  group = None;
}

-- what is stable in a world
abbrev pub stable_of : {O : Type 0} → World O → Stable O
stable_of w = record { slots = w.slots; tables = w.tables; base = w.base; commands_before = w.commands_before; records = drop (w.base - 1) (take w.forced w.history) }
