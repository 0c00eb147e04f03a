-- Names in the files of a store, and in a store in use.
use Rattle.std.specs.Prelude.{◌≡◌, ◌<◌, ◌^◌, ℕ, List, length, take, None}
use Rattle.disk_model.specs.Disk.{Disk, Files, LeavesOnly}
use Rattle.formats.specs.Objects.{bounds_of}
use Rattle.formats.specs.declared.params.Params.{Params}
use Rattle.store_engine.specs.Engine.{EngineView, forced_in}
use Rattle.shell_base.specs.Store.{Command, Holds, Stands, state_of}
use Rattle.named_words.specs.Effects.{Names}
use Rattle.name_ranges.specs.Named.{IsNamed}

-- the files stand for commands that leave these names in a range
pub record HaveNames (lo hi : ℕ) (files : Files) (names : Names) : Type 0 where
  pub numbers : Params
  pub commands : List Command
  pub stands : Stands numbers files commands
  pub named : IsNamed (bounds_of numbers) lo hi (state_of numbers commands) names

-- A store in use, on a machine that reports its moments, has these names, and a crash leaves the stable ones: all requests are in the
-- group that is open, or no group is open, and all are forced.
pub record HoldsNames (lo hi : ℕ) (p : Params) (d : Disk) (engine : EngineView) (commands : List Command) (names stable : Names) : Type 0 where
  pub told : d.tells_moments
  pub small : hi < 2 ^ 32
  pub holds : Holds p d engine commands
  pub named : IsNamed (bounds_of p) lo hi (state_of p commands) names
  pub forced : IsNamed (bounds_of p) lo hi (state_of p (take (forced_in engine) commands)) stable
  pub alone : engine.group ≡ None → forced_in engine ≡ length commands

-- whatever a crash leaves at a moment has names, of which, with what was said by then, this is so
abbrev pub LeavesNames : ℕ → ℕ → Disk → Disk → (List ℕ → Names → Type 0) → Type 0
LeavesNames lo hi old new P = LeavesOnly old new (λ files said. (names : Names) × HaveNames lo hi files names × P said names)
