-- What calls of a server make of a store that has names.
use Rattle.std.specs.Prelude.{◌≡◌, ◌⊎◌, ◌++◌, ℕ, false, List, take, None, Result, IfErr, OnOk}
use Rattle.disk_model.specs.Disk.{Disk, Passes}
use Rattle.formats.specs.declared.params.Params.{Params}
use Rattle.store_engine.specs.Engine.{EngineView}
use Rattle.shell_base.specs.Stops.{IsCaused}
use Rattle.shell_base.specs.Store.{Command}
use Rattle.shell_base.specs.declared.stop.Stop.{Stop}
use Rattle.named_words.specs.Effects.{Names}
use Rattle.serving.specs.Held.{HoldsNames, LeavesNames}

-- What holds of each call on every machine: time goes on; done, it leaves the engine unbroken; and a fault that ends it was counted.
pub record GoesOn {T : Type 0} (old new : Disk) (after : EngineView) (result : Result T Stop) : Type 0 where
  pub time : Passes old new
  pub unbroken : OnOk result (after.broken ≡ false)
  pub cause : IfErr result (λ stop. IsCaused stop old new)

module _ (lo hi : ℕ) (p : Params) (old new : Disk) (after : EngineView) (names stable : Names) where
  -- Nothing is said, and a crash at any moment of the call leaves the stable names. Where it is done the store has these commands and
  -- names.
  pub record KeepsStable (done : Type 0) (commands : List Command) : Type 0 where
    pub quiet : new.said ≡ old.said
    pub moments : LeavesNames lo hi old new (λ said left. (said ≡ old.said) × (left ≡ stable))
    pub holds : done → HoldsNames lo hi p new after commands names stable

  -- Nothing is said, and a crash at any moment of the call leaves the stable names, or all; where it is done it leaves all.
  pub record MakesStable (done : Type 0) (commands : List Command) : Type 0 where
    pub quiet : new.said ≡ old.said
    pub moments : LeavesNames lo hi old new (λ said left. (said ≡ old.said) × ((left ≡ stable) ⊎ (left ≡ names)))
    pub holds : done → HoldsNames lo hi p new after commands names names
    pub alone : done → after.group ≡ None

  -- Bytes are said, of which a crash may cut off the last ones, and it leaves the stable names.
  pub record SaysBeside (done : Type 0) (commands : List Command) (bytes : List ℕ) : Type 0 where
    pub said : done → new.said ≡ old.said ++ bytes
    pub moments : LeavesNames lo hi old new (λ said left. ((n : ℕ) × (said ≡ old.said ++ take n bytes)) × (left ≡ stable))
    pub holds : HoldsNames lo hi p new after commands names stable

-- This is so of each store that has names, in whatever range they stand, and whatever a crash leaves of them.
abbrev pub OfNames : Disk → EngineView → (ℕ → ℕ → Params → List Command → Names → Names → Type 0) → Type 0
OfNames old before Makes = (lo hi : ℕ) (p : Params) (commands : List Command) (names stable : Names) → HoldsNames lo hi p old before commands names stable → Makes lo hi p commands names stable
