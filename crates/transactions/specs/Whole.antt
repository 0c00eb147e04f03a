-- No moment splits a transaction whose commands are those from one number of commands up to another.
use Rattle.std.proofs.Common.{◌≡◌, ℕ, ◌≤◌, List, Option, inl, inr, ◌⊎◌, ⊎_elim, None, arith}
use Rattle.disk_model.specs.Disk.{Disk, Files}
use Rattle.oper_core.specs.Meaning.{Meaning}
use Rattle.oper_core.specs.declared.bounds.Bounds.{Bounds}
use Rattle.formats.specs.declared.params.Params.{Params}
use Rattle.store_engine.specs.Engine.{EngineView, Between, Kept, accepted_in, forced_in}

module _ (from to : ℕ) where
  -- of so many commands there are none of the transaction's, or all of them
  abbrev pub SplitsNothing : ℕ → Type 0
  SplitsNothing n = (n ≤ from) ⊎ (to ≤ n)

  module _ {O : Type 0} (meaning : Bounds → Meaning O) (p : Params) where
    -- what a crash leaves in any later call splits it not, where what is forced as the call begins does not
    pub moment_is_whole : (old : Disk) (group : Option ℕ) (forced start : ℕ) (commands : List O) (files : Files) (said : List ℕ) → SplitsNothing forced → to ≤ start
        → (is : Between meaning p old group forced start commands files said) → SplitsNothing is.kept
    moment_is_whole old group forced start commands files said whole behind is = ⊎_elim
        (λ same. ⊎_elim (λ few. inl (omega (arith, few, same))) (λ many. inr (omega (arith, many, same))) whole)
        (λ (all : (group ≡ None) × (start ≤ is.kept)). inr (omega (arith, behind, all.1))) is.which

    -- nor does what is forced after it
    pub forced_is_whole : (before : EngineView) (d : Disk) (after : EngineView) (commands : List O) → SplitsNothing (forced_in before) → to ≤ accepted_in before
        → Kept meaning p before d after commands → SplitsNothing (forced_in after)
    forced_is_whole before d after commands whole behind kept = ⊎_elim
        (λ same. ⊎_elim (λ few. inl (omega (arith, few, same))) (λ many. inr (omega (arith, many, same))) whole)
        (λ (all : (before.group ≡ None) × (accepted_in before ≤ forced_in after)). inr (omega (arith, behind, all.1))) kept.which
