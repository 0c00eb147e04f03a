-- A call that an open group or a backup bars lets time pass, whether it is done or refused.
use Rattle.std.proofs.Common.{◌≡◌, ℕ, None, Option, Result, Some, refl, subst, sym}
use Rattle.std.specs.Prelude.{IfOk, IfSome, Ok, Err}
use Rattle.disk_model.specs.Disk.{Disk, Passes}
use Rattle.disk_model.specs.Moments.{passes_none}
use Rattle.formats.specs.declared.read_err.ReadErr.{ReadErr}
use Rattle.checkpointing.specs.declared.upkeep_report.UpkeepReport.{UpkeepReport}
use Rattle.store_engine.specs.Calls.{IsRefused, IsRefusedBeside}
use Rattle.store_engine.specs.Engine.{EngineView, commands_since}
use Rattle.store_engine.specs.Upkept.{IsLeftAlone}
use Rattle.store_engine.specs.declared.pace.Pace.{Pace}
use Rattle.store_engine.specs.declared.work_err.WorkErr.{WorkErr}

module _ {M : Type 0} (disk : M → Disk) {old new : M} where
  still : new ≡ old → Passes (disk old) (disk new)
  still same = subst (λ (m : M). Passes (disk old) (disk m)) (sym same) (passes_none (disk old))

  pub left_by_group : (before after : EngineView) (pace later : Pace) (result : Result UpkeepReport ReadErr) (next : ℕ) (group : Option ℕ) → IfSome (commands_since next group) (λ size. IsLeftAlone old new before after pace later result)
      → (group ≡ None → Passes (disk old) (disk new)) → Passes (disk old) (disk new)
  left_by_group before after pace later result next None left done = done refl
  left_by_group before after pace later result next (Some begun) left done = still left.machine

  module _ {T : Type 0} (before after : EngineView) (result : Result T WorkErr) where
    pub barred_by_group : (next : ℕ) (group : Option ℕ) → IfSome (commands_since next group) (λ size. IsRefused size old new before after result)
        → (group ≡ None → Passes (disk old) (disk new)) → Passes (disk old) (disk new)
    barred_by_group next None refused done = done refl
    barred_by_group next (Some begun) refused done = still refused.machine

    pub barred_by_backup : (copied : Option ℕ) → IfSome copied (λ n. IsRefusedBeside n old new before after result)
        → (copied ≡ None → Passes (disk old) (disk new)) → Passes (disk old) (disk new)
    barred_by_backup None refused done = done refl
    barred_by_backup (Some copied) refused done = still refused.machine

-- what follows at each value follows of a result
pub if_ok : {A E : Type 0} {P Q : A → Type 0} (r : Result A E) → ((a : A) → P a → Q a) → IfOk r P → IfOk r Q
if_ok (Ok a) on is = on a is
if_ok (Err e) on is = tt
