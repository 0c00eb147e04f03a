-- What an engine says of the commands that are forced, and of what a restart then finds.
use Rattle.std.proofs.Common.{◌≡◌, ◌∙◌, ap, subst, sym, ℕ, ◌+◌, List, ◌++◌, length, take, refl, false, Option, None, Some, inl, ⊎_elim, arith, length-append, length-take}
use Rattle.std.specs.Prelude.{IfSome, IfOk, IfErr, Result, Ok, Err}
use Rattle.std.proofs.Math.Seq.{take-append_seam}
use Rattle.std.proofs.lemmas.List.{take_all}
use Rattle.disk_model.specs.Disk.{Disk, IsDisk, LeavesOnly}
use Rattle.disk_model.specs.Moments.{weaker}
use Rattle.disk_model.specs.Silent.{IsSilent}
use Rattle.oper_core.specs.Meaning.{Meaning}
use Rattle.oper_core.specs.declared.bounds.Bounds.{Bounds}
use Rattle.formats.specs.declared.params.Params.{Params}
use Rattle.stable_objects.specs.Reading.{IsNoDamage}
use Rattle.stable_objects.specs.declared.open_err.OpenErr.{OpenErr}
use Rattle.restart.specs.Starts.{OrAtStart}
use Rattle.store_engine.specs.Engine.{Between, EngineView, Holds, IsAttached, Opens, Says, forced_in, group_size, opened}
use Rattle.store_engine.specs.Store.{Stands}

module _ {O : Type 0} (meaning : Bounds → Meaning O) (p : Params) (d : Disk) (engine : EngineView) (commands : List O) (says : Says meaning p d engine commands) where
  abbrev these : List O
  these = take (forced_in engine) commands

  pub as_many_forced : length these ≡ forced_in engine
  as_many_forced = omega (arith, length-take (forced_in engine) commands, says.forced)

  pub opens : d.tells_files → Opens meaning p d these
  opens told = record { told = told; stands = says.images.0 }

  -- what a crash at the start leaves is among what it leaves later
  pub leaves_these : IsDisk d → d.tells_moments → (new : Disk) → LeavesOnly d new (OrAtStart d (Between meaning p d None (length these) (length these) these))
      → LeavesOnly d new (IsSilent (λ files. Stands meaning p files these) d.said)
  leaves_these lawful told new leaves = weaker d new (OrAtStart d (Between meaning p d None (length these) (length these) these)) (IsSilent (λ files. Stands meaning p files these) d.said) leaves (λ files said has. ⊎_elim
      (λ was. record { silent = lawful.said_now told files said was; holds = says.images.1 told files said was })
      (λ here. record { silent = here.quiet; holds = subst (λ (l : List O). Stands meaning p files l) (take_all here.kept these here.enough) here.stands })
      has)

module _ {O : Type 0} (meaning : Bounds → Meaning O) (p : Params) (d : Disk) (engine : EngineView) (commands ops : List O) (says : Says meaning p d engine (commands ++ ops)) (size : group_size engine ≡ Some (length ops)) where
  -- those before an open group are forced
  pub as_many : forced_in engine ≡ length commands
  as_many = omega (arith, subst (λ (o : Option ℕ). IfSome o (λ n. forced_in engine + n ≡ length (commands ++ ops))) size says.group_waits, length-append commands ops)

  pub are_those : take (forced_in engine) (commands ++ ops) ≡ commands
  are_those = ap (λ (n : ℕ). take n (commands ++ ops)) as_many ∙ take-append_seam commands ops

  pub leaves_those : (new : Disk) → LeavesOnly d new (IsSilent (λ files. Stands meaning p files (take (forced_in engine) (commands ++ ops))) d.said)
      → LeavesOnly d new (Between meaning p d None (length commands) (length commands) commands)
  leaves_those new leaves = weaker d new (IsSilent (λ files. Stands meaning p files (take (forced_in engine) (commands ++ ops))) d.said) (Between meaning p d None (length commands) (length commands) commands) leaves (λ files said has. record {
    quiet = has.silent;
    kept = length commands;
    enough = omega arith;
    within = omega arith;
    which = inl refl;
    stands = subst (λ (l : List O). Stands meaning p files l) (are_those ∙ sym (take_all (length commands) commands (omega arith))) has.holds;
  })

  pub holds_those : (new : Disk) (result : Result EngineView OpenErr) → IfOk result (λ after. Holds meaning p new after (take (forced_in engine) (commands ++ ops)) × (forced_in after ≡ forced_in engine))
      → IfOk result (λ after. (after.broken ≡ false) × (after.group ≡ None) × (after.copied ≡ None) × (after.identities ≡ 0) × IsAttached meaning new after)
      → IfOk result (λ after. Holds meaning p new after commands × (forced_in after ≡ length commands) × (after.group ≡ None))
  holds_those new (Ok after) holds ready = (subst (λ (l : List O). Holds meaning p new after l) are_those holds.0, holds.1 ∙ as_many, ready.1)
  holds_those new (Err e) holds ready = tt

pub undamaged_where : (r : Result EngineView OpenErr) → IfErr (opened r) IsNoDamage → IfErr r IsNoDamage
undamaged_where (Ok after) none = tt
undamaged_where (Err cause) none = none

-- so many are forced as were
pub forced_again : {O : Type 0} (meaning : Bounds → Meaning O) (p : Params) (new : Disk) (these : List O) (n : ℕ) → length these ≡ n → (result : Result EngineView OpenErr)
    → IfOk result (λ after. Holds meaning p new after these × (forced_in after ≡ length these)) → IfOk result (λ after. Holds meaning p new after these × (forced_in after ≡ n))
forced_again meaning p new these n long (Ok after) holds = (holds.0, holds.1 ∙ long)
forced_again meaning p new these n long (Err e) holds = tt
