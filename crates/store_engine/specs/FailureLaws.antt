-- No slot of an engine that is attached to its files is damaged.
use Rattle.std.proofs.Common.{◌≡◌, ℕ, subst}
use Rattle.disk_model.specs.Disk.{Disk, IsDisk, Passes, Stays}
use Rattle.disk_model.specs.declared.machine.FileNo.{FileNo}
use Rattle.disk_model.specs.declared.machine.FileNo.TheVariants.{Objects}
use Rattle.oper_core.specs.Meaning.{Meaning}
use Rattle.oper_core.specs.declared.bounds.Bounds.{Bounds}
use Rattle.stable_objects.specs.SlotsView.{SlotsView, AreOf}
use Rattle.running_store.specs.Laid.LongSlot.{IsLongSlot, long_never, long_untold}
use Rattle.running_store.specs.Kept.{IsAttached}
use Rattle.running_store.specs.Parts.{Parts}

module _ {O : Type 0} (meaning : Bounds → Meaning O) {old new : Disk} (before : Parts) {object : ℕ} {file : FileNo} {place : ℕ} where
  -- where a call leaves the files as they are
  pub none_damaged : Stays old new → old.tells_files → IsAttached meaning old before → IsLongSlot new before.volatile.objects.slots object file place → ⊥
  none_damaged stays told attached slot = long_untold before.volatile.objects.slots object file place stays told (attached told).0.slots slot

  -- and where it leaves the engine attached, with the same slots
  pub still_none_damaged : (after : Parts) → IsDisk new → Passes old new → after.volatile.objects.slots ≡ before.volatile.objects.slots → (IsAttached meaning old before → IsAttached meaning new after)
      → old.tells_files → IsAttached meaning old before → IsLongSlot new before.volatile.objects.slots object file place → ⊥
  still_none_damaged after disk time slots keeps told attached slot =
      let now = time.files_told.0 told in
      let laid = (keeps attached now).0 in
      long_never new before.volatile.objects.slots object file place new.reads (disk.agreeing now) (subst (λ (s : SlotsView). AreOf s (new.reads Objects)) slots laid.slots) slot
