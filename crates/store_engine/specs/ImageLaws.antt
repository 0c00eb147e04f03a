-- Laws of images, and of those that stand for commands.
use Rattle.std.specs.Prelude.{ℕ, List, map}
use Rattle.std.proofs.Common.{refl, sym, subst, arith}
use Rattle.oper_core.specs.Meaning.{Meaning}
use Rattle.oper_core.specs.declared.bounds.Bounds.{Bounds}
use Rattle.disk_model.specs.Disk.{Files, Disk, IsDisk, LeavesOnly, Passes, Stays}
use Rattle.disk_model.specs.Moments.{goes_on}
use Rattle.disk_model.specs.declared.machine.FileNo.TheVariants.{Objects}
use Rattle.formats.specs.Objects.{BeginsStore}
use Rattle.formats.specs.Image.{EndsAt}
use Rattle.formats.specs.Log.{end_of}
use Rattle.formats.specs.Records.{payload_of}
use Rattle.formats.specs.declared.params.Params.{Params}
use Rattle.stable_objects.specs.Laws.{begins_store}
use Rattle.store_engine.specs.Store.{meaning_in, Stands}

-- images of a machine that reads alone are those that it had
pub leaves_still : (old mid new : Disk) (P : Files → List ℕ → Type 0) → IsDisk mid → Passes old mid → Stays mid new → old.tells_moments → LeavesOnly old mid P → LeavesOnly old new P
leaves_still old mid new P lawful time stays told leaves =
    let told_mid = time.moments_told.0 told in
    goes_on old mid new P told_mid leaves stays.time (λ c s left.
    let from = stays.crash told_mid c s left in
    let was : P from.0.0 mid.said = leaves.each from.0.0 mid.said (lawful.among old.clock mid.clock from.0.0 mid.said time.later (omega arith) from.0.1) in
    subst (λ (f : Files). P f s) (sym from.0.2) (subst (λ (l : List ℕ). P from.0.0 l) (sym from.1) was))

module _ {O : Type 0} (meaning : Bounds → Meaning O) where
  -- files that stand for commands begin a store
  pub stands_begins : {p : Params} {files : Files} {commands : List O} → Stands meaning p files commands → BeginsStore (files Objects)
  stands_begins {p} {files} stands = begins_store p (files Objects) stands.holds.objects

  -- and their log has an end
  pub stands_end : {p : Params} {files : Files} {commands : List O} → Stands meaning p files commands → (place : ℕ) × EndsAt files place
  stands_end {p} stands =
      let held = stands.holds in
      let payloads = map (payload_of (meaning_in meaning p)) held.groups in
      (end_of payloads, record { active = held.active; header = held.header; payloads = payloads; log = record { in_force = held.log.in_force; log = held.log.log.log }; here = refl })
