-- What the loop keeps that copies one object after the other.
use Rattle.std.specs.Prelude.{◌↔◌}
use Rattle.std.proofs.Common.{◌≡◌, ◌⊎◌, ◌∙◌, inl, inr, ⊎_elim, ◌≤◌, ◌+◌, ℕ, false, Option, Some, refl, sym, ap, subst, arith}
use Rattle.std.proofs.lemmas.Bool.{cases_Bool}
use Rattle.disk_model.specs.Disk.{Files, Disk, IsDisk, Runs, Stays, Same, In}
use Rattle.disk_model.specs.Moments.{runs_none, stays_here, stays_twice}
use Rattle.disk_model.specs.declared.machine.FileNo.TheVariants.{Objects}
use Rattle.oper_core.specs.Meaning.{Meaning}
use Rattle.oper_core.specs.declared.bounds.Bounds.{Bounds}
use Rattle.formats.specs.declared.params.Params.{Params}
use Rattle.stable_objects.specs.GateLaws.{keeps_join}
use Rattle.stable_objects.specs.Making.{KeepsGate}
use Rattle.explain_core.specs.World.{World}
use Rattle.running_store.specs.Kept as of_parts
use Rattle.running_store.specs.Parts.{Parts}
use Rattle.store_engine.specs.Engine.{EngineView, IsAttached, IsEngineRead, ShowsIn}
use Rattle.backup_copy.specs.Calls.{but_copied}
use Rattle.backup_copy.specs.Copies.{Copies}
use Rattle.backup_copy.proofs.Forced.{attached_still}
use Rattle.backup_copy.proofs.Shown.{shows_copied}

module _ {O : Type 0} (meaning : Bounds → Meaning O) where
  -- so many objects are copied now
  pub record HasPassed (old new : Disk) (before after : EngineView) (t t' : Disk) (from now : ℕ) : Type 0 where
    pub kept : Stays old new
    pub engine : after ≡ record before { copied = Some now }
    pub shows : (p : Params) (w : World O) → ShowsIn meaning p old before w → ShowsIn meaning p new after w
    pub rising : from ≤ now
    pub runs : Runs (In Objects KeepsGate) Same t t'
    pub goes_on : (p : Params) (w : World O) → Copies meaning p old before w t → Copies meaning p new after w t'

  gate_none : (f : Files) → In Objects KeepsGate f f
  gate_none f = record { changed = λ some. (some, refl); others = λ other is_other. refl }

  pub passed_none : (old : Disk) (before : EngineView) (t : Disk) (from : ℕ) → IsDisk old → IsDisk t → before.copied ≡ Some from → HasPassed old old before before t t from from
  passed_none old before t from disk target same = record {
    kept = stays_here old disk;
    engine = λ i. record before { copied = same i };
    shows = λ p w shows. shows;
    rising = omega arith;
    runs = runs_none t (In Objects KeepsGate) gate_none target;
    goes_on = λ p w is. is;
  }

  module _ (old mid new : Disk) (before between after : EngineView) (t t' t'' : Disk) (from now : ℕ) (passed : HasPassed old mid before between t t' from now) where
    -- the next object is read
    pub read_on : {failed : Type 0} → IsEngineRead meaning mid new between (but_copied between after) failed → IsEngineRead meaning old new before (but_copied before after) failed
    read_on {failed} read = record {
      kept = stays_twice old mid new passed.kept read.kept;
      engine = ap (λ (e : EngineView). record e { copied = before.copied }) read.engine ∙ ap (λ (e : EngineView). record e { copied = before.copied; broken = after.broken }) passed.engine;
      broken = read.broken;
      shows = λ p w shows. ⊎_elim (λ is. inl is) (λ now. inr (shows_copied meaning p new (but_copied between after) w now before.copied)) (read.shows p w (passed.shows p w shows));
    }

    -- and counted
    pub passed_next : {failed : Type 0} → before.broken ≡ false → IsEngineRead meaning mid new between (but_copied between after) failed → (failed → ⊥) → after.copied ≡ Some (now + 1) → Runs (In Objects KeepsGate) Same t' t''
        → ((p : Params) (w : World O) → Copies meaning p mid between w t' → Copies meaning p new after w t'') → HasPassed old new before after t t'' from (now + 1)
    passed_next {failed} unbroken read fine counted run goes =
        let still : after.broken ≡ before.broken = elim (cases_Bool after.broken) [ inl broken ↦ absurd (fine (read.broken.0 broken)) | inr not ↦ not ∙ sym unbroken ] in
        let same : record after { copied = Some (now + 1) } ≡ record before { copied = Some (now + 1) } =
        ap (λ (e : EngineView). record e { copied = Some (now + 1) }) read.engine ∙ ap (λ (e : EngineView). record e { copied = Some (now + 1); broken = after.broken }) passed.engine ∙ (λ i. record before { copied = Some (now + 1); broken = still i }) in
        record {
          kept = stays_twice old mid new passed.kept read.kept;
          engine = (λ i. record after { copied = counted i }) ∙ same;
          shows = λ p w shows. ⊎_elim (λ is. absurd (fine is)) (λ now. shows_copied meaning p new (but_copied between after) w now after.copied) (read.shows p w (passed.shows p w shows));
          rising = omega (arith, passed.rising);
          runs = keeps_join t t' t'' passed.runs run;
          goes_on = λ p w is. goes p w (passed.goes_on p w is);
        }

  module _ (old new : Disk) (before after : EngineView) where
    -- a read, and then a change of how many objects are copied
    pub read_after : (between : EngineView) (copied : Option ℕ) {failed failed' : Type 0} → IsEngineRead meaning old new before between failed → after ≡ record between { copied = copied } → failed ↔ failed'
        → IsEngineRead meaning old new before (but_copied before after) failed'
    read_after between copied {failed} {failed'} read is same =
        let broken : between.broken ≡ after.broken = sym (ap (λ (e : EngineView). e.broken) is) in
        record {
          kept = read.kept;
          engine = ap (λ (e : EngineView). record e { copied = before.copied }) is ∙ ap (λ (e : EngineView). record e { copied = before.copied }) read.engine ∙ (λ i. record before { broken = broken i });
          broken = (λ raised. same.0 (read.broken.0 (broken ∙ raised)), λ fails. sym broken ∙ read.broken.1 (same.1 fails));
          shows = λ p w shows. ⊎_elim (λ fails. inl (same.0 fails))
              (λ now. inr (shows_copied meaning p new after w (subst (λ (e : EngineView). ShowsIn meaning p new e w) (sym is) (shows_copied meaning p new between w now copied)) before.copied)) (read.shows p w shows);
        }

    -- a read whose failure is answered otherwise
    pub read_so : {failed failed' : Type 0} → IsEngineRead meaning old new before after failed → failed ↔ failed' → IsEngineRead meaning old new before after failed'
    read_so {failed} {failed'} read same = record {
      kept = read.kept;
      engine = read.engine;
      broken = (λ raised. same.0 (read.broken.0 raised), λ fails. read.broken.1 (same.1 fails));
      shows = λ p w shows. ⊎_elim (λ fails. inl (same.0 fails)) (λ now. inr now) (read.shows p w shows);
    }

    -- what the engine was attached to it is attached to still
    pub read_attached : {failed : Type 0} → IsEngineRead meaning old new before (but_copied before after) failed → IsAttached meaning old before → IsAttached meaning new after
    read_attached {failed} read at = subst (λ (it : Parts). of_parts.IsAttached meaning new it) (sym (ap (λ (e : EngineView). e.parts) read.engine)) (attached_still meaning old new before read.kept at)

    -- the loop is a read, which did not fail
    pub passed_read : (t t' : Disk) (from now : ℕ) {failed : Type 0} → before.broken ≡ false → (failed → ⊥) → HasPassed old new before after t t' from now → IsEngineRead meaning old new before (but_copied before after) failed
    passed_read t t' from now {failed} unbroken fine passed =
        let same : before.broken ≡ after.broken = sym (ap (λ (e : EngineView). e.broken) passed.engine) in
        record {
          kept = passed.kept;
          engine = ap (λ (e : EngineView). record e { copied = before.copied }) passed.engine ∙ (λ i. record before { broken = same i });
          broken = (λ raised. cc (unbroken, same, raised), λ fails. absurd (fine fails));
          shows = λ p w shows. inr (shows_copied meaning p new after w (passed.shows p w shows) before.copied);
        }
