-- What is read of the slots of a store, past its cache.
use Rattle.std.proofs.Common.{◌≡◌, ◌∙◌, sym, subst, ap, ℕ, ◌<◌, Bool, true, List, inl, inr, ◌⊎◌, ⊎_elim, Option, refl}
use Rattle.std.specs.Prelude.{◌↔◌, Result, Ok, Err, IfErr, IfOk, IsErrOf}
use Rattle.disk_model.specs.Disk.{Disk, Rises, Stays}
use Rattle.disk_model.specs.declared.machine.FileNo.{FileNo}
use Rattle.disk_model.specs.declared.machine.FileNo.TheVariants.{Objects}
use Rattle.oper_core.specs.Cell.{Cell}
use Rattle.oper_core.specs.Meaning.{Meaning}
use Rattle.oper_core.specs.declared.bounds.Bounds.{Bounds}
use Rattle.formats.specs.Objects.{cell_of}
use Rattle.formats.specs.Reading.{FailsBy}
use Rattle.formats.specs.declared.params.Params.{Params}
use Rattle.formats.specs.declared.read_err.ReadErr.{ReadErr}
use Rattle.formats.specs.declared.read_err.ReadErr.TheVariants.{DiskFault, Damaged, Memory}
use Rattle.explain_core.specs.World.{World}
use Rattle.running_store.specs.Calls.Faults.{has_failed, is_read_fault}
use Rattle.running_store.specs.Laid.Fetched.{fetched-same}
use Rattle.running_store.specs.Parts.Joins.{stored_here}
use Rattle.running_store.specs.Laid.{Laid, IsLaidOn}
use Rattle.running_store.specs.Calls.LogReads.{IsLogRead}
use Rattle.running_store.specs.Laid.LongSlot.{IsLongSlot}
use Rattle.running_store.specs.Parts.{Parts, Shows}
use Rattle.running_store.specs.Parts.Reads.{read_shows}
use Rattle.running_store.specs.StoreView.{StoreView, store_params}
use Rattle.running_store.specs.Parts.Unchanged.{HasRead}
use Rattle.store_engine.specs.Engine.{IsAttached, IsEngineRead, ShowsIn, engine_of}
use Rattle.store_engine.specs.FailureLaws.{none_damaged}
use Rattle.store_engine.specs.Grouping.{ungrouped}
use Rattle.store_engine.specs.Store.{meaning_in}
use Rattle.store_engine.proofs.Ways.{unbroken_or}

-- objects that stay as they are
has_read : (old new : Disk) (laid : Laid) → Stays old new → HasRead old new laid laid
has_read old new laid stays = record { stays = stays; fetched = fetched-same laid laid refl (λ x. refl) (λ x. refl); cells = λ told is. (λ x below. refl, is) }

-- the disk failed exactly where the answer says so
pub read_fails_so : {T : Type 0} (r : Result T ReadErr) → (has_failed is_read_fault r ≡ true) ↔ IsErrOf r DiskFault
read_fails_so (Ok value) = (λ is. cc, λ is. cc)
read_fails_so (Err DiskFault) = (λ is. refl, λ is. refl)
read_fails_so (Err (Damaged file place)) = (λ is. cc, λ is. cc)
read_fails_so (Err Memory) = (λ is. cc, λ is. cc)

-- the pair that was read is the world's
is_pair : (r : Result ℕ ReadErr) (here cell : Cell) (bytes : List ℕ) → here ≡ cell → IfOk r (λ lsn. cell ≡ record { lsn = lsn; value = bytes }) → IfOk r (λ lsn. here ≡ record { lsn = lsn; value = bytes })
is_pair (Ok lsn) here cell bytes same is = same ∙ is
is_pair (Err e) here cell bytes same is = tt

module _ {O : Type 0} (meaning : Bounds → Meaning O) (old new : Disk) (store : StoreView) (group copied : Option ℕ) where
  -- a call on the store that only reads is one on its engine
  pub engine_read : (later : StoreView) (flag : Bool) (failed : Type 0) → IsLogRead old new store later flag → (flag ≡ true) ↔ failed → IsEngineRead meaning old new (engine_of store group copied) (engine_of later group copied) failed
  engine_read later flag failed read so = record {
    kept = read.stays;
    engine = λ i. record { parts = (read.store i).parts; identities = (read.store i).identities; group = group; copied = copied; broken = later.broken };
    broken = (λ set. so.0 (sym flag_is ∙ set), λ fails. flag_is ∙ so.1 fails);
    shows = λ p w shows. ⊎_elim (λ fails. inl fails)
        (λ fine. inr (record {
          unbroken = fine;
          sound = shows.sound;
          group = shows.group;
          shows = subst (λ (it : Parts). Shows (meaning_in meaning p) p new it (ungrouped w)) (sym (ap (λ (s : StoreView). s.parts) read.store))
              (read_shows (meaning_in meaning p) p old new store.parts store.parts.volatile.objects (ungrouped w) (has_read old new store.parts.volatile.objects read.stays) shows.shows);
          no_checkpoint = shows.no_checkpoint;
        })) (unbroken_or later.broken failed (λ set. so.0 (sym flag_is ∙ set), λ fails. flag_is ∙ so.1 fails));
  }
    where
      flag_is : later.broken ≡ flag
      flag_is = ap (λ (s : StoreView). s.broken) read.store

  module _ (object : ℕ) (below : object < (store_params store).objects) (r : Result ℕ ReadErr) (bytes : List ℕ) where
    pub slot_pair : (old.tells_files → IsLaidOn store.parts.volatile.objects (old.reads Objects) → IfOk r (λ lsn. cell_of object (old.reads Objects) ≡ record { lsn = lsn; value = bytes }))
        → (p : Params) (w : World O) → ShowsIn meaning p old (engine_of store group copied) w → IfOk r (λ lsn. w.slots object ≡ record { lsn = lsn; value = bytes })
    slot_pair is p w shows =
        let parts = shows.shows.store in
        let here = subst (λ (q : Params). object < q.objects) parts.params below in
        is_pair r (w.slots object) (cell_of object (old.reads Objects)) bytes (sym (parts.slots object) ∙ stored_here p (old.reads Objects) object here) (is shows.shows.told parts.laid)

    pub slot_undamaged : Stays old new → IfErr r (FailsBy (Rises old.disk_faults new.disk_faults) (IsLongSlot new store.parts.volatile.objects.slots object)) → old.tells_files → IsAttached meaning old (engine_of store group copied)
        → (file : FileNo) (place : ℕ) → IsErrOf r (Damaged file place) → ⊥
    slot_undamaged stays cause told attached file place is =
        none_damaged meaning store.parts stays told attached (subst (λ (k : Result ℕ ReadErr). IfErr k (FailsBy (Rises old.disk_faults new.disk_faults) (IsLongSlot new store.parts.volatile.objects.slots object))) is cause)
