-- What a fetch leaves: each object has the value that it had, and engine and files show what they showed.
use Rattle.std.proofs.Common.{◌≡◌, ◌∙◌, sym, subst, ap, ℕ, ◌<◌, List, refl, inl, inr, ⊎_elim, true, false, Option, Some, None}
use Rattle.std.specs.Prelude.{Result, Ok, Err, IfErr, IfSome, IsSome, ◌↔◌}
use Rattle.std.specs.Result.{result_err}
use Rattle.disk_model.specs.Disk.{Disk, Rises}
use Rattle.disk_model.specs.declared.machine.FileNo.TheVariants.{Objects}
use Rattle.oper_core.specs.Meaning.{Meaning}
use Rattle.oper_core.specs.declared.bounds.Bounds.{Bounds}
use Rattle.formats.specs.Objects.{cell_of}
use Rattle.formats.specs.Reading.{FailsBy}
use Rattle.formats.specs.declared.params.Params.{Params}
use Rattle.formats.specs.declared.read_err.ReadErr.{ReadErr}
use Rattle.formats.specs.declared.read_err.ReadErr.TheVariants.{DiskFault, Damaged, Memory}
use Rattle.stable_objects.specs.SlotsView.{SlotsView}
use Rattle.dirty_cache.specs.Contents.{held}
use Rattle.dirty_cache.specs.declared.entry.Entry.{Entry as Pair}
use Rattle.explain_core.specs.World.{World}
use Rattle.running_store.specs.Calls.Faults.{has_failed, is_read_fault}
use Rattle.running_store.specs.Calls.Fetches as of_store
use Rattle.running_store.specs.Kept as of_parts
use Rattle.running_store.specs.Laid.{cell_or, values_in}
use Rattle.running_store.specs.Laid.LongSlot.{IsLongSlot}
use Rattle.running_store.specs.Parts.{Parts, Shows, parts}
use Rattle.running_store.specs.Parts.Reads.{read_attached, read_shows, with_objects}
use Rattle.running_store.specs.StoreView.{StoreView}
use Rattle.store_engine.specs.Commands.{HasFetched}
use Rattle.store_engine.specs.Engine.{EngineView, Holds, IsEngineFetch, ShowsIn, engine_of, params_of}
use Rattle.store_engine.specs.Failures.{IsFetchFailure}
use Rattle.store_engine.specs.Grouping.{ungrouped}
use Rattle.store_engine.specs.Store.{meaning_in, state_of}
use Rattle.store_engine.proofs.Holding.{IsLiveMap, holds_map}
use Rattle.store_engine.proofs.Ways.{unbroken_or}

-- the disk failed exactly where the answer says so
fails_so : {T : Type 0} (r : Result T ReadErr) → (has_failed is_read_fault r ≡ true) ↔ (result_err r ≡ Some DiskFault)
fails_so (Ok value) = (λ is. cc, λ is. cc)
fails_so (Err DiskFault) = (λ is. refl, λ is. refl)
fails_so (Err (Damaged file place)) = (λ is. cc, λ is. cc)
fails_so (Err Memory) = (λ is. cc, λ is. cc)

-- why a slot is not read is why the object is not fetched
fetch_cause : {T : Type 0} (r : Result T ReadErr) (old new : Disk) (engine : EngineView) (object : ℕ) → object < (params_of engine).objects
    → IfErr r (FailsBy (Rises old.disk_faults new.disk_faults) (IsLongSlot new engine.parts.volatile.objects.slots object)) → IfSome (result_err r) (IsFetchFailure old new engine object)
fetch_cause (Ok value) old new engine object below cause = tt
fetch_cause (Err e) old new engine object below cause = (below, cause)

module _ {O : Type 0} (meaning : Bounds → Meaning O) (old new : Disk) (store later : StoreView) (group copied : Option ℕ) (failed : Type 0) (is : of_store.IsFetch old new store later failed) where
  same_parts : with_objects store.parts later.parts.volatile.objects ≡ later.parts
  same_parts = λ i. parts (sym is.log i) later.parts.volatile.objects (sym is.entries i)

  fetched_call : (bad : Type 0) → failed ↔ bad → IsEngineFetch meaning old new (engine_of store group copied) (engine_of later group copied) bad
  fetched_call bad so = record {
    kept = is.read.stays;
    log = is.log;
    identities = is.identities;
    group = refl;
    copied = refl;
    attached = λ at. subst (λ (it : Parts). of_parts.IsAttached meaning new it) same_parts (read_attached meaning old new store.parts later.parts.volatile.objects is.read at);
    broken = (λ set. so.0 (is.broken.0 set), λ fails. is.broken.1 (so.1 fails));
  }

  fetched_shows : (p : Params) (w : World O) → later.broken ≡ false → ShowsIn meaning p old (engine_of store group copied) w → ShowsIn meaning p new (engine_of later group copied) w
  fetched_shows p w fine shows = record {
    unbroken = fine;
    sound = shows.sound;
    group = shows.group;
    shows = subst (λ (it : Parts). Shows (meaning_in meaning p) p new it (ungrouped w)) same_parts (read_shows (meaning_in meaning p) p old new store.parts later.parts.volatile.objects (ungrouped w) is.read shows.shows);
    no_checkpoint = shows.no_checkpoint;
  }

  -- the value of a cached object needs no file
  cached_value : (file other : List ℕ) (x : ℕ) → IsSome (held later.parts.volatile.objects.cache x) → values_in later.parts.volatile.objects file x ≡ values_in later.parts.volatile.objects other x
  cached_value file other x cached = by_entry (held later.parts.volatile.objects.cache x) refl cached
    where
      by_entry : (o : Option Pair) → held later.parts.volatile.objects.cache x ≡ o → IsSome o → values_in later.parts.volatile.objects file x ≡ values_in later.parts.volatile.objects other x
      by_entry None none cached = cc
      by_entry (Some pair) had cached =
          ap (λ (o : Option Pair). (cell_or o (cell_of x file)).value) had
          ∙ sym (ap (λ (o : Option Pair). (cell_or o (cell_of x other)).value) had)

  pub fetched_value : (p : Params) → IsLiveMap (meaning_in meaning p) → (commands : List O) → later.broken ≡ false → Holds meaning p old (engine_of store group copied) commands
      → (x : ℕ) → x < later.parts.volatile.objects.slots.params.objects → IsSome (held later.parts.volatile.objects.cache x)
      → (file : List ℕ) → values_in later.parts.volatile.objects file x ≡ state_of meaning p commands x
  fetched_value p map commands fine holds x below cached file =
      let there : Holds meaning p new (engine_of later group copied) commands = record { world = holds.world; shows = fetched_shows p holds.world fine holds.shows; commands_are = holds.commands_are } in
      let here = subst (λ (q : Params). x < q.objects) there.shows.shows.store.params below in
      cached_value file (new.reads Objects) x cached ∙ holds_map meaning p new (engine_of later group copied) commands there map x here

-- what a fetch says, where there is such an object
pub fetched_of : {O T : Type 0} (meaning : Bounds → Meaning O) (old new : Disk) (store later : StoreView) (group copied : Option ℕ) (object : ℕ) (r : Result T ReadErr)
    → of_store.IsFetch old new store later (has_failed is_read_fault r ≡ true) → object < (params_of (engine_of store group copied)).objects
    → IfErr r (FailsBy (Rises old.disk_faults new.disk_faults) (IsLongSlot new store.parts.volatile.objects.slots object))
    → HasFetched meaning old new (engine_of store group copied) (engine_of later group copied) object (result_err r)
fetched_of meaning old new store later group copied object r is below cause = record {
  call = fetched_call meaning old new store later group copied _ is _ (fails_so r);
  params = ap (λ (s : SlotsView). s.params) is.read.fetched.slots;
  shows = λ p w shows. ⊎_elim (λ bad. inl ((fails_so r).0 bad)) (λ fine. inr (fetched_shows meaning old new store later group copied _ is p w fine shows)) (unbroken_or later.broken (has_failed is_read_fault r ≡ true) is.broken);
  cause = fetch_cause r old new (engine_of store group copied) object below cause;
}
