-- Objects that are fetched keep their pairs, and report them; and why one is not fetched.
use Rattle.std.proofs.Common.{◌≡◌, ℕ, ◌<◌, ◌+◌, List, [], ◌∷◌, ◌++◌, length, map, take, slice_index, refl, sym, ap, ◌∙◌, subst, arith, Bool, true, false}
use Rattle.std.specs.Prelude.{All, IfErr, IfOk, IsErrAnd, IsOk, OnOk, Result, Ok, Err}
use Rattle.std.proofs.lemmas.Bool.{both_ways}
use Rattle.std.proofs.lemmas.List.{map-append, take_more}
use Rattle.std.proofs.lemmas.List.Elements.{Contains-get_or}
use Rattle.std.proofs.lemmas.Result.{err_from_is_err_and}
use Rattle.disk_model.specs.Disk.{Files, Disk, Rises, Stays}
use Rattle.disk_model.specs.Moments.{stays_twice, told_agrees}
use Rattle.disk_model.specs.declared.machine.FileNo.TheVariants.{Objects}
use Rattle.oper_core.specs.Cell.{Cell}
use Rattle.formats.specs.Objects.{cell_of}
use Rattle.formats.specs.Reading.{FailsBy}
use Rattle.formats.specs.declared.read_err.ReadErr.{ReadErr}
use Rattle.log_blocks.specs.Reading.{fails_on}
use Rattle.stable_objects.specs.Reading.{FailsAt, IsLongValue}
use Rattle.stable_objects.specs.SlotsView.{SlotsView, AreOf, place_of, holder_in, lsn_in}
use Rattle.stable_objects.specs.SlotLaws.{lsn_is}
use Rattle.dirty_cache.specs.Contents.{held}
use Rattle.running_store.specs.Calls.Faults.{has_failed, is_read_fault}
use Rattle.running_store.specs.Laid.Fetched.{IsFetched, fetched-twice}
use Rattle.running_store.specs.Calls.Fetches.{IsFetch}
use Rattle.running_store.specs.Laid.{Laid, IsLaidOn, KeepsCells, values_in}
use Rattle.running_store.specs.Laid.Laws.{cells_same, cells_twice}
use Rattle.running_store.specs.Laid.LongSlot.{HasLongSlot, IsLongSlot}
use Rattle.running_store.specs.StoreView.{StoreView}
use Rattle.running_store.specs.Parts.Unchanged.{HasRead}
use Rattle.running_store.proofs.LentLemmas.{values_kept}

-- the pair that was read is that of the slots
pub read_pair : (slots : SlotsView) (file : List ℕ) (o lsn : ℕ) (bytes : List ℕ) → AreOf slots file → o < slots.params.objects → lsn ≡ lsn_in slots o → bytes ≡ (cell_of o file).value
    → cell_of o file ≡ record { lsn = lsn; value = bytes }
read_pair slots file o lsn bytes are below own value =
    let same_lsn = sym (own ∙ lsn_is slots file o are below) in λ i. record { lsn = same_lsn i; value = sym value i }

-- the cache was looked into
pub looked_read : (old new : Disk) (before after : Laid) → Stays old new → after.slots ≡ before.slots → ((x : ℕ) → held after.cache x ≡ held before.cache x) → IsFetched before after
    → ((file : List ℕ) → IsLaidOn before file → IsLaidOn after file) → HasRead old new before after
looked_read old new before after stays slots same fetched laid = record {
  stays = stays;
  fetched = fetched;
  cells = λ told is. (cells_same (old.reads Objects) before after slots same, laid (old.reads Objects) is);
}

-- and then a slot was read, and its pair kept
pub kept_read : {E : Type 0} (old new : Disk) (before looked after : Laid) (slots : SlotsView) (o lsn : ℕ) (bytes : List ℕ) (r : Result ℕ E) → HasRead old new before looked → slots ≡ looked.slots → o < before.slots.params.objects → r ≡ Ok lsn
    → IfOk r (λ lsn. lsn ≡ lsn_in slots o) → ((files : Files) → new.agrees files → AreOf slots (files Objects) → OnOk r (bytes ≡ (cell_of o (files Objects)).value))
    → ((file : List ℕ) → IsLaidOn looked file → cell_of o file ≡ record { lsn = lsn; value = bytes } → KeepsCells file looked after × IsLaidOn after file)
    → (lsn ≡ lsn_in looked.slots o → IsFetched looked after) → HasRead old new before after
kept_read {E} old new before looked after slots o lsn bytes r read same below was own value cells fetched =
    let its_own : lsn ≡ lsn_in looked.slots o = subst (λ (k : Result ℕ E). IfOk k (λ lsn. lsn ≡ lsn_in slots o)) was own ∙ ap (λ (s : SlotsView). lsn_in s o) same in
    record {
      stays = read.stays;
      fetched = fetched-twice before looked after read.fetched (fetched its_own);
      cells = λ told laid.
          let file = old.reads Objects in
          let held = read.cells told laid in
          let here = subst (λ (s : SlotsView). AreOf s file → OnOk r (bytes ≡ (cell_of o file).value)) same (value old.reads (told_agrees read.stays told)) held.1.slots in
          let bytes_are = subst (λ (k : Result ℕ E). OnOk k (bytes ≡ (cell_of o file).value)) was here in
          let pair = read_pair looked.slots file o lsn bytes held.1.slots (subst (λ (s : SlotsView). o < s.params.objects) (sym read.fetched.slots) below) its_own bytes_are in
          let now = cells file held.1 pair in
          (cells_twice file before looked after read.fetched.slots held.0 now.0, now.1);
    }

-- the value of one object more
pub values_next : (file : List ℕ) (old new : Laid) (objects : List ℕ) (values : List (List ℕ)) (v : List ℕ) (i : ℕ) → i < length objects → slice_index objects i < old.slots.params.objects
    → values ≡ map (values_in old file) (take i objects) → v ≡ values_in new file (slice_index objects i) → KeepsCells file old new
    → values ++ v ∷ [] ≡ map (values_in old file) (take (i + 1) objects)
values_next file old new objects values v i within below so_far is keeps =
    let value : v ≡ values_in old file (slice_index objects i) = is ∙ ap (λ (c : Cell). c.value) (keeps (slice_index objects i) below) in
    (λ j. so_far j ++ value j ∷ [])
    ∙ sym (map-append (values_in old file) (take i objects) (slice_index objects i ∷ []))
    ∙ ap (map (values_in old file)) (sym (take_more objects i 0 within))

-- why the slot of an object is not read is why the object is not fetched
pub read_fails : (rises : Type 0) (new : Disk) (slots now : SlotsView) (object : ℕ) (r : Result ℕ ReadErr) (e : ReadErr) → now ≡ slots → object < slots.params.objects → r ≡ Err e → (lsn_in now object ≡ 0 → IsOk r)
    → IfErr r (FailsBy rises (FailsAt (λ place. (files : Files) → new.agrees files → IsLongValue now.params.cap (place_of now object (holder_in now object)) (files Objects) place)))
    → FailsBy rises (IsLongSlot new slots object) e
read_fails rises new slots now object r e same below was fine fails =
    fails_on rises rises (FailsAt (λ place. (files : Files) → new.agrees files → IsLongValue now.params.cap (place_of now object (holder_in now object)) (files Objects) place)) (IsLongSlot new slots object) e
    (λ risen. risen)
    (λ file place long. subst (λ (s : SlotsView). IsLongSlot new s object file place) same (record {
      file_is = long.0;
      below = subst (λ (s : SlotsView). object < s.params.objects) (sym same) below;
      there = λ none. both_ways _ refl (subst (λ (k : Result ℕ ReadErr). IsOk k) was (fine none));
      long = long.1;
    }))
    (subst (λ (k : Result ℕ ReadErr). IfErr k (FailsBy rises (FailsAt (λ place. (files : Files) → new.agrees files → IsLongValue now.params.cap (place_of now object (holder_in now object)) (files Objects) place)))) was fails)

-- where one of the objects is not fetched, after calls that change nothing, they are not read for the same cause
pub one_fails : (first second new : Disk) (slots mid : SlotsView) (objects : List ℕ) (i : ℕ) (e : ReadErr) → i < length objects → Stays first second → mid ≡ slots
    → FailsBy (Rises second.disk_faults new.disk_faults) (IsLongSlot new mid (slice_index objects i)) e → FailsBy (Rises first.disk_faults new.disk_faults) (HasLongSlot new slots objects) e
one_fails first second new slots mid objects i e within stays same =
    fails_on (Rises second.disk_faults new.disk_faults) (Rises first.disk_faults new.disk_faults) (IsLongSlot new mid (slice_index objects i)) (HasLongSlot new slots objects) e
    (λ risen below. let rose = risen below in omega (arith, rose, stays.time.disk_faults))
    (λ file place slot. record {
      object = slice_index objects i;
      among = Contains-get_or objects i 0 within;
      slot = subst (λ (s : SlotsView). IsLongSlot new s (slice_index objects i) file place) same slot;
    })

-- slots are read twice
read_twice : (first second new : Disk) (old mid later : Laid) → HasRead first second old mid → HasRead second new mid later → HasRead first new old later
read_twice first second new old mid later one two = record {
  stays = stays_twice first second new one.stays two.stays;
  fetched = fetched-twice old mid later one.fetched two.fetched;
  cells = λ told laid.
      let reads : second.reads Objects ≡ first.reads Objects = ap (λ (f : Files). f Objects) (one.stays.reads told) in
      let kept = one.cells told laid in
      let again : IsLaidOn mid (second.reads Objects) = subst (λ (file : List ℕ). IsLaidOn mid file) (sym reads) kept.1 in
      let then = subst (λ (file : List ℕ). KeepsCells file mid later × IsLaidOn later file) reads (two.cells (one.stays.time.files_told.0 told) again) in
      (cells_twice (first.reads Objects) old mid later one.fetched.slots kept.0 then.0, then.1);
}

-- a store of which slots were read, and then of another
pub fetch_twice : (first second new : Disk) (before here after : StoreView) (failed : Type 0) → IsFetch first second before here (false ≡ true) → IsFetch second new here after failed → IsFetch first new before after failed
fetch_twice first second new before here after failed one two = record {
  read = read_twice first second new before.parts.volatile.objects here.parts.volatile.objects after.parts.volatile.objects one.read two.read;
  log = two.log ∙ one.log;
  entries = two.entries ∙ one.entries;
  identities = two.identities ∙ one.identities;
  broken = two.broken;
}

-- where an error is handed on, the same is said of it
pub handed_on : {T : Type 0} (first second : Disk) (before after : StoreView) (r : Result T ReadErr) (e : ReadErr) → IsErrAnd r (λ k. k ≡ e) → IsFetch first second before after (is_read_fault e ≡ true)
    → IsFetch first second before after (has_failed is_read_fault r ≡ true)
handed_on first second before after r e is fetch =
    let q = err_from_is_err_and r is in
    subst (λ (b : Bool). IsFetch first second before after (b ≡ true)) (sym (ap (λ (k : Result _ ReadErr). has_failed is_read_fault k) q.1 ∙ ap is_read_fault q.2)) fetch

-- where objects are not read after calls that change nothing, they are not read for the same cause
pub later_fails : (first second new : Disk) (slots mid : SlotsView) (objects : List ℕ) (e : ReadErr) → Stays first second → mid ≡ slots
    → FailsBy (Rises second.disk_faults new.disk_faults) (HasLongSlot new mid objects) e → FailsBy (Rises first.disk_faults new.disk_faults) (HasLongSlot new slots objects) e
later_fails first second new slots mid objects e stays same =
    fails_on (Rises second.disk_faults new.disk_faults) (Rises first.disk_faults new.disk_faults) (HasLongSlot new mid objects) (HasLongSlot new slots objects) e
    (λ risen below. let rose = risen below in omega (arith, rose, stays.time.disk_faults)) (λ file place slot. subst (λ (s : SlotsView). HasLongSlot new s objects file place) same slot)

-- what was read after a fetch is what the objects had before it
pub read_later : (first second : Disk) (old mid : Laid) (objects : List ℕ) (values : List (List ℕ)) → HasRead first second old mid → All (λ x. x < old.slots.params.objects) objects
    → (second.tells_files → IsLaidOn mid (second.reads Objects) → values ≡ map (values_in mid (second.reads Objects)) objects)
    → first.tells_files → IsLaidOn old (first.reads Objects) → values ≡ map (values_in old (first.reads Objects)) objects
read_later first second old mid objects values read below are told laid =
    let reads : second.reads Objects ≡ first.reads Objects = ap (λ (f : Files). f Objects) (read.stays.reads told) in
    let kept = read.cells told laid in
    are (read.stays.time.files_told.0 told) (subst (λ (file : List ℕ). IsLaidOn mid file) (sym reads) kept.1)
    ∙ ap (λ (file : List ℕ). map (values_in mid file) objects) reads ∙ values_kept (first.reads Objects) old mid objects below kept.0
