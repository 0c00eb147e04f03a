-- What the replay of a record leaves, by the calls that it makes, and that it is a part of a redo.
use Rattle.std.proofs.Common.{◌≡◌, ◌∙◌, sym, subst, ap, ℕ, ◌<◌, Bool, true, false, List, [], ◌∷◌, refl, arith, ⊎_elim, inl, inr}
use Rattle.std.specs.Prelude.{◌↔◌, All, Result, Err, IsErrAnd}
use Rattle.std.proofs.lemmas.List.{map-append}
use Rattle.std.proofs.lemmas.List.Elements.{All-append, All-cons, All-nil}
use Rattle.disk_model.specs.Disk.{Disk, IsDisk, IsSettled, Rises, Stays}
use Rattle.disk_model.specs.Moments.{stays_here}
use Rattle.disk_model.specs.declared.machine.FileNo.TheVariants.{Objects}
use Rattle.oper_core.specs.Meaning.{Meaning}
use Rattle.oper_core.specs.declared.bounds.Bounds.{Bounds}
use Rattle.formats.specs.declared.read_err.ReadErr.{ReadErr}
use Rattle.install_order.specs.declared.entry.Entry.{Entry}
use Rattle.log_records.specs.RecordLog.{RecordLogView}
use Rattle.stable_objects.specs.SlotsView.{SlotsView, layout_of}
use Rattle.write_graph.specs.Graph.{lsns}
use Rattle.running_store.specs.Calls.Beside.{IsOnObjects, objects_fetch, objects_twice}
use Rattle.running_store.specs.Calls.{IsCall, IsFailed, Never, call_twice, ending_of_read}
use Rattle.running_store.specs.Courses.{Stop}
use Rattle.running_store.specs.Calls.Entered.{IsEntry, IsNotEntered}
use Rattle.running_store.specs.Laid.Fetched.{fetched-same}
use Rattle.running_store.specs.Calls.Fetches.{IsFetch, fetch_call}
use Rattle.running_store.specs.Kept.{HasLog}
use Rattle.running_store.specs.Laid.{IsLaidOn}
use Rattle.running_store.specs.StoreView.{StoreView}
use Rattle.running_store.specs.Taking.{Ending}
use Rattle.running_store.specs.Taking.Ending.{Done, Stopped}
use Rattle.redo_pass.specs.Endings.{as_error}
use Rattle.redo_pass.specs.Replayed.{IsInMemory, IsReplay}

-- to read the log is to read no slot
pub fetch_log : {old new : Disk} {before after : StoreView} {failed : Bool} {fault : Type 0} → Stays old new → after ≡ record before { broken = failed } → (failed ≡ true) ↔ fault → IsFetch old new before after fault
fetch_log {old} {new} {before} {fault = fault} stays same so = subst (λ (s : StoreView). IsFetch old new before s fault) (sym same) (record {
  read = record {
    stays = stays;
    fetched = fetched-same before.parts.volatile.objects before.parts.volatile.objects refl (λ x. refl) (λ x. refl);
    cells = λ told laid. ((λ x below. refl), laid);
  };
  log = refl;
  entries = refl;
  identities = refl;
  broken = so;
})

fetch_as : {old new : Disk} {before after : StoreView} {fault failed : Type 0} → fault ↔ failed → IsFetch old new before after fault → IsFetch old new before after failed
fetch_as so is = record { read = is.read; log = is.log; entries = is.entries; identities = is.identities; broken = (λ set. so.0 (is.broken.0 set), λ fails. is.broken.1 (so.1 fails)) }

module _ {within : ℕ → Type 0} where
  -- nothing is due
  pub memory_none : (it : StoreView) → IsInMemory it it within
  memory_none it = record { slots = refl; log = refl; identities = refl; flag = refl; laid = λ file is. is; entries = λ k low all. all }

  -- a record is entered
  pub memory_entered : {before after : StoreView} {due : List ℕ} {e : Entry} {made : List (List ℕ)} → ((k : ℕ) → within k → e.lsn < k) → IsEntry before after due e made → IsInMemory before after within
  memory_entered {before} {after} {due} {e} below is = record {
    slots = is.entered.slots;
    log = is.log;
    identities = is.counted;
    flag = is.flag;
    laid = is.laid;
    entries = λ k low all.
        subst (λ (l : List ℕ). All (λ n. n < k) l) (sym (ap lsns is.entered.entries ∙ map-append (λ (f : Entry). f.lsn) before.parts.volatile.entries (e ∷ [])))
        (All-append (λ n. n < k) (lsns before.parts.volatile.entries) (e.lsn ∷ []) all (All-cons (λ n. n < k) e.lsn [] (below k low) (All-nil (λ n. n < k))));
  }

  -- or is not, for want of memory
  pub memory_left : {before after : StoreView} → IsNotEntered before after → IsInMemory before after within
  memory_left {before} {after} is = record {
    slots = is.left.untaken.slots;
    log = is.log;
    identities = is.left.counted;
    flag = is.left.flag;
    laid = is.left.untaken.laid;
    entries = λ k low all. subst (λ (es : List Entry). All (λ n. n < k) (lsns es)) (sym is.left.untaken.entries) all;
  }

  -- no slot is read
  pub replay_memory : {d : Disk} {before after : StoreView} {failed : Type 0} → IsDisk d → before.broken ≡ false → (failed → ⊥) → IsInMemory before after within → IsReplay d d before after within failed
  replay_memory {d} {before} lawful fine none is = record {
    here = before;
    read = fetch_log {failed = false} (stays_here d lawful) (λ i. record before { broken = fine i }) (λ is. cc, λ fails. absurd (none fails));
    set = is;
  }

  module _ {old new : Disk} {before here : StoreView} {failed : Type 0} where
    -- slots are read
    pub replay_fetch : {fault : Type 0} → fault ↔ failed → IsFetch old new before here fault → IsReplay old new before here within failed
    replay_fetch so is = record { here = here; read = fetch_as so is; set = memory_none here }

    -- and then the record is entered
    pub replay_then : {after : StoreView} {fault : Type 0} → (fault → ⊥) → (failed → ⊥) → IsFetch old new before here fault → IsInMemory here after within → IsReplay old new before after within failed
    replay_then fine none is then = record { here = here; read = fetch_as (λ fails. absurd (fine fails), λ fails. absurd (none fails)) is; set = then }

-- a replay that fails by a call's error
pub replay_error : {T : Type 0} {old new : Disk} {before after : StoreView} {within : ℕ → Type 0} (result : Result T ReadErr) (why : ReadErr) → IsErrAnd result (λ e. e ≡ why)
    → IsReplay old new before after within (IsFailed (ending_of_read {T = T} (Err why))) → IsReplay old new before after within (IsFailed (ending_of_read result))
replay_error {old = old} {new} {before} {after} {within} = as_error (λ r. IsReplay old new before after within (IsFailed (ending_of_read r)))

-- A part of a redo, which may end it: a call in which nothing is logged, and which changes the objects alone.
pub record IsPart {O : Type 0} (meaning : Bounds → Meaning O) (old new : Disk) (before after : StoreView) (ending : Ending) : Type 0 where
  pub call : IsCall meaning old new before after 0 Never ending
  pub objects : IsOnObjects old new before after

module _ {O : Type 0} (meaning : Bounds → Meaning O) {old new : Disk} {before after : StoreView} where
  -- slots or the log are read
  pub part_fetch : {failed : Type 0} (ending : Ending) → IsFetch old new before after failed → failed ↔ IsFailed ending → ((stop : Stop) → ending ≡ Stopped stop → ⊥) → (IsFailed ending → Rises old.disk_faults new.disk_faults)
      → IsPart meaning old new before after ending
  part_fetch {failed} ending is so none rises = record {
    call = fetch_call meaning old new before after failed Never ending is so none rises;
    objects = objects_fetch old new before after failed is;
  }

  -- a record is replayed
  pub part_replay : {within : ℕ → Type 0} (ending : Ending) → IsReplay old new before after within (IsFailed ending) → ((stop : Stop) → ending ≡ Stopped stop → ⊥) → (IsFailed ending → Rises old.disk_faults new.disk_faults)
      → IsPart meaning old new before after ending
  part_replay ending is none rises =
      let call = fetch_call meaning old new before is.here (IsFailed ending) Never ending is.read (λ fails. fails, λ fails. fails) none rises in
      let objects = objects_fetch old new before is.here (IsFailed ending) is.read in
      let set = is.set in
      record {
        call = record {
          quiet = call.quiet;
          layout = ap layout_of set.slots ∙ call.layout;
          rising = omega (arith, call.rising, ap (λ (l : RecordLogView). l.next) set.log);
          identities = omega (arith, call.identities, set.identities);
          settled = call.settled;
          kept = ⊎_elim (λ failed. inl failed) (λ kept. inr (λ told has. subst (λ (l : RecordLogView). HasLog (meaning l.bounds) new l) (sym set.log) (kept told has))) call.kept;
          attached = ⊎_elim (λ failed. inl failed) (λ kept. inr (λ at told.
              let now = kept at told in (set.laid (new.reads Objects) now.0, subst (λ (l : RecordLogView). HasLog (meaning l.bounds) new l) (sym set.log) now.1))) call.attached;
          stopped = none;
          broken = (λ broken. is.read.broken.0 (sym set.flag ∙ broken), λ fails. set.flag ∙ is.read.broken.1 fails);
          fault = rises;
        };
        objects = record {
          runs = objects.runs;
          log = set.log ∙ objects.log;
          laid = ⊎_elim (λ failed. inl (set.flag ∙ failed)) (λ kept. inr (λ told laid. set.laid (new.reads Objects) (kept told laid))) objects.laid;
        };
      }

-- one that is done, and another after it
pub part_twice : {O : Type 0} {meaning : Bounds → Meaning O} {old mid new : Disk} {before here after : StoreView} {ending : Ending} → IsPart meaning old mid before here Done → IsPart meaning mid new here after ending
    → IsPart meaning old new before after ending
part_twice {O} {meaning} {old} {mid} {new} {before} {here} {after} {ending} first second = record {
  call = call_twice meaning old mid new before here after 0 0 Never Never ending first.call second.call;
  objects = objects_twice old mid new before here after (λ set. first.call.broken.0 set) first.objects second.objects;
}

module _ {O : Type 0} {meaning : Bounds → Meaning O} {old mid : Disk} {before here : StoreView} (part : IsPart meaning old mid before here Done) where
  pub part_settled : IsSettled old → IsSettled mid
  part_settled settled = ⊎_elim (λ failed. absurd failed) (λ kept. kept settled) part.call.settled

  pub part_laid : old.tells_files → IsLaidOn before.parts.volatile.objects (old.reads Objects) → IsLaidOn here.parts.volatile.objects (mid.reads Objects)
  part_laid told laid = ⊎_elim (λ set. absurd (part.call.broken.0 set)) (λ kept. kept told laid) part.objects.laid
