-- What a load makes of the files, and why it fails.
use Rattle.std.proofs.Common.{◌≡◌, ◌<◌, ◌≤◌, ◌+◌, ◌*◌, ◌^◌, ℕ, Bool, true, false, if◌then◌else◌, List, [], map, refl, sym, ap, ◌∙◌, subst, arith}
use Rattle.std.specs.Prelude.{All, None, Some, Option}
use Rattle.std.proofs.lemmas.List.{append-nil}
use Rattle.std.proofs.lemmas.List.Elements.{All-nil}
use Rattle.disk_model.specs.Disk.{Files, Disk, Rises, Stays, IsSettled}
use Rattle.disk_model.specs.Moments.{agreed_before, stays_settled, stays_twice, told_agrees}
use Rattle.disk_model.specs.declared.machine.FileNo.{FileNo}
use Rattle.disk_model.specs.declared.machine.FileNo.TheVariants.{Objects}
use Rattle.dirty_page_table.specs.declared.table.DirtyPageTable.{DirtyPageTable}
use Rattle.oper_core.specs.Meaning.{Meaning, HasBounds, IsSmall, IsLawful}
use Rattle.oper_core.specs.declared.bounds.Bounds.{Bounds}
use Rattle.formats.specs.Bytes.{IsOpenAt}
use Rattle.formats.specs.Log.{Header}
use Rattle.formats.specs.Objects.{params_in, IsInRange, IsObjectsFile, bounds_of}
use Rattle.formats.specs.FirstFault.{IsDamaged, AreObjectsWhole, at_objects, at_logs, at_record, at_late_slot}
use Rattle.formats.specs.Image.{IsRecordFault, IsLateSlot}
use Rattle.formats.specs.Reading.{FailsBy, TellsDamage}
use Rattle.formats.specs.Records.{AreRecords, last_checkpoint, payload_of, records_of, next_after, HoldsRecordLog}
use Rattle.formats.specs.declared.params.Params.{Params}
use Rattle.formats.specs.declared.read_err.ReadErr.{ReadErr}
use Rattle.formats.specs.declared.read_err.ReadErr.TheVariants as of_read
use Rattle.formats.specs.declared.record.Record.{Record}
use Rattle.log_blocks.specs.Reading.{fails_on}
use Rattle.stable_objects.specs.Laws.{one_store, params_of_file, gate_is_open}
use Rattle.stable_objects.specs.Reading.{FailsAt, IsDamagedAt, IsNoDamage, OpensNot, open_from_read}
use Rattle.stable_objects.specs.SlotLaws.{none_late, late_slot, is_late, place_of_file}
use Rattle.stable_objects.specs.SlotsView.{SlotsView, IsLate, place_of}
use Rattle.stable_objects.specs.declared.open_err.OpenErr.{OpenErr}
use Rattle.stable_objects.specs.declared.open_err.OpenErr.TheVariants as of_opening
use Rattle.dirty_cache.specs.Contents.{held}
use Rattle.install_order.specs.declared.entry.Entry.{Entry}
use Rattle.log_records.specs.CodecLaws.{HasCodes}
use Rattle.log_records.specs.Loading.{IsLoadFault}
use Rattle.log_records.specs.Loading as load
use Rattle.log_records.specs.RecordLog.{RecordLogView, Keeps, IsHeldIn, IsLoaded}
use Rattle.log_records.specs.RecordReader.{AreAll}
use Rattle.log_records.specs.Uniqueness.{one_grouping}
use Rattle.analysis_pass.specs.Analysis.{PlanView, table_or, least_start}
use Rattle.write_graph.specs.Graph.{lsns}
use Rattle.running_store.specs.Laid.Early as early
use Rattle.running_store.specs.Laid.{Laid, IsLaidOn}
use Rattle.running_store.specs.Parts.{Parts, meaning_in, parts}
use Rattle.running_store.specs.StoreView.{StoreView, view_of}
use Rattle.running_store.specs.Taking.{ArePartsInUse}
use Rattle.restart.specs.DamageLaws.{codes_in, no_late_slot}
use Rattle.restart.specs.Loading.{AreClosed, AreDamaged, IsFiled, IsFreshStore, IsRead, LoadsNot}
use Rattle.restart.specs.WellFormed.{IsWellFormed}

-- a settled machine stays so over calls that change nothing
pub all_settled : (old new : Disk) → Stays old new → IsSettled old → IsSettled new
all_settled old new kept settled file = stays_settled old new file kept (settled file)

-- calls that change nothing
pub three_stay : (old first mid last : Disk) → Stays old first → Stays first mid → Stays mid last → Stays old last
three_stay old first mid last one two three = stays_twice old mid last (stays_twice old first mid one two) three

-- The objects are loaded: since the opening began nothing changed, the machine is settled, and none is cached.
pub record HasSlots (old d : Disk) (objects : Laid) : Type 0 where
  pub kept : Stays old d
  pub settled : IsSettled d
  pub laid : (files : Files) → d.agrees files → IsLaidOn objects (files Objects)
  pub empty : (x : ℕ) → held objects.cache x ≡ None

pub has_slots : (old first mid : Disk) (objects : Laid) → Stays old first → IsSettled first → Stays first mid → ((files : Files) → mid.agrees files → IsLaidOn objects (files Objects))
    → ((x : ℕ) → held objects.cache x ≡ None) → HasSlots old mid objects
has_slots old first mid objects kept settled more laid empty = record {
  kept = stays_twice old first mid kept more;
  settled = all_settled first mid more settled;
  laid = laid;
  empty = empty;
}

-- a call that changes nothing leaves it so
pub slots_on : (old d new : Disk) (objects : Laid) → HasSlots old d objects → Stays d new → HasSlots old new objects
slots_on old d new objects has kept = record {
  kept = stays_twice old d new has.kept kept;
  settled = all_settled d new kept has.settled;
  laid = λ files agrees. has.laid files (agreed_before kept files agrees);
  empty = has.empty;
}

-- in what the machine reports
pub slots_told : (old d : Disk) (objects : Laid) → HasSlots old d objects → old.tells_files → IsLaidOn objects (old.reads Objects)
slots_told old d objects has told = has.laid old.reads (told_agrees has.kept told)

-- their gate is open
pub slots_gate : (old d : Disk) (objects : Laid) → HasSlots old d objects → old.tells_files → IsOpenAt 0 (old.reads Objects)
slots_gate old d objects has told = gate_is_open objects.slots.params (old.reads Objects) (slots_told old d objects has told).slots.whole

-- the objects file is whole with the numbers that stand in it
pub whole_objects : (q : Params) (files : Files) → IsObjectsFile q (files Objects) → AreObjectsWhole files
whole_objects q files is = subst (λ (p : Params). IsObjectsFile p (files Objects)) (sym (params_of_file q (files Objects) is)) is

-- The place is that of the LSN of the first open slot that has this LSN or a later one.
abbrev pub IsLateAt : SlotsView → ℕ → ℕ → Type 0
IsLateAt slots next place =
    (x : ℕ) × (s : ℕ) × IsLate slots next x s × (place ≡ place_of slots x s + 1) × ((y t : ℕ) → IsLate slots next y t → 2 * x + s ≤ 2 * y + t)

pub holder_two : (b : Bool) → (if b then 1 else 0) < 2
holder_two true = omega arith
holder_two false = omega arith

-- a log that is whole reports no damage
pub unharmed : (e : ReadErr) → (TellsDamage e → ⊥) → IsNoDamage (open_from_read e)
unharmed of_read.DiskFault none = tt
unharmed (of_read.Damaged file place) none = absurd (none tt)
unharmed of_read.Memory none = tt

-- a store is not opened where it is not read
pub opens_not : (closed : Type 0) (fails : ReadErr → Type 0) (e : ReadErr) → fails e → OpensNot closed fails (open_from_read e)
opens_not closed fails of_read.DiskFault is = is
opens_not closed fails (of_read.Damaged file place) is = is
opens_not closed fails of_read.Memory is = is

module _ {O : Type 0} (meaning : Bounds → Meaning O) where
  -- the slots are not loaded
  pub slots_fail : (old mid new : Disk) (e : OpenErr) → Stays old mid
      → OpensNot (AreClosed new) (FailsBy (Rises mid.disk_faults new.disk_faults) (FailsAt (λ place. (files : Files) → new.agrees files → IsDamagedAt (files Objects) place))) e
      → LoadsNot meaning old new e
  slots_fail old mid new of_opening.NotAStore kept fails = fails
  slots_fail old mid new of_opening.DiskFault kept fails = λ small. let risen = fails small in let later = kept.time.disk_faults in omega arith
  slots_fail old mid new (of_opening.Damaged file place) kept fails = λ files agrees.
      let at = fails.1 files agrees in
      subst (λ (f : FileNo). IsDamaged meaning files f place) (sym fails.0) (record { gate = at.gate; fault = at_objects place at.fault })
  slots_fail old mid new of_opening.Memory kept fails = tt

  -- a fault that a load finds damages the store
  damage : (q : Params) (files : Files) (f : FileNo) (n : ℕ) → IsObjectsFile q (files Objects) → IsLoadFault (meaning_in meaning q) files f n → IsDamaged meaning files f n
  damage q files f n objects (load.in_blocks file place fault) = record { gate = gate_is_open q (files Objects) objects; fault = at_logs file place (whole_objects q files objects) fault }
  damage q files f n objects (load.in_record active header place in_force has fault) = record {
    gate = gate_is_open q (files Objects) objects;
    fault = at_record active header place (whole_objects q files objects) in_force has
        (subst (λ (x : Params). IsRecordFault (meaning_in meaning x) (files active) place) (sym (params_of_file q (files Objects) objects)) fault);
  }

  -- the log is not loaded
  pub log_fails : (old mid new : Disk) (objects : Laid) (b : Bounds) (e : ReadErr) → HasSlots old mid objects → Stays mid new → b ≡ bounds_of objects.slots.params
      → FailsBy (Rises mid.disk_faults new.disk_faults) (λ file place. (files : Files) → new.agrees files → IsLoadFault (meaning b) files file place) e → LoadsNot meaning old new (open_from_read e)
  log_fails old mid new objects b e has more bounds fails =
      let rises = Rises old.disk_faults new.disk_faults in
      let unread : FileNo → ℕ → Type 0 = λ file place. (files : Files) → new.agrees files → IsLoadFault (meaning b) files file place in
      opens_not (AreClosed new) (FailsBy rises (AreDamaged meaning new)) e (fails_on (Rises mid.disk_faults new.disk_faults) rises unread (AreDamaged meaning new) e
      (λ risen small. let rose = risen small in omega (arith, rose, has.kept.time.disk_faults))
      (λ file place fault files agrees.
      let laid = has.laid files (agreed_before more files agrees) in
      damage objects.slots.params files file place laid.slots.whole (subst (λ (x : Bounds). IsLoadFault (meaning x) files file place) bounds (fault files agrees)))
      fails)

  -- the log of files that meet their format
  pub log_unharmed : (old mid : Disk) (objects : Laid) (b : Bounds) (e : ReadErr) → HasSlots old mid objects → b ≡ bounds_of objects.slots.params → old.tells_files → IsWellFormed meaning old.reads
      → ((active : FileNo) (header : Header) (groups : List (List (Record O))) → HoldsRecordLog (meaning b) active header groups mid.reads → TellsDamage e → ⊥)
      → IsNoDamage (open_from_read e)
  log_unharmed old mid objects b e has bounds told image none =
      let files = sym (has.kept.reads told) in
      let same : image.params ≡ objects.slots.params = one_store image.params objects.slots.params (old.reads Objects) image.objects (slots_told old mid objects has told).slots.whole in
      let records = subst (λ (x : Bounds). HoldsRecordLog (meaning x) image.active image.header image.groups old.reads) (ap (λ (q : Params). bounds_of q) same ∙ sym bounds) image.log in
      unharmed e (none image.active image.header image.groups (subst (HoldsRecordLog (meaning b) image.active image.header image.groups) files records))

  -- what the log of a store in these files is, once loaded, and its last checkpoint
  pub record IsLogOfStore (m : Meaning O) (files : Files) (view : RecordLogView) (checkpoint : Option DirtyPageTable) : Type 0 where
    pub groups : List (List (Record O))
    pub file : HoldsRecordLog m view.log.active view.log.header groups files
    pub next_is : view.next ≡ next_after view.log.header.base (records_of groups)
    pub checkpoint_is : checkpoint ≡ last_checkpoint (records_of groups)

  -- the records that a pass over the log met are those of the files
  pub log_of_store : (m : Meaning O) → HasCodes m → (d : Disk) (files : Files) (view : RecordLogView) (checkpoint : Option DirtyPageTable) (records : List (Record O)) → d.agrees files
      → IsHeldIn m files view → AreAll m d view.log records → checkpoint ≡ last_checkpoint records → IsLogOfStore m files view checkpoint
  log_of_store m codes d files view checkpoint records agrees held all last =
      let base = view.log.header.base in
      let met = all.read files agrees (map (payload_of m) held.groups) held.file.log.log in
      let same = one_grouping m codes base base base base held.groups met.groups held.file.log.placed (subst (λ (l : List (Record O)). AreRecords m base base l) met.records_are all.placed) met.payloads_are in
      record { groups = held.groups; file = held.file; next_is = held.next; checkpoint_is = last ∙ ap (λ (l : List (Record O)). last_checkpoint l) (met.records_are ∙ sym same) }

  -- Objects and log are loaded.
  pub record HasLog (old last : Disk) (objects : Laid) (view : RecordLogView) (checkpoint : Option DirtyPageTable) : Type 0 where
    pub slots : HasSlots old last objects
    pub bounds : view.bounds ≡ bounds_of objects.slots.params
    pub with_lsn : (1 ≤ view.next) × (view.next ≤ 2 ^ 62)
    pub log : (files : Files) → last.agrees files → IsLogOfStore (meaning_in meaning objects.slots.params) files view checkpoint
    pub read : old.tells_files → (it : IsLogOfStore (meaning_in meaning objects.slots.params) old.reads view checkpoint) × Keeps (meaning_in meaning objects.slots.params) last view (records_of it.groups) []

  -- a log that is loaded is one of the store
  loaded_log : (m : Meaning O) (b : Bounds) (mid last : Disk) (files : Files) (view : RecordLogView) (checkpoint : Option DirtyPageTable) → mid.reads ≡ files → IsSettled mid
      → (it : IsLoaded m b mid last view) × (checkpoint ≡ last_checkpoint (records_of it.groups)) → (it : IsLogOfStore m files view checkpoint) × Keeps m last view (records_of it.groups) []
  loaded_log m b mid last files view checkpoint same settled found =
      let is = found.0 in
      let keeps = is.keeps settled in (
        record {
          groups = is.groups;
          file = subst (HoldsRecordLog m view.log.active view.log.header is.groups) same is.file;
          next_is = keeps.next_is ∙ ap (λ (l : List (Record O)). next_after view.log.header.base l) (append-nil (records_of is.groups));
          checkpoint_is = found.1;
        },
        keeps,
      )

  pub has_log : ((b : Bounds) → HasBounds b (meaning b)) → ((b : Bounds) → IsSmall b → IsLawful (meaning b)) → (old mid last : Disk) (objects : Laid) (b : Bounds) (view : RecordLogView) (checkpoint : Option DirtyPageTable)
      → HasSlots old mid objects → Stays mid last → b ≡ bounds_of objects.slots.params → view.bounds ≡ b → (1 ≤ view.next) × (view.next ≤ 2 ^ 62)
      → (mid.tells_files → (it : IsLoaded (meaning b) b mid last view) × (checkpoint ≡ last_checkpoint (records_of it.groups)))
      → ((files : Files) → last.agrees files → IsHeldIn (meaning b) files view)
      → (records : List (Record O)) × AreAll (meaning b) last view.log records × (view.next ≡ next_after view.log.header.base records) × (checkpoint ≡ last_checkpoint records)
      → HasLog old last objects view checkpoint
  has_log bounded lawful old mid last objects b view checkpoint has kept bounds own with_lsn loaded held counted = record {
    slots = slots_on old mid last objects has kept;
    bounds = own ∙ bounds;
    with_lsn = with_lsn;
    log = λ files agrees.
        let laid = has.laid files (agreed_before kept files agrees) in
        let codes = subst (λ (x : Bounds). HasCodes (meaning x)) (sym bounds) (codes_in meaning bounded lawful objects.slots.params laid.slots.whole.in_range) in
        subst (λ (x : Bounds). IsLogOfStore (meaning x) files view checkpoint) bounds
        (log_of_store (meaning b) codes last files view checkpoint counted.0 agrees (held files agrees) counted.1 counted.3);
    read = λ told. subst (λ (x : Bounds). (it : IsLogOfStore (meaning x) old.reads view checkpoint) × Keeps (meaning x) last view (records_of it.groups) []) bounds
        (loaded_log (meaning b) b mid last old.reads view checkpoint (has.kept.reads told) has.settled (loaded (has.kept.time.files_told.0 told)));
  }

  module _ (old last : Disk) (objects : Laid) (view : RecordLogView) (checkpoint : Option DirtyPageTable) (has : HasLog old last objects view checkpoint) where
    -- an open slot with the next LSN, or a later one, is a fault of the files
    pub late_fault : (next place : ℕ) → next ≡ view.next → IsLateAt objects.slots next place → (files : Files) → last.agrees files
        → IsLateSlot (meaning (bounds_of (params_in (files Objects)))) files place
    late_fault next place same at files agrees =
        let file = files Objects in
        let laid = has.slots.laid files agrees in
        let log = has.log files agrees in
        let params : params_in file ≡ objects.slots.params = params_of_file objects.slots.params file laid.slots.whole in
        let slot = late_slot objects.slots file next at.0 at.1 laid.slots at.2 in
        record {
          x = at.0;
          s = at.1;
          in_range = subst (λ (q : Params). IsInRange q) (sym params) laid.slots.whole.in_range;
          slot = slot.0;
          next = next;
          next_is = record {
            active = view.log.active;
            header = view.log.header;
            groups = log.groups;
            log = subst (λ (q : Params). HoldsRecordLog (meaning_in meaning q) view.log.active view.log.header log.groups files) (sym params) log.file;
            here = same ∙ log.next_is;
          };
          late = slot.1;
          here = at.3 ∙ ap (λ (n : ℕ). n + 1) (place_of_file objects.slots file at.0 at.1 laid.slots);
        }

    pub late_fails : (next place : ℕ) → next ≡ view.next → IsLateAt objects.slots next place → (files : Files) → last.agrees files → IsDamaged meaning files Objects place
    unfolding late_fault
    late_fails next place same at files agrees =
        let laid = has.slots.laid files agrees in
        record {
          gate = gate_is_open objects.slots.params (files Objects) laid.slots.whole;
          fault = at_late_slot place (whole_objects objects.slots.params files laid.slots.whole) (record {
            late = late_fault next place same at files agrees;
            first = λ y t slot late. at.4 y t (is_late objects.slots (files Objects) next y t laid.slots slot late);
          });
        }

    module _ (none : (x s : ℕ) → IsLate objects.slots view.next x s → ⊥) (entries : List Entry) (empty : entries ≡ []) where
      -- what is loaded is in use
      pub are_in_use : ArePartsInUse (parts view objects entries)
      are_in_use = record {
        bounds = has.bounds;
        store = record {
          params = refl;
          low = has.with_lsn.1;
          above = subst (λ (l : List Entry). All (λ n. n < view.next) (lsns l)) (sym empty) (All-nil (λ n. n < view.next));
          dirty = λ x pair is had. let e : None ≡ Some pair = sym (has.slots.empty x) ∙ had in cc;
          clean = λ x pair is had. let e : None ≡ Some pair = sym (has.slots.empty x) ∙ had in cc;
        };
        early = early.none_late view.next objects (omega (arith, has.with_lsn.0)) none;
      }

      -- The store that is made of it.
      module _ (it : StoreView) (made : it ≡ view_of view objects entries 0 false) where
        pub is_ready : IsFreshStore last it
        is_ready = subst (λ (s : StoreView). IsFreshStore last s) (sym made) (record {
          settled = has.slots.settled;
          fresh = record { unbroken = refl; uncounted = refl };
          empty = (has.slots.empty, empty);
          bounds = has.bounds;
        })

        module _ (plan : PlanView) (base : ℕ) (base_is : base ≡ view.log.header.base) (table : plan.table ≡ table_or base checkpoint) (start : plan.start ≡ least_start plan.table.next plan.table.starts) where
          abbrev filed : (files : Files) → IsLaidOn objects (files Objects) → IsLogOfStore (meaning_in meaning objects.slots.params) files view checkpoint → IsFiled meaning files (parts view objects entries) plan
          filed files laid log = record {
            laid = laid;
            groups = log.groups;
            file = log.file;
            planned = record {
              table = table ∙ (λ i. table_or (base_is i) (log.checkpoint_is i));
              start = start;
            };
            none_late = λ x s below two is_open.
                let late = none_late objects.slots (files Objects) view.next laid.slots has.with_lsn.0 none x s below two is_open in
                omega (arith, late, log.next_is);
          }

          -- it is what these files hold
          pub is_filed : (files : Files) → last.agrees files → IsFiled meaning files it.parts plan
          is_filed files agrees = subst (λ (s : StoreView). IsFiled meaning files s.parts plan) (sym made) (filed files (has.slots.laid files agrees) (has.log files agrees))

          -- and where the machine reports its files, they are those
          pub is_read : old.tells_files → IsRead meaning old.reads last it.parts plan
          is_read told = subst (λ (s : StoreView). IsRead meaning old.reads last s.parts plan) (sym made) (record {
            filed = filed old.reads (slots_told old last objects has.slots told) (has.read told).0;
            keeps = (has.read told).1;
          })

  -- a late slot is no slot of files that meet their format
  pub late_never : ((b : Bounds) → HasBounds b (meaning b)) → ((b : Bounds) → IsSmall b → IsLawful (meaning b)) → (old last : Disk) (objects : Laid) (view : RecordLogView) (checkpoint : Option DirtyPageTable) (next place : ℕ)
      → HasLog old last objects view checkpoint → next ≡ view.next → IsLateAt objects.slots next place → old.tells_files → IsWellFormed meaning old.reads → ⊥
  late_never bounded lawful old last objects view checkpoint next place has same at told image =
      no_late_slot meaning bounded lawful old.reads place image (late_fault old last objects view checkpoint has next place same at old.reads (told_agrees has.slots.kept told))

  -- files that hold what was loaded meet their format
  abbrev pub filed_well_formed : (files : Files) (it : Parts) (plan : PlanView) → IsFiled meaning files it plan → IsWellFormed meaning files
  filed_well_formed files it plan is = record {
    params = it.volatile.objects.slots.params;
    active = it.log.log.active;
    header = it.log.log.header;
    groups = is.groups;
    objects = is.laid.slots.whole;
    log = is.file;
    none_late = is.none_late;
  }
