-- Parts of which slots were read, or room was taken, show the world that they showed, and are in use.
use Rattle.std.proofs.Common.{◌≡◌, ◌∙◌, sym, subst, ap, ℕ, ◌<◌, List, Option}
use Rattle.disk_model.specs.Disk.{Disk, Files}
use Rattle.disk_model.specs.declared.machine.FileNo.TheVariants.{Objects}
use Rattle.oper_core.specs.Meaning.{Meaning}
use Rattle.oper_core.specs.declared.bounds.Bounds.{Bounds}
use Rattle.formats.specs.Objects.{bounds_of, cell_of}
use Rattle.formats.specs.declared.params.Params.{Params}
use Rattle.log_records.specs.RecordLaws.{keeps_room, keeps_stay}
use Rattle.log_records.specs.RecordLog.{RecordLogView}
use Rattle.stable_objects.specs.SlotsView.{SlotsView, lsn_in}
use Rattle.dirty_cache.specs.Contents.{held}
use Rattle.dirty_cache.specs.declared.entry.Entry.{Entry as Pair}
use Rattle.install_order.specs.declared.entry.Entry.{Entry}
use Rattle.explain_core.specs.World.{World}
use Rattle.running_store.specs.Laid.Fetched.{IsFetched, fetched-in_use, fetched-same, fetched-shows}
use Rattle.running_store.specs.Laid.Flushed.{AreEarly}
use Rattle.running_store.specs.Kept.{IsAttached}
use Rattle.running_store.specs.Kept.Laws.{roomed_log, stays_log}
use Rattle.running_store.specs.Laid.{Laid, IsLaidOn, KeepsCells, cell_or}
use Rattle.running_store.specs.Parts.{AreInUse, Parts, Shows, ShowsVolatile, parts, volatile}
use Rattle.running_store.specs.Taking.{ArePartsInUse}
use Rattle.running_store.specs.Parts.Unchanged.{HasRead, IsUntaken}

-- objects of which slots were read, with the rest of the parts
abbrev pub with_objects : Parts → Laid → Parts
with_objects it objects = parts it.log objects it.volatile.entries

pub read_shows : {O : Type 0} (m : Meaning O) (p : Params) (old new : Disk) (before : Parts) (after : Laid) (w : World O) → HasRead old new before.volatile.objects after
    → Shows m p old before w → Shows m p new (with_objects before after) w
read_shows m p old new before after w read shows =
    let cells = read.cells shows.told shows.store.laid in
    let same : new.reads ≡ old.reads = read.stays.reads shows.told in
    record {
      told = read.stays.time.files_told.0 shows.told;
      running = shows.running;
      bounds = shows.bounds;
      store = subst (λ (f : Files). ShowsVolatile m p (f Objects) (volatile after before.volatile.entries) w) (sym same)
          (fetched-shows m p (old.reads Objects) before.volatile after w shows.store read.fetched cells.0 cells.1);
      log = record {
        stable = shows.log.stable;
        pending = shows.log.pending;
        keeps = keeps_stay m old new before.log shows.log.stable shows.log.pending shows.told read.stays shows.log.keeps;
        base = shows.log.base;
        commands_before = shows.log.commands_before;
        forced = shows.log.forced;
        waiting = shows.log.waiting;
        tables = shows.log.tables;
        pending_tables = shows.log.pending_tables;
      };
    }

pub read_in_use : (old new : Disk) (before : Parts) (after : Laid) → HasRead old new before.volatile.objects after → ArePartsInUse before → ArePartsInUse (with_objects before after)
read_in_use old new before after read used =
    let params : after.slots.params ≡ before.volatile.objects.slots.params = ap (λ (s : SlotsView). s.params) read.fetched.slots in
    record {
      bounds = used.bounds ∙ ap bounds_of (sym params);
      store = subst (λ (q : Params). AreInUse q before.log.next (volatile after before.volatile.entries)) (sym params)
          (fetched-in_use before.volatile.objects.slots.params before.log.next before.volatile after used.store read.fetched);
      early = subst (λ (s : SlotsView). (x : ℕ) → x < s.params.objects → lsn_in s x < before.log.next) (sym read.fetched.slots) used.early;
    }

pub read_attached : {O : Type 0} (meaning : Bounds → Meaning O) (old new : Disk) (before : Parts) (after : Laid) → HasRead old new before.volatile.objects after → IsAttached meaning old before
    → IsAttached meaning new (with_objects before after)
read_attached meaning old new before after read attached told =
    let told_old = read.stays.time.files_told.1 told in
    let was = attached told_old in
    let same : new.reads ≡ old.reads = read.stays.reads told_old in
    (subst (λ (f : Files). IsLaidOn after (f Objects)) (sym same) (read.cells told_old was.0).1, stays_log (meaning before.log.bounds) old new before.log told_old read.stays was.1)

module _ (before after : Parts) (it : IsUntaken before after) where
  pub untaken_fetched : IsFetched before.volatile.objects after.volatile.objects
  untaken_fetched = fetched-same before.volatile.objects after.volatile.objects it.slots it.dirty it.held

  pub untaken_cells : (file : List ℕ) → KeepsCells file before.volatile.objects after.volatile.objects
  untaken_cells file x below = ap (λ (e : Option Pair). cell_or e (cell_of x file)) (it.held x)

  pub untaken_shows : {O : Type 0} (m : Meaning O) (p : Params) (d : Disk) (w : World O) → Shows m p d before w → Shows m p d after w
  untaken_shows m p d w shows = record {
    told = shows.told;
    running = shows.running;
    bounds = ap (λ (r : RecordLogView). r.bounds) it.log ∙ shows.bounds;
    store = subst (λ (l : List Entry). ShowsVolatile m p (d.reads Objects) (volatile after.volatile.objects l) w) (sym it.entries)
        (fetched-shows m p (d.reads Objects) before.volatile after.volatile.objects w shows.store untaken_fetched (untaken_cells (d.reads Objects)) (it.laid (d.reads Objects) shows.store.laid));
    log = record {
      stable = shows.log.stable;
      pending = shows.log.pending;
      keeps = keeps_room m d before.log after.log shows.log.stable shows.log.pending it.log shows.log.keeps;
      base = ap (λ (r : RecordLogView). r.log.header.base) it.log ∙ shows.log.base;
      commands_before = ap (λ (r : RecordLogView). r.log.header.commands) it.log ∙ shows.log.commands_before;
      forced = shows.log.forced;
      waiting = shows.log.waiting;
      tables = shows.log.tables;
      pending_tables = shows.log.pending_tables;
    };
  }

  pub untaken_in_use : ArePartsInUse before → ArePartsInUse after
  untaken_in_use used =
      let params : after.volatile.objects.slots.params ≡ before.volatile.objects.slots.params = ap (λ (s : SlotsView). s.params) it.slots in
      let next : after.log.next ≡ before.log.next = ap (λ (r : RecordLogView). r.next) it.log in
      record {
        bounds = ap (λ (r : RecordLogView). r.bounds) it.log ∙ used.bounds ∙ ap bounds_of (sym params);
        store = subst (λ (q : Params). AreInUse q after.log.next after.volatile) (sym params)
            (subst (λ (n : ℕ). AreInUse before.volatile.objects.slots.params n after.volatile) (sym next)
            (subst (λ (l : List Entry). AreInUse before.volatile.objects.slots.params before.log.next (volatile after.volatile.objects l)) (sym it.entries)
            (fetched-in_use before.volatile.objects.slots.params before.log.next before.volatile after.volatile.objects used.store untaken_fetched)));
        early = subst (λ (n : ℕ). AreEarly n after.volatile.objects) (sym next)
            (subst (λ (s : SlotsView). (x : ℕ) → x < s.params.objects → lsn_in s x < before.log.next) (sym it.slots) used.early);
      }

  pub untaken_attached : {O : Type 0} (meaning : Bounds → Meaning O) (d : Disk) → IsAttached meaning d before → IsAttached meaning d after
  untaken_attached meaning d attached told = let was = attached told in (it.laid (d.reads Objects) was.0, roomed_log meaning d before.log after.log it.log told was.1)
