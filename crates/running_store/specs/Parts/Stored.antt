-- Store and files that show a world: what a flush and a removal leave of them, and of a log beside them.
use Rattle.std.proofs.Common.{◌≡◌, ◌∙◌, ap, sym, subst, ℕ, ◌<◌, Bool, List, [], ◌∷◌, refl, inl, inr, ◌⊎◌, ⊎_elim, Some}
use Rattle.std.specs.Prelude.{not}
use Rattle.std.proofs.Math.Path.{fun_ext}
use Rattle.std.specs.List.{filter}
use Rattle.std.proofs.lemmas.Bool.{cases_eq}
use Rattle.disk_model.specs.Disk.{Disk, Files, OthersStay, IsSettled, Runs, In, Any, Same, LeavesOnly, IsDisk}
use Rattle.disk_model.specs.Moments.{weaker, started}
use Rattle.disk_model.specs.Silent.{IsSilent}
use Rattle.disk_model.specs.declared.machine.FileNo.{FileNo}
use Rattle.disk_model.specs.declared.machine.FileNo.TheVariants.{Objects, LogA, LogB}
use Rattle.oper_core.specs.Meaning.{Meaning}
use Rattle.formats.specs.InForce.{IsInForce, IsPassive}
use Rattle.formats.specs.Objects.{IsObjectsFile, cell_of}
use Rattle.formats.specs.Records.{HoldsRecordLog, IsRecordLog}
use Rattle.formats.specs.declared.layout.Layout.{Layout}
use Rattle.formats.specs.declared.params.Params.{Params}
use Rattle.formats.specs.declared.record.Record.{Record}
use Rattle.log_records.specs.RecordLog.{RecordLogView, Keeps}
use Rattle.stable_objects.specs.Replacing.{IsReplaced, IsOldOrNew, OthersKept}
use Rattle.stable_objects.specs.SlotsView.{AreOf}
use Rattle.dirty_cache.specs.Contents.{held, cell_of_entry}
use Rattle.dirty_cache.specs.declared.entry.Entry.{Entry as Pair}
use Rattle.install_order.specs.declared.entry.Entry.{Entry}
use Rattle.explain_core.specs.Sound.{IsSound}
use Rattle.explain_core.specs.World.{World, Step, step, run}
use Rattle.explain_core.specs.World.Step.{Slot_gate, Removal}
use Rattle.standing.specs.Moments.{TakesSome, ShowsEither, moments_one, moments_none}
use Rattle.standing.specs.Standing.{FilesShow, stored}
use Rattle.running_store.specs.Laid.{Laid}
use Rattle.running_store.specs.Laid.Flushed.{IsFlushed}
use Rattle.running_store.specs.Steps.Forced.{files_shown}
use Rattle.running_store.specs.Steps.Installed.{stored_kept, cells_new, flushed_store, removed_store}
use Rattle.running_store.specs.Parts.Joins.{stored_here}
use Rattle.running_store.specs.Parts.{Volatile, Parts, Shows, ShowsLog, VolatileShows, volatile}

-- what changes the objects alone leaves a log in force
in_force_beside : (active : FileNo) (epoch : ℕ) (old new : Files) → OthersStay Objects old new → IsInForce active epoch old → IsInForce active epoch new
in_force_beside Objects epoch old new others in_force = absurd (in_force.a_log refl)
in_force_beside LogA epoch old new others in_force = record { a_log = in_force.a_log; other = subst (IsPassive epoch) (sym (others LogB (λ e. cc))) in_force.other }
in_force_beside LogB epoch old new others in_force = record { a_log = in_force.a_log; other = subst (IsPassive epoch) (sym (others LogA (λ e. cc))) in_force.other }

-- parts that show a world are a store that shows it, over its files
pub store_shown : {O : Type 0} (m : Meaning O) (p : Params) (d : Disk) (it : Parts) (w : World O) → Shows m p d it w → VolatileShows m p d it.volatile w
store_shown m p d it w shows = record {
  told = shows.told;
  settled = shows.log.keeps.settled;
  sound = shows.running.sound;
  alone = shows.running.alone;
  store = shows.store;
  files = files_shown m p d it w shows;
}

module _ {O : Type 0} (m : Meaning O) (p : Params) where
  -- the records are as they were where the objects alone change
  pub log_beside : (active : FileNo) (old new : Files) → OthersStay Objects old new → {header : _} (groups : List (List (Record O))) → HoldsRecordLog m active header groups old → HoldsRecordLog m active header groups new
  log_beside active old new others {header} groups holds = record {
    in_force = in_force_beside active header.epoch old new others holds.in_force;
    log = subst (λ (f : List ℕ). IsRecordLog m header groups f) (sym (others active holds.in_force.a_log)) holds.log;
  }

  -- a log in memory is kept too
  pub keeps_beside : (old new : Disk) (log : RecordLogView) (stable pending : List (Record O)) → OthersStay Objects old.reads new.reads → IsSettled new → Keeps m old log stable pending → Keeps m new log stable pending
  keeps_beside old new log stable pending others settled k = record {
    settled = settled;
    in_force = in_force_beside log.log.active log.log.header.epoch old.reads new.reads others k.in_force;
    groups = k.groups;
    file = subst (λ (f : List ℕ). IsRecordLog m log.log.header k.groups f) (sym (others log.log.active k.in_force.a_log)) k.file;
    stable_are = k.stable_are;
    place = k.place;
    pending_are = k.pending_are;
    placed = k.placed;
    next_is = k.next_is;
    accepted_are = k.accepted_are;
    forced_are = k.forced_are;
  }

  -- files of which the objects alone changed, so that x has the pair, or all is as it was
  module _ (files old : Files) (w : World O) (shows : FilesShow m p old w) (others : OthersStay Objects old files) (whole : IsObjectsFile p (files Objects)) where
    pub unflushed_files : ((x : ℕ) → stored p (files Objects) x ≡ w.slots x) → FilesShow m p files w
    unflushed_files cells = record {
      objects = whole;
      cells = cells;
      active = shows.active;
      header = shows.header;
      groups = shows.groups;
      log = log_beside shows.active old files others shows.groups shows.log;
      base = shows.base;
      commands_before = shows.commands_before;
      members = shows.members;
      tables = shows.tables;
    }

    pub flushed_files : (node : ℕ → Bool) (x : ℕ) → ((y : ℕ) → stored p (files Objects) y ≡ (step m w (Slot_gate node x)).slots y) → FilesShow m p files (step m w (Slot_gate node x))
    unfolding step
    flushed_files node x cells = record {
      objects = whole;
      cells = cells;
      active = shows.active;
      header = shows.header;
      groups = shows.groups;
      log = log_beside shows.active old files others shows.groups shows.log;
      base = shows.base;
      commands_before = shows.commands_before;
      members = shows.members;
      tables = shows.tables;
    }

  pub removed_files : (files : Files) (w : World O) (node : ℕ → Bool) → FilesShow m p files w → FilesShow m p files (step m w (Removal node))
  unfolding step
  removed_files files w node shows = record {
    objects = shows.objects;
    cells = shows.cells;
    active = shows.active;
    header = shows.header;
    groups = shows.groups;
    log = shows.log;
    base = shows.base;
    commands_before = shows.commands_before;
    members = shows.members;
    tables = shows.tables;
  }

  -- a log in memory shows the world after a slot's gate, and after a removal
  pub log_flushed : (old new : Disk) (log : RecordLogView) (w : World O) (node : ℕ → Bool) (x : ℕ) → OthersStay Objects old.reads new.reads → IsSettled new → ShowsLog m old log w → ShowsLog m new log (step m w (Slot_gate node x))
  unfolding step
  log_flushed old new log w node x others settled shows = record {
    stable = shows.stable;
    pending = shows.pending;
    keeps = keeps_beside old new log shows.stable shows.pending others settled shows.keeps;
    base = shows.base;
    commands_before = shows.commands_before;
    forced = shows.forced;
    waiting = shows.waiting;
    tables = shows.tables;
    pending_tables = shows.pending_tables;
  }

  pub log_removed : (d : Disk) (log : RecordLogView) (w : World O) (node : ℕ → Bool) → ShowsLog m d log w → ShowsLog m d log (step m w (Removal node))
  unfolding step
  log_removed d log w node shows = record {
    stable = shows.stable;
    pending = shows.pending;
    keeps = shows.keeps;
    base = shows.base;
    commands_before = shows.commands_before;
    forced = shows.forced;
    waiting = shows.waiting;
    tables = shows.tables;
    pending_tables = shows.pending_tables;
  }

  module _ (d : Disk) (it : Volatile) (w : World O) (shows : VolatileShows m p d it w) (node : ℕ → Bool) where
    module _ (x : ℕ) (pair : Pair) (below : x < p.objects) (had : held it.objects.cache x ≡ Some pair) where
      -- nothing is replaced yet
      kept_cells : (file : List ℕ) → cell_of x file ≡ cell_of x (d.reads Objects) → OthersKept p x (d.reads Objects) file → (y : ℕ) → stored p file y ≡ w.slots y
      kept_cells file same others y = elim (cases_eq y x) [
        | inl e ↦ subst (λ (z : ℕ). stored p file z ≡ w.slots z) (sym e) (stored_here p file x below ∙ same ∙ sym (stored_here p (d.reads Objects) x below) ∙ shows.store.slots x)
        | inr ne ↦ stored_kept p x (d.reads Objects) file y others ne ∙ shows.store.slots y
      ]

      -- while x is flushed an image shows the world before the slot's gate, or the one after it
      pub image_flushed : (files : Files) (said : List ℕ) → IsOldOrNew d p x (cell_of_entry pair) files said → FilesShow m p files w ⊎ FilesShow m p files (step m w (Slot_gate node x))
      image_flushed files said is =
          ⊎_elim
          (λ same. inl (unflushed_files files d.reads w shows.files is.other_files is.whole (kept_cells (files Objects) same is.others)))
          (λ new. inr (flushed_files files d.reads w shows.files is.other_files is.whole node x (cells_new m p (d.reads Objects) (files Objects) it it.objects w shows.store node x pair below had new is.others)))
          is.held

      pub flush_moments : (new : Disk) → LeavesOnly d new (IsOldOrNew d p x (cell_of_entry pair)) → TakesSome m p d new w (Slot_gate node x ∷ [])
      flush_moments new leaves =
          moments_one m p d new w (Slot_gate node x) (weaker d new (IsOldOrNew d p x (cell_of_entry pair)) (IsSilent (ShowsEither m p w (Slot_gate node x)) d.said) leaves
          (λ files said is. record { silent = is.silent; holds = image_flushed files said is }))

      -- store and files show the world after the gate
      pub flush_shows : (new : Disk) (after : Laid) → Runs (In Objects Any) Same d new → IsSettled new → AreOf after.slots (new.reads Objects)
          → IsReplaced p x (cell_of_entry pair) (d.reads Objects) (new.reads Objects) → IsFlushed it.objects after x
          → IsSound m (step m w (Slot_gate node x)) → VolatileShows m p new (volatile after it.entries) (step m w (Slot_gate node x))
      unfolding step
      flush_shows new after run settled of_file replaced is sound =
          let params = ap (λ (l : Layout). l.params) is.layout ∙ shows.store.params in
          record {
            told = run.time.files_told.0 shows.told;
            settled = settled;
            sound = sound;
            alone = shows.alone;
            store = flushed_store m p (d.reads Objects) (new.reads Objects) it after w shows.store node x pair below had of_file replaced is;
            files = flushed_files new.reads d.reads w shows.files (run.reads shows.told).others (subst (λ (q : Params). IsObjectsFile q (new.reads Objects)) params of_file.whole) node x
                (cells_new m p (d.reads Objects) (new.reads Objects) it it.objects w shows.store node x pair below had replaced.held replaced.others);
          }

    -- store and files show the world after a removal
    pub removal_shows : (entries : List Entry) → entries ≡ filter (λ e. not (node e.lsn)) it.entries → IsSound m (step m w (Removal node)) → VolatileShows m p d (volatile it.objects entries) (step m w (Removal node))
    unfolding step
    removal_shows entries same sound = record {
      told = shows.told;
      settled = shows.settled;
      sound = sound;
      alone = shows.alone;
      store = removed_store m p (d.reads Objects) it entries w node shows.store same;
      files = removed_files d.reads w node shows.files;
    }

-- one step is taken after another
pub run_one : {O : Type 0} (m : Meaning O) (w : World O) (s : Step O) → run m w (s ∷ []) ≡ step m w s
unfolding run
run_one m w s = refl

pub run_two : {O : Type 0} (m : Meaning O) (w : World O) (s t : Step O) → run m w (s ∷ t ∷ []) ≡ step m (step m w s) t
unfolding run
run_two m w s t = refl

-- where no call is made, an image shows the world
pub stays_shown : {O : Type 0} (m : Meaning O) (p : Params) (d : Disk) (it : Volatile) (w : World O) (steps : List (Step O)) → IsDisk d → d.tells_moments → VolatileShows m p d it w → TakesSome m p d d w steps
stays_shown m p d it w steps lawful told shows =
    let same : (files : Files) (said : List ℕ) → d.left_since d.clock files said → d.reads ≡ files = λ files said left. fun_ext (λ file. sym (shows.settled file told files said left)) in
    moments_none m p d d w steps (started d (IsSilent (λ files. FilesShow m p files w) d.said)
    (λ files said left. record { silent = lawful.said_now told files said left; holds = subst (λ (f : Files). FilesShow m p f w) (same files said left) shows.files }))
