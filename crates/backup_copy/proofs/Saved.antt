-- The log is copied into the target, which has all objects.
use Rattle.std.proofs.Common.{◌≡◌, ◌⊎◌, ◌∙◌, inl, inr, ⊎_elim, ◌<◌, ◌≤◌, ◌-◌, ℕ, Bool, List, [], ◌∷◌, length, refl, sym, ap, subst, arith, take, drop}
use Rattle.std.specs.Prelude.{nat_lt}
use Rattle.std.proofs.lemmas.Bool.{cases_lt, cond-true, cond-false, le-ltb, lt-ltb}
use Rattle.std.proofs.lemmas.List.{take_all}
use Rattle.disk_model.specs.Disk.{Files, Disk, Runs, Same, In, Any, IsSettledIn, LeavesOnly}
use Rattle.disk_model.specs.Moments.{first_call, runs_on, weaker}
use Rattle.disk_model.specs.declared.machine.FileNo.{FileNo}
use Rattle.disk_model.specs.declared.machine.FileNo.TheVariants.{Objects, LogA, LogB}
use Rattle.oper_core.specs.Cell.{Cell}
use Rattle.oper_core.specs.Meaning.{IsSmall, Meaning}
use Rattle.oper_core.specs.declared.bounds.Bounds.{Bounds}
use Rattle.formats.specs.Log.{Header}
use Rattle.formats.specs.Objects.{IsObjectsFile, bounds_of, cell_of}
use Rattle.formats.specs.Records.{HoldsRecordLog, records_of}
use Rattle.formats.specs.declared.params.Params.{Params}
use Rattle.formats.specs.declared.record.Record.{Record}
use Rattle.log_blocks.specs.Creating.{IsNewLog}
use Rattle.stable_objects.specs.Making.{IsClosedFile, opened}
use Rattle.explain_core.specs.Backup.{IsCopied, backup_of, copy_of, installed_in_copy}
use Rattle.explain_core.specs.History.{Member, commands_of}
use Rattle.explain_core.specs.Sound.{IsSound}
use Rattle.explain_core.specs.Stable.{IsStableOf, Stable, stable_of, world_of}
use Rattle.explain_core.specs.World.{World, Starts, plan_of}
use Rattle.standing.specs.Members.{tables_in}
use Rattle.standing.specs.OneStable.{small_store}
use Rattle.standing.specs.Standing.{FilesShow, HoldsStable, stored}
use Rattle.store_engine.specs.Engine.{EngineView, InEachImage, ShowsIn}
use Rattle.store_engine.specs.Grouping.{ungrouped}
use Rattle.store_engine.specs.LogOf.{HoldsLogOf}
use Rattle.store_engine.specs.Store.{Stands, meaning_in}
use Rattle.backup_copy.specs.Calls.{IsShutOrWhole}
use Rattle.backup_copy.specs.Target.{AreShut, IsBackup, IsPartCopy, IsShutOrOpened, IsTarget, open_files}

-- the log stands in these files as well whose gate is open
log_opened : {O : Type 0} (m : Meaning O) (active : FileNo) (header : Header) (groups : List (List (Record O))) (files : Files) → HoldsRecordLog m active header groups files → HoldsRecordLog m active header groups (open_files files)
log_opened m Objects header groups files log = absurd (log.in_force.a_log refl)
log_opened m LogA header groups files log = record { in_force = record { a_log = log.in_force.a_log; other = log.in_force.other }; log = log.log }
log_opened m LogB header groups files log = record { in_force = record { a_log = log.in_force.a_log; other = log.in_force.other }; log = log.log }

-- the slots of a part copy that has all objects
all_cells : (p : Params) (file : List ℕ) (copied : ℕ) (cells slots : ℕ → Cell) → copied ≡ p.objects → ((x : ℕ) → x < copied → x < p.objects → cell_of x file ≡ cells x) → ((x : ℕ) → p.objects ≤ x → slots x ≡ record { lsn = 0; value = [] })
    → (x : ℕ) → stored p file x ≡ backup_of copied cells slots x
all_cells p file copied cells slots all held none x = elim (cases_lt x p.objects) [
  | inl below ↦
      cond-true (nat_lt x p.objects) (cell_of x file) (record { lsn = 0; value = [] }) (lt-ltb x p.objects below) ∙ held x (omega (arith, all, below)) below
      ∙ sym (cond-true (nat_lt x copied) (cells x) (slots x) (lt-ltb x copied (omega (arith, all, below))))
  | inr past ↦
      cond-false (nat_lt x p.objects) (cell_of x file) (record { lsn = 0; value = [] }) (le-ltb x p.objects past) ∙ sym (none x past)
      ∙ sym (cond-false (nat_lt x copied) (cells x) (slots x) (le-ltb x copied (omega (arith, all, past))))
]

module _ {O : Type 0} (meaning : Bounds → Meaning O) (p : Params) where
  abbrev m : Meaning O
  m = meaning_in meaning p

  -- the copy of a world's slots, with its log and these checkpoints, may be what is stable of its stable history
  abbrev pub CopyIsStable : (World O → List Starts) → Type 0
  CopyIsStable tables = (w : World O) (copied : ℕ) (cells : ℕ → Cell) → IsSound m w → IsCopied m w copied cells
      → IsStableOf m (copy_of w copied cells (tables w)) (take w.forced w.history) (installed_in_copy m w copied cells)

  -- the world that a restart makes of stable parts is sound
  abbrev pub PartsAreSound : Type 0
  PartsAreSound = (parts : Stable O) (history : List (Member O)) (installed : ℕ → Bool) → IsSmall (bounds_of p) → IsStableOf m parts history installed → IsSound m (world_of m parts history installed)

  -- the files stand for the commands of this history by itself
  abbrev pub StandsBy : List (Member O) → Files → Type 0
  StandsBy history files = (it : Stands meaning p files (commands_of history)) × (it.history ≡ history)

  -- with its gate open the target holds the copy
  opened_holds : (d : Disk) (engine : EngineView) (w : World O) (t : Disk) (files : Files) (copied : ℕ) (cells : ℕ → Cell) → ShowsIn meaning p d engine w → copied ≡ p.objects → IsPartCopy p copied cells t → files Objects ≡ t.reads Objects
      → (log : HoldsLogOf m w files) → HoldsStable m p (open_files files) (copy_of (ungrouped w) copied cells (tables_in (records_of log.groups)))
  opened_holds d engine w t files copied cells shows all part same log =
      let filled = part.objects.filled in
      let none : (x : ℕ) → p.objects ≤ x → w.slots x ≡ record { lsn = 0; value = [] } = λ x past.
      sym (shows.shows.store.slots x) ∙ cond-false (nat_lt x p.objects) (cell_of x (d.reads Objects)) (record { lsn = 0; value = [] }) (le-ltb x p.objects past) in
      record {
        objects = subst (λ (l : List ℕ). IsObjectsFile p (opened l)) (sym same) filled.whole;
        cells = λ x. ap (λ (l : List ℕ). stored p (opened l) x) same ∙ all_cells p (opened (t.reads Objects)) copied cells w.slots all (λ x less below. filled.held x less below) none x;
        active = log.active;
        header = log.header;
        groups = log.groups;
        log = log_opened m log.active log.header log.groups files log.log;
        base = log.base;
        commands_before = log.commands_before;
        members = log.members;
        tables = refl;
      }

  -- so it stands for the commands, by the history
  pub opened_stands : (d : Disk) (engine : EngineView) (w : World O) (t : Disk) (files : Files) (copied : ℕ) (cells : ℕ → Cell) → CopyIsStable (λ w. []) → CopyIsStable (λ w. plan_of [] w.base ∷ []) → ShowsIn meaning p d engine w
      → IsCopied m (ungrouped w) copied cells → copied ≡ p.objects → IsPartCopy p copied cells t → files Objects ≡ t.reads Objects → HoldsLogOf m w files → StandsBy (take w.forced w.history) (open_files files)
  opened_stands d engine w t files copied cells unchecked checkpointed shows is all part same log =
      let sound = shows.shows.running.sound in
      let installed = installed_in_copy m (ungrouped w) copied cells in
      let is_stable : List Starts → Type 0 = λ tables. IsStableOf m (copy_of (ungrouped w) copied cells tables) (take w.forced w.history) installed in (
        record {
          parts = copy_of (ungrouped w) copied cells (tables_in (records_of log.groups));
          holds = opened_holds d engine w t files copied cells shows all part same log;
          history = take w.forced w.history;
          installed = installed;
          stable = ⊎_elim (λ none. subst is_stable (sym none) (unchecked (ungrouped w) copied cells sound is)) (λ one. subst is_stable (sym one) (checkpointed (ungrouped w) copied cells sound is)) log.tables;
          commands_are = refl;
        },
        refl,
      )

  -- what is stable of the world that a restart makes of stable parts are these parts
  same_parts : (parts : Stable O) (history : List (Member O)) (installed : ℕ → Bool) → IsStableOf m parts history installed → stable_of (world_of m parts history installed) ≡ parts
  same_parts parts history installed is =
      let records : drop (parts.base - 1) (take (length history) history) ≡ parts.records = ap (λ (l : List (Member O)). drop (parts.base - 1) l) (take_all (length history) history (omega arith)) ∙ is.records in
      λ i. record { slots = parts.slots; tables = parts.tables; base = parts.base; commands_before = parts.commands_before; records = records i }

  -- and so it is a backup
  pub standing_backup : (history : List (Member O)) (files : Files) → PartsAreSound → StandsBy history files → IsBackup m p history files
  standing_backup history files sound by =
      let it = by.0 in record {
        world = world_of m it.parts it.history it.installed;
        shows = subst (λ (parts : Stable O). HoldsStable m p files parts) (sym (same_parts it.parts it.history it.installed it.stable)) it.holds;
        sound = sound it.parts it.history it.installed (small_store p (files Objects) it.holds.objects) it.stable;
        history_is = by.1;
        stable = refl;
      }

  -- a backup stands for the commands of its history
  pub backup_stands : ((files : Files) (w : World O) → IsSound m w → FilesShow m p files w → Stands meaning p files (commands_of (take w.forced w.history))) → (history : List (Member O)) (files : Files) → IsBackup m p history files
      → Stands meaning p files (commands_of history)
  backup_stands stand history files is =
      let all : take is.world.forced is.world.history ≡ history = take_all is.world.forced is.world.history (omega (arith, is.stable)) ∙ is.history_is in
      subst (λ (h : List (Member O)). Stands meaning p files (commands_of h)) all (stand files is.world is.sound is.shows)

-- while the log is copied the gate is closed
module _ (old new : Disk) (run : Runs (In LogB Any) Same old new) where
  same_objects : old.tells_files → new.reads Objects ≡ old.reads Objects
  same_objects told = (run.reads told).others Objects (λ e. cc)

  shut_image : (files : Files) (said : List ℕ) → old.tells_moments → ((d : Files) (s : List ℕ) → old.left_since old.clock d s → AreShut d) → new.left_since old.clock files said → AreShut files × (said ≡ old.said)
  shut_image files said told shut left =
      let from = run.crash told files said left in
      (subst (λ (l : List ℕ). IsClosedFile l) (sym (from.0.2.others Objects (λ e. cc))) (shut from.0.0 old.said from.0.1), from.1)

  pub shut_meanwhile : (P : Files → List ℕ → Type 0) → old.tells_moments → ((d : Files) (s : List ℕ) → old.left_since old.clock d s → AreShut d) → ((files : Files) (said : List ℕ) → AreShut files → said ≡ old.said → P files said) → LeavesOnly old new P
  shut_meanwhile P told shut so = first_call old new P told run.time (λ files said left. let is = shut_image files said told shut left in so files said is.0 is.1)

  -- it is closed in each image at the end
  pub shut_after : (p : Params) (copied : ℕ) (cells : ℕ → Cell) → old.tells_files → IsPartCopy p copied cells old → InEachImage new AreShut
  shut_after p copied cells told part = (
    subst (λ (l : List ℕ). IsClosedFile l) (sym (same_objects told)) part.objects.closed,
    λ moments files said left. (shut_image files said (run.time.moments_told.1 moments) (part.shut (run.time.moments_told.1 moments)) (run.ends.among old.clock new.clock files said run.time.later (omega arith) left)).0,
  )

  pub settled_beside : old.tells_files → IsSettledIn LogA old → IsSettledIn LogA new
  settled_beside told settled moments files said left =
      let told_old = run.time.moments_told.1 moments in
      let from = run.crash told_old files said (run.ends.among old.clock new.clock files said run.time.later (omega arith) left) in
      from.0.2.others LogA (λ e. cc) ∙ settled told_old from.0.0 old.said from.0.1 ∙ sym ((run.reads told).others LogA (λ e. cc))

  -- a part copy is one still, if its log is a new store's
  pub part_beside : (p : Params) (copied : ℕ) (cells : ℕ → Cell) → old.tells_files → IsPartCopy p copied cells old → IsNewLog new.reads → IsPartCopy p copied cells new
  part_beside p copied cells told part log = record {
    objects = subst (λ (l : List ℕ). IsTarget p copied cells l) (sym (same_objects told)) part.objects;
    shut = (shut_after p copied cells told part).1;
    log = log;
    settled = settled_beside told part.settled;
  }

-- from the copy of the log to the open gate
module _ {O : Type 0} (meaning : Bounds → Meaning O) (p : Params) (commands : List O) (old mid new : Disk) (run : Runs (In LogB Any) Same old mid) (stands : Stands meaning p (open_files mid.reads) commands) where
  -- each moment has a closed gate, or the whole store
  pub saving : (copied : ℕ) (cells : ℕ → Cell) → old.tells_moments → IsPartCopy p copied cells old → LeavesOnly mid new (IsShutOrOpened mid) → LeavesOnly old new (IsShutOrWhole meaning p commands old)
  saving copied cells told part leaves =
      let quiet = run.said (run.begins.telling told) in
      runs_on old mid new (IsShutOrWhole meaning p commands old)
      (shut_meanwhile old mid run (IsShutOrWhole meaning p commands old) told (part.shut told) (λ files said shut same. (inl shut, same)))
      (weaker mid new (IsShutOrOpened mid) (IsShutOrWhole meaning p commands old) leaves
      (λ files said is. (⊎_elim (λ shut. inl shut) (λ same. inr (subst (λ (f : Files). Stands meaning p f commands) (sym same) stands)) is.0, is.1 ∙ quiet)))

-- what is true of the whole store is true of each image at the end
pub saved : (files : Files) (new : Disk) (P : Files → Type 0) → P files → InEachImage new (λ image. image ≡ files) → InEachImage new P
saved files new P is all = (subst P (sym all.0) is, λ told image said left. subst P (sym (all.1 told image said left)) is)
