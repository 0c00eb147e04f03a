-- A log that is all forced shows, with another in its place, the world after a header's gate.
use Rattle.std.proofs.Common.{◌≡◌, ◌≢◌, ◌∙◌, sym, subst, ap, ℕ, ◌+◌, ◌-◌, ◌≤◌, List, [], ◌∷◌, ◌++◌, length, take, drop, map, refl, arith, inl, inr, ⊎_elim, length-append, length-drop}
use Rattle.std.proofs.Math.Seq.{take-length, drop-length, take-add}
use Rattle.std.proofs.lemmas.List.{append-nil, drop-drop, map-append}
use Rattle.disk_model.specs.Disk.{Disk, Files, LeavesOnly}
use Rattle.disk_model.specs.Moments.{weaker}
use Rattle.disk_model.specs.Silent.{IsSilent}
use Rattle.disk_model.specs.declared.machine.FileNo.{FileNo}
use Rattle.disk_model.specs.declared.machine.FileNo.TheVariants.{Objects, LogA, LogB}
use Rattle.oper_core.specs.Meaning.{Meaning}
use Rattle.dirty_page_table.specs.declared.table.DirtyPageTable.{DirtyPageTable as Logged_table}
use Rattle.formats.specs.InForce.{other_of}
use Rattle.formats.specs.Objects.{IsObjectsFile}
use Rattle.formats.specs.Records.{AreRecords, IsCheckpointAt, payload_of, record_code, commands_of as logged_commands}
use Rattle.formats.specs.declared.params.Params.{Params}
use Rattle.formats.specs.declared.record.Record.{Record}
use Rattle.formats.specs.declared.record.Record.TheVariants.{Command as Logged_command, Identity as Logged_identity, Checkpoint as Logged_checkpoint}
use Rattle.log_blocks.specs.Rewriting.{file_length}
use Rattle.log_records.specs.RecordLaws.{AreRecords-front}
use Rattle.log_records.specs.RecordLog.{RecordLogView, Keeps}
use Rattle.log_records.specs.RewriteLaws.{new_end}
use Rattle.log_records.specs.Rewriting.{IsRewrittenPartly, code_lengths, commands_before, left_out, blocks_length, new_payloads, from_lsn, rewritten_log, rewritten_records}
use Rattle.explain_core.specs.History.{Member, commands_of}
use Rattle.explain_core.specs.Sound.{IsSound}
use Rattle.explain_core.specs.StableLaws.{commands_of-append}
use Rattle.explain_core.specs.World.{World, Starts, step, table_now}
use Rattle.explain_core.specs.World.Step.{Header_gate}
use Rattle.standing.specs.Members.{members_of, tables_in, table_of, members-append, tables-append}
use Rattle.standing.specs.Moments.{ShowsEither, TakesSome, moments_one}
use Rattle.standing.specs.Standing.{stored}
use Rattle.running_store.specs.Courses.Buffered.{checkpoint_bytes}
use Rattle.running_store.specs.Courses.{record_length, table_length}
use Rattle.running_store.specs.Parts.{Shows, ShowsVolatile, Volatile}
use Rattle.running_store.specs.Calls.Rewrites.{checkpoint_length, lengths_left, new_base, trimmed_file}
use Rattle.running_store.proofs.Tails.{tail_members, tail_tables, tail_lengths, left_commands}

-- the other log is not the objects file
pub other_log : (active : FileNo) → active ≢ Objects → other_of active ≢ Objects
other_log Objects a_log = absurd (a_log refl)
other_log LogA a_log = λ e. cc
other_log LogB a_log = λ e. cc

-- records of no bytes are none
pub no_records : {O : Type 0} (m : Meaning O) (records : List (Record O)) → [] ≡ payload_of m records → records ≡ []
no_records m [] none = refl
no_records m (Logged_command lsn op ∷ records) none = absurd (omega (arith, ap length none))
no_records m (Logged_identity lsn x value ∷ records) none = absurd (omega (arith, ap length none))
no_records m (Logged_checkpoint table ∷ records) none = absurd (omega (arith, ap length none))

all_forced : {O : Type 0} (h : List (Member O)) (f : ℕ) → f ≤ length h → [] ≡ drop f h → f ≡ length h
all_forced h f le none = omega (arith, le, length-drop f h, ap length none)

-- the log shows the world, and nothing waits
module _ {O : Type 0} (m : Meaning O) (p : Params) (d : Disk) (log : RecordLogView) (it : Volatile) (v : World O) (shows : Shows m p d (record { log = log; volatile = it }) v) (none : log.log.pending ≡ []) where
  abbrev pub stable : List (Record O)
  stable = shows.log.stable

  nothing : shows.log.pending ≡ []
  nothing = no_records m shows.log.pending (sym none ∙ shows.log.keeps.pending_are)

  pub keeps_all : Keeps m d log stable []
  keeps_all = subst (λ (l : List (Record O)). Keeps m d log stable l) nothing shows.log.keeps

  pub all_stable : v.forced ≡ length v.history
  all_stable = all_forced v.history v.forced shows.running.sound.forced (ap members_of (sym nothing) ∙ shows.log.waiting)

  -- the same parts show the world in other files, in which the objects and the log's records are the same
  pub old_shows : (new : Disk) → new.tells_files → new.reads Objects ≡ d.reads Objects → Keeps m new log stable [] → Shows m p new (record { log = log; volatile = it }) v
  old_shows new told objects keeps = record {
    told = told;
    running = shows.running;
    bounds = shows.bounds;
    store = subst (λ (f : List ℕ). ShowsVolatile m p f it v) (sym objects) shows.store;
    log = record {
      stable = stable;
      pending = shows.log.pending;
      keeps = subst (λ (l : List (Record O)). Keeps m new log stable l) (sym nothing) keeps;
      base = shows.log.base;
      commands_before = shows.log.commands_before;
      forced = shows.log.forced;
      waiting = shows.log.waiting;
      tables = shows.log.tables;
      pending_tables = shows.log.pending_tables;
    };
  }

  members_all : members_of stable ≡ drop (v.base - 1) v.history
  members_all = shows.log.forced ∙ ap (λ (n : ℕ). drop (v.base - 1) (take n v.history)) all_stable ∙ ap (λ (h : List (Member O)). drop (v.base - 1) h) (take-length v.history)

  placed_all : AreRecords m log.log.header.base log.log.header.base stable
  placed_all = AreRecords-front m log.log.header.base log.log.header.base stable shows.log.pending shows.log.keeps.placed

  module _ (table : Logged_table) (now : table_of table ≡ table_now m v) (base : ℕ) (place : IsCheckpointAt m base log.next table) (low : v.base ≤ base) where
    abbrev tail : List (Record O)
    tail = from_lsn base stable

    between : (v.base - 1) + (base - v.base) ≡ base - 1
    between = omega (arith, low, shows.running.sound.base)

    above : base - log.log.header.base ≡ base - v.base
    above = ap (λ (n : ℕ). base - n) shows.log.base

    -- the members from the base on are kept
    tail_is : members_of tail ≡ drop (base - 1) v.history
    tail_is =
        tail_members m base log.log.header.base log.log.header.base stable placed_all
        ∙ (λ i. drop (above i) (members_all i))
        ∙ drop-drop (base - v.base) (v.base - 1) v.history
        ∙ ap (λ (n : ℕ). drop n v.history) between

    -- the commands before it are counted
    counted : commands_before log.log base stable ≡ length (commands_of (take (base - 1) v.history))
    counted =
        let h = v.history in
        let left : logged_commands (left_out base stable) ≡ commands_of (take (base - v.base) (drop (v.base - 1) h)) =
        left_commands m base log.log.header.base log.log.header.base stable placed_all ∙ (λ i. commands_of (take (above i) (members_all i))) in
        let split : commands_of (take (base - 1) h) ≡ commands_of (take (v.base - 1) h) ++ commands_of (take (base - v.base) (drop (v.base - 1) h)) =
        ap (λ (n : ℕ). commands_of (take n h)) (sym between) ∙ ap commands_of (take-add (v.base - 1) (base - v.base) h) ∙ commands_of-append (take (v.base - 1) h) (take (base - v.base) (drop (v.base - 1) h)) in
        omega (
          arith,
          ap (λ (l : List O). length l) left,
          ap (λ (l : List O). length l) split,
          length-append (commands_of (take (v.base - 1) h)) (commands_of (take (base - v.base) (drop (v.base - 1) h))),
          shows.log.commands_before,
          shows.running.sound.counted,
        )

    members_new : members_of (rewritten_records base table stable) ≡ drop (base - 1) (take v.forced v.history)
    members_new =
        members-append tail (Logged_checkpoint table ∷ []) ∙ append-nil (members_of tail) ∙ tail_is
        ∙ ap (λ (h : List (Member O)). drop (base - 1) h) (sym (take-length v.history) ∙ ap (λ (n : ℕ). take n v.history) (sym all_stable))

    tables_new : tables_in (rewritten_records base table stable) ≡ table_now m v ∷ []
    tables_new = tables-append tail (Logged_checkpoint table ∷ []) ∙ (λ i. now i ∷ tail_tables m base stable i)

    -- the new log is as long as the course says
    pub length_new : base ≡ new_base m v → file_length (new_payloads m base table stable) ≡ trimmed_file m v
    length_new is =
        let kept : members_of tail ≡ drop (new_base m v - 1) v.history = tail_is ∙ ap (λ (n : ℕ). drop (n - 1) v.history) is in
        let checkpoint : length (record_code m (Logged_checkpoint table)) ≡ checkpoint_length m v = checkpoint_bytes m base log.next table place ∙ ap (λ (t : Starts). table_length m t) now in
        let lengths : code_lengths m (rewritten_records base table stable) ≡ lengths_left m v =
        map-append (λ (r : Record O). length (record_code m r)) tail (Logged_checkpoint table ∷ [])
        ∙ (λ i. (tail_lengths m base stable ∙ ap (λ (l : List (Member O)). map (record_length m) l) kept) i ++ checkpoint i ∷ []) in
        let blocks = ap (λ (l : List ℕ). blocks_length 0 l) lengths in
        omega (arith, new_end m base table stable, blocks)

    -- parts and files show the world after the gate
    pub rewritten_shows : (new : Disk) → new.tells_files → new.reads Objects ≡ d.reads Objects
        → let after : RecordLogView = record log { log = rewritten_log m log.log base table stable } in Keeps m new after (rewritten_records base table stable) []
        → IsSound m (step m v (Header_gate base)) → Shows m p new (record { log = after; volatile = it }) (step m v (Header_gate base))
    unfolding step
    rewritten_shows new told objects keeps sound = record {
      told = told;
      running = record { sound = sound; live = shows.running.live; alone = shows.running.alone };
      bounds = shows.bounds;
      store = rw objects (record {
        params = shows.store.params;
        laid = shows.store.laid;
        below = shows.store.below;
        slots = shows.store.slots;
        cache = shows.store.cache;
        dirty = shows.store.dirty;
        members = shows.store.members;
        accesses = shows.store.accesses;
        identities = shows.store.identities;
      });
      log = record {
        stable = rewritten_records base table stable;
        pending = [];
        keeps = keeps;
        base = refl;
        commands_before = counted;
        forced = members_new;
        waiting = sym (ap (λ (n : ℕ). drop n v.history) all_stable ∙ drop-length v.history);
        tables = tables_new;
        pending_tables = refl;
      };
    }

    -- within a rewrite an image shows the old world, or that one
    image_rewritten : (files : Files) (said : List ℕ) → IsRewrittenPartly m d log.log base table stable files said → ShowsEither m p v (Header_gate base) files
    unfolding step
    image_rewritten files said is =
        let a_log = shows.log.keeps.in_force.a_log in
        let same : files Objects ≡ d.reads Objects = is.others.others Objects (λ e. other_log log.log.active a_log (sym e)) in
        let whole : IsObjectsFile p (files Objects) =
        subst (λ (f : List ℕ). IsObjectsFile p f) (sym same) (subst (λ (q : Params). IsObjectsFile q (d.reads Objects)) shows.store.params shows.store.laid.slots.whole) in
        let cells : (x : ℕ) → stored p (files Objects) x ≡ v.slots x = λ x. ap (λ (f : List ℕ). stored p f x) same ∙ shows.store.slots x in
        ⊎_elim
        (λ old. inl (record {
          objects = whole;
          cells = cells;
          active = log.log.active;
          header = log.log.header;
          groups = old.groups;
          log = old.log;
          base = shows.log.base;
          commands_before = shows.log.commands_before;
          members = ap members_of old.records_are ∙ shows.log.forced;
          tables = ap tables_in old.records_are ∙ shows.log.tables;
        }))
        (λ new. inr (record {
          objects = whole;
          cells = cells;
          active = other_of log.log.active;
          header = record { epoch = log.log.header.epoch + 1; base = base; commands = commands_before log.log base stable };
          groups = new.groups;
          log = new.log;
          base = refl;
          commands_before = counted;
          members = ap members_of new.records_are ∙ members_new;
          tables = ap tables_in new.records_are ∙ tables_new;
        }))
        is.in_force

    pub rewrite_moments : (new : Disk) → LeavesOnly d new (IsRewrittenPartly m d log.log base table stable) → TakesSome m p d new v (Header_gate base ∷ [])
    rewrite_moments new leaves =
        moments_one m p d new v (Header_gate base)
        (weaker d new (IsRewrittenPartly m d log.log base table stable) (IsSilent (ShowsEither m p v (Header_gate base)) d.said) leaves
        (λ files said is. record { silent = is.nothing_said; holds = image_rewritten files said is }))
