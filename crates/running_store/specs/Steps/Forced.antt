-- Parts that show a world show, with the log forced, the world after a block's gate.
use Rattle.std.proofs.Common.{◌≡◌, ◌∙◌, sym, subst, ap, ℕ, ◌-◌, ◌≤◌, List, [], ◌∷◌, ◌++◌, length, take, drop, arith, inl, inr, ◌⊎◌, ⊎_elim, length-take, refl}
use Rattle.std.specs.Prelude.{nat_lt}
use Rattle.std.proofs.Math.Seq.{take-length, drop-length}
use Rattle.std.proofs.lemmas.Bool.{cases_Bool, ltb-false, cond-true, cond-false, or_parts}
use Rattle.std.proofs.lemmas.List.{drop-append-le, take-append-drop}
use Rattle.disk_model.specs.Disk.{Disk, Files, LeavesOnly}
use Rattle.disk_model.specs.Moments.{weaker}
use Rattle.disk_model.specs.Silent.{IsSilent}
use Rattle.disk_model.specs.declared.machine.FileNo.TheVariants.{Objects}
use Rattle.oper_core.specs.Meaning.{Meaning}
use Rattle.formats.specs.InForce.{IsInForce}
use Rattle.formats.specs.Log.{Header}
use Rattle.formats.specs.Objects.{IsObjectsFile}
use Rattle.formats.specs.declared.params.Params.{Params}
use Rattle.log_blocks.specs.Laws.{in_force_stays}
use Rattle.log_blocks.specs.LogView.{used_of}
use Rattle.log_records.specs.RecordLog.{RecordLogView, HoldsRecords, Keeps, IsForcedPartly}
use Rattle.explain_core.specs.Sound.{IsSound}
use Rattle.explain_core.specs.Taken.{after_none, after_all}
use Rattle.explain_core.specs.World.{World, Starts, Step, step, run}
use Rattle.explain_core.specs.World.Step.{Block_gate}
use Rattle.standing.specs.Members.{members_of, tables_in, members-append, tables-append}
use Rattle.standing.specs.Moments.{TakesSome, ShowsSome}
use Rattle.standing.specs.Standing.{FilesShow, stored}
use Rattle.running_store.specs.Steps.Appended.{base_below}
use Rattle.running_store.specs.Courses.{waits, force_steps}
use Rattle.running_store.specs.Parts.{Parts, Shows}

-- a log of which all that waited was forced
abbrev pub IsForced : RecordLogView → RecordLogView → Type 0
IsForced before after = after ≡ record before { log = record before.log { end = used_of before.log; pending = []; room = after.log.room }; forced = before.accepted }

-- the parts of a list between
rejoin : {X : Type 0} (b f : ℕ) (h : List X) → b ≤ f → f ≤ length h → drop b (take f h) ++ drop f h ≡ drop b (take (length h) h)
rejoin b f h low high =
    sym (drop-append-le b (take f h) (drop f h) (omega (arith, low, high, length-take f h))) ∙ ap (λ l. drop b l) (take-append-drop f h ∙ sym (take-length h))

module _ {O : Type 0} (m : Meaning O) (p : Params) (d : Disk) (it : Parts) (w : World O) (shows : Shows m p d it w) where
  -- all members and all checks, in the log's terms
  pub all_members : members_of (shows.log.stable ++ shows.log.pending) ≡ drop (w.base - 1) (take (length w.history) w.history)
  all_members =
      members-append shows.log.stable shows.log.pending ∙ ap (λ l. l ++ members_of shows.log.pending) shows.log.forced ∙ ap (λ l. drop (w.base - 1) (take w.forced w.history) ++ l) shows.log.waiting
      ∙ rejoin (w.base - 1) w.forced w.history (base_below m w shows.running.sound) shows.running.sound.forced

  pub all_tables : tables_in (shows.log.stable ++ shows.log.pending) ≡ w.pending ++ w.tables
  all_tables = tables-append shows.log.stable shows.log.pending ∙ (λ i. shows.log.pending_tables i ++ shows.log.tables i)

  module _ (files : Files) (objects : files Objects ≡ d.reads Objects) (in_force : IsInForce it.log.log.active it.log.log.header.epoch files) where
    whole : IsObjectsFile p (files Objects)
    whole = subst (λ (f : List ℕ). IsObjectsFile p f) (sym objects) (subst (λ (q : Params). IsObjectsFile q (d.reads Objects)) shows.store.params shows.store.laid.slots.whole)

    cells : (x : ℕ) → stored p (files Objects) x ≡ w.slots x
    cells x = ap (λ (f : List ℕ). stored p f x) objects ∙ shows.store.slots x

    -- files with these slots whose log has the stable records show what was stable
    pub before_force : HoldsRecords m it.log.log.header shows.log.stable (files it.log.log.active) → FilesShow m p files w
    before_force held = record {
      objects = whole;
      cells = cells;
      active = it.log.log.active;
      header = it.log.log.header;
      groups = held.groups;
      log = record { in_force = in_force; log = held.log };
      base = shows.log.base;
      commands_before = shows.log.commands_before;
      members = ap members_of held.records_are ∙ shows.log.forced;
      tables = ap tables_in held.records_are ∙ shows.log.tables;
    }

    -- those whose log has all records show all
    pub after_force : HoldsRecords m it.log.log.header (shows.log.stable ++ shows.log.pending) (files it.log.log.active) → FilesShow m p files (step m w Block_gate)
    unfolding step
    after_force held = record {
      objects = whole;
      cells = cells;
      active = it.log.log.active;
      header = it.log.log.header;
      groups = held.groups;
      log = record { in_force = in_force; log = held.log };
      base = shows.log.base;
      commands_before = shows.log.commands_before;
      members = ap members_of held.records_are ∙ all_members;
      tables = ap tables_in held.records_are ∙ all_tables;
    }

  -- the files show what is stable
  pub files_shown : FilesShow m p d.reads w
  files_shown =
      let k = shows.log.keeps in
      before_force d.reads refl k.in_force (record { groups = k.groups; log = k.file; records_are = k.stable_are })

  -- within a force an image shows what was stable, or all
  pub image_forced : (files : Files) (said : List ℕ) → IsForcedPartly m d it.log shows.log.stable shows.log.pending files said → FilesShow m p files w ⊎ FilesShow m p files (step m w Block_gate)
  image_forced files said is =
      let k = shows.log.keeps in
      let active = it.log.log.active in
      let change : List ℕ → List ℕ → Type 0 = λ old new. HoldsRecords m it.log.log.header shows.log.stable new ⊎ HoldsRecords m it.log.log.header (shows.log.stable ++ shows.log.pending) new in
      let objects : files Objects ≡ d.reads Objects = is.each_file.others Objects (λ e. k.in_force.a_log (sym e)) in
      let in_force = in_force_stays active it.log.log.header.epoch change d.reads files is.each_file k.in_force in
      ⊎_elim (λ held. inl (before_force files objects in_force held)) (λ held. inr (after_force files objects in_force held)) is.each_file.changed

  -- parts and files show the world after the gate
  pub forced_shows : (new : Disk) (after : Parts) → new.tells_files → new.reads Objects ≡ d.reads Objects
      → Keeps m new after.log (shows.log.stable ++ shows.log.pending) [] → after.log.bounds ≡ it.log.bounds → after.log.log.header ≡ it.log.log.header → after.volatile ≡ it.volatile
      → IsSound m (step m w Block_gate) → Shows m p new after (step m w Block_gate)
  unfolding step
  forced_shows new after told objects keeps bounds header store sound = record {
    told = told;
    running = record { sound = sound; live = shows.running.live; alone = shows.running.alone };
    bounds = bounds ∙ shows.bounds;
    store = rw (store, objects) (record {
      params = shows.store.params;
      laid = shows.store.laid;
      below = shows.store.below;
      slots = shows.store.slots;
      cache = shows.store.cache;
      dirty = shows.store.dirty;
      members = shows.store.members;
      accesses = shows.store.accesses;
      identities = shows.store.identities;
    });
    log = record {
      stable = shows.log.stable ++ shows.log.pending;
      pending = [];
      keeps = keeps;
      base = ap (λ (h : Header). h.base) header ∙ shows.log.base;
      commands_before = ap (λ (h : Header). h.commands) header ∙ shows.log.commands_before;
      forced = all_members;
      waiting = sym (drop-length w.history);
      tables = all_tables;
      pending_tables = refl;
    };
  }

  -- where nothing waits the gate changes nothing, so a force is the gate, whether anything waits or not
  pub force_is_gate : run m w (force_steps m w) ≡ step m w Block_gate
  unfolding run step
  force_is_gate = elim (cases_Bool (waits m w)) [
    | inl some ↦ ap (λ (l : List (Step O)). run m w l) (cond-true (waits m w) (Block_gate ∷ []) [] some)
    | inr none ↦
        let parts = or_parts (nat_lt w.forced (length w.history)) (nat_lt 0 (length w.pending)) none in
        let all : w.forced ≡ length w.history = omega (arith, ltb-false w.forced (length w.history) parts.0, shows.running.sound.forced) in
        let empty : w.pending ≡ [] = no_items w.pending (ltb-false 0 (length w.pending) parts.1) in
        ap (λ (l : List (Step O)). run m w l) (cond-false (waits m w) (Block_gate ∷ []) [] none)
        ∙ (λ i. record w { forced = all i; tables = ap (λ (l : List Starts). l ++ w.tables) (sym empty) i; pending = empty i })
  ]
    where
      no_items : {X : Type 0} (l : List X) → length l ≤ 0 → l ≡ []
      no_items [] le = refl
      no_items (x ∷ l) le = absurd (omega (arith, le))

  -- within a force a crash leaves what was stable, or all
  pub force_moments : (new : Disk) → LeavesOnly d new (IsForcedPartly m d it.log shows.log.stable shows.log.pending) → TakesSome m p d new w (force_steps m w)
  force_moments new leaves =
      weaker d new (IsForcedPartly m d it.log shows.log.stable shows.log.pending) (IsSilent (ShowsSome m p w (force_steps m w)) d.said) leaves
      (λ files said is. record {
        silent = is.nothing_said;
        holds = ⊎_elim (λ before. after_none m (FilesShow m p files) w (force_steps m w) before)
            (λ after. after_all m (FilesShow m p files) w (force_steps m w) (subst (λ (v : World O). FilesShow m p files v) (sym force_is_gate) after)) (image_forced files said is);
      })
