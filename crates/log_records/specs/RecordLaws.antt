-- How a log of records goes on.
use Rattle.std.proofs.Common.{◌≡◌, ⊎_elim, inl, inr, ℕ, ◌+◌, ◌≤◌, ◌^◌, List, [], ◌∷◌, ◌++◌, length, map, refl, sym, ap, ◌∙◌, subst, arith, length-append, append_assoc}
use Rattle.std.proofs.lemmas.List.{append-nil}
use Rattle.std.proofs.lemmas.List.Concat.{flat_map-append}
use Rattle.disk_model.specs.Disk.{Files, Disk, Runs, In, Any, Same, LeavesOnly}
use Rattle.disk_model.specs.Moments.{weaker}
use Rattle.disk_model.specs.declared.machine.FileNo.{FileNo}
use Rattle.oper_core.specs.Meaning.{Meaning}
use Rattle.formats.specs.InForce.{IsInForce}
use Rattle.formats.specs.Log.{Header, end_of, IsWholeLog}
use Rattle.formats.specs.Records.{record_code, payload_of, records_of, commands_of, next_behind, next_after, IsRecord, IsPlaced, AreRecords, IsRecordLog}
use Rattle.formats.specs.declared.record.Record.{Record}
use Rattle.formats.specs.declared.record.Record.TheVariants.{Command, Identity, Checkpoint}
use Rattle.log_blocks.specs.Forcing.{with_block, IsAtRest, IsBeforeOrAfter}
use Rattle.log_blocks.specs.Laws.{in_force_stays}
use Rattle.log_records.specs.RecordLog.{RecordLogView, HoldsRecords, Keeps, IsForcedPartly, counts}

-- the groups with one more for a force: none for no records
pub with_group : {O : Type 0} → List (List (Record O)) → List (Record O) → List (List (Record O))
with_group groups [] = groups
with_group groups (r ∷ records) = groups ++ (r ∷ records) ∷ []

pub with_group-none : {O : Type 0} (groups : List (List (Record O))) → with_group groups [] ≡ groups
unfolding with_group
with_group-none groups = refl

pub with_group-some : {O : Type 0} (groups : List (List (Record O))) (r : Record O) (records : List (Record O)) → with_group groups (r ∷ records) ≡ groups ++ (r ∷ records) ∷ []
unfolding with_group
with_group-some groups r records = refl

module _ {O : Type 0} (m : Meaning O) where
  map_push : (groups : List (List (Record O))) (g : List (Record O)) → map (payload_of m) (groups ++ g ∷ []) ≡ map (payload_of m) groups ++ payload_of m g ∷ []
  map_push [] g = refl
  map_push (x ∷ groups) g = ap (λ (l : List (List ℕ)). payload_of m x ∷ l) (map_push groups g)

  -- a force's block is that of its records
  pub payloads-with_group : (groups : List (List (Record O))) (records : List (Record O))
      → with_block (map (payload_of m) groups) (payload_of m records) ≡ map (payload_of m) (with_group groups records)
  unfolding with_group
  payloads-with_group groups [] = refl
  payloads-with_group groups (Command lsn op ∷ records) = sym (map_push groups (Command lsn op ∷ records))
  payloads-with_group groups (Identity lsn x value ∷ records) = sym (map_push groups (Identity lsn x value ∷ records))
  payloads-with_group groups (Checkpoint table ∷ records) = sym (map_push groups (Checkpoint table ∷ records))

  pub records-with_group : (groups : List (List (Record O))) (records : List (Record O)) → records_of (with_group groups records) ≡ records_of groups ++ records
  unfolding with_group
  records-with_group groups [] = sym (append-nil (records_of groups))
  records-with_group groups (r ∷ records) =
      flat_map-append (λ (g : List (Record O)). g) groups ((r ∷ records) ∷ []) ∙ ap (λ (l : List (Record O)). records_of groups ++ l) (append-nil (r ∷ records))

  -- the next LSN after some records and then others
  pub next-append : (next : ℕ) (xs ys : List (Record O)) → next_after next (xs ++ ys) ≡ next_after (next_after next xs) ys
  next-append next [] ys = refl
  next-append next (x ∷ xs) ys = next-append (next_behind next x) xs ys

  -- the first of records in their places are in their places
  pub AreRecords-front : (base next : ℕ) (xs ys : List (Record O)) → AreRecords m base next (xs ++ ys) → AreRecords m base next xs
  AreRecords-front base next [] ys all = tt
  AreRecords-front base next (x ∷ xs) ys all = (all.0, all.1, AreRecords-front base (next_behind next x) xs ys all.2)

  -- and so are the last
  pub AreRecords-behind : (base next : ℕ) (xs ys : List (Record O)) → AreRecords m base next (xs ++ ys) → AreRecords m base (next_after next xs) ys
  AreRecords-behind base next [] ys all = all
  AreRecords-behind base next (x ∷ xs) ys all = AreRecords-behind base (next_behind next x) xs ys all.2

  -- records after others go on with the LSNs
  pub placed-append : (base next : ℕ) (xs ys : List (Record O)) → AreRecords m base next xs → AreRecords m base (next_after next xs) ys → AreRecords m base next (xs ++ ys)
  placed-append base next [] ys all more = more
  placed-append base next (x ∷ xs) ys all more = (all.0, all.1, placed-append base (next_behind next x) xs ys all.2 more)

  -- one record more, in its place
  pub AreRecords-push : (base next : ℕ) (xs : List (Record O)) (new : Record O) → AreRecords m base next xs → IsRecord m new → IsPlaced m base (next_after next xs) new → AreRecords m base next (xs ++ new ∷ [])
  AreRecords-push base next xs new all grammar place = placed-append base next xs (new ∷ []) all (grammar, place, tt)

  pub payload_push : (records : List (Record O)) (new : Record O) → payload_of m (records ++ new ∷ []) ≡ payload_of m records ++ record_code m new
  payload_push records new = flat_map-append (record_code m) records (new ∷ []) ∙ ap (λ (l : List ℕ). payload_of m records ++ l) (append-nil (record_code m new))

  -- the commands of some records and then of others
  pub commands-append : (xs ys : List (Record O)) → commands_of (xs ++ ys) ≡ commands_of xs ++ commands_of ys
  commands-append [] ys = refl
  commands-append (Command lsn op ∷ xs) ys = ap (λ (l : List O). op ∷ l) (commands-append xs ys)
  commands-append (Identity lsn x value ∷ xs) ys = commands-append xs ys
  commands-append (Checkpoint table ∷ xs) ys = commands-append xs ys

  pub count-append : (xs ys : List (Record O)) → length (commands_of (xs ++ ys)) ≡ length (commands_of xs) + length (commands_of ys)
  count-append xs ys = ap (λ (l : List O). length l) (commands-append xs ys) ∙ length-append (commands_of xs) (commands_of ys)

  -- the next LSN never falls
  pub next_rises : (next : ℕ) (records : List (Record O)) → next + length (commands_of records) ≤ next_after next records
  next_rises next [] = omega arith
  next_rises next (Command lsn op ∷ records) = let rest = next_rises (next + 1) records in omega (arith, rest)
  next_rises next (Identity lsn x value ∷ records) = let rest = next_rises (next + 1) records in omega (arith, rest)
  next_rises next (Checkpoint table ∷ records) = next_rises next records

  -- the LSNs of records end at 2^62
  pub lsn_end : (base next : ℕ) (records : List (Record O)) → next ≤ 2 ^ 62 → AreRecords m base next records → next_after next records ≤ 2 ^ 62
  lsn_end base next [] small all = small
  lsn_end base next (Command lsn op ∷ records) small all = let place = all.1 in lsn_end base (next + 1) records (omega (arith, place.0, place.1)) all.2
  lsn_end base next (Identity lsn x value ∷ records) small all = let place = all.1 in lsn_end base (next + 1) records (omega (arith, place.0, place.1)) all.2
  lsn_end base next (Checkpoint table ∷ records) small all = lsn_end base next records small all.2

  -- a file of these payloads holds the stable records
  pub holds_stable : (d : Disk) (log : RecordLogView) (stable pending : List (Record O)) (k : Keeps m d log stable pending) (file : List ℕ)
      → IsWholeLog log.log.header (map (payload_of m) k.groups) file → HoldsRecords m log.log.header stable file
  holds_stable d log stable pending k file whole = record {
    groups = k.groups;
    log = record {
      log = whole;
      placed = subst (λ (l : List (Record O)). AreRecords m log.log.header.base log.log.header.base l) (sym k.stable_are) (AreRecords-front log.log.header.base log.log.header.base stable pending k.placed);
    };
    records_are = k.stable_are;
  }

  -- with the block of those that wait it holds all
  pub holds_all : (d : Disk) (log : RecordLogView) (stable pending : List (Record O)) (k : Keeps m d log stable pending) (file : List ℕ)
      → IsWholeLog log.log.header (with_block (map (payload_of m) k.groups) log.log.pending) file → HoldsRecords m log.log.header (stable ++ pending) file
  holds_all d log stable pending k file whole =
      let all : records_of (with_group k.groups pending) ≡ stable ++ pending = records-with_group k.groups pending ∙ ap (λ (l : List (Record O)). l ++ pending) k.stable_are in
      let payloads : with_block (map (payload_of m) k.groups) log.log.pending ≡ map (payload_of m) (with_group k.groups pending) =
      ap (λ (p : List ℕ). with_block (map (payload_of m) k.groups) p) k.pending_are ∙ payloads-with_group k.groups pending in
      record {
        groups = with_group k.groups pending;
        log = record {
          log = subst (λ (ps : List (List ℕ)). IsWholeLog log.log.header ps file) payloads whole;
          placed = subst (λ (l : List (Record O)). AreRecords m log.log.header.base log.log.header.base l) (sym all) k.placed;
        };
        records_are = all;
      }

  pub at_rest : (d : Disk) (log : RecordLogView) (stable pending : List (Record O)) (k : Keeps m d log stable pending) → IsAtRest d log.log (map (payload_of m) k.groups)
  at_rest d log stable pending k = record { settled = k.settled; stands = k.file.log; place = k.place }

  -- what a crash within a force leaves holds the stable records or all
  pub forced_partly : (d : Disk) (log : RecordLogView) (stable pending : List (Record O)) (k : Keeps m d log stable pending) (files : Files) (said : List ℕ)
      → IsBeforeOrAfter d log.log (map (payload_of m) k.groups) files said → IsForcedPartly m d log stable pending files said
  forced_partly d log stable pending k files said is = record {
    each_file = record {
      changed = ⊎_elim (λ (before : IsWholeLog log.log.header (map (payload_of m) k.groups) (files log.log.active)). inl (holds_stable d log stable pending k (files log.log.active) before))
          (λ (after : IsWholeLog log.log.header (with_block (map (payload_of m) k.groups) log.log.pending) (files log.log.active)). inr (holds_all d log stable pending k (files log.log.active) after))
          is.each_file.changed;
      others = is.each_file.others;
    };
    nothing_said = is.nothing_said;
  }

  -- after a force all are stable
  pub keeps_forced : (old new : Disk) (log : RecordLogView) (after : RecordLogView) (stable pending : List (Record O)) (k : Keeps m old log stable pending)
      → IsAtRest new after.log (with_block (map (payload_of m) k.groups) log.log.pending) → IsInForce after.log.active log.log.header.epoch new.reads → after.log.header ≡ log.log.header → after.log.pending ≡ []
      → after.next ≡ log.next → after.accepted ≡ log.accepted → after.forced ≡ log.accepted → Keeps m new after (stable ++ pending) []
  unfolding holds_all with_group
  keeps_forced old new log after stable pending k rest in_force header none next accepted forced =
      let held = holds_all old log stable pending k (new.reads after.log.active) (subst (λ (h : Header). IsWholeLog h (with_block (map (payload_of m) k.groups) log.log.pending) (new.reads after.log.active)) header rest.stands) in
      let payloads : with_block (map (payload_of m) k.groups) log.log.pending ≡ map (payload_of m) held.groups =
      ap (λ (p : List ℕ). with_block (map (payload_of m) k.groups) p) k.pending_are ∙ payloads-with_group k.groups pending in
      let all : (stable ++ pending) ++ [] ≡ stable ++ pending = append-nil (stable ++ pending) in
      record {
        settled = rest.settled;
        in_force = subst (λ (h : Header). IsInForce after.log.active h.epoch new.reads) (sym header) in_force;
        groups = held.groups;
        file = subst (λ (h : Header). IsRecordLog m h held.groups (new.reads after.log.active)) (sym header) held.log;
        stable_are = held.records_are;
        place = rest.place ∙ ap end_of payloads;
        pending_are = none;
        placed = subst (λ (h : Header). AreRecords m h.base h.base ((stable ++ pending) ++ [])) (sym header)
            (subst (λ (l : List (Record O)). AreRecords m log.log.header.base log.log.header.base l) (sym all) k.placed);
        next_is = next ∙ k.next_is ∙ ap (λ (h : Header). next_after h.base (stable ++ pending)) (sym header) ∙ ap (λ (l : List (Record O)). next_after after.log.header.base l) (sym all);
        accepted_are = accepted ∙ k.accepted_are ∙ ap (λ (h : Header). h.commands + length (commands_of (stable ++ pending))) (sym header)
            ∙ ap (λ (l : List (Record O)). after.log.header.commands + length (commands_of l)) (sym all);
        forced_are = forced ∙ k.accepted_are ∙ ap (λ (h : Header). h.commands + length (commands_of (stable ++ pending))) (sym header);
      }

  -- a force of the log below is one of its records
  pub force_moments : (old new : Disk) (log inside : RecordLogView) → inside ≡ log
      → ((payloads : List (List ℕ)) → IsAtRest old inside.log payloads → LeavesOnly old new (IsBeforeOrAfter old inside.log payloads))
      → (stable pending : List (Record O)) → Keeps m old log stable pending → LeavesOnly old new (IsForcedPartly m old log stable pending)
  force_moments old new log inside same leaves stable pending keeps =
      let here = subst (λ (v : RecordLogView). (payloads : List (List ℕ)) → IsAtRest old v.log payloads → LeavesOnly old new (IsBeforeOrAfter old v.log payloads)) same leaves in
      weaker old new (IsBeforeOrAfter old log.log (map (payload_of m) keeps.groups)) (IsForcedPartly m old log stable pending)
      (here (map (payload_of m) keeps.groups) (at_rest old log stable pending keeps)) (λ c s is. forced_partly old log stable pending keeps c s is)

  pub force_acknowledged : (old new : Disk) (log inside after : RecordLogView) → inside ≡ log → old.tells_files → Runs (In inside.log.active Any) Same old new
      → ((payloads : List (List ℕ)) → IsAtRest old inside.log payloads → IsAtRest new after.log (with_block payloads inside.log.pending))
      → after.log.active ≡ inside.log.active → after.log.header ≡ inside.log.header → after.log.pending ≡ [] → after.next ≡ inside.next → after.accepted ≡ inside.accepted → after.forced ≡ inside.accepted
      → (stable pending : List (Record O)) → Keeps m old log stable pending → Keeps m new after (stable ++ pending) []
  force_acknowledged old new log inside after same told run rests active header none next accepted forced stable pending keeps =
      let here = subst (λ (v : RecordLogView). (payloads : List (List ℕ)) → IsAtRest old v.log payloads → IsAtRest new after.log (with_block payloads v.log.pending)) same rests in
      let changed = subst (λ (v : RecordLogView). In v.log.active Any old.reads new.reads) same (run.reads told) in
      let stays = in_force_stays log.log.active log.log.header.epoch Any old.reads new.reads changed keeps.in_force in
      let active_is = sym (active ∙ ap (λ (v : RecordLogView). v.log.active) same) in
      keeps_forced old new log after stable pending keeps (here (map (payload_of m) keeps.groups) (at_rest old log stable pending keeps))
      (subst (λ (f : FileNo). IsInForce f log.log.header.epoch new.reads) active_is stays)
      (header ∙ ap (λ (v : RecordLogView). v.log.header) same) none (next ∙ ap (λ (v : RecordLogView). v.next) same)
      (accepted ∙ ap (λ (v : RecordLogView). v.accepted) same) (forced ∙ ap (λ (v : RecordLogView). v.accepted) same)

  -- an append adds the record after those that wait
  pub keeps_append : (d : Disk) (log after : RecordLogView) (stable pending : List (Record O)) (new : Record O) → Keeps m d log stable pending
      → IsRecord m new → IsPlaced m log.log.header.base log.next new → after.log.active ≡ log.log.active → after.log.header ≡ log.log.header → after.log.end ≡ log.log.end
      → after.log.pending ≡ log.log.pending ++ record_code m new → after.next ≡ next_behind log.next new → after.accepted ≡ log.accepted + counts new → after.forced ≡ log.forced
      → Keeps m d after stable (pending ++ new ∷ [])
  keeps_append d log after stable pending new k grammar place active header end waits next accepted forced =
      let base = log.log.header.base in
      let all : (stable ++ pending) ++ new ∷ [] ≡ stable ++ (pending ++ new ∷ []) = append_assoc stable pending (new ∷ []) in
      record {
        settled = k.settled;
        in_force = subst (λ (h : Header). IsInForce after.log.active h.epoch d.reads) (sym header) (subst (λ (f : FileNo). IsInForce f log.log.header.epoch d.reads) (sym active) k.in_force);
        groups = k.groups;
        file = subst (λ (h : Header). IsRecordLog m h k.groups (d.reads after.log.active)) (sym header) (subst (λ (f : FileNo). IsRecordLog m log.log.header k.groups (d.reads f)) (sym active) k.file);
        stable_are = k.stable_are;
        place = end ∙ k.place;
        pending_are = waits ∙ ap (λ (p : List ℕ). p ++ record_code m new) k.pending_are ∙ sym (payload_push pending new);
        placed = subst (λ (h : Header). AreRecords m h.base h.base (stable ++ (pending ++ new ∷ []))) (sym header)
            (subst (λ (l : List (Record O)). AreRecords m base base l) all
            (AreRecords-push base base (stable ++ pending) new k.placed grammar (subst (λ (n : ℕ). IsPlaced m base n new) k.next_is place)));
        next_is = next ∙ ap (λ (n : ℕ). next_behind n new) k.next_is ∙ sym (next-append base (stable ++ pending) (new ∷ [])) ∙ ap (λ (l : List (Record O)). next_after base l) all
            ∙ ap (λ (h : Header). next_after h.base (stable ++ (pending ++ new ∷ []))) (sym header);
        accepted_are = accepted ∙ ap (λ (n : ℕ). n + counts new) k.accepted_are
            ∙ omega (arith, count-append (stable ++ pending) (new ∷ []), ap (λ (l : List (Record O)). length (commands_of l)) all, ap (λ (h : Header). h.commands) header);
        forced_are = forced ∙ k.forced_are ∙ ap (λ (h : Header). h.commands + length (commands_of stable)) (sym header);
      }

  -- a call that changes no file keeps the log
  pub keeps_stay : {says : List ℕ → List ℕ → Type 0} (old new : Disk) (log : RecordLogView) (stable pending : List (Record O)) → old.tells_files → Runs Same says old new
      → Keeps m old log stable pending → Keeps m new log stable pending
  keeps_stay {says} old new log stable pending told run k =
      let same = sym (run.reads told) in
      record {
        settled = λ file told_new f s left.
            let told_old = run.time.moments_told.1 told_new in
            let from = run.crash told_old f s (run.ends.among old.clock new.clock f s run.time.later (omega arith) left) in
            ap (λ (g : Files). g file) from.0.2 ∙ k.settled file told_old from.0.0 old.said from.0.1 ∙ ap (λ (g : Files). g file) same;
        in_force = subst (λ (f : Files). IsInForce log.log.active log.log.header.epoch f) same k.in_force;
        groups = k.groups;
        file = subst (λ (f : Files). IsRecordLog m log.log.header k.groups (f log.log.active)) same k.file;
        stable_are = k.stable_are;
        place = k.place;
        pending_are = k.pending_are;
        placed = k.placed;
        next_is = k.next_is;
        accepted_are = k.accepted_are;
        forced_are = k.forced_are;
      }

  -- the log is kept whatever room its buffer has
  pub keeps_room : (d : Disk) (log after : RecordLogView) (stable pending : List (Record O)) → after ≡ record log { log = record log.log { room = after.log.room } }
      → Keeps m d log stable pending → Keeps m d after stable pending
  keeps_room d log after stable pending same k = subst (λ (v : RecordLogView). Keeps m d v stable pending) (sym same) (record {
    settled = k.settled;
    in_force = k.in_force;
    groups = k.groups;
    file = k.file;
    stable_are = k.stable_are;
    place = k.place;
    pending_are = k.pending_are;
    placed = k.placed;
    next_is = k.next_is;
    accepted_are = k.accepted_are;
    forced_are = k.forced_are;
  })
