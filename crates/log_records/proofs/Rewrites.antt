-- A log of records before, within and after a rewrite.
use Rattle.std.proofs.Common.{◌≡◌, ◌+◌, ◌<◌, ◌≤◌, ◌^◌, ℕ, List, [], ◌∷◌, ◌++◌, length, map, refl, sym, ap, ◌∙◌, subst, arith, inl, inr, ⊎_elim}
use Rattle.std.proofs.lemmas.List.{append-nil}
use Rattle.std.proofs.lemmas.List.Elements.{All-push, All-filter}
use Rattle.disk_model.specs.Disk.{Files, Disk, Stays, Same, LeavesOnly}
use Rattle.disk_model.specs.Moments.{first_call, from_reads, stays_settled, weaker}
use Rattle.disk_model.specs.declared.machine.FileNo.{FileNo}
use Rattle.dirty_page_table.specs.declared.table.DirtyPageTable.{DirtyPageTable}
use Rattle.oper_core.specs.Meaning.{Meaning}
use Rattle.formats.specs.InForce.{other_of, IsInForce, HoldsLog}
use Rattle.formats.specs.Log.{Header, IsHeader}
use Rattle.formats.specs.Reading.{FailsBy, TellsDamage}
use Rattle.formats.specs.Records.{record_code, payload_of, records_of, commands_of, next_after, IsPlaced, AreRecords}
use Rattle.formats.specs.declared.read_err.ReadErr.{ReadErr}
use Rattle.formats.specs.declared.read_err.ReadErr.TheVariants.{DiskFault, Damaged, Memory}
use Rattle.formats.specs.declared.record.Record.{Record}
use Rattle.formats.specs.declared.record.Record.TheVariants.{Checkpoint}
use Rattle.log_blocks.specs.Forcing.{IsAtRest}
use Rattle.log_blocks.specs.LogView.{LogView}
use Rattle.log_blocks.specs.Rewriting.{IsOldOrNew, next_header}
use Rattle.log_blocks.specs.Streaming.{IsStill}
use Rattle.log_records.specs.Codec.{AreShort}
use Rattle.log_records.specs.RecordLog.{RecordLogView, Keeps}
use Rattle.log_records.specs.RecordLaws.{AreRecords-push, count-append, keeps_stay, next-append}
use Rattle.log_records.specs.RewriteLaws.{blocks_hold}
use Rattle.log_records.specs.Rewriting.{is_from_lsn, from_lsn, left_out, rewritten_records, in_full_blocks, new_payloads, commands_before, rewritten_log, rewrite_from_read, FindsDamage, HoldsInForce, IsOldLog, IsRefused, IsRewritable, IsRewrittenPartly, RewriteFails}
use Rattle.log_records.proofs.FromLsn.{counts_part, left_below, from_lsn_placed}

module _ {O : Type 0} (m : Meaning O) where
  -- a log that keeps these records, and may be rewritten
  pub record Rewrites (d : Disk) (log : RecordLogView) (base : ℕ) (table : DirtyPageTable) (stable : List (Record O)) : Type 0 where
    pub keeps : Keeps m d log stable []
    pub may : IsRewritable m log base table

  -- the records of the new log stand in their places, and the next LSN is what it was
  record IsPlacedAnew (base next : ℕ) (records : List (Record O)) : Type 0 where
    are : AreRecords m base base records
    next_is : next ≡ next_after base records

  placed_anew : (d : Disk) (log : RecordLogView) (base : ℕ) (table : DirtyPageTable) (stable : List (Record O)) → Rewrites d log base table stable → IsPlacedAnew base log.next (rewritten_records base table stable)
  placed_anew d log base table stable is =
      let hb = log.log.header.base in
      let all : stable ++ [] ≡ stable = append-nil stable in
      let are = subst (λ (l : List (Record O)). AreRecords m hb hb l) all is.keeps.placed in
      let next : log.next ≡ next_after hb stable = is.keeps.next_is ∙ ap (λ (l : List (Record O)). next_after hb l) all in
      let kept = from_lsn_placed m base hb hb base stable are (λ low. omega (arith, low, is.may.low)) (λ high. refl) in
      let same : next_after base (from_lsn base stable) ≡ log.next = kept.1 (omega (arith, next, is.may.high)) ∙ sym next in
      record {
        are = AreRecords-push m base base (from_lsn base stable) (Checkpoint table) kept.0 is.may.grammar (subst (λ (n : ℕ). IsPlaced m base n (Checkpoint table)) (sym same) is.may.place);
        next_is = sym same ∙ sym (next-append m base (from_lsn base stable) (Checkpoint table ∷ []));
      }

  -- the new log, once it is in force
  pub keeps_rewritten : (old new : Disk) (log after : RecordLogView) (base : ℕ) (table : DirtyPageTable) (stable : List (Record O)) → Rewrites old log base table stable
      → after ≡ record log { log = rewritten_log m log.log base table stable } → IsAtRest new (rewritten_log m log.log base table stable) (new_payloads m base table stable)
      → IsInForce (other_of log.log.active) (log.log.header.epoch + 1) new.reads → Keeps m new after (rewritten_records base table stable) []
  keeps_rewritten old new log after base table stable is same rest in_force =
      let k = is.keeps in
      let records = rewritten_records base table stable in
      let anew = placed_anew old log base table stable is in
      let held : records_of (in_full_blocks m records) ≡ records = blocks_hold m [] records in
      let all : records ++ [] ≡ records = append-nil records in
      let commands = ap (λ (l : List (Record O)). length (commands_of l)) all in
      let pushed = count-append m (from_lsn base stable) (Checkpoint table ∷ []) in
      let parts = counts_part m base stable in
      let before = ap (λ (l : List (Record O)). length (commands_of l)) (append-nil stable) in
      subst (λ (v : RecordLogView). Keeps m new v records []) (sym same) (record {
        settled = rest.settled;
        in_force = in_force;
        groups = in_full_blocks m records;
        file = record { log = rest.stands; placed = subst (λ (l : List (Record O)). AreRecords m base base l) (sym held) anew.are };
        stable_are = held;
        place = rest.place;
        pending_are = refl;
        placed = subst (λ (l : List (Record O)). AreRecords m base base l) (sym all) anew.are;
        next_is = anew.next_is ∙ ap (λ (l : List (Record O)). next_after base l) (sym all);
        accepted_are = omega (arith, k.accepted_are, before, parts, pushed, commands);
        forced_are = omega (arith, k.forced_are, parts, pushed);
      })

  -- what a crash leaves of the log files holds the old records
  pub is_old : (old : Disk) (log : RecordLogView) (stable : List (Record O)) (k : Keeps m old log stable []) → (files : Files) (said : List ℕ) → IsStill old log.log (map (payload_of m) k.groups) files said → IsOldLog m old log.log stable files said
  is_old old log stable k files said so = record {
    others = so.others;
    in_force = record { groups = k.groups; log = record { in_force = so.in_force.in_force; log = record { log = so.in_force.log; placed = k.file.placed } }; records_are = k.stable_are };
    nothing_said = so.nothing_said;
  }

  -- or the new ones
  pub partly : (old : Disk) (log : RecordLogView) (base : ℕ) (table : DirtyPageTable) (stable : List (Record O)) (is : Rewrites old log base table stable) → (files : Files) (said : List ℕ)
      → IsOldOrNew old log.log (map (payload_of m) is.keeps.groups) (rewritten_log m log.log base table stable) (new_payloads m base table stable) files said → IsRewrittenPartly m old log.log base table stable files said
  partly old log base table stable is files said so =
      let k = is.keeps in
      let records = rewritten_records base table stable in
      let anew = placed_anew old log base table stable is in
      let held : records_of (in_full_blocks m records) ≡ records = blocks_hold m [] records in
      record {
        others = so.others;
        in_force = ⊎_elim
            (λ (was : HoldsLog log.log.active log.log.header (map (payload_of m) k.groups) files).
            inl (record { groups = k.groups; log = record { in_force = was.in_force; log = record { log = was.log; placed = k.file.placed } }; records_are = k.stable_are }))
            (λ (now : HoldsLog (other_of log.log.active) (next_header log.log base (commands_before log.log base stable)) (new_payloads m base table stable) files).
            inr (record {
              groups = in_full_blocks m records;
              log = record { in_force = now.in_force; log = record { log = now.log; placed = subst (λ (l : List (Record O)). AreRecords m base base l) (sym held) anew.are } };
              records_are = held;
            }))
            so.in_force;
        nothing_said = so.nothing_said;
      }

  -- where the old log is left alone, it or the new one is
  pub old_partly : (old new : Disk) (log : LogView) (base : ℕ) (table : DirtyPageTable) (stable : List (Record O)) → LeavesOnly old new (IsOldLog m old log stable) → LeavesOnly old new (IsRewrittenPartly m old log base table stable)
  old_partly old new log base table stable leaves = weaker old new (IsOldLog m old log stable) (IsRewrittenPartly m old log base table stable) leaves
      (λ files said so. record { others = so.others; in_force = inl so.in_force; nothing_said = so.nothing_said })

  -- a call that changes no image leaves the old log
  pub old_stays : (old new : Disk) (log : RecordLogView) (stable : List (Record O)) → Keeps m old log stable [] → Stays old new → old.tells_moments → LeavesOnly old new (IsOldLog m old log.log stable)
  old_stays old new log stable k kept told = first_call old new (IsOldLog m old log.log stable) told kept.time (λ files said left.
      let from = from_reads old new Same Same told k.settled kept.crash files said left in
      record {
        others = record { changed = tt; others = λ other apart. ap (λ (f : Files). f other) from.0 };
        in_force = subst (λ (f : Files). HoldsInForce m log.log.active log.log.header stable f) (sym from.0) (record { groups = k.groups; log = record { in_force = k.in_force; log = k.file }; records_are = k.stable_are });
        nothing_said = from.1;
      })

  -- so it refuses
  pub refused_stays : (old new : Disk) (log : RecordLogView) → Stays old new → IsRefused m old new log
  refused_stays old new log kept = record {
    kept = λ told stable keeps. keeps_stay m old new log stable [] told kept keeps;
    settled = λ settled file. stays_settled old new file kept (settled file);
    any_moment = λ told stable keeps. old_stays old new log stable keeps kept told;
  }

  -- what the new log is made of
  pub new_short : (base : ℕ) (table : DirtyPageTable) (records : List (Record O)) → AreShort m records → length (record_code m (Checkpoint table)) ≤ 2 ^ 30 → AreShort m (rewritten_records base table records)
  new_short base table records short checkpoint =
      All-push (λ r. length (record_code m r) ≤ 2 ^ 30) (from_lsn base records) (Checkpoint table) (All-filter (is_from_lsn base) (λ r. length (record_code m r) ≤ 2 ^ 30) records short) checkpoint

  -- the commands before the new base are less than it
  pub new_commands : (h : Header) (base : ℕ) (records : List (Record O)) → IsHeader h → AreRecords m h.base h.base records → h.base ≤ base → h.commands + length (commands_of (left_out base records)) < base
  new_commands h base records range are low = let below = left_below m base h.base h.base records are in omega (arith, range.commands, below, low)

-- why it fails where the old log could not be read
pub read_fails : (rises : Type 0) (fault : FileNo → ℕ → Type 0) (length_is : ℕ → Type 0) (log : LogView) (most : ℕ) (e : ReadErr) → log.header.epoch < 2 ^ 62 → FailsBy rises fault e → RewriteFails rises fault length_is log most (rewrite_from_read e)
read_fails rises fault length_is log most DiskFault early fails = (fails, early)
read_fails rises fault length_is log most (Damaged file place) early fails = (fails, early)
read_fails rises fault length_is log most Memory early fails = early

-- and it found no damage where none was reported
pub none_found : (e : ReadErr) → (TellsDamage e → ⊥) → FindsDamage (rewrite_from_read e) → ⊥
none_found DiskFault none found = found
none_found (Damaged file place) none found = none found
none_found Memory none found = found
