-- What a rewrite of a store's log leaves, whatever it answers.
use Rattle.std.proofs.Common.{◌≡◌, ◌∙◌, sym, subst, ap, ℕ, ◌<◌, ◌≤◌, Bool, false, List, [], ◌∷◌, length, refl, arith, inl, inr}
use Rattle.std.specs.Prelude.{◌≢◌, ◌||◌, ◌^◌, IfErr, OnOk, nat_lt, Result, Ok, Err}
use Rattle.std.proofs.lemmas.Bool.{both_ways, cases_lt, lt-ltb, le-ltb, cond-true, cond-false}
use Rattle.disk_model.specs.Disk.{Any, Disk, In, IsSettled, LeavesOnly, Rises, Runs, Same, Stays}
use Rattle.disk_model.specs.declared.machine.FileNo.{FileNo}
use Rattle.disk_model.specs.declared.machine.FileNo.TheVariants.{Objects}
use Rattle.oper_core.specs.Meaning.{Meaning}
use Rattle.oper_core.specs.declared.bounds.Bounds.{Bounds}
use Rattle.dirty_page_table.specs.declared.table.DirtyPageTable.{DirtyPageTable}
use Rattle.formats.specs.InForce.{other_of}
use Rattle.formats.specs.Objects.{bounds_of}
use Rattle.formats.specs.Records.{IsCheckpointAt}
use Rattle.formats.specs.declared.params.Params.{Params}
use Rattle.formats.specs.declared.record.Record.{Record}
use Rattle.install_order.specs.declared.entry.Entry.{Entry}
use Rattle.log_blocks.specs.LogView.{used_of}
use Rattle.log_blocks.specs.Rewriting.{file_length, rewritten}
use Rattle.log_records.specs.declared.rewrite_err.RewriteErr.{RewriteErr}
use Rattle.log_records.specs.declared.rewrite_err.RewriteErr.TheVariants as of_rewrite
use Rattle.log_records.specs.RecordLog.{RecordLogView, Keeps}
use Rattle.log_records.specs.Rewriting.{IsNewLength, IsRefused, IsRewritable, IsRewriteEnd, IsRewrittenPartly, IsWithinLength, RewriteFails, new_payloads, rewritten_log, rewritten_records}
use Rattle.explain_core.specs.Sound.{IsSound}
use Rattle.explain_core.specs.Taken.{after_none}
use Rattle.explain_core.specs.TurnLaws.{run_none}
use Rattle.explain_core.specs.World.{World, step, IsAllowed}
use Rattle.explain_core.specs.World.Step.{Header_gate}
use Rattle.standing.specs.Moments.{TakesSome}
use Rattle.running_store.specs.Calls.AfterReads.{read_moments}
use Rattle.running_store.specs.Calls.{IsCall, IsFailed}
use Rattle.running_store.specs.Courses.{Course, Stop, course}
use Rattle.running_store.specs.Courses.Stop.{Through, Full, Worn}
use Rattle.running_store.specs.Calls.Faults.{has_failed, is_rewrite_fault}
use Rattle.running_store.specs.Kept.Keeping.{still_in_use}
use Rattle.running_store.specs.Kept.{HasLog, KeepsLog, StopsAt}
use Rattle.running_store.specs.Laid.{Laid, IsLaidOn}
use Rattle.running_store.specs.Parts.{Parts, Shows, Volatile, meaning_in, parts, volatile}
use Rattle.running_store.specs.Calls.RewriteLaws.{gate_allowed}
use Rattle.running_store.specs.Calls.Rewrites.{HasRewritten, IsKeptFrom, ending_of_rewrite, new_base, rewrite_within, trimmed, trimmed_file}
use Rattle.running_store.specs.Parts.Stored.{run_one}
use Rattle.running_store.specs.StoreView.{IsUsable, StoreView, view_of}
use Rattle.running_store.specs.Taking.{Ending, Follows, Takes}
use Rattle.running_store.specs.Taking.Ending.{Done, Stopped, Short, Failed}
use Rattle.running_store.proofs.Inside.{call_inside, flag_before, quiet_one, takes_inside}
use Rattle.running_store.proofs.OfRewrites.Log.{all_stable, keeps_all, length_new, no_records, old_shows, other_log, rewrite_moments, rewritten_shows, stable}

-- The checkpoint and the base are those of each world that is shown.
module _ {O : Type 0} (meaning : Bounds → Meaning O) (d : Disk) (log : RecordLogView) (it : Volatile) (base : ℕ) (table : DirtyPageTable) (most : ℕ) (may : IsRewritable (meaning log.bounds) log base table)
    (kept : (p : Params) (v : World O) → Shows (meaning_in meaning p) p d (record { log = log; volatile = it }) v → IsKeptFrom (meaning_in meaning p) v base table) where
  abbrev here : Parts
  here = record { log = log; volatile = it }

  module _ (p : Params) (v : World O) (shows : Shows (meaning_in meaning p) p d here v) where
    abbrev m : Meaning O
    m = meaning_in meaning p

    abbrev used : ℕ
    used = used_of log.log

    abbrev records : List (Record O)
    records = stable m p d log it v shows may.waits

    is : IsKeptFrom m v base table
    is = kept p v shows

    low : v.base ≤ base
    low = omega (arith, may.low, shows.log.base)

    place : IsCheckpointAt m base log.next table
    place = subst (λ (b : Bounds). IsCheckpointAt (meaning b) base log.next table) shows.bounds may.place

    -- the log's own bounds are those of the store
    own : Keeps (meaning log.bounds) d log records []
    own = subst (λ (b : Bounds). Keeps (meaning b) d log records []) (sym shows.bounds) (keeps_all m p d log it v shows may.waits)

    long_is : file_length (new_payloads (meaning log.bounds) base table records) ≡ trimmed_file m v
    long_is = ap (λ (b : Bounds). file_length (new_payloads (meaning b) base table records)) shows.bounds ∙ length_new m p d log it v shows may.waits table is.now base place low is.starts

    over_is : most < trimmed_file m v → rewrite_within m most v used ≡ course [] used (Full used (trimmed_file m v) most)
    over_is over = cond-true (nat_lt most (trimmed_file m v)) _ _ (lt-ltb most (trimmed_file m v) over)

    fits_is : trimmed_file m v ≤ most → rewrite_within m most v used ≡ course (Header_gate (new_base m v) ∷ []) (trimmed m v) Through
    fits_is fits = cond-false (nat_lt most (trimmed_file m v)) _ _ (le-ltb most (trimmed_file m v) fits)

    -- the new log is in force
    done_follows : (new : Disk) (after : RecordLogView) → ((b : Bounds) (w : World O) (k : ℕ) → IsSound (meaning b) w → IsAllowed (meaning b) w (Header_gate k) → IsSound (meaning b) (step (meaning b) w (Header_gate k)))
        → new.tells_files → new.reads Objects ≡ d.reads Objects → trimmed_file m v ≤ most → Keeps (meaning log.bounds) new after (rewritten_records base table records) []
        → after ≡ record log { log = rewritten_log (meaning log.bounds) log.log base table records } → Follows m p new (record { log = after; volatile = it }) v (rewrite_within m most v used) Done
    done_follows new after keeps told objects fits keeps_new last_is =
        let at : Bounds → RecordLogView = λ b. record log { log = rewritten_log (meaning b) log.log base table records } in
        let whole : Keeps m new (at (bounds_of p)) (rewritten_records base table records) [] =
        subst (λ (b : Bounds). Keeps (meaning b) new (at b) (rewritten_records base table records) []) shows.bounds (subst (λ (r : RecordLogView). Keeps (meaning log.bounds) new r (rewritten_records base table records) []) last_is keeps_new) in
        let gate = keeps (bounds_of p) v (new_base m v) shows.running.sound (gate_allowed m v shows.running.sound shows.running.live shows.running.alone (all_stable m p d log it v shows may.waits)) in
        let sound : IsSound m (step m v (Header_gate base)) = subst (λ (k : ℕ). IsSound m (step m v (Header_gate k))) (sym is.starts) gate in
        let shown = rewritten_shows m p d log it v shows may.waits table is.now base place low new told objects whole sound in
        let last : after ≡ at (bounds_of p) = last_is ∙ ap at shows.bounds in
        let length = length_new m p d log it v shows may.waits table is.now base place low is.starts in
        subst (λ (c : Course O). Follows m p new (record { log = after; volatile = it }) v c Done) (sym (fits_is fits)) (
          refl,
          record {
            shows = subst (λ (u : World O). Shows m p new (record { log = after; volatile = it }) u) (sym (run_one m v (Header_gate (new_base m v))))
                (subst (λ (k : ℕ). Shows m p new (record { log = after; volatile = it }) (step m v (Header_gate k))) is.starts
                (subst (λ (r : RecordLogView). Shows m p new (record { log = r; volatile = it }) (step m v (Header_gate base))) (sym last) shown));
            used = ap (λ (r : RecordLogView). used_of r.log) last ∙ omega (arith, length);
          },
        )

    -- the old log is in force still
    refused_shows : (new : Disk) → Runs (In (other_of log.log.active) Any) Same d new → IsRefused (meaning log.bounds) d new log → Shows m p new here v
    refused_shows new runs refused = old_shows m p d log it v shows may.waits new (runs.time.files_told.0 shows.told)
        ((runs.reads shows.told).others Objects (λ e. other_log log.log.active shows.log.keeps.in_force.a_log (sym e)))
        (subst (λ (b : Bounds). Keeps (meaning b) new log records []) shows.bounds (refused.kept shows.told records own))

    -- it would be too long
    full_follows : (new : Disk) (len need limit : ℕ) → Shows m p new here v → len ≡ used → need ≡ trimmed_file m v → limit ≡ most → limit < need → Follows m p new here v (rewrite_within m most v used) (Stopped (Full len need limit))
    full_follows new len need limit still same long top over =
        let stop : Full used (trimmed_file m v) most ≡ Full len need limit = λ i. Full (sym same i) (sym long i) (sym top i) in
        subst (λ (c : Course O). Follows m p new here v c (Stopped (Full len need limit))) (sym (over_is (omega (arith, over, long, top))))
        (stop, record { shows = subst (λ (u : World O). Shows m p new here u) (sym (run_none m v)) still; used = refl })

  -- a crash within the rewrite leaves the world before it, or the one after it
  module _ (new : Disk)
      (steps : d.tells_moments → (records : List (Record O)) → Keeps (meaning log.bounds) d log records [] → LeavesOnly d new (IsRewrittenPartly (meaning log.bounds) d log.log base table records))
      (long : d.tells_files → (records : List (Record O)) → Keeps (meaning log.bounds) d log records [] → most < file_length (new_payloads (meaning log.bounds) base table records) → Stays d new) where
    rewrite_taken : d.tells_moments → (p : Params) (v : World O) → Shows (meaning_in meaning p) p d here v → TakesSome (meaning_in meaning p) p d new v (rewrite_within (meaning_in meaning p) most v (used_of log.log)).steps
    rewrite_taken told p v shows =
        let m = meaning_in meaning p in
        let records = stable m p d log it v shows may.waits in
        elim (cases_lt most (trimmed_file m v)) [
          | inl over ↦ subst (λ (c : Course O). TakesSome m p d new v c.steps) (sym (over_is p v shows over))
              (read_moments m p d new here v [] shows (long shows.told records (own p v shows) (omega (arith, over, long_is p v shows))) told)
          | inr fits ↦ subst (λ (c : Course O). TakesSome m p d new v c.steps) (sym (fits_is p v shows fits))
              (subst (λ (k : ℕ). TakesSome m p d new v (Header_gate k ∷ [])) (is p v shows).starts
              (rewrite_moments m p d log it v shows may.waits table (is p v shows).now base (place p v shows) (low p v shows) new
              (subst (λ (b : Bounds). LeavesOnly d new (IsRewrittenPartly (meaning b) d log.log base table records)) shows.bounds (steps told records (own p v shows)))))
        ]

    short_so : Runs (In (other_of log.log.active) Any) Same d new → IsRefused (meaning log.bounds) d new log → Takes meaning d new here here (λ m v used. rewrite_within m most v used) Short
    short_so runs refused = record {
      follows = λ p v shows. let m = meaning_in meaning p in after_none m (λ u. Shows m p new here u) v (rewrite_within m most v (used_of log.log)).steps (refused_shows p v shows new runs refused);
      steps = rewrite_taken;
    }

    -- why the log is not rewritten
    ends_so : (T : Type 0) (fault : FileNo → ℕ → Type 0) (rises : Type 0) (e : RewriteErr) → log.log.header.epoch < 2 ^ 62 → RewriteFails rises fault (IsNewLength (meaning log.bounds) d log base table) log.log most e
        → Runs (In (other_of log.log.active) Any) Same d new → (e ≢ of_rewrite.DiskFault → IsRefused (meaning log.bounds) d new log) → Takes meaning d new here here (λ m v used. rewrite_within m most v used) (ending_of_rewrite {T = T} (Err e))
    ends_so T fault rises of_rewrite.DiskFault early cause runs refused = record { follows = λ p v shows. tt; steps = rewrite_taken }
    ends_so T fault rises (of_rewrite.LogFull len need limit) early cause runs refused = record {
      follows = λ p v shows. full_follows p v shows new len need limit (refused_shows p v shows new runs (refused (λ e. cc))) cause.0 (cause.1 shows.told (stable (meaning_in meaning p) p d log it v shows may.waits) (own p v shows) ∙ long_is p v shows) cause.2 cause.3;
      steps = rewrite_taken;
    }
    ends_so T fault rises (of_rewrite.Damaged file at) early cause runs refused = short_so runs (refused (λ e. cc))
    ends_so T fault rises (of_rewrite.Exhausted epoch) early cause runs refused = absurd (omega (arith, early, cause.0, cause.1))
    ends_so T fault rises of_rewrite.Memory early cause runs refused = short_so runs (refused (λ e. cc))

    done_so : (after : RecordLogView) → ((b : Bounds) (w : World O) (k : ℕ) → IsSound (meaning b) w → IsAllowed (meaning b) w (Header_gate k) → IsSound (meaning b) (step (meaning b) w (Header_gate k)))
        → Runs (In (other_of log.log.active) Any) Same d new → IsWithinLength (meaning log.bounds) d log base table most
        → (d.tells_files → (records : List (Record O)) → Keeps (meaning log.bounds) d log records []
        → Keeps (meaning log.bounds) new after (rewritten_records base table records) [] × (after ≡ record log { log = rewritten_log (meaning log.bounds) log.log base table records }))
        → Takes meaning d new here (record { log = after; volatile = it }) (λ m v used. rewrite_within m most v used) Done
    done_so after keeps runs within acknowledged = record {
      follows = λ p v shows.
          let records = stable (meaning_in meaning p) p d log it v shows may.waits in
          let done = acknowledged shows.told records (own p v shows) in
          done_follows p v shows new after keeps (runs.time.files_told.0 shows.told) ((runs.reads shows.told).others Objects (λ e. other_log log.log.active shows.log.keeps.in_force.a_log (sym e)))
          (omega (arith, within shows.told records (own p v shows), long_is p v shows)) done.0 done.1;
      steps = rewrite_taken;
    }

-- of a log in which nothing waits the stable records are all
pub all_stable_of : {O : Type 0} (m : Meaning O) (d : Disk) (log : RecordLogView) → log.log.pending ≡ [] → (has : HasLog m d log) → Keeps m d log has.stable []
all_stable_of {O} m d log waits has = subst (λ (records : List (Record O)). Keeps m d log has.stable records) (no_records m has.pending (sym waits ∙ has.keeps.pending_are)) has.keeps

-- what holds of one reason to stop holds of the same one
stop_is : (P : Stop → Type 0) (here stop : Stop) → Stopped here ≡ Stopped stop → P here → P stop
stop_is P here stop same = subst P (ap stop_of same)
  where
    stop_of : Ending → Stop
    stop_of Done = here
    stop_of (Stopped other) = other
    stop_of Short = here
    stop_of Failed = here

-- what the call leaves, whatever it answers
pub record EndsRewrite {O T : Type 0} (meaning : Bounds → Meaning O) (old new : Disk) (before after : StoreView) (base : ℕ) (table : DirtyPageTable) (most : ℕ) (r : Result T RewriteErr) : Type 0 where
  pub usable : IsUsable after.parts after.identities
  pub call : IsCall meaning old new before after 0 (StopsAt most) (ending_of_rewrite r)
  pub takes : ((p : Params) (w : World O) → Shows (meaning_in meaning p) p old before.parts w → IsKeptFrom (meaning_in meaning p) w base table)
      → Takes meaning old new before.parts after.parts (λ m w used. rewrite_within m most w used) (ending_of_rewrite r)
  pub rewritten : HasRewritten before after base r

module _ {O : Type 0} (meaning : Bounds → Meaning O) (old new : Disk) (log : RecordLogView) (objects : Laid) (entries : List Entry) (identities : ℕ) (broken flag : Bool) (before : StoreView) (is : view_of log objects entries identities broken ≡ before)
    (fine : before.broken ≡ false) (used : IsUsable (parts log objects entries) identities) (base : ℕ) (table : DirtyPageTable) (most : ℕ) (may : IsRewritable (meaning log.bounds) log base table) (runs : Runs (In (other_of log.log.active) Any) Same old new) where
  abbrev with_new : RecordLogView → StoreView
  with_new after = view_of after objects entries identities flag

  unset : broken ≡ false
  unset = flag_before log objects entries identities broken before is fine

  usable_with : (after : RecordLogView) → after.bounds ≡ log.bounds → after.next ≡ log.next → IsUsable (parts after objects entries) identities
  usable_with after bounds next = record { in_use = still_in_use log after objects entries bounds next used.in_use; counted = omega (arith, used.counted, next) }

  -- the disk did not fail
  fine_call : (after : RecordLogView) (ending : Ending) → (IsFailed ending → ⊥) → flag ≡ false → after.next ≡ log.next → (IsSettled old → IsSettled new) → KeepsLog meaning old new log after
      → ((stop : Stop) → ending ≡ Stopped stop → StopsAt most after stop) → IsCall meaning old new before (with_new after) 0 (StopsAt most) ending
  fine_call after ending none clear next settled keeps stopped =
      call_inside log objects entries identities broken before is old new after objects entries identities flag ending meaning 0 (StopsAt most) (quiet_one old new (other_of log.log.active) runs) refl (omega (arith, next)) (omega arith) (inr settled) (inr keeps)
      (inr (λ at told.
      let told_old = runs.time.files_told.1 told in
      let was = at told_old in
      (subst (λ (f : List ℕ). IsLaidOn objects f) (sym ((runs.reads told_old).others Objects (λ e. other_log log.log.active was.1.keeps.in_force.a_log (sym e)))) was.0, keeps told_old was.1)))
      stopped (λ set. absurd (both_ways _ clear set), λ failed. absurd (none failed)) (λ failed. absurd (none failed))

  -- and the old log is in force still
  still_call : (ending : Ending) → (IsFailed ending → ⊥) → flag ≡ false → IsRefused (meaning log.bounds) old new log → ((stop : Stop) → ending ≡ Stopped stop → StopsAt most log stop) → IsCall meaning old new before (with_new log) 0 (StopsAt most) ending
  still_call ending none clear refused = fine_call log ending none clear refl refused.settled
      (λ told has. record { stable = has.stable; pending = []; keeps = refused.kept told has.stable (all_stable_of (meaning log.bounds) old log may.waits has) })

  module _ (T : Type 0) (fault : FileNo → ℕ → Type 0) (length_is : ℕ → Type 0) where
    failed_call : (e : RewriteErr) → flag ≡ is_rewrite_fault e → RewriteFails (Rises old.disk_faults new.disk_faults) fault length_is log.log most e → (e ≢ of_rewrite.DiskFault → IsRefused (meaning log.bounds) old new log)
        → IsCall meaning old new before (with_new log) 0 (StopsAt most) (ending_of_rewrite {T = T} (Err e))
    failed_call of_rewrite.DiskFault set cause refused =
        call_inside log objects entries identities broken before is old new log objects entries identities flag Failed meaning 0 (StopsAt most) (quiet_one old new (other_of log.log.active) runs) refl (omega arith) (omega arith)
        (inl tt) (inl tt) (inl tt) (λ stop ends. cc) (λ is. tt, λ failed. set) (λ failed. cause.0)
    failed_call (of_rewrite.LogFull len need limit) set cause refused =
        still_call (Stopped (Full len need limit)) (λ failed. failed) set (refused (λ e. cc))
        (λ stop same. stop_is (StopsAt most log) (Full len need limit) stop same (cause.0, may.waits, omega (arith, cause.3), cause.2))
    failed_call (of_rewrite.Damaged file at) set cause refused = still_call Short (λ failed. failed) set (refused (λ e. cc)) (λ stop same. cc)
    failed_call (of_rewrite.Exhausted epoch) set cause refused =
        still_call (Stopped (Worn epoch)) (λ failed. failed) set (refused (λ e. cc)) (λ stop same. stop_is (StopsAt most log) (Worn epoch) stop same (cause.0, cause.1))
    failed_call of_rewrite.Memory set cause refused = still_call Short (λ failed. failed) set (refused (λ e. cc)) (λ stop same. cc)

  module _ (early : log.log.header.epoch < 2 ^ 62) (gate : (b : Bounds) (w : World O) (k : ℕ) → IsSound (meaning b) w → IsAllowed (meaning b) w (Header_gate k) → IsSound (meaning b) (step (meaning b) w (Header_gate k)))
      (steps : old.tells_moments → (records : List (Record O)) → Keeps (meaning log.bounds) old log records [] → LeavesOnly old new (IsRewrittenPartly (meaning log.bounds) old log.log base table records)) where
    taken : (after : RecordLogView) (ending : Ending)
        → (((p : Params) (w : World O) → Shows (meaning_in meaning p) p old (parts log objects entries) w → IsKeptFrom (meaning_in meaning p) w base table)
        → Takes meaning old new (parts log objects entries) (parts after objects entries) (λ m w used. rewrite_within m most w used) ending)
        → ((p : Params) (w : World O) → Shows (meaning_in meaning p) p old before.parts w → IsKeptFrom (meaning_in meaning p) w base table)
        → Takes meaning old new before.parts (with_new after).parts (λ m w used. rewrite_within m most w used) ending
    taken after ending takes shown =
        takes_inside log objects entries identities broken before is old new after objects entries identities flag ending meaning (λ m w used. rewrite_within m most w used)
        (takes (subst (λ (s : StoreView). (p : Params) (w : World O) → Shows (meaning_in meaning p) p old s.parts w → IsKeptFrom (meaning_in meaning p) w base table) (sym is) shown))

    pub rewrite_ends : {T : Type 0} (after : RecordLogView) (r : Result T RewriteErr) (fault : FileNo → ℕ → Type 0) → flag ≡ (broken || has_failed is_rewrite_fault r)
        → (old.tells_files → (records : List (Record O)) → Keeps (meaning log.bounds) old log records []
        → OnOk r (Keeps (meaning log.bounds) new after (rewritten_records base table records) [] × (after ≡ record log { log = rewritten_log (meaning log.bounds) log.log base table records })))
        → (IsSettled old → OnOk r (IsSettled new)) → OnOk r ((payloads : List (List ℕ)) × (commands : ℕ) × (after ≡ record log { log = rewritten log.log base commands payloads }))
        → IsRewriteEnd (meaning log.bounds) old new log after base table most r → IfErr r (RewriteFails (Rises old.disk_faults new.disk_faults) fault (IsNewLength (meaning log.bounds) old log base table) log.log most)
        → EndsRewrite meaning old new before (with_new after) base table most r
    rewrite_ends {T} after (Ok value) fault sets acknowledged settled made ends cause =
        let bounds = ap (λ (l : RecordLogView). l.bounds) made.2 in
        let next = ap (λ (l : RecordLogView). l.next) made.2 in
        let clear : flag ≡ false = sets ∙ ap (λ (b : Bool). b || false) unset in
        let clear_still : flag ≡ broken = clear ∙ sym unset in
        let keeps : KeepsLog meaning old new log after = λ told has. record {
          stable = rewritten_records base table has.stable;
          pending = [];
          keeps = subst (λ (b : Bounds). Keeps (meaning b) new after (rewritten_records base table has.stable) []) (sym bounds) (acknowledged told has.stable (all_stable_of (meaning log.bounds) old log may.waits has)).0;
        } in
        record {
          usable = usable_with after bounds next;
          call = fine_call after Done (λ failed. failed) clear next settled keeps (λ stop same. cc);
          takes = taken after Done (λ here. done_so meaning old log (volatile objects entries) base table most may here new steps ends.long after gate runs ends.made.1 acknowledged);
          rewritten = subst (λ (s : StoreView). HasRewritten {T = T} {E = RewriteErr} s (with_new after) base (Ok value)) is (record {
            bounds = bounds;
            epoch = ap (λ (l : RecordLogView). l.log.header.epoch) made.2;
            begins = ap (λ (l : RecordLogView). l.log.header.base) made.2;
            next = next;
            accepted = ap (λ (l : RecordLogView). l.accepted) made.2;
            same = λ i. view_of after objects entries identities (clear_still i);
          });
        }
    rewrite_ends {T} after (Err e) fault sets acknowledged settled made ends cause =
        subst (λ (l : RecordLogView). EndsRewrite {T = T} meaning old new before (with_new l) base table most (Err e)) (sym ends.kept) (record {
          usable = usable_with log refl refl;
          call = failed_call T fault (IsNewLength (meaning log.bounds) old log base table) e (sets ∙ ap (λ (b : Bool). b || is_rewrite_fault e) unset) cause ends.refused;
          takes = taken log (ending_of_rewrite {T = T} (Err e)) (λ here. ends_so meaning old log (volatile objects entries) base table most may here new steps ends.long T fault (Rises old.disk_faults new.disk_faults) e early cause runs ends.refused);
          rewritten = subst (λ (s : StoreView). HasRewritten {T = T} {E = RewriteErr} s (with_new log) base (Err e)) is refl;
        })
