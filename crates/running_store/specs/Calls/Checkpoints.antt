-- A checkpoint that a store appends, in its buffer: what it needs, what it leaves, and that it is a call on any machine, which
-- stays.
use Rattle.std.proofs.Common.{◌≡◌, ◌∙◌, sym, subst, ap, ℕ, ◌+◌, ◌*◌, ◌≤◌, false, [], ◌∷◌, ◌++◌, length, refl, arith, inr}
use Rattle.std.specs.Prelude.{Result, Ok, Err}
use Rattle.std.proofs.lemmas.List.{append-nil}
use Rattle.disk_model.specs.Disk.{Disk, IsDisk}
use Rattle.disk_model.specs.Moments.{runs_none}
use Rattle.disk_model.specs.declared.machine.FileNo.TheVariants.{Objects}
use Rattle.oper_core.specs.Meaning.{Meaning}
use Rattle.oper_core.specs.declared.bounds.Bounds.{Bounds}
use Rattle.dirty_page_table.specs.Codec.{IsTable}
use Rattle.dirty_page_table.specs.declared.table.DirtyPageTable.{DirtyPageTable as Logged_table}
use Rattle.formats.specs.Records.{IsCheckpointAt, record_code}
use Rattle.formats.specs.Objects.{bounds_of}
use Rattle.formats.specs.declared.params.Params.{Params}
use Rattle.formats.specs.declared.record.Record.{Record}
use Rattle.formats.specs.declared.record.Record.TheVariants.{Checkpoint as Logged_checkpoint}
use Rattle.log_blocks.specs.LogView.{used_of, growth_of}
use Rattle.log_records.specs.RecordLaws.{keeps_append}
use Rattle.log_records.specs.RecordLog.{RecordLogView}
use Rattle.explain_core.specs.Sound.{IsSound}
use Rattle.explain_core.specs.World.{World, step, table_now, IsLive, NoGroup}
use Rattle.explain_core.specs.World.Step.{Checkpoint}
use Rattle.standing.specs.Members.{members_of, table_of, members-append, tables-append}
use Rattle.running_store.specs.Courses.Buffered.{checkpoint_bytes}
use Rattle.running_store.specs.Calls.{IsCall, Never, unset, with_log}
use Rattle.running_store.specs.Courses.{course, grown, table_length}
use Rattle.running_store.specs.Courses.Stop.{Through}
use Rattle.running_store.specs.Courses.Growth.{end_more, growth_shown}
use Rattle.running_store.specs.Kept.{HasLog, KeepsLog}
use Rattle.running_store.specs.Laid.{IsLaidOn}
use Rattle.running_store.specs.Parts.{Parts, Shows, Volatile, meaning_in}
use Rattle.running_store.specs.Calls.Rewrites.{checkpoint_length}
use Rattle.running_store.specs.Parts.Stored.{run_one, stays_shown, store_shown}
use Rattle.running_store.specs.StoreView.{StoreView, store_layout}
use Rattle.running_store.specs.Taking.{Takes}
use Rattle.running_store.specs.Taking.Ending.{Done}
use Rattle.running_store.specs.Calls.Writes.{IsUnwritten}

-- The checkpoint is right in its place after the log, and in the grammar. There are no more than 65,535 objects.
pub record IsCheckpointHere {O : Type 0} (m : Meaning O) (log : RecordLogView) (table : Logged_table) : Type 0 where
  pub placed : IsCheckpointAt m log.log.header.base log.next table
  pub grammar : IsTable table
  pub few : length table.starts ≤ 65535
  pub ahead : log.log.header.base ≤ log.next
  pub bytes : length (record_code m (Logged_checkpoint table)) ≡ 13 + 12 * length table.starts

-- the log with a checkpoint appended
abbrev pub with_checkpoint : {O : Type 0} → Meaning O → RecordLogView → Logged_table → ℕ → RecordLogView
with_checkpoint m log table room = record log {
  log = record log.log { pending = log.log.pending ++ record_code m (Logged_checkpoint table); room = room };
  accepted = log.accepted + 0;
}

-- The checkpoint is appended, and all but the log is as it was.
pub record IsCheckpointed {O : Type 0} (meaning : Bounds → Meaning O) (before after : StoreView) (table : Logged_table) : Type 0 where
  pub here : IsCheckpointHere (meaning before.parts.log.bounds) before.parts.log table
  pub log : after.parts.log ≡ with_checkpoint (meaning before.parts.log.bounds) before.parts.log table after.parts.log.log.room
  pub same : after ≡ with_log before after.parts.log

abbrev pub HasCheckpointed : {O T E : Type 0} → (Bounds → Meaning O) → StoreView → StoreView → Logged_table → Result T E → Type 0
HasCheckpointed meaning before after table (Ok value) = IsCheckpointed meaning before after table
HasCheckpointed meaning before after table (Err e) = IsUnwritten before after

module _ {O : Type 0} (m : Meaning O) (log : RecordLogView) (table : Logged_table) (room : ℕ) (here : IsCheckpointHere m log table) where
  abbrev later : RecordLogView
  later = with_checkpoint m log table room

  -- the log is longer by a checkpoint's bytes
  checkpointed_long : used_of later.log ≡ used_of log.log + growth_of log.log.pending (13 + 12 * length table.starts)
  checkpointed_long =
      end_more log.log.end log.log.pending (record_code m (Logged_checkpoint table)) (omega (arith, here.bytes))
      ∙ ap (λ (n : ℕ). used_of log.log + growth_of log.log.pending n) here.bytes

  -- a log that keeps some records keeps the checkpoint after them
  checkpointed_log : (d : Disk) → HasLog m d log → HasLog m d later
  checkpointed_log d has =
      let new : Record O = Logged_checkpoint table in
      record {
        stable = has.stable;
        pending = has.pending ++ new ∷ [];
        keeps = keeps_append m d log later has.stable has.pending new has.keeps here.grammar here.placed refl refl refl refl refl refl refl;
      }

  -- where the world would take the checkpoint now, it is shown after it did
  checkpointed_shows : (p : Params) (d : Disk) (it : Volatile) (v : World O) → Shows m p d (record { log = log; volatile = it }) v → table_of table ≡ table_now m v → IsSound m (step m v Checkpoint)
      → Shows m p d (record { log = later; volatile = it }) (step m v Checkpoint)
  unfolding step
  checkpointed_shows p d it v shows now sound =
      let l = shows.log in
      let new : Record O = Logged_checkpoint table in
      record {
        told = shows.told;
        running = record { sound = sound; live = shows.running.live; alone = shows.running.alone };
        bounds = shows.bounds;
        store = record {
          params = shows.store.params;
          laid = shows.store.laid;
          below = shows.store.below;
          slots = shows.store.slots;
          cache = shows.store.cache;
          dirty = shows.store.dirty;
          members = shows.store.members;
          accesses = shows.store.accesses;
          identities = shows.store.identities;
        };
        log = record {
          stable = l.stable;
          pending = l.pending ++ new ∷ [];
          keeps = keeps_append m d log later l.stable l.pending new l.keeps here.grammar here.placed refl refl refl refl refl refl refl;
          base = l.base;
          commands_before = l.commands_before;
          forced = l.forced;
          waiting = members-append l.pending (new ∷ []) ∙ append-nil (members_of l.pending) ∙ l.waiting;
          tables = l.tables;
          pending_tables = tables-append l.pending (new ∷ []) ∙ (λ i. now i ∷ l.pending_tables i);
        };
      }

-- a checkpoint of the table that the world would take now has so many bytes
pub checkpoint_long : {O : Type 0} (m : Meaning O) (log : RecordLogView) (w : World O) (table : Logged_table) → IsCheckpointHere m log table → table_of table ≡ table_now m w → 13 + 12 * length table.starts ≡ checkpoint_length m w
checkpoint_long m log w table here now = sym here.bytes ∙ checkpoint_bytes m log.log.header.base log.next table here.placed ∙ ap (λ t. table_length m t) now

module _ {O : Type 0} (meaning : Bounds → Meaning O) (before after : StoreView) (fine : before.broken ≡ false) (d : Disk) (lawful : IsDisk d) (table : Logged_table) (is : IsCheckpointed meaning before after table) where
  pub checkpointed_call : IsCall meaning d d before after 0 Never Done
  checkpointed_call =
      let log = before.parts.log in
      let m = meaning log.bounds in
      let keeps : KeepsLog meaning d d log after.parts.log =
      λ told has. subst (λ (r : RecordLogView). HasLog (meaning r.bounds) d r) (sym is.log) (checkpointed_log m log table after.parts.log.log.room is.here d has) in
      record {
        quiet = runs_none d (λ a b. Unit {0}) (λ files. tt) lawful;
        layout = ap store_layout is.same;
        rising = omega (arith, ap (λ (r : RecordLogView). r.next) is.log);
        identities = omega (arith, ap (λ (s : StoreView). s.identities) is.same);
        settled = inr (λ settled. settled);
        kept = inr keeps;
        attached = inr (λ at told. let was = at told in (subst (λ (s : StoreView). IsLaidOn s.parts.volatile.objects (d.reads Objects)) (sym is.same) was.0, keeps told was.1));
        stopped = λ stop ends. cc;
        broken = unset before after Done fine (ap (λ (s : StoreView). s.broken) is.same) (λ failed. failed);
        fault = λ failed. absurd failed;
      }

  -- the checkpoint is the one that each world which the store shows would take now
  pub checkpointed_takes : ((b : Bounds) (w : World O) → IsSound (meaning b) w → IsLive w × NoGroup w → IsSound (meaning b) (step (meaning b) w Checkpoint))
      → ((p : Params) (w : World O) → Shows (meaning_in meaning p) p d before.parts w → table_of table ≡ table_now (meaning_in meaning p) w)
      → Takes meaning d d before.parts after.parts (λ m w used. course (Checkpoint ∷ []) (grown m w used (checkpoint_length m w)) Through) Done
  checkpointed_takes keeps now = record {
    follows = λ p w shows.
        let m = meaning_in meaning p in
        let log = before.parts.log in
        let room = after.parts.log.log.room in
        let here : IsCheckpointHere m log table = subst (λ (b : Bounds). IsCheckpointHere (meaning b) log table) shows.bounds is.here in
        let same : after.parts ≡ record { log = with_checkpoint m log table room; volatile = before.parts.volatile } =
        ap (λ (s : StoreView). s.parts) is.same ∙ ap (λ (r : RecordLogView). record { log = r; volatile = before.parts.volatile }) (is.log ∙ ap (λ (b : Bounds). with_checkpoint (meaning b) log table room) shows.bounds) in
        let shown = checkpointed_shows m log table room here p d before.parts.volatile w shows (now p w shows) (keeps (bounds_of p) w shows.running.sound (shows.running.live, shows.running.alone)) in (
          refl,
          record {
            shows = subst (λ (v : World O). Shows m p d after.parts v) (sym (run_one m w Checkpoint)) (subst (λ (k : Parts). Shows m p d k (step m w Checkpoint)) (sym same) shown);
            used = ap (λ (k : Parts). used_of k.log.log) same ∙ checkpointed_long m log table room here
                ∙ ap (λ (k : ℕ). used_of log.log + growth_of log.log.pending k) (checkpoint_long m log w table here (now p w shows)) ∙ growth_shown m d log w (checkpoint_length m w) shows.log;
          },
        );
    steps = λ told p w shows. let m = meaning_in meaning p in stays_shown m p d before.parts.volatile w (Checkpoint ∷ []) lawful told (store_shown m p d before.parts w shows);
  }
