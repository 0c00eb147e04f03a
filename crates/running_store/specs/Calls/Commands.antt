-- A command that a store appends, in its buffer and in memory: what it needs, what it leaves, and that it is a call on any
-- machine, which stays.
use Rattle.std.proofs.Common.{◌≡◌, ◌∙◌, sym, subst, ap, ℕ, ◌+◌, ◌<◌, ◌≤◌, false, List, [], ◌∷◌, length, refl, arith, inr, None}
use Rattle.std.specs.Prelude.{◌^◌, Result, Ok, Err}
use Rattle.disk_model.specs.Disk.{Disk, IsDisk}
use Rattle.disk_model.specs.Moments.{runs_none}
use Rattle.disk_model.specs.declared.machine.FileNo.TheVariants.{Objects}
use Rattle.oper_core.specs.Meaning.{Meaning, FitsReads}
use Rattle.oper_core.specs.declared.bounds.Bounds.{Bounds}
use Rattle.formats.specs.Objects.{bounds_of}
use Rattle.formats.specs.declared.params.Params.{Params}
use Rattle.log_blocks.specs.LogView.{end_with, used_of, growth_of}
use Rattle.log_records.specs.RecordLog.{RecordLogView}
use Rattle.stable_objects.specs.SlotsView.{layout_of}
use Rattle.explain_core.specs.History.Member.{Command}
use Rattle.explain_core.specs.Taken.{after_none}
use Rattle.explain_core.specs.World.{World}
use Rattle.running_store.specs.Calls.{IsCall, Never, unset}
use Rattle.running_store.specs.Courses.{Course, record_length}
use Rattle.running_store.specs.Kept.{HasLog, KeepsLog}
use Rattle.running_store.specs.Kept.Laws.{appended_log, roomed_log}
use Rattle.running_store.specs.Laid.{IsLaidOn}
use Rattle.running_store.specs.Calls.Logged.{HasPlace}
use Rattle.running_store.specs.Parts.{IsAppended, Shows, meaning_in}
use Rattle.running_store.specs.Parts.Reads.{untaken_attached, untaken_shows}
use Rattle.running_store.specs.Parts.Stored.{stays_shown, store_shown}
use Rattle.running_store.specs.StoreView.{StoreView, next_of, store_params}
use Rattle.running_store.specs.Taking.{Takes}
use Rattle.running_store.specs.Taking.Ending.{Done, Short}
use Rattle.running_store.specs.Parts.Unchanged.{IsUntaken}

-- the bytes of a command's record
abbrev pub command_length : {O : Type 0} → Meaning O → O → ℕ
command_length m op = record_length m (Command op)

-- the log's length with a record of n bytes more
abbrev pub length_with : RecordLogView → ℕ → ℕ
length_with log n = used_of log.log + growth_of log.log.pending n

-- the log has room below the limit for a record of n bytes, and an LSN is left for it
pub record HasPlaceBelow (limit : ℕ) (log : RecordLogView) (n : ℕ) : Type 0 where
  pub room : length_with log n ≤ limit
  pub lsn : log.next < 2 ^ 62

-- below a limit that a store may have, it has its place in the block and in the file
pub has_place : (limit : ℕ) (log : RecordLogView) (n : ℕ) → limit ≤ 2 ^ 29 → length_with log n ≤ limit → HasPlace log.log n
has_place limit log n low fits = of_pending log.log.pending refl fits
  where
    of_pending : (pending : List ℕ) → log.log.pending ≡ pending → end_with log.log.end pending + growth_of pending n ≤ limit → HasPlace log.log n
    of_pending [] is fits = record { block = omega (arith, ap length is, fits, low); file = omega (arith, ap length is, fits, low) }
    of_pending (b ∷ bytes) is fits = record { block = omega (arith, ap length is, fits, low); file = omega (arith, ap length is, fits, low) }

-- nothing refuses the command on these values, which it may read
pub record IsReady {O : Type 0} (meaning : Bounds → Meaning O) (p : Params) (op : O) (values : List (List ℕ)) : Type 0 where
  pub shape : (meaning_in meaning p).shape op ≡ None
  pub fits : FitsReads (meaning_in meaning p) op values
  pub check : (meaning_in meaning p).check op values ≡ None

-- The command is appended, with what it makes of the values.
pub record IsCommanded {O : Type 0} (meaning : Bounds → Meaning O) (before after : StoreView) (op : O) (values : List (List ℕ)) : Type 0 where
  pub ready : IsReady meaning (store_params before) op values
  pub lsn : next_of before < 2 ^ 62
  pub bounds : before.parts.log.bounds ≡ bounds_of (store_params before)
  pub appended : IsAppended (meaning_in meaning (store_params before)) before.parts after.parts (Command op) ((meaning_in meaning (store_params before)).effect op values)
  pub laid : (file : List ℕ) → IsLaidOn before.parts.volatile.objects file → IsLaidOn after.parts.volatile.objects file
  pub counted : after.identities ≡ before.identities
  pub flag : after.broken ≡ before.broken

-- For want of memory nothing is taken: there may be more room.
pub record IsLeft (before after : StoreView) : Type 0 where
  pub untaken : IsUntaken before.parts after.parts
  pub counted : after.identities ≡ before.identities
  pub flag : after.broken ≡ before.broken

abbrev pub HasCommanded : {O T E : Type 0} → (Bounds → Meaning O) → StoreView → StoreView → O → List (List ℕ) → Result T E → Type 0
HasCommanded meaning before after op values (Ok value) = IsCommanded meaning before after op values
HasCommanded meaning before after op values (Err e) = IsLeft before after

module _ {O : Type 0} (meaning : Bounds → Meaning O) (before after : StoreView) (fine : before.broken ≡ false) (d : Disk) (lawful : IsDisk d) where
  pub commanded_call : (op : O) (values : List (List ℕ)) → IsCommanded meaning before after op values → IsCall meaning d d before after 0 Never Done
  commanded_call op values is =
      let m = meaning_in meaning (store_params before) in
      let same : meaning before.parts.log.bounds ≡ m = ap meaning is.bounds in
      let low = is.lsn in
      let keeps : KeepsLog meaning d d before.parts.log after.parts.log =
      λ told has. subst (λ (n : Meaning O). HasLog n d after.parts.log) (sym (ap (λ (r : RecordLogView). meaning r.bounds) is.appended.log ∙ same))
      (appended_log m d before.parts after.parts (Command op) (m.effect op values) is.appended (omega (arith, low), is.ready.shape) low (subst (λ (n : Meaning O). HasLog n d before.parts.log) same has)) in
      record {
        quiet = runs_none d (λ a b. Unit {0}) (λ files. tt) lawful;
        layout = ap layout_of is.appended.slots;
        rising = omega (arith, ap (λ (r : RecordLogView). r.next) is.appended.log);
        identities = omega (arith, is.counted);
        settled = inr (λ settled. settled);
        kept = inr keeps;
        attached = inr (λ at told. let was = at told in (is.laid (d.reads Objects) was.0, keeps told was.1));
        stopped = λ stop ends. cc;
        broken = unset before after Done fine is.flag (λ failed. failed);
        fault = λ failed. absurd failed;
      }

  module _ (is : IsLeft before after) where
    pub left_call : IsCall meaning d d before after 0 Never Short
    left_call = record {
      quiet = runs_none d (λ a b. Unit {0}) (λ files. tt) lawful;
      layout = ap layout_of is.untaken.slots;
      rising = omega (arith, ap (λ (r : RecordLogView). r.next) is.untaken.log);
      identities = omega (arith, is.counted);
      settled = inr (λ settled. settled);
      kept = inr (roomed_log meaning d before.parts.log after.parts.log is.untaken.log);
      attached = inr (untaken_attached before.parts after.parts is.untaken meaning d);
      stopped = λ stop ends. cc;
      broken = unset before after Short fine is.flag (λ failed. failed);
      fault = λ failed. absurd failed;
    }

    pub left_takes : (course : Meaning O → World O → ℕ → Course O) → Takes meaning d d before.parts after.parts course Short
    left_takes course = record {
      follows = λ p w shows.
          let m = meaning_in meaning p in
          after_none m (λ v. Shows m p d after.parts v) w (course m w (used_of before.parts.log.log)).steps (untaken_shows before.parts after.parts is.untaken m p d w shows);
      steps = λ told p w shows.
          let m = meaning_in meaning p in stays_shown m p d before.parts.volatile w (course m w (used_of before.parts.log.log)).steps lawful told (store_shown m p d before.parts w shows);
    }
