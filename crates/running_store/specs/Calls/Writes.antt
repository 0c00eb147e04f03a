-- An identity write that a store logs in its buffer: what it leaves, and that it is a call on any machine, which stays.
use Rattle.std.proofs.Common.{◌≡◌, ◌∙◌, sym, subst, ap, ℕ, ◌+◌, ◌<◌, ◌≤◌, true, false, [], ◌∷◌, length, refl, arith, inr, Some}
use Rattle.std.specs.Prelude.{◌^◌, Result, Ok, Err}
use Rattle.disk_model.specs.Disk.{Disk, IsDisk}
use Rattle.disk_model.specs.Moments.{runs_none}
use Rattle.disk_model.specs.declared.machine.FileNo.TheVariants.{Objects}
use Rattle.oper_core.specs.Cell.{Cell}
use Rattle.oper_core.specs.Meaning.{HasBounds, Meaning}
use Rattle.oper_core.specs.declared.bounds.Bounds.{Bounds}
use Rattle.formats.specs.Objects.{bounds_of}
use Rattle.formats.specs.declared.params.Params.{Params}
use Rattle.log_blocks.specs.LogView.{used_of, growth_of}
use Rattle.log_records.specs.RecordLog.{RecordLogView}
use Rattle.stable_objects.specs.SlotsView.{layout_of}
use Rattle.dirty_cache.specs.Contents.{held, is_dirty}
use Rattle.dirty_cache.specs.declared.entry.Entry.{Entry as Pair}
use Rattle.explain_core.specs.History.Member.{Identity}
use Rattle.explain_core.specs.Sound.{IsSound}
use Rattle.explain_core.specs.World.{World, step, IsLive, NoGroup}
use Rattle.explain_core.specs.World.Step.{Append}
use Rattle.running_store.specs.Calls.{IsCall, Never, unset}
use Rattle.running_store.specs.Calls.Commands.{IsLeft, left_call, left_takes}
use Rattle.running_store.specs.Courses.{Course, cached_length, identity_length, identity_steps, written_course}
use Rattle.running_store.specs.Courses.Growth.{growth_shown}
use Rattle.running_store.specs.Parts.Joins.{cached_shown}
use Rattle.running_store.specs.Kept.Keeping.{appended_attached, appended_keeps, appended_longer}
use Rattle.running_store.specs.Kept.{IsLonger}
use Rattle.running_store.specs.Laid.{IsLaidOn}
use Rattle.running_store.specs.Calls.Logged.{IsRoomed}
use Rattle.running_store.specs.Parts.{IsAppended, Parts, meaning_in}
use Rattle.running_store.specs.Parts.Stored.{stays_shown, store_shown}
use Rattle.running_store.specs.StoreView.{StoreView, next_of, store_params}
use Rattle.running_store.specs.Taking.{Takes}
use Rattle.running_store.specs.Taking.Ending.{Done, Short}
use Rattle.running_store.specs.Steps.Written.{written_long, written_shows}

-- The object x is logged with the pair that is cached, and counted. It is dirty then, as each object that a member writes.
pub record IsWritten {O : Type 0} (meaning : Bounds → Meaning O) (before after : StoreView) (x : ℕ) : Type 0 where
  pub pair : Pair
  pub had : held before.parts.volatile.objects.cache x ≡ Some pair
  pub below : x < (store_params before).objects
  pub short : length pair.bytes ≤ (store_params before).cap
  pub low : next_of before < 2 ^ 62
  pub bounds : before.parts.log.bounds ≡ bounds_of (store_params before)
  pub appended : IsAppended (meaning before.parts.log.bounds) before.parts after.parts (Identity x pair.bytes) (pair.bytes ∷ [])
  pub counted : after.identities ≡ before.identities + 1
  pub flag : after.broken ≡ before.broken

-- Nothing is logged, but the log's buffer may have more room.
pub record IsUnwritten (before after : StoreView) : Type 0 where
  pub roomed : IsRoomed before.parts after.parts
  pub counted : after.identities ≡ before.identities
  pub flag : after.broken ≡ before.broken

abbrev pub HasWritten : {O T E : Type 0} → (Bounds → Meaning O) → StoreView → StoreView → ℕ → Result T E → Type 0
HasWritten meaning before after x (Ok value) = IsWritten meaning before after x
HasWritten meaning before after x (Err e) = IsLeft before after

-- all but the log's room is as it was
unwritten_left : (before after : StoreView) → IsUnwritten before after → IsLeft before after
unwritten_left before after is = record {
  untaken = record {
    log = ap (λ (k : Parts). k.log) is.roomed;
    slots = ap (λ (k : Parts). k.volatile.objects.slots) is.roomed;
    held = λ x. ap (λ (k : Parts). held k.volatile.objects.cache x) is.roomed;
    dirty = λ x. ap (λ (k : Parts). is_dirty k.volatile.objects.cache x) is.roomed;
    laid = λ file laid. subst (λ (k : Parts). IsLaidOn k.volatile.objects file) (sym is.roomed) laid;
    entries = ap (λ (k : Parts). k.volatile.entries) is.roomed;
  };
  counted = is.counted;
  flag = is.flag;
}

module _ {O : Type 0} (meaning : Bounds → Meaning O) (before after : StoreView) (fine : before.broken ≡ false) (d : Disk) (lawful : IsDisk d) where
  module _ (x : ℕ) (is : IsWritten meaning before after x) (bounded : (b : Bounds) → HasBounds b (meaning b)) where
    pub write_call : IsCall meaning d d before after 1 Never Done
    write_call =
        let m = meaning before.parts.log.bounds in
        let has = bounded before.parts.log.bounds in
        let keeps = appended_keeps m x is.pair before.parts after.parts is.had is.appended meaning refl (omega (arith, is.below, has.objects, ap (λ (b : Bounds). b.objects) is.bounds))
        (omega (arith, is.short, has.cap, ap (λ (b : Bounds). b.cap) is.bounds)) is.low d in
        record {
          quiet = runs_none d (λ a b. Unit {0}) (λ files. tt) lawful;
          layout = ap layout_of is.appended.slots;
          rising = omega (arith, ap (λ (r : RecordLogView). r.next) is.appended.log);
          identities = is.counted;
          settled = inr (λ settled. settled);
          kept = inr keeps;
          attached = inr (appended_attached m x is.pair before.parts after.parts is.had is.appended meaning d keeps);
          stopped = λ stop ends. cc;
          broken = unset before after Done fine is.flag (λ failed. failed);
          fault = λ failed. absurd failed;
        }

    pub write_longer : is_dirty before.parts.volatile.objects.cache x ≡ true → IsLonger 1 before.parts after.parts
    write_longer dirty = appended_longer (meaning before.parts.log.bounds) x is.pair before.parts after.parts is.had is.appended dirty before.parts refl refl

    pub write_takes : ((b : Bounds) (w : World O) (y : ℕ) → IsSound (meaning b) w → IsLive w → NoGroup w → y < b.objects → IsSound (meaning b) (step (meaning b) w (Append (Identity y (w.cache y).value))))
        → Takes meaning d d before.parts after.parts (λ m w used. written_course m x w used) Done
    write_takes keeps = record {
      follows = λ p w shows.
          let m = meaning_in meaning p in
          let pair = is.pair in
          let appended = subst (λ (b : Bounds). IsAppended (meaning b) before.parts after.parts (Identity x pair.bytes) (pair.bytes ∷ [])) shows.bounds is.appended in
          let below : x < p.objects = shows.store.below x pair is.had in
          let has = bounded (bounds_of p) in
          let cap : (store_params before).cap ≡ p.cap = ap (λ (q : Params). q.cap) shows.store.params in
          let same : length pair.bytes ≡ cached_length m w x = ap (λ (c : Cell). length c.value) (sym (cached_shown m p (d.reads Objects) before.parts.volatile w shows.store x pair is.had)) in
          let log = before.parts.log in (
            refl,
            record {
              shows = written_shows m x pair before.parts after.parts is.had appended p d w shows (omega (arith, below, has.objects)) (omega (arith, is.short, cap, has.cap)) is.low
                  (keeps (bounds_of p) w x shows.running.sound shows.running.live shows.running.alone below);
              used = written_long m x pair before.parts after.parts is.had appended ∙ ap (λ (k : ℕ). used_of log.log + growth_of log.log.pending (identity_length k)) same
                  ∙ growth_shown m d log w (identity_length (cached_length m w x)) shows.log;
            },
          );
      steps = λ told p w shows. let m = meaning_in meaning p in stays_shown m p d before.parts.volatile w (identity_steps m x w) lawful told (store_shown m p d before.parts w shows);
    }

  module _ (is : IsUnwritten before after) where
    pub unwritten_call : IsCall meaning d d before after 0 Never Short
    unwritten_call = left_call meaning before after fine d lawful (unwritten_left before after is)

    pub unwritten_takes : (course : Meaning O → World O → ℕ → Course O) → Takes meaning d d before.parts after.parts course Short
    unwritten_takes = left_takes meaning before after fine d lawful (unwritten_left before after is)
