-- An identity write takes its course: the room before it, and then the write, or a refusal.
use Rattle.std.proofs.Common.{◌≡◌, ◌∙◌, sym, subst, ap, ℕ, ◌+◌, ◌<◌, ◌≤◌, true, false, List, length, refl, arith}
use Rattle.std.specs.Prelude.{◌^◌, nat_lt, nat_le}
use Rattle.std.proofs.lemmas.Bool.{lt-ltb, le-ltb, le-leb, lt-leb, cond-true, cond-false}
use Rattle.disk_model.specs.Disk.{Disk}
use Rattle.oper_core.specs.Meaning.{Meaning}
use Rattle.oper_core.specs.declared.bounds.Bounds.{Bounds}
use Rattle.formats.specs.declared.params.Params.{Params}
use Rattle.log_blocks.specs.LogView.{used_of, growth_of}
use Rattle.log_records.specs.RecordLog.{RecordLogView}
use Rattle.dirty_cache.specs.Contents.{is_dirty}
use Rattle.explain_core.specs.World.{World, Step, end_of}
use Rattle.running_store.specs.Steps.Appended.{next_lsn}
use Rattle.running_store.specs.Courses.{Course, Stop, and_then, cached_length, course, force_course, force_steps, grown, identity_length, identity_steps, placed, room_steps, written_course}
use Rattle.cache_manager.specs.InstallCourses.{identity_course}
use Rattle.running_store.specs.Courses.Stop.{Through, Full, At_end}
use Rattle.running_store.specs.Steps.Forced.{IsForced}
use Rattle.running_store.specs.Courses.Growth.{growth_shown}
use Rattle.running_store.specs.Parts.InUse.{dirty_held}
use Rattle.running_store.specs.Kept.{StopsAt}
use Rattle.running_store.specs.Laid.{Laid, values_in}
use Rattle.formats.specs.Limits.{log_limit}
use Rattle.running_store.specs.Parts.{Parts, Shows, meaning_in}
use Rattle.running_store.specs.Taking.{Ending, Takes}
use Rattle.running_store.specs.Taking.Ending.{Done, Stopped, Failed}
use Rattle.running_store.specs.Taking.Laws.{both, takes_failed, takes_same, takes_stop}
use Rattle.running_store.specs.Steps.Written.{course_length}
use Rattle.cache_manager.specs.Endings.{ending_of_error}
use Rattle.cache_manager.specs.RecordPlace.{HasRecordPlace, LacksRecordPlace, growth_low}
use Rattle.cache_manager.specs.declared.install_err.InstallErr.{InstallErr}
use Rattle.cache_manager.specs.declared.install_err.InstallErr.TheVariants.{LogFull, LsnEnd, DiskFault, Memory}

-- where a record of n bytes goes
module _ {O : Type 0} (m : Meaning O) (p : Params) (d : Disk) (it : Parts) (w : World O) (shows : Shows m p d it w) (n : ℕ) (steps : List (Step O)) where
  abbrev used : ℕ
  used = used_of it.log.log

  abbrev long : ℕ
  long = used + growth_of it.log.log.pending n

  same : long ≡ grown m w used n
  same = growth_shown m d it.log w n shows.log

  -- the record goes in
  placed_fits : HasRecordPlace it.log n → placed m w used log_limit n true steps ≡ course steps (grown m w used n) Through
  placed_fits place =
      let over : nat_lt log_limit (grown m w used n) ≡ false = le-ltb log_limit (grown m w used n) (omega (arith, place.fits, same)) in
      let past : nat_le (2 ^ 62) (end_of w) ≡ false = lt-leb (2 ^ 62) (end_of w) (omega (arith, place.lsn, next_lsn m p d it w shows)) in
      cond-false (nat_lt log_limit (grown m w used n)) _ _ over ∙ cond-false (nat_le (2 ^ 62) (end_of w)) _ _ past

  -- the log has no room for it
  placed_full : log_limit < long → placed m w used log_limit n true steps ≡ course (force_steps m w) used (Full used (n + 5) log_limit)
  placed_full over = cond-true (nat_lt log_limit (grown m w used n)) _ _ (lt-ltb log_limit (grown m w used n) (omega (arith, over, same)))

  -- no LSN is left for it
  placed_end : long ≤ log_limit → 2 ^ 62 ≤ it.log.next → placed m w used log_limit n true steps ≡ course (force_steps m w) used (At_end it.log.next)
  placed_end fits last =
      let lsn = next_lsn m p d it w shows in
      let over : nat_lt log_limit (grown m w used n) ≡ false = le-ltb log_limit (grown m w used n) (omega (arith, fits, same)) in
      cond-false (nat_lt log_limit (grown m w used n)) _ _ over
      ∙ cond-true (nat_le (2 ^ 62) (end_of w)) _ _ (le-leb (2 ^ 62) (end_of w) (omega (arith, last, lsn)))
      ∙ ap (λ (k : ℕ). course (force_steps m w) used (At_end k)) (sym lsn)

-- An identity write of x, whose record has n bytes: room is made for it, and it goes to its place.
module _ {O : Type 0} (meaning : Bounds → Meaning O) (x n : ℕ) where
  abbrev pub room : Meaning O → World O → ℕ → Course O
  room m w used = course (room_steps m w n) used Through

  abbrev pub place : Meaning O → World O → ℕ → Course O
  place m w used = placed m w used log_limit n true (identity_steps m x w)

  -- so long is its record in each world that is shown
  abbrev pub IsLong : Disk → Parts → Type 0
  IsLong d it = (p : Params) (w : World O) → Shows (meaning_in meaning p) p d it w → n ≡ identity_length (cached_length (meaning_in meaning p) w x)

  pub takes_identity : (old new : Disk) (before after : Parts) (ending : Ending) → IsLong old before → Takes meaning old new before after (both meaning room place) ending → Takes meaning old new before after (λ m w used. identity_course m x w used) ending
  takes_identity old new before after ending long takes = takes_same meaning old new before after (both meaning room place) (λ m w used. identity_course m x w used) ending
      (λ p w shows. let m = meaning_in meaning p in ap (λ (k : ℕ). and_then m w (course (room_steps m w k) (used_of before.log.log) Through) (λ v used. placed m v used log_limit k true (identity_steps m x v))) (long p w shows)) takes

  module _ (mid new : Disk) (here after : Parts) where
    -- it is logged
    pub takes_written : IsLong mid here → HasRecordPlace here.log n → Takes meaning mid new here after (λ m w used. written_course m x w used) Done → Takes meaning mid new here after place Done
    takes_written long has takes = takes_same meaning mid new here after (λ m w used. written_course m x w used) place Done
        (λ p w shows.
        let m = meaning_in meaning p in
        let used = used_of here.log.log in
        ap (λ (k : ℕ). course (identity_steps m x w) (grown m w used k) Through) (sym (long p w shows)) ∙ sym (placed_fits m p mid here w shows n (identity_steps m x w) has)) takes

    -- or it has no place, and all that waits is forced
    module _ (e : InstallErr) (lacks : LacksRecordPlace here.log n e) where
      pub refused : (stop : Stop) × (Stopped stop ≡ ending_of_error e) × (IsForced here.log after.log → here.log.next ≤ 2 ^ 62 → StopsAt log_limit after.log stop)
          × ((p : Params) (w : World O) → Shows (meaning_in meaning p) p mid here w → course (force_steps (meaning_in meaning p) w) (used_of here.log.log) stop ≡ place (meaning_in meaning p) w (used_of here.log.log))
      refused = by_cause e lacks
        where
          by_cause : (e : InstallErr) → LacksRecordPlace here.log n e → (stop : Stop) × (Stopped stop ≡ ending_of_error e) × (IsForced here.log after.log → here.log.next ≤ 2 ^ 62 → StopsAt log_limit after.log stop)
              × ((p : Params) (w : World O) → Shows (meaning_in meaning p) p mid here w → course (force_steps (meaning_in meaning p) w) (used_of here.log.log) stop ≡ place (meaning_in meaning p) w (used_of here.log.log))
          by_cause (LogFull used need limit) lacks = (
            Full (used_of here.log.log) (n + 5) log_limit,
            λ i. Stopped (Full (sym lacks.1 i) (sym lacks.2 i) (sym lacks.3 i)),
            λ forced low. (sym (ap (λ (r : RecordLogView). used_of r.log) forced), ap (λ (r : RecordLogView). r.log.pending) forced, omega (arith, lacks.0, growth_low here.log.log.pending n), refl),
            λ p w shows. sym (placed_full (meaning_in meaning p) p mid here w shows n (identity_steps (meaning_in meaning p) x w) lacks.0),
          )
          by_cause (LsnEnd lsn) lacks = (
            At_end here.log.next,
            λ i. Stopped (At_end (sym lacks.2 i)),
            λ forced low. (sym (ap (λ (r : RecordLogView). r.next) forced), ap (λ (r : RecordLogView). r.log.pending) forced, omega (arith, lacks.1, low)),
            λ p w shows. sym (placed_end (meaning_in meaning p) p mid here w shows n (identity_steps (meaning_in meaning p) x w) lacks.0 lacks.1),
          )
          by_cause DiskFault lacks = absurd lacks
          by_cause Memory lacks = absurd lacks

      pub takes_refused : Takes meaning mid new here after (λ m w used. force_course m w used) Done → Takes meaning mid new here after place (ending_of_error e)
      takes_refused takes = subst (λ (k : Ending). Takes meaning mid new here after place k) refused.1
          (takes_same meaning mid new here after (λ m w used. course (force_steps m w) used refused.0) place (Stopped refused.0) refused.3 (takes_stop meaning mid new here after (λ m w. force_steps m w) refused.0 takes))

      -- unless the force fails
      pub takes_unforced : Takes meaning mid new here after (λ m w used. force_course m w used) Failed → Takes meaning mid new here after place Failed
      takes_unforced takes = takes_same meaning mid new here after (λ m w used. course (force_steps m w) used refused.0) place Failed refused.3
          (takes_failed meaning mid new here after (λ m w used. course (force_steps m w) used refused.0) takes.steps)

-- the value that is read is as long as that of each world that is shown
pub length_shown : {O : Type 0} (meaning : Bounds → Meaning O) (x : ℕ) (d : Disk) (it : Parts) (laid : Laid) (value : List ℕ) → laid ≡ it.volatile.objects → is_dirty it.volatile.objects.cache x ≡ true
    → ((file : List ℕ) → value ≡ values_in laid file x) → IsLong meaning x (17 + length value) d it
length_shown meaning x d it laid value same dirty is p w shows =
    let pair = dirty_held it.volatile.objects.cache x dirty in
    course_length (meaning_in meaning p) p d it w x pair.0 value shows pair.1 (λ file. is file ∙ ap (λ (l : Laid). values_in l file x) same)
