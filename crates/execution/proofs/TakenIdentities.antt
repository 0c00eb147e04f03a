-- What holds of an identity write of another log, once its object is fetched.
use Rattle.std.proofs.Common.{◌≡◌, ◌∙◌, sym, subst, ap, ℕ, ◌<◌, Bool, true, false, List, [], ◌∷◌, length, refl, arith, Option, Some}
use Rattle.std.specs.Prelude.{◌&&◌, bytes_eq, nat_lt, Err}
use Rattle.std.proofs.lemmas.Bool.{lt-ltb}
use Rattle.disk_model.specs.Disk.{Disk, IsDisk, Rises}
use Rattle.disk_model.specs.declared.machine.FileNo.TheVariants.{Objects}
use Rattle.oper_core.specs.Cell.{Cell}
use Rattle.oper_core.specs.Meaning.{HasBounds, Meaning}
use Rattle.oper_core.specs.declared.bounds.Bounds.{Bounds}
use Rattle.formats.specs.Limits.{log_limit}
use Rattle.formats.specs.Objects.{bounds_of}
use Rattle.formats.specs.Reading.{FailsBy}
use Rattle.formats.specs.declared.params.Params.{Params}
use Rattle.formats.specs.declared.read_err.ReadErr.{ReadErr}
use Rattle.formats.specs.declared.read_err.ReadErr.TheVariants as of_read
use Rattle.formats.specs.declared.record.Record.TheVariants.{Identity as Logged}
use Rattle.log_blocks.specs.LogView.{used_of}
use Rattle.dirty_cache.specs.Contents.{held}
use Rattle.dirty_cache.specs.declared.entry.Entry.{Entry as Pair}
use Rattle.explain_core.specs.History.Member.{Identity}
use Rattle.explain_core.specs.Sound.{IsSound}
use Rattle.explain_core.specs.World.{World, step, run, IsLive, NoGroup}
use Rattle.explain_core.specs.World.Step.{Append}
use Rattle.running_store.specs.Calls.AfterReads.{fetch_shows, fetch_takes}
use Rattle.running_store.specs.Steps.Appended.{next_lsn}
use Rattle.running_store.specs.Calls.{IsCall}
use Rattle.running_store.specs.Courses.{Course, course, grown, identity_length, written_course}
use Rattle.running_store.specs.Courses.Stop.{Through}
use Rattle.running_store.specs.Calls.Faults.{is_read_fault}
use Rattle.running_store.specs.Calls.Fetches.{IsFetch, fetch_call}
use Rattle.running_store.specs.Parts.Joins.{cached_shown}
use Rattle.running_store.specs.Laid.LongSlot.{IsLongSlot, long_untold}
use Rattle.running_store.specs.Parts.{Shows, meaning_in}
use Rattle.running_store.specs.StoreView.{StoreView, log_length, next_of, store_params}
use Rattle.running_store.specs.Taking.{Ending, IsAfter, Takes}
use Rattle.running_store.specs.Taking.Laws.{takes_failed, takes_none, takes_nothing, takes_same}
use Rattle.running_store.specs.Calls.Writes.{IsWritten, write_takes}
use Rattle.execution.specs.Following.{HasMemberCause, IsFollowFailure, ending_of_record_error, member_course}
use Rattle.execution.specs.Judged.{may_follow}
use Rattle.execution.specs.RecordFailures.{record_from_read}
use Rattle.execution.specs.Stops.{StopsWithin}
use Rattle.execution.specs.declared.record_err.RecordErr.TheVariants.{Differs}
use Rattle.execution.proofs.Followed.{behind_room, roomed}
use Rattle.execution.proofs.Judging.{may_not_is}
use Rattle.execution.proofs.Roomed.{course_cache}
use Rattle.execution.proofs.TakenMembers.{MayCome}

and_false : (b : Bool) → (b && false) ≡ false
and_false true = refl
and_false false = refl

pub some_pair : (one other : Pair) (o : Option Pair) → o ≡ Some one → o ≡ Some other → one ≡ other
some_pair one other o first second = let same : Some one ≡ Some other = sym first ∙ second in cc same

module _ {O : Type 0} (meaning : Bounds → Meaning O) (x : ℕ) (value : List ℕ) (old mid : Disk) (before here : StoreView) where
  abbrev p : Params
  p = store_params before

  abbrev whole : Meaning O → World O → ℕ → Course O
  whole m w used = member_course m (Identity x value) w used

  -- the slot of its object is not read
  module _ (e : ReadErr) (is : IsFetch old mid before here (is_read_fault e ≡ true)) (fails : FailsBy (Rises old.disk_faults mid.disk_faults) (IsLongSlot mid before.parts.volatile.objects.slots x) e) where
    pub unfetched_call : IsCall meaning old mid before here 0 (StopsWithin log_limit) (ending_of_record_error (record_from_read e))
    unfetched_call = by_error e is fails
      where
        by_error : (e : ReadErr) → IsFetch old mid before here (is_read_fault e ≡ true) → FailsBy (Rises old.disk_faults mid.disk_faults) (IsLongSlot mid before.parts.volatile.objects.slots x) e
            → IsCall meaning old mid before here 0 (StopsWithin log_limit) (ending_of_record_error (record_from_read e))
        by_error of_read.DiskFault is fails = fetch_call meaning old mid before here (is_read_fault of_read.DiskFault ≡ true) (StopsWithin log_limit) Ending.Failed is (λ failed. tt, λ failed. refl) (λ stop ends. cc) (λ failed. fails)
        by_error (of_read.Damaged file place) is fails = fetch_call meaning old mid before here (is_read_fault (of_read.Damaged file place) ≡ true) (StopsWithin log_limit) Ending.Short is (λ failed. cc, λ failed. absurd failed) (λ stop ends. cc) (λ failed. absurd failed)
        by_error of_read.Memory is fails = fetch_call meaning old mid before here (is_read_fault of_read.Memory ≡ true) (StopsWithin log_limit) Ending.Short is (λ failed. cc, λ failed. absurd failed) (λ stop ends. cc) (λ failed. absurd failed)

    pub unfetched_takes : IsDisk mid → Takes meaning old mid before.parts here.parts whole (ending_of_record_error (record_from_read e))
    unfetched_takes lawful = by_error e
      where
        unread : Takes meaning old mid before.parts here.parts whole Ending.Short
        unread = fetch_takes old mid before here (is_read_fault e ≡ true) is meaning mid here.parts whole Ending.Short (takes_nothing meaning mid here.parts lawful whole)

        by_error : (e : ReadErr) → Takes meaning old mid before.parts here.parts whole (ending_of_record_error (record_from_read e))
        by_error of_read.DiskFault = takes_failed meaning old mid before.parts here.parts whole unread.steps
        by_error (of_read.Damaged file place) = unread
        by_error of_read.Memory = unread

    pub unfetched_cause : (q : Params) (w : World O) → Shows (meaning_in meaning q) q old before.parts w → HasMemberCause (meaning_in meaning q) w (log_length before) (Identity x value) (Err (record_from_read e))
    unfetched_cause q w shows = by_error e fails
      where
        by_error : (e : ReadErr) → FailsBy (Rises old.disk_faults mid.disk_faults) (IsLongSlot mid before.parts.volatile.objects.slots x) e → HasMemberCause (meaning_in meaning q) w (log_length before) (Identity x value) (Err (record_from_read e))
        by_error of_read.DiskFault fails = tt
        by_error (of_read.Damaged file place) fails = long_untold before.parts.volatile.objects.slots x file place is.read.stays shows.told shows.store.laid.slots fails
        by_error of_read.Memory fails = tt

    pub unfetched_failure : IsFollowFailure (meaning_in meaning p) (Logged (next_of before) x value) (next_of before) old mid before.parts.volatile.objects (record_from_read e)
    unfetched_failure = by_error e fails
      where
        by_error : (e : ReadErr) → FailsBy (Rises old.disk_faults mid.disk_faults) (IsLongSlot mid before.parts.volatile.objects.slots x) e
            → IsFollowFailure (meaning_in meaning p) (Logged (next_of before) x value) (next_of before) old mid before.parts.volatile.objects (record_from_read e)
        by_error of_read.DiskFault fails = (refl, fails)
        by_error (of_read.Damaged file place) fails = (refl, record { object = x; among = (0, omega arith, refl); slot = fails })
        by_error of_read.Memory fails = refl

  -- it is cached, with this pair
  module _ (is : IsFetch old mid before here ⊥) (pair : Pair) (had : held here.parts.volatile.objects.cache x ≡ Some pair) where
    -- which the world has
    value_shown : (q : Params) (w : World O) → Shows (meaning_in meaning q) q old before.parts w → (w.cache x).value ≡ pair.bytes
    value_shown q w shows =
        let m = meaning_in meaning q in
        ap (λ (c : Cell). c.value) (cached_shown m q (mid.reads Objects) here.parts.volatile w (fetch_shows old mid before here ⊥ is m q w shows).store x pair had)

    -- it is of another value
    module _ (other : bytes_eq value pair.bytes ≡ false) where
      other_may_not : (q : Params) (w : World O) → Shows (meaning_in meaning q) q old before.parts w → may_follow (meaning_in meaning q) (λ y. (w.cache y).value) (Identity x value) ≡ false
      other_may_not q w shows =
          ap (λ (l : List ℕ). nat_lt x (meaning_in meaning q).objects && bytes_eq value l) (value_shown q w shows) ∙ ap (λ (b : Bool). nat_lt x (meaning_in meaning q).objects && b) other
          ∙ and_false (nat_lt x (meaning_in meaning q).objects)

      pub other_takes : IsDisk mid → Takes meaning old mid before.parts here.parts whole Ending.Done
      other_takes lawful =
          let none : Meaning O → World O → ℕ → Course O = λ m w used. course [] used Through in
          takes_same meaning old mid before.parts here.parts none whole Ending.Done
          (λ q w shows. may_not_is (meaning_in meaning q) w (Identity x value) (used_of before.parts.log.log) (other_may_not q w shows))
          (fetch_takes old mid before here ⊥ is meaning mid here.parts none Ending.Done (takes_none meaning mid here.parts lawful))

      pub other_cause : (lsn : ℕ) → lsn ≡ next_of before → (q : Params) (w : World O) → Shows (meaning_in meaning q) q old before.parts w → HasMemberCause (meaning_in meaning q) w (log_length before) (Identity x value) (Err (Differs lsn))
      other_cause lsn next q w shows = (other_may_not q w shows, next ∙ next_lsn (meaning_in meaning q) q old before.parts w shows)

    -- it is of that value
    module _ (same : bytes_eq value pair.bytes ≡ true) (equal : pair.bytes ≡ value) (n : ℕ) (long : n ≡ identity_length (length value)) (bounded : (b : Bounds) → HasBounds b (meaning b)) where
      pub identity_comes : MayCome meaning n (Identity x value) old before.parts
      identity_comes q w shows =
          let m = meaning_in meaning q in
          let there : x < q.objects = (fetch_shows old mid before here ⊥ is m q w shows).store.below x pair had in
          let below : nat_lt x m.objects ≡ true = lt-ltb x m.objects (omega (arith, there, (bounded (bounds_of q)).objects)) in
          let own : bytes_eq value (w.cache x).value ≡ true = ap (λ (l : List ℕ). bytes_eq value l) (value_shown q w shows) ∙ same in
          (λ i. below i && own i, long)

      module _ (new : Disk) (lawful : IsDisk new) (room after : StoreView) (fine : room.broken ≡ false) (done : IsWritten meaning room after x)
          (keeps : (b : Bounds) (w : World O) (y : ℕ) → IsSound (meaning b) w → IsLive w → NoGroup w → y < b.objects → IsSound (meaning b) (step (meaning b) w (Append (Identity y (w.cache y).value)))) where
        -- it is appended in the world that has the room
        pub identity_after : (q : Params) (w : World O) → Shows (meaning_in meaning q) q old before.parts w → let m = meaning_in meaning q in let v = run m w (roomed meaning n (Identity x value) m w (used_of before.parts.log.log)).steps in
            Shows m q new room.parts v → IsAfter m q new after.parts v (behind_room meaning n (Identity x value) m v (used_of room.parts.log.log))
        identity_after q w shows there =
            let m = meaning_in meaning q in
            let used = used_of room.parts.log.log in
            let v = run m w (roomed meaning n (Identity x value) m w (used_of before.parts.log.log)).steps in
            let held : (v.cache x).value ≡ value = ap (λ (c : ℕ → Cell). (c x).value) (course_cache m w n (used_of before.parts.log.log)) ∙ value_shown q w shows ∙ equal in
            let size : identity_length (length (v.cache x).value) ≡ n = ap (λ (l : List ℕ). identity_length (length l)) held ∙ sym long in
            let course_is : written_course m x v used ≡ behind_room meaning n (Identity x value) m v used = λ i. course (Append (Identity x (held i)) ∷ []) (grown m v used (size i)) Through in
            subst (λ (c : Course O). IsAfter m q new after.parts v c) course_is ((write_takes meaning room after fine new lawful x done bounded keeps).follows q v there).1
