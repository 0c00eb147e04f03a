-- A record of the frame in hand is followed, or refused.
use Rattle.std.proofs.Common.{◌≡◌, ◌∙◌, sym, subst, ap, ℕ, ◌+◌, ◌<◌, ◌≤◌, Bool, true, false, List, [], ◌∷◌, ◌++◌, length, take, drop, refl, arith, inl, inr, ◌⊎◌, ⊎_elim, append_assoc, length-append}
use Rattle.std.specs.Prelude.{◌^◌, ◌↔◌, nat_lt, Result, Ok, Err, IsErrOf, OnOk}
use Rattle.std.proofs.Math.Seq.{drop-append_seam, drop-length}
use Rattle.std.proofs.lemmas.Bool.{cases_Bool, cond-true, cond-false, le-ltb, lt-ltb}
use Rattle.std.proofs.lemmas.List.{take-append-le}
use Rattle.disk_model.specs.Disk.{Disk, IsDisk, Stays}
use Rattle.disk_model.specs.declared.machine.FileNo.{FileNo}
use Rattle.oper_core.specs.Meaning.{Meaning}
use Rattle.oper_core.specs.declared.bounds.Bounds.{Bounds}
use Rattle.formats.specs.Limits.{block_limit, log_limit}
use Rattle.formats.specs.Objects.{bounds_of}
use Rattle.formats.specs.Records.{record_code, records_of}
use Rattle.formats.specs.declared.params.Params.{Params}
use Rattle.formats.specs.declared.record.Record.{Record}
use Rattle.formats.specs.declared.record.Record.TheVariants.{Command as Logged_command, Identity as Logged_identity, Checkpoint as Logged_checkpoint}
use Rattle.frame_stream.specs.FrameBuffer.{taken_by}
use Rattle.log_blocks.specs.LogView.{growth_of}
use Rattle.log_records.specs.Codec.{StartsWithRecord}
use Rattle.explain_core.specs.History.{Member, commands_of}
use Rattle.explain_core.specs.RunLaws.{Begins, begins-empty, begins-one}
use Rattle.explain_core.specs.Sound.{IsSound}
use Rattle.explain_core.specs.World.{IsLive, Step, World, end_of, run, step}
use Rattle.explain_core.specs.World.Step.{Append}
use Rattle.execution.specs.Courses.{needed}
use Rattle.execution.specs.Following.{HasLsn, ending_of_follow, follow_course, grown_by, judge_in, judged_course}
use Rattle.execution.specs.Judged.{Judged, first_refused, follows, is_refused, judge_behind, with_judged}
use Rattle.execution.specs.Judged.Judged.{Passed, Taken, Gap, Differs}
use Rattle.execution.specs.declared.record_err.RecordErr.{RecordErr}
use Rattle.execution.specs.declared.record_err.RecordErr.TheVariants as of_record
use Rattle.running_store.specs.Steps.Appended.{next_lsn}
use Rattle.running_store.specs.Courses.Buffered.{buffered_shown, room_none}
use Rattle.running_store.specs.Calls.{IsFailed}
use Rattle.running_store.specs.Courses.{Course, buffered, course, record_length, records_length, room_steps, tables_length, waits}
use Rattle.running_store.specs.Courses.Stop.{Through, Full}
use Rattle.running_store.specs.Courses.Growth.{growth_shown}
use Rattle.running_store.specs.Parts.{Shows}
use Rattle.store_engine.specs.Counts.{forced_shown}
use Rattle.store_engine.specs.Engine.{EngineView, IsAttached, ShowsIn, forced_in, params_of, used_in}
use Rattle.store_engine.specs.Following.{HasFollowed}
use Rattle.store_engine.specs.Grouping.{ungrouped}
use Rattle.store_engine.specs.Store.{meaning_in}
use Rattle.standby_node.specs.Failures.{follow_from_record}
use Rattle.standby_node.specs.Feeding.{BeginsNoRecord, FeedsThrough, FeedsTo, HasRefusedIn, IsJudgedNext}
use Rattle.standby_node.specs.Standby.{IsFollowing, IsWithinFrame, StandbyView}
use Rattle.standby_node.specs.Steps.{AnyWorld, FollowsStep, GoesOn, HasWholeFrame, IsReading, IsReadingOf, IsRecordFollowed, left_of}
use Rattle.standby_node.specs.declared.follow_err.FollowErr.{FollowErr}
use Rattle.standby_node.specs.declared.follow_err.FollowErr.TheVariants.{BadFrame, Gap as Leaves_gap, Differs as Is_different, LogFull, DiskFault, Damaged, Memory, Stopped}
use Rattle.standby_node.proofs.Ends.{Stand, behind, forced_is, history_is, past, still_end}
use Rattle.standby_node.proofs.Going.{goes_nowhere}
use Rattle.standby_node.proofs.InHand.{begun_more, comes_next, ends_within, not_whole}
use Rattle.standby_node.proofs.Judging.{bytes_taken, one_more}

-- the standby goes on with an engine that shows the same world
abbrev pub same_world : {O : Type 0} (meaning : Bounds → Meaning O) (p : Params) (first : List (Member O)) (bytes : List ℕ) (old new : Disk) (before : StandbyView) (after : EngineView) (f : IsFollowing meaning p first bytes old before)
    → ShowsIn meaning p new after f.world → IsFollowing meaning p first bytes new (record before { engine = after })
same_world meaning p first bytes old new before after f there = record {
  payloads = f.payloads;
  groups = f.groups;
  begun = f.begun;
  passed = f.passed;
  frames_are = f.frames_are;
  in_hand = f.in_hand;
  world = f.world;
  shows = there;
  fine = f.fine;
  members = f.members;
  no_checkpoint = f.no_checkpoint;
  forced = f.forced;
}

module _ {O : Type 0} (meaning : Bounds → Meaning O) (old new : Disk) (before : StandbyView) (after : EngineView) (size : ℕ) (whole : HasWholeFrame before size) (left : before.done < size) (r : Record O) (with_lsn : HasLsn r)
    (p : Params) (first : List (Member O)) (bytes : List ℕ) (f : IsFollowing meaning p first bytes old before) (starts : StartsWithRecord (meaning_in meaning p) (left_of before size) r)
    (judges : judge_in (meaning_in meaning p) f.world r ≡ judge_behind (meaning_in meaning p) f.world.history r) where
  abbrev m : Meaning O
  m = meaning_in meaning p

  abbrev w : World O
  w = f.world

  abbrev n : ℕ
  n = length (record_code m r)

  abbrev used : ℕ
  used = used_in before.engine

  abbrev gone : List (Record O)
  gone = records_of f.groups

  abbrev c : Course O
  c = follow_course m r w used

  shown : Shows m p old before.engine.parts (ungrouped w)
  shown = f.shows.shows

  -- ---- the block that waits has room

  -- what waits is a part of what was followed of the frame in hand
  waits_little : length before.engine.parts.log.log.pending ≤ before.done
  waits_little =
      let counted : length before.engine.parts.log.log.pending ≡ records_length m (drop w.forced w.history) + tables_length m w.pending = buffered_shown m old before.engine.parts.log (ungrouped w) shown.log in
      let tables : tables_length m w.pending ≡ 0 = ap (λ l. tables_length m l) f.no_checkpoint in
      let rest = behind meaning p first bytes old before f in
      let few : records_length m (drop w.forced w.history) ≤ before.done = ⊎_elim
      (λ same.
      let late : drop w.forced w.history ≡ rest.more = (λ i. drop (same i) (history_is meaning p first bytes old before f i)) ∙ drop-append_seam (past meaning p first bytes old before f) rest.more in
      omega (arith, ap (λ (h : List (Member O)). records_length m h) late, rest.short, f.in_hand.count))
      (λ both.
      let late : drop w.forced w.history ≡ [] = ap (λ (k : ℕ). drop k w.history) both.1 ∙ drop-length w.history in
      omega (arith, ap (λ (h : List (Member O)). records_length m h) late))
      f.forced in
      omega (arith, counted, tables, few)

  pub fits : length before.engine.parts.log.log.pending + n ≤ 2 ^ 30
  fits = omega (arith, waits_little, ends_within m before size whole left r starts, whole.2.short, whole.3)

  -- ---- its course has one step at most

  abbrev IsFew : List (Step O) → Type 0
  IsFew steps = (steps ≡ []) ⊎ ((member : Member O) × (judge_in m w r ≡ Taken member) × (steps ≡ Append member ∷ []))

  long : (member : Member O) → judge_in m w r ≡ Taken member → n ≡ record_length m member
  long member is = bytes_taken m (λ x. (w.cache x).value) (end_of w) r member is

  no_room_made : (member : Member O) → judge_in m w r ≡ Taken member → room_steps m w (record_length m member) ≡ []
  no_room_made member is = room_none m old before.engine.parts.log (ungrouped w) (record_length m member) shown.log (omega (arith, fits, long member is))

  abbrev over : Member O → Bool
  over member = nat_lt log_limit (used + grown_by m w (record_length m member))

  abbrev stopped_course : Member O → Course O
  stopped_course member = course [] used (Full used (grown_by m w (record_length m member)) log_limit)

  abbrev room_course : Member O → Course O
  room_course member = course (room_steps m w (record_length m member) ++ Append member ∷ []) (used + grown_by m w (record_length m member)) Through

  -- it has no room
  full_course : (member : Member O) → judge_in m w r ≡ Taken member → over member ≡ true → c ≡ stopped_course member
  full_course member is full = ap (λ (j : Judged O). judged_course m j w used) is ∙ cond-true (over member) (stopped_course member) (room_course member) full

  -- it has
  append_course : (member : Member O) → judge_in m w r ≡ Taken member → over member ≡ false → c.steps ≡ Append member ∷ []
  append_course member is room =
      ap (λ (k : Course O). k.steps) (ap (λ (j : Judged O). judged_course m j w used) is ∙ cond-false (over member) (stopped_course member) (room_course member) room)
      ∙ ap (λ (l : List (Step O)). l ++ Append member ∷ []) (no_room_made member is)

  steps_by : (j : Judged O) → judge_in m w r ≡ j → IsFew c.steps
  steps_by Passed is = inl (ap (λ (j : Judged O). (judged_course m j w used).steps) is)
  steps_by (Taken member) is = elim (cases_Bool (over member)) [
    | inl full ↦ inl (ap (λ (k : Course O). k.steps) (full_course member is full))
    | inr room ↦ inr (member, is, append_course member is room)
  ]
  steps_by (Gap expected got) is = inl (ap (λ (j : Judged O). (judged_course m j w used).steps) is)
  steps_by (Differs lsn) is = inl (ap (λ (j : Judged O). (judged_course m j w used).steps) is)

  -- ---- what is shown after it

  -- it took no step
  shown_still : c.steps ≡ [] → ShowsIn meaning p new after (run m w c.steps) → ShowsIn meaning p new after w
  unfolding run
  shown_still none there = subst (λ (l : List (Step O)). ShowsIn meaning p new after (run m w l)) none there

  -- it took some, and the log has no record more
  some_none : (steps taken : List (Step O)) → IsFew steps → Begins steps taken → after.parts.log.next ≡ before.engine.parts.log.next → ShowsIn meaning p new after (run m w taken) → ShowsIn meaning p new after w
  unfolding run step
  some_none steps taken few begins same there =
      let shows : List (Step O) → Type 0 = λ (l : List (Step O)). ShowsIn meaning p new after (run m w l) in
      ⊎_elim
      (λ none. subst shows (begins-empty taken (subst (λ (l : List (Step O)). Begins l taken) none begins)) there)
      (λ (one : (member : Member O) × (judge_in m w r ≡ Taken member) × (steps ≡ Append member ∷ [])).
      ⊎_elim (λ nothing. subst shows nothing there)
      (λ all.
      let after_it : ShowsIn meaning p new after (step m w (Append one.0)) = subst shows all there in
      absurd (omega (arith, same, next_lsn m p old before.engine.parts (ungrouped w) shown, next_lsn m p new after.parts (ungrouped (step m w (Append one.0))) after_it.shows, length-append w.history (one.0 ∷ []))))
      (begins-one (Append one.0) taken (subst (λ (l : List (Step O)). Begins l taken) one.2 begins))) few

  -- ---- the standby goes on

  abbrev following_same : ShowsIn meaning p new after w → IsFollowing meaning p first bytes new (record before { engine = after })
  following_same there = same_world meaning p first bytes old new before after f there

  abbrev followed : StandbyView
  followed = record before { engine = after; done = before.done + n }

  following_more : (j : Judged O) → judge_in m w r ≡ j → is_refused j ≡ false → (v : World O) → ShowsIn meaning p new after v → v.history ≡ with_judged w.history j → v.pending ≡ [] → v.forced ≡ w.forced
      → IsFollowing meaning p first bytes new followed
  following_more j is fine v there history no_checkpoint forced =
      let behind_it : judge_behind m (follows m first (gone ++ f.begun)) r ≡ j = ap (λ (h : List (Member O)). judge_behind m h r) (sym f.members) ∙ sym judges ∙ is in
      let more = one_more m first (gone ++ f.begun) r j f.fine behind_it fine in
      let all : (gone ++ f.begun) ++ r ∷ [] ≡ gone ++ (f.begun ++ r ∷ []) = append_assoc gone f.begun (r ∷ []) in
      record {
        payloads = f.payloads;
        groups = f.groups;
        begun = f.begun ++ r ∷ [];
        passed = f.passed;
        frames_are = f.frames_are;
        in_hand = begun_more m before f.begun f.in_hand size whole left r starts with_lsn;
        world = v;
        shows = there;
        fine = ap (λ (rs : List (Record O)). first_refused m first rs) (sym all) ∙ more.1;
        members = history ∙ ap (λ (h : List (Member O)). with_judged h j) f.members ∙ sym more.0 ∙ ap (λ (rs : List (Record O)). follows m first rs) all;
        no_checkpoint = no_checkpoint;
        forced = ⊎_elim (λ same. inl (forced ∙ same)) (λ both. absurd (not_whole m before f.begun f.in_hand size whole left both.0)) f.forced;
      }

  -- a record that was taken
  following_taken : (member : Member O) → judge_in m w r ≡ Taken member → c.steps ≡ Append member ∷ [] → ShowsIn meaning p new after (run m w c.steps) → IsFollowing meaning p first bytes new followed
  unfolding run step
  following_taken member is steps there =
      following_more (Taken member) is refl (step m w (Append member)) (subst (λ (l : List (Step O)). ShowsIn meaning p new after (run m w l)) steps there) refl f.no_checkpoint refl

  -- ---- as many commands are stable

  abbrev forced_same : Type 0
  forced_same = forced_in before.engine ≤ forced_in after

  rising_still : ShowsIn meaning p new after w → forced_same
  rising_still there = omega (arith, forced_is meaning p first bytes old before f, forced_shown m p new after.parts (ungrouped w) there.shows)

  rising_taken : (member : Member O) → c.steps ≡ Append member ∷ [] → ShowsIn meaning p new after (run m w c.steps) → forced_same
  unfolding run step
  rising_taken member steps there =
      let v : World O = step m w (Append member) in
      let shows : ShowsIn meaning p new after v = subst (λ (l : List (Step O)). ShowsIn meaning p new after (run m w l)) steps there in
      let same : take w.forced (w.history ++ member ∷ []) ≡ take w.forced w.history = take-append-le w.forced w.history (member ∷ []) f.shows.sound.forced in
      omega (arith, forced_is meaning p first bytes old before f, forced_shown m p new after.parts (ungrouped v) shows.shows, ap (λ (h : List (Member O)). length (commands_of h)) same)

  -- ---- by the answer

  abbrev refusing : StandbyView
  refusing = record before { engine = after }

  -- what an answer leaves: where the record was followed, or was there already, so many bytes more were followed
  abbrev pub LeavesSo : Result Bool RecordErr → Type 0
  LeavesSo (Ok taken) = IsFollowing meaning p first bytes new followed × forced_same
  LeavesSo (Err of_record.DiskFault) = Unit {0}
  LeavesSo (Err of_record.Memory) = IsFollowing meaning p first bytes new refusing × forced_same
  LeavesSo (Err e) = HasRefusedIn meaning p first bytes new refusing (follow_from_record e) × forced_same

  judged_next : (j : Judged O) → judge_in m w r ≡ j → IsJudgedNext m w.history refusing j
  judged_next j is = record {
    rest = left_of before size;
    next = comes_next refusing size whole left;
    logged = r;
    starts = starts;
    with_lsn = with_lsn;
    judged_so = sym judges ∙ is;
  }

  -- the bytes that it needs
  needs : (member : Member O) → judge_in m w r ≡ Taken member → ShowsIn meaning p new after w → used_in after ≡ used → grown_by m w (record_length m member) ≡ growth_of after.parts.log.log.pending (record_length m member)
  needs member is there same =
      let k = record_length m member in
      let fitting : nat_lt block_limit (buffered m w + k) ≡ false = le-ltb block_limit (buffered m w + k) (omega (arith, fits, long member is, buffered_shown m old before.engine.parts.log (ungrouped w) shown.log)) in
      let need : grown_by m w k ≡ needed m true w k = cond-false (nat_lt block_limit (buffered m w + k)) (k + 5) (needed m true w k) fitting in
      let grows = growth_shown m new after.parts.log (ungrouped w) k there.shows.log in
      omega (arith, need, grows, same)

  pub by_answer : (result : Result Bool RecordErr) → HasFollowed meaning old new before.engine after r result → LeavesSo result
  by_answer (Ok false) it =
      let is : judge_in m w r ≡ Passed = it.in_world p w f.shows in
      let none : c.steps ≡ [] = ap (λ (j : Judged O). (judged_course m j w used).steps) is in
      let there = shown_still none (it.takes.follows p w f.shows).1.shows in
      (following_more Passed is refl w there refl f.no_checkpoint refl, rising_still there)
  by_answer (Ok true) it =
      let why = it.in_world p w f.shows in
      let member = why.0 in
      let is : judge_in m w r ≡ Taken member = why.2.0 in
      let room : over member ≡ false = le-ltb log_limit (used + grown_by m w (record_length m member)) (omega (arith, why.3, why.2.1)) in
      let steps = append_course member is room in
      let there = (it.takes.follows p w f.shows).1.shows in
      (following_taken member is steps there, rising_taken member steps there)
  by_answer (Err (of_record.Gap expected got)) it =
      let is : judge_in m w r ≡ Gap expected got = it.in_world p w f.shows in
      let none : c.steps ≡ [] = ap (λ (j : Judged O). (judged_course m j w used).steps) is in
      let there = shown_still none (it.takes.follows p w f.shows).1.shows in
      (record { following = following_same there; refused = judged_next (Gap expected got) is }, rising_still there)
  by_answer (Err (of_record.Differs lsn)) it =
      let is : judge_in m w r ≡ Differs lsn = it.in_world p w f.shows in
      let none : c.steps ≡ [] = ap (λ (j : Judged O). (judged_course m j w used).steps) is in
      let there = shown_still none (it.takes.follows p w f.shows).1.shows in
      (record { following = following_same there; refused = judged_next (Differs lsn) is }, rising_still there)
  by_answer (Err (of_record.LogFull held need limit)) it =
      let why = it.in_world p w f.shows in
      let member = why.0 in
      let is : judge_in m w r ≡ Taken member = why.1.0 in
      let full : over member ≡ true = lt-ltb log_limit (used + grown_by m w (record_length m member)) (omega (arith, why.2, why.1.1)) in
      let all = full_course member is full in
      let none : c.steps ≡ [] = ap (λ (k : Course O). k.steps) all in
      let after_it = (it.takes.follows p w f.shows).1 in
      let there = shown_still none after_it.shows in
      let same : used_in after ≡ used = after_it.used ∙ ap (λ (k : Course O). k.used) all in (
        record {
          following = following_same there;
          refused = record {
            member = member;
            next = judged_next (Taken member) is;
            used_is = why.3 ∙ sym same;
            need_is = why.1.1 ∙ needs member is there same;
            limit_is = why.4;
            over = omega (arith, why.2, why.3, why.4);
          };
        },
        rising_still there,
      )
  by_answer (Err of_record.DiskFault) it = tt
  by_answer (Err (of_record.Damaged file place)) it = absurd (it.in_world p w f.shows)
  by_answer (Err of_record.Memory) it =
      let some = it.takes.follows p w f.shows in
      let there = some_none c.steps some.taken (steps_by (judge_in m w r) refl) some.begins it.untaken some.holds in
      (following_same there, rising_still there)

-- ---- the step that it is

abbrev pub step_of : Result Bool RecordErr → Result (Unit {0}) FollowErr
step_of (Ok taken) = Ok tt
step_of (Err e) = Err (follow_from_record e)

-- the disk failed where that is the answer
failed_so : (answer : Result Bool RecordErr) → IsFailed (ending_of_follow answer) ↔ IsErrOf (step_of answer) DiskFault
failed_so (Ok taken) = (λ failed. absurd failed, λ same. cc)
failed_so (Err (of_record.Gap expected got)) = (λ failed. absurd failed, λ same. cc)
failed_so (Err (of_record.Differs lsn)) = (λ failed. absurd failed, λ same. cc)
failed_so (Err (of_record.LogFull used need limit)) = (λ failed. absurd failed, λ same. cc)
failed_so (Err of_record.DiskFault) = (λ failed. refl, λ same. tt)
failed_so (Err (of_record.Damaged file place)) = (λ failed. absurd failed, λ same. cc)
failed_so (Err of_record.Memory) = (λ failed. absurd failed, λ same. cc)

damaged_so : (answer : Result Bool RecordErr) (file : FileNo) (place : ℕ) → IsErrOf (step_of answer) (Damaged file place) → IsErrOf answer (of_record.Damaged file place)
damaged_so (Ok taken) file place same = cc
damaged_so (Err (of_record.Gap expected got)) file place same = cc
damaged_so (Err (of_record.Differs lsn)) file place same = cc
damaged_so (Err (of_record.LogFull used need limit)) file place same = cc
damaged_so (Err of_record.DiskFault) file place same = cc
damaged_so (Err (of_record.Damaged f n)) file place same = cc
damaged_so (Err of_record.Memory) file place same = cc

pub some_bytes : {O : Type 0} (m : Meaning O) (r : Record O) → 0 < length (record_code m r)
some_bytes m (Logged_command lsn op) = omega arith
some_bytes m (Logged_identity lsn x value) = omega arith
some_bytes m (Logged_checkpoint table) = omega arith

-- records are judged on the values of a live world as behind its history
abbrev pub Judges : {O : Type 0} → (Bounds → Meaning O) → Record O → Type 0
Judges {O} meaning r = (b : Bounds) (w : World O) → IsSound (meaning b) w → IsLive w → judge_in (meaning b) w r ≡ judge_behind (meaning b) w.history r

module _ {O : Type 0} (meaning : Bounds → Meaning O) (old new : Disk) (before : StandbyView) (after : EngineView) (size : ℕ) (whole : HasWholeFrame before size) (left : before.done < size) where
  abbrev with : Params → Meaning O
  with q = meaning_in meaning q

  -- no record comes next
  pub not_read : (e : FollowErr) → IsReadingOf (with (params_of before.engine)) before size (Err e) → IsDisk old → before.engine.broken ≡ false → Stand meaning → IsRecordFollowed meaning old old before before size (Err e)
  not_read (BadFrame place) is lawful unbroken stand = goes_nowhere meaning old lawful before unbroken stand _ AnyWorld (Err (BadFrame place)) (λ same. cc) (λ file n same. cc) tt (λ p first bytes f.
      record { following = f; refused = inr (left_of before size, comes_next before size whole left, subst (λ (q : Params). BeginsNoRecord (with q) (left_of before size)) f.shows.shows.store.params is.0, is.1) })
  not_read Memory is lawful unbroken stand = goes_nowhere meaning old lawful before unbroken stand _ AnyWorld (Err Memory) (λ same. cc) (λ file n same. cc) tt (λ p first bytes f. f)
  not_read (Leaves_gap expected got) is lawful unbroken stand = absurd is
  not_read (Is_different lsn) is lawful unbroken stand = absurd is
  not_read (LogFull _ _ _) is lawful unbroken stand = absurd is
  not_read DiskFault is lawful unbroken stand = absurd is
  not_read (Damaged file place) is lawful unbroken stand = absurd is
  not_read (Stopped place) is lawful unbroken stand = absurd is

  module _ (r : Record O) (with_lsn : HasLsn r) (begins : StartsWithRecord (with (params_of before.engine)) (left_of before size) r) (judges : Judges meaning r) (stand : Stand meaning) where
    abbrev pub left_by : Result Bool RecordErr → StandbyView
    left_by (Ok taken) = record before { engine = after; done = before.done + length (record_code (with (params_of before.engine)) r) }
    left_by (Err e) = record before { engine = after }

    module _ (p : Params) (first : List (Member O)) (bytes : List ℕ) (f : IsFollowing meaning p first bytes old before) where
      here : params_of before.engine ≡ p
      here = f.shows.shows.store.params

      starts : StartsWithRecord (with p) (left_of before size) r
      starts = subst (λ (q : Params). StartsWithRecord (with q) (left_of before size) r) here begins

      judged_so : judge_in (with p) f.world r ≡ judge_behind (with p) f.world.history r
      judged_so = judges (bounds_of p) f.world f.shows.sound f.shows.shows.running.live

      leaves : (answer : Result Bool RecordErr) → HasFollowed meaning old new before.engine after r answer → LeavesSo meaning old new before after size whole left r with_lsn p first bytes f starts judged_so answer
      leaves answer it = by_answer meaning old new before after size whole left r with_lsn p first bytes f starts judged_so answer it

      still : (answer : Result Bool RecordErr) → HasFollowed meaning old new before.engine after r answer → Stays old new
      still answer it = it.quiet (subst (λ (q : Params). length before.engine.parts.log.log.pending + length (record_code (with q) r) ≤ 2 ^ 30) (sym here) (fits meaning old new before after size whole left r with_lsn p first bytes f starts judged_so))

      follows_so : (answer : Result Bool RecordErr) → HasFollowed meaning old new before.engine after r answer → FollowsStep meaning AnyWorld p first bytes new (left_by answer) (step_of answer)
      follows_so (Ok taken) it =
          let n_is = λ (q : Params). record before { engine = after; done = before.done + length (record_code (with q) r) } in
          (subst (λ (q : Params). IsFollowing meaning p first bytes new (n_is q)) (sym here) (leaves (Ok taken) it).0, tt)
      follows_so (Err (of_record.Gap expected got)) it = (leaves (Err (of_record.Gap expected got)) it).0
      follows_so (Err (of_record.Differs lsn)) it = (leaves (Err (of_record.Differs lsn)) it).0
      follows_so (Err (of_record.LogFull used need limit)) it = (leaves (Err (of_record.LogFull used need limit)) it).0
      follows_so (Err of_record.DiskFault) it = tt
      follows_so (Err (of_record.Damaged file place)) it = absurd (it.in_world p f.world f.shows)
      follows_so (Err of_record.Memory) it = (leaves (Err of_record.Memory) it).0

      rises_so : (answer : Result Bool RecordErr) → HasFollowed meaning old new before.engine after r answer → IsErrOf (step_of answer) DiskFault ⊎ (forced_in before.engine ≤ forced_in after)
      rises_so (Ok taken) it = inr (leaves (Ok taken) it).1
      rises_so (Err (of_record.Gap expected got)) it = inr (leaves (Err (of_record.Gap expected got)) it).1
      rises_so (Err (of_record.Differs lsn)) it = inr (leaves (Err (of_record.Differs lsn)) it).1
      rises_so (Err (of_record.LogFull used need limit)) it = inr (leaves (Err (of_record.LogFull used need limit)) it).1
      rises_so (Err of_record.DiskFault) it = inl refl
      rises_so (Err (of_record.Damaged file place)) it = absurd (it.in_world p f.world f.shows)
      rises_so (Err of_record.Memory) it = inr (leaves (Err of_record.Memory) it).1

    -- the world that was shown leads to the one that is
    led : (answer : Result Bool RecordErr) → HasFollowed meaning old new before.engine after r answer → FeedsThrough meaning old new before.engine after (step_of answer)
    led (Ok taken) it p w shown = (run (with p) w (follow_course (with p) r w (used_in before.engine)).steps, (it.takes.follows p w shown).1.shows, FeedsTo.Followed w r (used_in before.engine) FeedsTo.Nothing)
    led (Err e) it p w shown = tt

    -- a step of each answer, which leaves the standby so
    step_with : (answer : Result Bool RecordErr) (left_so : StandbyView) → left_so ≡ left_by answer → HasFollowed meaning old new before.engine after r answer → left_so.engine ≡ after → left_so.frames ≡ before.frames → left_so.stopped ≡ before.stopped
        → OnOk (step_of answer) ((left_so.frames ≡ before.frames) × (before.done < left_so.done) × (left_so.done ≤ size)) → IsRecordFollowed meaning old new before left_so size (step_of answer)
    step_with answer left_so is it engine frames stopped reached = record {
      time = it.call.time;
      quiet = it.call.quiet;
      params = ap params_of engine ∙ it.call.params;
      attached = ⊎_elim (λ failed. inl ((failed_so answer).0 failed)) (λ kept. inr (subst (λ (e : EngineView). IsAttached meaning old before.engine → IsAttached meaning new e) (sym engine) kept)) it.call.attached;
      broken = (
        λ set. (failed_so answer).0 (it.call.broken.0 (sym (ap (λ (e : EngineView). e.broken) engine) ∙ set)),
        λ failed. ap (λ (e : EngineView). e.broken) engine ∙ it.call.broken.1 ((failed_so answer).1 failed),
      );
      fault = λ failed. it.call.fault ((failed_so answer).1 failed);
      stopped = stopped;
      taken = ap taken_by frames;
      done = reached;
      rising = λ p first bytes f. subst (λ (e : EngineView). IsErrOf (step_of answer) DiskFault ⊎ (forced_in before.engine ≤ forced_in e)) (sym engine) (rises_so p first bytes f answer it);
      follows_it = λ p first bytes f. subst (λ (s : StandbyView). FollowsStep meaning AnyWorld p first bytes new s (step_of answer)) (sym is) (follows_so p first bytes f answer it);
      leads = subst (λ (e : EngineView). FeedsThrough meaning old new before.engine e (step_of answer)) (sym engine) (led answer it);
      images = λ told p first bytes f. still_end meaning p first bytes old before f stand new (still p first bytes f answer it) told;
      undamaged = λ told attached file place same. it.undamaged told attached file place (damaged_so answer file place same);
    }

    -- it was followed, or passed over
    pub record_followed : (taken : Bool) → HasFollowed meaning old new before.engine after r (Ok taken) → IsRecordFollowed meaning old new before (left_by (Ok taken)) size (Ok tt)
    record_followed taken it = step_with (Ok taken) (left_by (Ok taken)) refl it refl refl refl (refl, omega (arith, some_bytes (with (params_of before.engine)) r), ends_within (with (params_of before.engine)) before size whole left r begins)

    -- or not
    pub record_refused : (e : RecordErr) → HasFollowed meaning old new before.engine after r (Err e) → IsRecordFollowed meaning old new before (left_by (Err e)) size (Err (follow_from_record e))
    record_refused e it = step_with (Err e) (left_by (Err e)) refl it refl refl refl tt

-- The same of a standby that is told apart into its parts.
module _ {O : Type 0} (meaning : Bounds → Meaning O) (old new : Disk) (now parts : StandbyView) (same : parts ≡ now) (after : EngineView) (size : ℕ) (whole : HasWholeFrame now size) (left : now.done < size) (r : Record O) (with_lsn : HasLsn r)
    (begins : StartsWithRecord (meaning_in meaning (params_of now.engine)) (left_of now size) r) where
  abbrev Given : StandbyView → Type 0 → Type 0
  Given s P = HasWholeFrame s size → s.done < size → StartsWithRecord (meaning_in meaning (params_of s.engine)) (left_of s size) r → P

  -- the record is not longer than a block
  pub short_record : length (record_code (meaning_in meaning (params_of parts.engine)) r) ≤ 2 ^ 30
  short_record =
      subst (λ (s : StandbyView). length (record_code (meaning_in meaning (params_of s.engine)) r) ≤ 2 ^ 30) (sym same)
      (omega (arith, ends_within (meaning_in meaning (params_of now.engine)) now size whole left r begins, whole.2.short, whole.3))

  -- it ends within its frame
  pub record_ends : (n : ℕ) → n ≡ length (record_code (meaning_in meaning (params_of now.engine)) r) → parts.done + n ≤ size
  record_ends n is = omega (arith, is, ends_within (meaning_in meaning (params_of now.engine)) now size whole left r begins, ap (λ (s : StandbyView). s.done) same)

  pub within_frame : (n : ℕ) → n ≡ length (record_code (meaning_in meaning (params_of now.engine)) r) → IsWithinFrame parts.frames.kept (parts.done + n)
  within_frame n is =
      subst (λ (s : StandbyView). IsWithinFrame s.frames.kept (parts.done + n)) (sym same)
      (inr (whole.0, whole.1, whole.2, whole.4, omega (arith, record_ends n is, whole.3)))

  pub refused_from : Judges meaning r → Stand meaning → (e : RecordErr) → HasFollowed meaning old new parts.engine after r (Err e) → IsRecordFollowed meaning old new now (record parts { engine = after }) size (Err (follow_from_record e))
  refused_from judges stand e it =
      subst (λ (s : StandbyView). Given s (IsRecordFollowed meaning old new s (record parts { engine = after }) size (Err (follow_from_record e)))) same
      (λ whole left begins. record_refused meaning old new parts after size whole left r with_lsn begins judges stand e it) whole left begins

  pub followed_from : Judges meaning r → Stand meaning → (n : ℕ) → n ≡ length (record_code (meaning_in meaning (params_of now.engine)) r) → (taken : Bool) → HasFollowed meaning old new parts.engine after r (Ok taken)
      → IsRecordFollowed meaning old new now (record parts { engine = after; done = parts.done + n }) size (Ok tt)
  followed_from judges stand n is taken it =
      let long : n ≡ length (record_code (meaning_in meaning (params_of parts.engine)) r) = is ∙ ap (λ (s : StandbyView). length (record_code (meaning_in meaning (params_of s.engine)) r)) (sym same) in
      subst (λ (k : ℕ). IsRecordFollowed meaning old new now (record parts { engine = after; done = parts.done + k }) size (Ok tt)) (sym long)
      (subst (λ (s : StandbyView). Given s (IsRecordFollowed meaning old new s (record parts { engine = after; done = parts.done + length (record_code (meaning_in meaning (params_of parts.engine)) r) }) size (Ok tt))) same
      (λ whole left begins. record_followed meaning old new parts after size whole left r with_lsn begins judges stand taken it) whole left begins)

-- no frame can be read
pub no_frame_read : {O : Type 0} (meaning : Bounds → Meaning O) (d : Disk) → IsDisk d → (s : StandbyView) → s.engine.broken ≡ false → Stand meaning → (Reached : Type 0) (Left : Meaning O → World O → Type 0) (e : FollowErr) → IsReading s (Err e)
    → GoesOn meaning d d s s Reached Left (Err e)
no_frame_read meaning d lawful s unbroken stand Reached Left (BadFrame place) is =
    goes_nowhere meaning d lawful s unbroken stand Reached Left (Err (BadFrame place)) (λ same. cc) (λ file n same. cc) tt (λ p first bytes f. record { following = f; refused = inl is })
no_frame_read meaning d lawful s unbroken stand Reached Left Memory is = absurd is
no_frame_read meaning d lawful s unbroken stand Reached Left (Leaves_gap expected got) is = absurd is
no_frame_read meaning d lawful s unbroken stand Reached Left (Is_different lsn) is = absurd is
no_frame_read meaning d lawful s unbroken stand Reached Left (LogFull _ _ _) is = absurd is
no_frame_read meaning d lawful s unbroken stand Reached Left DiskFault is = absurd is
no_frame_read meaning d lawful s unbroken stand Reached Left (Damaged file place) is = absurd is
no_frame_read meaning d lawful s unbroken stand Reached Left (Stopped place) is = absurd is
