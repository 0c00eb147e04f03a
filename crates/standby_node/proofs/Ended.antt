-- The end of a frame that was followed: it is forced, thin nodes are installed turn by turn, and it is passed.
use Rattle.std.proofs.Common.{◌≡◌, ◌∙◌, sym, subst, ap, ℕ, zero, suc, ◌+◌, ◌-◌, ◌<◌, ◌≤◌, Bool, true, false, List, [], ◌∷◌, ◌++◌, length, drop, refl, arith, inl, inr, ◌⊎◌, ⊎_elim, length-drop, Some}
use Rattle.std.specs.Prelude.{◌↔◌, ◌&&◌, ◌||◌, nat_lt, ⊤, Result, Ok, Err, IsErrOf, OnOk}
use Rattle.std.proofs.lemmas.Bool.{both_ways, cond-false, false_from_ne_true, lt-ltb, ltb-true, or_cases, or_left, or_right}
use Rattle.std.proofs.lemmas.List.{append-nil}
use Rattle.disk_model.specs.Disk.{Disk, IsDisk, LeavesOnly}
use Rattle.disk_model.specs.Moments.{weaker}
use Rattle.disk_model.specs.declared.machine.FileNo.{FileNo}
use Rattle.disk_model.specs.declared.machine.FileNo.TheVariants.{Objects}
use Rattle.disk_model.specs.declared.machine.Failed.{Failed}
use Rattle.oper_core.specs.Meaning.{Meaning}
use Rattle.oper_core.specs.declared.bounds.Bounds.{Bounds}
use Rattle.formats.specs.Log.{IsPayload}
use Rattle.formats.specs.Records.{payload_of, records_of}
use Rattle.formats.specs.declared.params.Params.{Params}
use Rattle.formats.specs.declared.record.Record.{Record}
use Rattle.frame_stream.specs.Frames.{frame}
use Rattle.frame_stream.specs.FrameBuffer.{BeginsWith, FrameBufferView, HasPassed, taken_by}
use Rattle.log_records.specs.RecordLog.{RecordLogView}
use Rattle.explain_core.specs.History.{Member, commands_of}
use Rattle.explain_core.specs.History.Member.{Command, Identity}
use Rattle.explain_core.specs.Sound.{IsSound}
use Rattle.explain_core.specs.Turns.{has_thin, thin_turn}
use Rattle.explain_core.specs.World.{Step, World, run}
use Rattle.execution.specs.Judged.{first_refused, follows}
use Rattle.running_store.specs.Courses.Buffered.{buffered_shown}
use Rattle.running_store.specs.Calls.{IsFailed, ending_of_store}
use Rattle.running_store.specs.Courses.{force_steps, records_length}
use Rattle.running_store.specs.Parts.{ShowsVolatile}
use Rattle.running_store.specs.declared.store_err.StoreErr.{StoreErr}
use Rattle.running_store.specs.declared.store_err.StoreErr.TheVariants as of_store
use Rattle.store_engine.specs.Calls.{IsForcing}
use Rattle.store_engine.specs.Counts.{commands-fewer}
use Rattle.store_engine.specs.Engine.{Between, EngineView, Holds, IsStat, ShowsIn, accepted_in, forced_in, used_in}
use Rattle.store_engine.specs.Following.{HasTendedThin, thin_course}
use Rattle.store_engine.specs.Grouping.{ungrouped, ungrouped_alone}
use Rattle.store_engine.specs.Store.{meaning_in}
use Rattle.store_engine.specs.declared.stat.Stat.{Stat}
use Rattle.standby_node.specs.Failures.{follow_from_store}
use Rattle.standby_node.specs.Feeding.{FeedsThrough, FeedsTo, IsAtFrameEnd, dirty_limit, is_above, is_over, low_mark, may_relieve, must_relieve, waiting_limit}
use Rattle.standby_node.specs.Standby.{BeginsWithFrameOf, IsAlone, IsFollowing, StandbyView}
use Rattle.standby_node.specs.Steps.{AnyWorld, FollowsStep, GoesOn, HasPassedFrame, HasWholeFrame, IsRelieved}
use Rattle.standby_node.specs.declared.follow_err.FollowErr.{FollowErr}
use Rattle.standby_node.specs.declared.follow_err.FollowErr.TheVariants.{DiskFault, Damaged}
use Rattle.standby_node.proofs.Ends.{Stand, between_end, forced_is, frames_more, past, records_more}
use Rattle.standby_node.proofs.Going.{goes_nowhere, goes_twice, not_failed, on_ok}
use Rattle.standby_node.proofs.InHand.{whole_begun, whole_long}
use Rattle.standby_node.proofs.Recorded.{same_world}
use Rattle.standby_node.proofs.Settled.{IsSettledAt, calm_front, force_settled, run_settled, thin_course_calm}

-- the frame in hand is left, and what was followed of it, and nothing waits
abbrev pub IsForcedIn : StandbyView → StandbyView → Type 0
IsForcedIn s left = (left.frames ≡ s.frames) × (left.done ≡ s.done) × (left.engine.parts.log.log.pending ≡ [])

-- no records have no bytes
none_long : {O : Type 0} (m : Meaning O) (h : List (Member O)) → records_length m h ≡ 0 → h ≡ []
none_long m [] is = refl
none_long m (Command op ∷ h) is = absurd (omega (arith, is))
none_long m (Identity x value ∷ h) is = absurd (omega (arith, is))

-- ---- a standby with another world

module _ {O : Type 0} (meaning : Bounds → Meaning O) (p : Params) (first : List (Member O)) (bytes : List ℕ) (old : Disk) (before : StandbyView) (f : IsFollowing meaning p first bytes old before) where
  abbrev m : Meaning O
  m = meaning_in meaning p

  abbrev w : World O
  w = f.world

  -- all of it is stable, and the frame in hand was followed to its end, or none of it was
  abbrev pub MayBeForced : Type 0
  MayBeForced = (w.history ≡ past meaning p first bytes old before f) ⊎ BeginsWithFrameOf m before.frames.kept f.begun

  -- another world is shown, with the same members
  abbrev pub other_world : (new : Disk) (after : EngineView) (v : World O) → ShowsIn meaning p new after v → v.history ≡ w.history → v.pending ≡ []
      → (v.forced ≡ length (past meaning p first bytes old before f)) ⊎ (BeginsWithFrameOf m before.frames.kept f.begun × (v.forced ≡ length v.history)) → IsFollowing meaning p first bytes new (record before { engine = after })
  other_world new after v there history no_checkpoint forced = record {
    payloads = f.payloads;
    groups = f.groups;
    begun = f.begun;
    passed = f.passed;
    frames_are = f.frames_are;
    in_hand = f.in_hand;
    world = v;
    shows = there;
    fine = f.fine;
    members = history ∙ f.members;
    no_checkpoint = no_checkpoint;
    forced = forced;
  }

  -- one that is settled
  pub settled_world : (new : Disk) (after : EngineView) (v : World O) → MayBeForced → ShowsIn meaning p new after v → IsSettledAt w.history v → IsFollowing meaning p first bytes new (record before { engine = after })
  settled_world new after v may there all =
      other_world new after v there all.history all.none
      (⊎_elim (λ (passed : w.history ≡ past meaning p first bytes old before f). inl (all.forced ∙ ap (λ (h : List (Member O)). length h) passed))
      (λ (whole : BeginsWithFrameOf m before.frames.kept f.begun). inr (whole, all.forced ∙ ap (λ (h : List (Member O)). length h) (sym all.history))) may)

  -- engine and files stand for the commands of its members
  pub holds_all : Holds meaning p old before.engine (commands_of w.history)
  holds_all = record { world = w; shows = f.shows; commands_are = refl }

  -- where nothing waits all is stable
  pub all_stable : before.engine.parts.log.log.pending ≡ [] → w.forced ≡ length w.history
  all_stable none =
      let counted = buffered_shown m old before.engine.parts.log (ungrouped w) f.shows.shows.log in
      let behind : drop w.forced w.history ≡ [] = none_long m (drop w.forced w.history) (omega (arith, counted, ap (λ (l : List ℕ). length l) none)) in
      omega (arith, ap (λ (h : List (Member O)). length h) behind, length-drop w.forced w.history, f.shows.sound.forced)

  pub settled_here : before.engine.parts.log.log.pending ≡ [] → IsSettledAt w.history w
  settled_here none = record { history = refl; forced = all_stable none; none = f.no_checkpoint }

-- ---- thin nodes are installed

-- in each world that is shown thin nodes may be installed
abbrev pub IsOverIn : {O : Type 0} → (Bounds → Meaning O) → Disk → EngineView → Type 0
IsOverIn {O} meaning d engine = (p : Params) (w : World O) → ShowsIn meaning p d engine w → is_over (meaning_in meaning p) low_mark w ≡ true

-- the answer of the step that a turn is
abbrev pub thin_result : Result ℕ StoreErr → Result (Unit {0}) FollowErr
thin_result (Ok some) = Ok tt
thin_result (Err e) = Err (follow_from_store e)

-- the world that it leaves
abbrev pub LeftThin : {O : Type 0} → Result ℕ StoreErr → Meaning O → World O → Type 0
LeftThin (Ok zero) m w = must_relieve m w ≡ false
LeftThin (Ok (suc n)) m w = ⊤
LeftThin (Err e) m w = ⊤

no_error : {T E : Type 0} (value : T) (e : E) → Ok value ≡ Err e → ⊥
no_error value e same = cc

memory_is_no_fault : IsErrOf {T = ℕ} (Err of_store.Memory) of_store.DiskFault → ⊥
memory_is_no_fault same = cc

module _ {O : Type 0} (meaning : Bounds → Meaning O) (old new : Disk) (before : StandbyView) (after : EngineView) where
  abbrev pub with_engine : StandbyView
  with_engine = record before { engine = after }

  -- a turn is taken where all is stable
  pub installed_following : (p : Params) (first : List (Member O)) (bytes : List ℕ) (f : IsFollowing meaning p first bytes old before) → MayBeForced meaning p first bytes old before f → before.engine.parts.log.log.pending ≡ []
      → (most : ℕ) (answer : Result ℕ StoreErr) → HasTendedThin meaning old new before.engine after most answer → IsErrOf answer of_store.DiskFault ⊎ IsFollowing meaning p first bytes new with_engine
  installed_following p first bytes f may none most (Ok some) it =
      let m = meaning_in meaning p in
      let steps = (thin_course m most f.world (used_in before.engine)).steps in
      inr (settled_world meaning p first bytes old before f new after (run m f.world steps) may (it.takes.follows p f.world f.shows).1.shows
      (run_settled m f.world.history f.world steps (thin_course_calm m most f.world (used_in before.engine)) (settled_here meaning p first bytes old before f none)))
  installed_following p first bytes f may none most (Err of_store.DiskFault) it = inl refl
  installed_following p first bytes f may none most (Err of_store.Memory) it =
      let m = meaning_in meaning p in
      let steps = (thin_course m most f.world (used_in before.engine)).steps in
      let is = it.takes.follows p f.world f.shows in
      inr (settled_world meaning p first bytes old before f new after (run m f.world is.taken) may is.holds
      (run_settled m f.world.history f.world is.taken (calm_front steps is.taken is.begins (thin_course_calm m most f.world (used_in before.engine))) (settled_here meaning p first bytes old before f none)))

  -- where none was left none must be installed
  pub none_left : (p : Params) (first : List (Member O)) (bytes : List ℕ) (f : IsFollowing meaning p first bytes old before) → HasTendedThin meaning old new before.engine after dirty_limit (Ok zero)
      → (g : IsFollowing meaning p first bytes new with_engine) × (must_relieve (meaning_in meaning p) g.world ≡ false)
  unfolding run
  none_left p first bytes f it =
      let m = meaning_in meaning p in
      let none : has_thin m f.world ≡ false = sym (it.told p f.world f.shows).0 in
      let no_steps : thin_turn m dirty_limit f.world ≡ [] = cond-false (has_thin m f.world) _ [] none in
      let there : ShowsIn meaning p new after f.world = subst (λ (l : List (Step O)). ShowsIn meaning p new after (run m f.world l)) no_steps (it.takes.follows p f.world f.shows).1.shows in
      (same_world meaning p first bytes old new before after f there, no_need (is_over m waiting_limit f.world) (has_thin m f.world) none)
    where
      no_need : (a b : Bool) → b ≡ false → (a && b) ≡ false
      no_need true b is = is
      no_need false b is = refl

  thin_failed : (answer : Result ℕ StoreErr) → IsFailed (ending_of_store answer) ↔ IsErrOf (thin_result answer) DiskFault
  thin_failed (Ok some) = (λ failed. absurd failed, λ same. cc)
  thin_failed (Err of_store.DiskFault) = (λ failed. refl, λ same. tt)
  thin_failed (Err of_store.Memory) = (λ failed. absurd failed, λ same. cc)

  thin_undamaged : (answer : Result ℕ StoreErr) (file : FileNo) (place : ℕ) → IsErrOf (thin_result answer) (Damaged file place) → ⊥
  thin_undamaged (Ok some) file place same = cc
  thin_undamaged (Err of_store.DiskFault) file place same = cc
  thin_undamaged (Err of_store.Memory) file place same = cc

  thin_follows : (p : Params) (first : List (Member O)) (bytes : List ℕ) (f : IsFollowing meaning p first bytes old before) → MayBeForced meaning p first bytes old before f → before.engine.parts.log.log.pending ≡ [] → (answer : Result ℕ StoreErr) → HasTendedThin meaning old new before.engine after dirty_limit answer
      → FollowsStep meaning (LeftThin answer) p first bytes new with_engine (thin_result answer)
  thin_follows p first bytes f may none (Ok (suc n)) it = ⊎_elim (λ same. absurd (no_error (suc n) of_store.DiskFault same)) (λ (is : IsFollowing meaning p first bytes new with_engine). (is, tt)) (installed_following p first bytes f may none dirty_limit (Ok (suc n)) it)
  thin_follows p first bytes f may none (Ok zero) it = none_left p first bytes f it
  thin_follows p first bytes f may none (Err of_store.DiskFault) it = tt
  thin_follows p first bytes f may none (Err of_store.Memory) it = ⊎_elim (λ same. absurd (memory_is_no_fault same)) (λ (is : IsFollowing meaning p first bytes new with_engine). is) (installed_following p first bytes f may none dirty_limit (Err of_store.Memory) it)

  -- the frame in hand was followed to its end, so an image stands for a frame's end
  abbrev pub IsThrough : Type 0
  IsThrough = HasWholeFrame before before.done

  through_images : IsThrough → Stand meaning → (told : old.tells_moments) (p : Params) (first : List (Member O)) (bytes : List ℕ) (f : IsFollowing meaning p first bytes old before)
      → LeavesOnly old new (Between meaning p old before.engine.group (forced_in before.engine) (accepted_in before.engine) (commands_of f.world.history)) → LeavesOnly old new (IsAtFrameEnd meaning p old (forced_in before.engine) first bytes)
  through_images through stand told p first bytes f leaves =
      let whole = whole_begun (meaning_in meaning p) before f.begun f.in_hand before.done through refl in
      weaker old new (Between meaning p old before.engine.group (forced_in before.engine) (accepted_in before.engine) (commands_of f.world.history)) (IsAtFrameEnd meaning p old (forced_in before.engine) first bytes) leaves
      (λ files said is. between_end meaning p first bytes old before f whole before.engine.group files said is)

  -- the world that was shown leads to the one that is, since thin nodes might be installed in it
  thin_led : IsOverIn meaning old before.engine → (answer : Result ℕ StoreErr) → HasTendedThin meaning old new before.engine after dirty_limit answer → FeedsThrough meaning old new before.engine after (thin_result answer)
  unfolding run
  thin_led over (Ok zero) it p w shown =
      let m = meaning_in meaning p in
      let no_steps : thin_turn m dirty_limit w ≡ [] = cond-false (has_thin m w) _ [] (sym (it.told p w shown).0) in
      (w, subst (λ (l : List (Step O)). ShowsIn meaning p new after (run m w l)) no_steps (it.takes.follows p w shown).1.shows, FeedsTo.Nothing)
  thin_led over (Ok (suc n)) it p w shown =
      let m = meaning_in meaning p in
      let some : has_thin m w ≡ true = sym (it.told p w shown).0 ∙ lt-ltb 0 (suc n) (omega arith) in
      let may : may_relieve m w ≡ true = λ i. over p w shown i && some i in
      (run m w (thin_turn m dirty_limit w), (it.takes.follows p w shown).1.shows, FeedsTo.Relieved w may FeedsTo.Nothing)
  thin_led over (Err e) it p w shown = tt

  pub thin_goes : IsThrough → before.engine.parts.log.log.pending ≡ [] → Stand meaning → IsOverIn meaning old before.engine → (answer : Result ℕ StoreErr) → HasTendedThin meaning old new before.engine after dirty_limit answer
      → GoesOn meaning old new before with_engine (IsForcedIn before with_engine) (LeftThin answer) (thin_result answer)
  thin_goes through none stand over answer it = record {
    time = it.call.time;
    quiet = it.call.quiet;
    params = it.call.params;
    attached = ⊎_elim (λ failed. inl ((thin_failed answer).0 failed)) (λ kept. inr kept) it.call.attached;
    broken = (λ set. (thin_failed answer).0 (it.call.broken.0 set), λ failed. it.call.broken.1 ((thin_failed answer).1 failed));
    fault = λ failed. it.call.fault ((thin_failed answer).1 failed);
    stopped = refl;
    taken = refl;
    done = on_ok (thin_result answer) (refl, refl, ap (λ (l : RecordLogView). l.log.pending) it.log ∙ none);
    rising = λ p first bytes f. inr (omega (arith, ap (λ (l : RecordLogView). l.forced) it.log));
    follows_it = λ p first bytes f. thin_follows p first bytes f (inr (whole_begun (meaning_in meaning p) before f.begun f.in_hand before.done through refl)) none answer it;
    leads = thin_led over answer it;
    images = λ told p first bytes f. through_images through stand told p first bytes f (it.commands.images told p (commands_of f.world.history) (holds_all meaning p first bytes old before f));
    undamaged = λ told attached file place same. thin_undamaged answer file place same;
  }

  -- ---- a force

  pub forced_following : (p : Params) (first : List (Member O)) (bytes : List ℕ) (f : IsFollowing meaning p first bytes old before) → MayBeForced meaning p first bytes old before f → (n : ℕ) → IsForcing meaning old new before.engine after (Ok n)
      → IsFollowing meaning p first bytes new with_engine
  forced_following p first bytes f may n it =
      let m = meaning_in meaning p in
      settled_world meaning p first bytes old before f new after (run m f.world (force_steps m f.world)) may (it.takes.follows p f.world f.shows).1.shows (force_settled m f.world f.shows.sound.forced)

  pub force_goes : IsThrough → Stand meaning → (n : ℕ) → IsForcing meaning old new before.engine after (Ok n)
      → GoesOn meaning old new before with_engine (IsForcedIn before with_engine) AnyWorld (Ok tt)
  force_goes through stand n it = record {
    time = it.call.time;
    quiet = it.call.quiet;
    params = it.call.params;
    attached = ⊎_elim (λ failed. absurd failed) (λ kept. inr kept) it.call.attached;
    broken = (λ set. absurd (it.call.broken.0 set), λ failed. absurd (not_failed failed));
    fault = λ failed. absurd (not_failed failed);
    stopped = refl;
    taken = refl;
    done = (refl, refl, it.empty);
    rising = λ p first bytes f.
        let w = f.world in
        let all = (it.forced p (commands_of w.history) (holds_all meaning p first bytes old before f)).1 in
        inr (omega (arith, all, forced_is meaning p first bytes old before f, commands-fewer w.forced w.history));
    follows_it = λ p first bytes f. (forced_following p first bytes f (inr (whole_begun (meaning_in meaning p) before f.begun f.in_hand before.done through refl)) n it, tt);
    leads = λ p w shown. (run (meaning_in meaning p) w (force_steps (meaning_in meaning p) w), (it.takes.follows p w shown).1.shows, FeedsTo.Forced w FeedsTo.Nothing);
    images = λ told p first bytes f. through_images through stand told p first bytes f (it.commands.images told p (commands_of f.world.history) (holds_all meaning p first bytes old before f));
    undamaged = λ told attached file place same. absurd (not_failed same);
  }

  -- which failed
  pub force_fails : IsThrough → Stand meaning → (Reached : Type 0) (Left : Meaning O → World O → Type 0) (e : Failed) → IsForcing meaning old new before.engine after (Err e) → GoesOn meaning old new before with_engine Reached Left (Err DiskFault)
  force_fails through stand Reached Left e it = record {
    time = it.call.time;
    quiet = it.call.quiet;
    params = it.call.params;
    attached = inl refl;
    broken = (λ set. refl, λ failed. it.call.broken.1 tt);
    fault = λ failed. it.call.fault tt;
    stopped = refl;
    taken = refl;
    done = tt;
    rising = λ p first bytes f. inl refl;
    follows_it = λ p first bytes f. tt;
    leads = λ p w shown. tt;
    images = λ told p first bytes f. through_images through stand told p first bytes f (it.commands.images told p (commands_of f.world.history) (holds_all meaning p first bytes old before f));
    undamaged = λ told attached file place same. cc;
  }

-- What the loop over thin nodes has left of a standby: it was forced, and goes on.
pub record LimitsSo {O : Type 0} (meaning : Bounds → Meaning O) (old now : Disk) (before here : StandbyView) : Type 0 where
  pub alone : IsAlone here.engine
  pub through : HasWholeFrame here here.done
  pub goes : GoesOn meaning old now before here (IsForcedIn before here) AnyWorld (Ok tt)

-- it begins
pub limits_begin : {O : Type 0} (meaning : Bounds → Meaning O) (d : Disk) → IsDisk d → (now parts : StandbyView) → parts ≡ now → IsAlone parts.engine → now.engine.broken ≡ false → HasWholeFrame now now.done → now.engine.parts.log.log.pending ≡ [] → Stand meaning
    → LimitsSo meaning d d now parts
limits_begin meaning d lawful now parts same alone unbroken through none stand = record {
  alone = alone;
  through = subst (λ (s : StandbyView). HasWholeFrame s s.done) (sym same) through;
  goes = subst (λ (s : StandbyView). GoesOn meaning d d now s (IsForcedIn now s) AnyWorld (Ok tt)) (sym same)
      (goes_nowhere meaning d lawful now unbroken stand _ AnyWorld (Ok tt) (λ failed. not_failed failed) (λ file place failed. not_failed failed) (refl, refl, none) (λ p first bytes f. (f, tt)));
}

-- nodes more were installed, or none, or the call failed
module _ {O : Type 0} (meaning : Bounds → Meaning O) (old mid new : Disk) (begins : IsDisk old) (lawful : IsDisk new) (before here : StandbyView) (so_far : LimitsSo meaning old mid before here) (over : IsOverIn meaning mid here.engine) (after : EngineView) (stand : Stand meaning) where
  abbrev next : StandbyView
  next = record here { engine = after }

  pub installed_then : (answer : Result ℕ StoreErr) (Left : Meaning O → World O → Type 0) → OnOk (thin_result answer) ((m : Meaning O) (w : World O) → LeftThin answer m w → Left m w) → HasTendedThin meaning mid new here.engine after dirty_limit answer
      → GoesOn meaning old new before next (IsForcedIn before next) Left (thin_result answer)
  installed_then answer Left so it =
      goes_twice meaning old mid new begins lawful before here next (IsForcedIn before here) (IsForcedIn here next) (IsForcedIn before next) AnyWorld (LeftThin answer) Left (thin_result answer)
      (joined (thin_result answer)) so so_far.goes (thin_goes meaning mid new here after so_far.through so_far.goes.done.2 stand over answer it)
    where
      joined : (result : Result (Unit {0}) FollowErr) → IsForcedIn before here → OnOk result (IsForcedIn here next) → OnOk result (IsForcedIn before next)
      joined (Ok done) start reached = (reached.0 ∙ start.0, reached.1 ∙ start.1, reached.2)
      joined (Err e) start reached = tt

  pub alone_then : (answer : Result ℕ StoreErr) → HasTendedThin meaning mid new here.engine after dirty_limit answer → IsAlone after
  alone_then answer it = record { group = it.call.group ∙ so_far.alone.group; copied = it.call.copied ∙ so_far.alone.copied }

  pub limits_more : (n : ℕ) → 0 < n → HasTendedThin meaning mid new here.engine after dirty_limit (Ok n) → LimitsSo meaning old new before next
  limits_more zero some it = absurd (omega (arith, some))
  limits_more (suc n) some it = record { alone = alone_then (Ok (suc n)) it; through = so_far.through; goes = installed_then (Ok (suc n)) AnyWorld (λ m w any. any) it }

-- where little is left, or no node is thin, it has gone on to the end
pub relieved_by : {O : Type 0} (meaning : Bounds → Meaning O) (old now : Disk) (before here : StandbyView) → LimitsSo meaning old now before here
    → ((p : Params) (first : List (Member O)) (bytes : List ℕ) (f : IsFollowing meaning p first bytes now here) → must_relieve (meaning_in meaning p) f.world ≡ false) → IsRelieved meaning old now before here (Ok tt)
relieved_by meaning old now before here it none = record {
  time = it.goes.time;
  quiet = it.goes.quiet;
  params = it.goes.params;
  attached = it.goes.attached;
  broken = it.goes.broken;
  fault = it.goes.fault;
  stopped = it.goes.stopped;
  taken = it.goes.taken;
  done = it.goes.done;
  rising = it.goes.rising;
  follows_it = λ p first bytes f. let g = (it.goes.follows_it p first bytes f).0 in (g, none p first bytes g);
  leads = it.goes.leads;
  images = it.goes.images;
  undamaged = it.goes.undamaged;
}

-- The engine counts in each world that it shows what is left.
pub is_over_in : {O : Type 0} (meaning : Bounds → Meaning O) (d : Disk) (engine : EngineView) → IsAlone engine → (stat : Stat) → ((p : Params) (file : List ℕ) (w : World O) → IsSound (meaning_in meaning p) w → ShowsVolatile (meaning_in meaning p) p file engine.parts.volatile w → IsStat meaning p w stat)
    → (most : ℕ) (over : Bool) → is_above most stat.dirty stat.uninstalled ≡ over → (p : Params) (w : World O) → ShowsIn meaning p d engine w → is_over (meaning_in meaning p) most w ≡ over
is_over_in {O} meaning d engine alone stat counted most over is p w shown =
    let same : ungrouped w ≡ w = ungrouped_alone w (shown.group ∙ alone.group) in
    let sound = subst (λ (v : World O). IsSound (meaning_in meaning p) v) (sym same) shown.sound in
    let counts = counted p (d.reads Objects) (ungrouped w) sound shown.shows.store in
    sym (λ i. is_above most (counts.dirty i) (counts.uninstalled i)) ∙ is

-- what is too much for a mark is too much for a lower one
pub still_above : (less most dirty waiting : ℕ) → less ≤ most → is_above most dirty waiting ≡ true → is_above less dirty waiting ≡ true
still_above less most dirty waiting lower is =
    ⊎_elim (λ many. or_left (nat_lt dirty_limit dirty) (nat_lt less waiting) many) (λ (more : nat_lt most waiting ≡ true). or_right (nat_lt dirty_limit dirty) (nat_lt less waiting) (lt-ltb less waiting (omega (arith, lower, ltb-true most waiting more))))
    (or_cases (nat_lt dirty_limit dirty) (nat_lt most waiting) is)

-- and what is not is not for a higher one
pub not_above : (most more dirty waiting : ℕ) → most ≤ more → is_above most dirty waiting ≡ false → is_above more dirty waiting ≡ false
not_above most more dirty waiting higher is = false_from_ne_true (is_above more dirty waiting) (λ over. both_ways _ is (still_above most more dirty waiting higher over))

-- then none must be installed
pub none_must : {O : Type 0} (m : Meaning O) (w : World O) → is_over m waiting_limit w ≡ false → must_relieve m w ≡ false
none_must m w is = ap (λ (b : Bool). b && has_thin m w) is

-- The same of a standby that is told apart into its parts.
module _ {O : Type 0} (meaning : Bounds → Meaning O) (old new : Disk) (now parts : StandbyView) (same : parts ≡ now) (after : EngineView) (through : HasWholeFrame now now.done) (stand : Stand meaning) where
  abbrev then : StandbyView
  then = record parts { engine = after }

  pub force_from : (n : ℕ) → IsForcing meaning old new parts.engine after (Ok n) → GoesOn meaning old new now then (IsForcedIn now then) AnyWorld (Ok tt)
  force_from n it =
      subst (λ (s : StandbyView). HasWholeFrame s s.done → GoesOn meaning old new s then (IsForcedIn s then) AnyWorld (Ok tt)) same (λ through. force_goes meaning old new parts after through stand n it) through

  pub force_fails_from : (Left : Meaning O → World O → Type 0) (size : ℕ) (e : Failed) → IsForcing meaning old new parts.engine after (Err e) → GoesOn meaning old new now then (HasPassedFrame meaning old new now then size) Left (Err DiskFault)
  force_fails_from Left size e it =
      subst (λ (s : StandbyView). HasWholeFrame s s.done → GoesOn meaning old new s then (HasPassedFrame meaning old new s then size) Left (Err DiskFault)) same
      (λ through. force_fails meaning old new parts after through stand (HasPassedFrame meaning old new parts then size) Left e it) through

-- ---- the frame is passed

module _ {O : Type 0} (meaning : Bounds → Meaning O) (d : Disk) (before : StandbyView) (frames : FrameBufferView) (size : ℕ) (whole : HasWholeFrame before size) (through : before.done ≡ size) (none : before.engine.parts.log.log.pending ≡ [])
    (passes : (bytes payload later : List ℕ) (payloads : List (List ℕ)) → HasPassed bytes payloads before.frames → IsPayload payload → size ≡ length payload → before.frames.kept ≡ frame payload ++ later → HasPassed bytes (payloads ++ payload ∷ []) frames) where
  abbrev pub passed_frame : StandbyView
  passed_frame = record before { frames = frames; done = 0 }

  pub frame_passed : (p : Params) (first : List (Member O)) (bytes : List ℕ) (f : IsFollowing meaning p first bytes d before) → (g : IsFollowing meaning p first bytes d passed_frame) × (g.world ≡ f.world)
  frame_passed p first bytes f =
      let m = meaning_in meaning p in
      let is = whole_begun m before f.begun f.in_hand size whole through in
      let all : records_of (f.groups ++ f.begun ∷ []) ≡ records_of f.groups ++ f.begun = records_more f.groups f.begun in
      let every : records_of (f.groups ++ f.begun ∷ []) ++ [] ≡ records_of f.groups ++ f.begun = append-nil (records_of (f.groups ++ f.begun ∷ [])) ∙ all in
      let members : f.world.history ≡ follows m first (records_of (f.groups ++ f.begun ∷ [])) = f.members ∙ ap (λ (rs : List (Record O)). follows m first rs) (sym all) in (
        record {
          payloads = f.payloads ++ payload_of m f.begun ∷ [];
          groups = f.groups ++ f.begun ∷ [];
          begun = [];
          passed = passes bytes (payload_of m f.begun) is.0 f.payloads f.passed is.1 (sym through ∙ f.in_hand.count) is.2;
          frames_are = frames_more m f.payloads f.groups f.begun f.frames_are f.in_hand.shipped;
          in_hand = record { count = refl; within = inl refl; front = λ some. absurd (omega (arith, some)); shipped = tt };
          world = f.world;
          shows = f.shows;
          fine = ap (λ (rs : List (Record O)). first_refused m first rs) every ∙ f.fine;
          members = f.members ∙ ap (λ (rs : List (Record O)). follows m first rs) (sym every);
          no_checkpoint = f.no_checkpoint;
          forced = inl (all_stable meaning p first bytes d before f none ∙ ap (λ (h : List (Member O)). length h) members);
        },
        refl,
      )

-- the frame's end was reached, and it is passed
pub passed_then : {O : Type 0} (meaning : Bounds → Meaning O) (old new : Disk) (before here : StandbyView) (frames : FrameBufferView) (size : ℕ) (whole : HasWholeFrame before size) (through : before.done ≡ size)
    (Left : Meaning O → World O → Type 0) → GoesOn meaning old new before here (IsForcedIn before here) Left (Ok tt)
    → frames ≡ record { passed = here.frames.passed + (4 + size); kept = drop (4 + size) here.frames.kept }
    → ((bytes payload later : List ℕ) (payloads : List (List ℕ)) → HasPassed bytes payloads here.frames → IsPayload payload → size ≡ length payload → here.frames.kept ≡ frame payload ++ later → HasPassed bytes (payloads ++ payload ∷ []) frames)
    → GoesOn meaning old new before (record here { frames = frames; done = 0 }) (HasPassedFrame meaning old new before (record here { frames = frames; done = 0 }) size) Left (Ok tt)
passed_then {O} meaning old new before here frames size whole through Left it is passes =
    let reached = it.done in
    let whole_here : HasWholeFrame here size = subst (λ (b : FrameBufferView). BeginsWith b.kept (Ok (Some size))) (sym reached.0) whole in
    let through_here : here.done ≡ size = reached.1 ∙ through in
    let none = reached.2 in
    let long : 4 + size ≤ length before.frames.kept = whole_long before size whole in
    record {
      time = it.time;
      quiet = it.quiet;
      params = it.params;
      attached = it.attached;
      broken = it.broken;
      fault = it.fault;
      stopped = it.stopped;
      taken = ap taken_by is ∙ omega (arith, length-drop (4 + size) here.frames.kept, long, ap (λ (b : FrameBufferView). length b.kept) reached.0, ap (λ (b : FrameBufferView). b.passed) reached.0);
      done = record {
        passed = ap (λ (b : FrameBufferView). b.passed) is ∙ ap (λ (b : FrameBufferView). b.passed + (4 + size)) reached.0;
        kept = ap (λ (b : FrameBufferView). b.kept) is ∙ ap (λ (b : FrameBufferView). drop (4 + size) b.kept) reached.0;
        none_done = refl;
        none_waits = none;
      };
      rising = it.rising;
      follows_it = λ p first bytes f.
          let g = it.follows_it p first bytes f in
          let h = frame_passed meaning new here frames size whole_here through_here none passes p first bytes g.0 in
          (h.0, subst (λ (v : World O). Left (meaning_in meaning p) v) (sym h.1) g.1);
      leads = it.leads;
      images = it.images;
      undamaged = it.undamaged;
    }
