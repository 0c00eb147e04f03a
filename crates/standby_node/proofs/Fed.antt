-- A piece of a stream is taken, and its whole frames are followed.
use Rattle.std.proofs.Common.{◌≡◌, ◌∙◌, sym, subst, ap, ℕ, ◌+◌, ◌≤◌, false, List, [], ◌∷◌, ◌++◌, length, take, drop, refl, arith, inl, inr, ◌⊎◌, ⊎_elim, append_assoc, length-append, Option, None}
use Rattle.std.specs.Prelude.{Result, Ok, Err, IsErrOf, OnOk}
use Rattle.std.proofs.Math.Seq.{drop-length, take-length}
use Rattle.std.proofs.lemmas.Bool.{both_ways}
use Rattle.std.proofs.lemmas.List.{append-nil}
use Rattle.disk_model.specs.Disk.{Disk, Files, IsDisk}
use Rattle.disk_model.specs.Moments.{passes_none, stays_here, weaker}
use Rattle.oper_core.specs.Meaning.{Meaning}
use Rattle.oper_core.specs.declared.bounds.Bounds.{Bounds}
use Rattle.formats.specs.Log.{IsPayload}
use Rattle.formats.specs.Records.{payload_of, records_of}
use Rattle.formats.specs.declared.params.Params.{Params}
use Rattle.formats.specs.declared.record.Record.{Record}
use Rattle.frame_stream.specs.Frames.{frame, frames}
use Rattle.frame_stream.specs.FrameBuffer.{FrameBufferView, HasPassed, taken_by}
use Rattle.explain_core.specs.History.{Member, commands_of}
use Rattle.execution.specs.Counted.{accepted_shown}
use Rattle.execution.specs.Judged.{Judged, follows}
use Rattle.running_store.specs.Courses.Buffered.{buffered_shown}
use Rattle.running_store.specs.Courses.{records_length, tables_length}
use Rattle.store_engine.specs.Engine.{accepted_in, forced_in}
use Rattle.store_engine.specs.Grouping.{ungrouped}
use Rattle.store_engine.specs.Store.{meaning_in}
use Rattle.standby_node.specs.Feeding.{BeginsNoRecord, ComeNext, FollowsPiece, HasRefused, HasRefusedIn, IsAtFrameEnd, IsFed, IsJudgedNext, IsLedTo, stopped_by}
use Rattle.standby_node.specs.Standby.{BeginsWithFrameOf, HasBegun, IsFollowing, IsWithinFrame, StandbyView}
use Rattle.standby_node.specs.Steps.{AreFramesFollowed}
use Rattle.standby_node.specs.declared.follow_err.FollowErr.{FollowErr}
use Rattle.standby_node.specs.declared.follow_err.FollowErr.TheVariants.{BadFrame, Gap, Differs, LogFull, DiskFault, Damaged, Memory, Stopped}
use Rattle.standby_node.proofs.Ends.{Stand, forced_is, past, still_end}
use Rattle.standby_node.proofs.InHand.{none_begun}

-- ---- more bytes come

pub within_more : (kept piece : List ℕ) (done : ℕ) → IsWithinFrame kept done → IsWithinFrame (kept ++ piece) done
within_more kept piece done is =
    ⊎_elim (λ none. inl none)
    (λ (it : (payload : List ℕ) × (later : List ℕ) × IsPayload payload × (kept ≡ frame payload ++ later) × (done ≤ length payload)).
    inr (it.0, it.1 ++ piece, it.2, ap (λ (l : List ℕ). l ++ piece) it.3 ∙ append_assoc (frame it.0) it.1 piece, it.4)) is

module _ {O : Type 0} (m : Meaning O) (kept piece : List ℕ) (begun : List (Record O)) where
  frame_more : BeginsWithFrameOf m kept begun → BeginsWithFrameOf m (kept ++ piece) begun
  frame_more is = (is.0 ++ piece, is.1, ap (λ (l : List ℕ). l ++ piece) is.2 ∙ append_assoc (frame (payload_of m begun)) is.0 piece)

  begun_with : (done : ℕ) → HasBegun m kept done begun → HasBegun m (kept ++ piece) done begun
  begun_with done has = record {
    count = has.count;
    within = within_more kept piece done has.within;
    front = λ some.
        let it = has.front some in
        (it.0, it.1 ++ piece, it.2, ap (λ (l : List ℕ). l ++ piece) it.3 ∙ append_assoc (frame (payload_of m begun ++ it.0)) it.1 piece);
    shipped = has.shipped;
  }

module _ {O : Type 0} (meaning : Bounds → Meaning O) where
  -- the standby goes on with them
  pub following_with : (p : Params) (first : List (Member O)) (bytes piece : List ℕ) (d : Disk) (before : StandbyView) (taken : FrameBufferView) → taken ≡ record before.frames { kept = before.frames.kept ++ piece }
      → ((payloads : List (List ℕ)) → HasPassed bytes payloads before.frames → HasPassed (bytes ++ piece) payloads taken) → IsFollowing meaning p first bytes d before → IsFollowing meaning p first (bytes ++ piece) d (record before { frames = taken })
  following_with p first bytes piece d before taken is passes f =
      let m = meaning_in meaning p in
      let kept_is : before.frames.kept ++ piece ≡ taken.kept = sym (ap (λ (b : FrameBufferView). b.kept) is) in
      record {
        payloads = f.payloads;
        groups = f.groups;
        begun = f.begun;
        passed = passes f.payloads f.passed;
        frames_are = f.frames_are;
        in_hand = subst (λ (l : List ℕ). HasBegun m l before.done f.begun) kept_is (begun_with m before.frames.kept piece f.begun before.done f.in_hand);
        world = f.world;
        shows = f.shows;
        fine = f.fine;
        members = f.members;
        no_checkpoint = f.no_checkpoint;
        forced = ⊎_elim (λ same. inl same) (λ both. inr (subst (λ (l : List ℕ). BeginsWithFrameOf m l f.begun) kept_is (frame_more m before.frames.kept piece f.begun both.0), both.1)) f.forced;
      }

  -- a frame's end is one of the longer stream
  piece_end : (p : Params) (old : Disk) (least : ℕ) (first : List (Member O)) (bytes piece : List ℕ) (files : Files) (said : List ℕ) → IsAtFrameEnd meaning p old least first bytes files said → IsAtFrameEnd meaning p old least first (bytes ++ piece) files said
  piece_end p old least first bytes piece files said is = record {
    quiet = is.quiet;
    payloads = is.payloads;
    groups = is.groups;
    rest = is.rest ++ piece;
    split = ap (λ (l : List ℕ). l ++ piece) is.split ∙ append_assoc (frames is.payloads) is.rest piece;
    whole = is.whole;
    frames_are = is.frames_are;
    fine = is.fine;
    enough = is.enough;
    stands = is.stands;
  }

  -- memory ran out before any of the piece was taken
  pub not_taken : (old : Disk) → IsDisk old → (before : StandbyView) (piece : List ℕ) → before.engine.broken ≡ false → before.stopped ≡ None → Stand meaning → IsFed meaning old old before before piece (Err Memory)
  not_taken old lawful before piece unbroken none stand = record {
    time = passes_none old;
    quiet = λ told. refl;
    params = refl;
    attached = inr (λ at. at);
    broken = (λ set. absurd (both_ways _ unbroken set), λ failed. cc);
    fault = λ failed. cc;
    stopped = none;
    taken = inl (refl, refl);
    follows_it = λ p first bytes f. inl (refl, f);
    leads = λ p w shown. tt;
    images = λ told p first bytes f.
        weaker old old (IsAtFrameEnd meaning p old (forced_in before.engine) first bytes) (IsAtFrameEnd meaning p old (forced_in before.engine) first (bytes ++ piece)) (still_end meaning p first bytes old before f stand old (stays_here old lawful) told)
        (λ files said is. piece_end p old (forced_in before.engine) first bytes piece files said is);
    undamaged = λ told attached file place same. cc;
  }

  -- ---- the frames of it were followed

  -- where the stream stopped is noted
  abbrev noted : (p : Params) (first : List (Member O)) (bytes : List ℕ) (d : Disk) (s : StandbyView) (stopped : Option ℕ) → IsFollowing meaning p first bytes d s → IsFollowing meaning p first bytes d (record s { stopped = stopped })
  noted p first bytes d s stopped f = record {
    payloads = f.payloads;
    groups = f.groups;
    begun = f.begun;
    passed = f.passed;
    frames_are = f.frames_are;
    in_hand = f.in_hand;
    world = f.world;
    shows = f.shows;
    fine = f.fine;
    members = f.members;
    no_checkpoint = f.no_checkpoint;
    forced = f.forced;
  }

  module _ (m : Meaning O) (h : List (Member O)) (s : StandbyView) (stopped : Option ℕ) where
    abbrev so : StandbyView
    so = record s { stopped = stopped }

    next_noted : (rest : List ℕ) → ComeNext s rest → ComeNext so rest
    next_noted rest it = record { payload = it.payload; later = it.later; is_payload = it.is_payload; stands = it.stands; left = it.left; rest_is = it.rest_is }

    judged_noted : (judged : Judged O) → IsJudgedNext m h s judged → IsJudgedNext m h so judged
    judged_noted judged it = record { rest = it.rest; next = next_noted it.rest it.next; logged = it.logged; starts = it.starts; with_lsn = it.with_lsn; judged_so = it.judged_so }

    refused_noted : (e : FollowErr) → HasRefused m h s e → HasRefused m h so e
    refused_noted (BadFrame place) is = ⊎_elim (λ bad. inl bad)
        (λ (it : (rest : List ℕ) × ComeNext s rest × BeginsNoRecord m rest × (place ≡ s.frames.passed + (4 + s.done))). inr (it.0, next_noted it.0 it.1, it.2, it.3)) is
    refused_noted (Gap expected got) is = judged_noted _ is
    refused_noted (Differs lsn) is = judged_noted _ is
    refused_noted (LogFull used need limit) is = record { member = is.member; next = judged_noted _ is.next; used_is = is.used_is; need_is = is.need_is; limit_is = is.limit_is; over = is.over }
    refused_noted DiskFault is = tt
    refused_noted (Damaged file place) is = is
    refused_noted Memory is = tt
    refused_noted (Stopped place) is = is

  refused_so : (p : Params) (first : List (Member O)) (bytes : List ℕ) (d : Disk) (s : StandbyView) (stopped : Option ℕ) (e : FollowErr) → HasRefusedIn meaning p first bytes d s e → HasRefusedIn meaning p first bytes d (record s { stopped = stopped }) e
  refused_so p first bytes d s stopped e is = record {
    following = noted p first bytes d s stopped is.following;
    refused = refused_noted (meaning_in meaning p) is.following.world.history s stopped e is.refused;
  }

  -- between two frames nothing waits
  no_bytes : (l : List ℕ) → length l ≡ 0 → l ≡ []
  no_bytes [] is = refl
  no_bytes (b ∷ l) is = absurd (omega (arith, is))

  module _ (p : Params) (first : List (Member O)) (bytes : List ℕ) (d : Disk) (s : StandbyView) (f : IsFollowing meaning p first bytes d s) (none : s.done ≡ 0) where
    abbrev m : Meaning O
    m = meaning_in meaning p

    pub begun_none : f.begun ≡ []
    begun_none = none_begun m s.frames.kept f.begun (subst (λ (n : ℕ). HasBegun m s.frames.kept n f.begun) none f.in_hand)

    pub all_past : f.world.history ≡ past meaning p first bytes d s f
    all_past = f.members ∙ ap (λ (rs : List (Record O)). follows m first rs) (ap (λ (b : List (Record O)). records_of f.groups ++ b) begun_none ∙ append-nil (records_of f.groups))

    pub all_forced : f.world.forced ≡ length f.world.history
    all_forced = ⊎_elim (λ same. same ∙ ap (λ (h : List (Member O)). length h) (sym all_past)) (λ both. both.1) f.forced

    pub none_waits : s.engine.parts.log.log.pending ≡ []
    none_waits =
        let counted = buffered_shown m d s.engine.parts.log (ungrouped f.world) f.shows.shows.log in
        let late : drop f.world.forced f.world.history ≡ [] = ap (λ (n : ℕ). drop n f.world.history) all_forced ∙ drop-length f.world.history in
        no_bytes s.engine.parts.log.log.pending (omega (arith, counted, ap (λ (h : List (Member O)). records_length m h) late, ap (λ l. tables_length m l) f.no_checkpoint))

    pub all_stable : forced_in s.engine ≡ accepted_in s.engine
    all_stable =
        let all : take f.world.forced f.world.history ≡ f.world.history = ap (λ (n : ℕ). take n f.world.history) all_forced ∙ take-length f.world.history in
        forced_is meaning p first bytes d s f ∙ ap (λ (h : List (Member O)). length (commands_of h)) all ∙ sym (accepted_shown m p d s.engine.parts (ungrouped f.world) f.shows.shows)

  -- the answer that a piece gets
  abbrev pub fed_result : ℕ → Result (Unit {0}) FollowErr → Result ℕ FollowErr
  fed_result n (Ok done) = Ok n
  fed_result n (Err e) = Err e

  fed_error : (n : ℕ) (answer : Result (Unit {0}) FollowErr) (e : FollowErr) → IsErrOf (fed_result n answer) e → IsErrOf answer e
  fed_error n (Ok done) e same = cc
  fed_error n (Err x) e same = let is : x ≡ e = cc in ap (λ (k : FollowErr). Err k) is

  error_fed : (n : ℕ) (answer : Result (Unit {0}) FollowErr) (e : FollowErr) → IsErrOf answer e → IsErrOf (fed_result n answer) e
  error_fed n answer e same = ap (λ (r : Result (Unit {0}) FollowErr). fed_result n r) same

  stopped_same : (n passed : ℕ) (answer : Result (Unit {0}) FollowErr) → stopped_by passed answer ≡ stopped_by passed (fed_result n answer)
  stopped_same n passed (Ok done) = refl
  stopped_same n passed (Err (BadFrame place)) = refl
  stopped_same n passed (Err (Gap expected got)) = refl
  stopped_same n passed (Err (Differs lsn)) = refl
  stopped_same n passed (Err (LogFull used need limit)) = refl
  stopped_same n passed (Err DiskFault) = refl
  stopped_same n passed (Err (Damaged file place)) = refl
  stopped_same n passed (Err Memory) = refl
  stopped_same n passed (Err (Stopped place)) = refl

  fed_also : (P : Type 0) (n : ℕ) (answer : Result (Unit {0}) FollowErr) → OnOk answer P → OnOk (fed_result n answer) P
  fed_also P n (Ok done) is = is
  fed_also P n (Err e) is = tt

  -- what is noted of an answer
  pub noted_as : (after left : StandbyView) (result answer : Result (Unit {0}) FollowErr) → left ≡ record after { stopped = stopped_by after.frames.passed result } → result ≡ answer → left ≡ record after { stopped = stopped_by after.frames.passed answer }
  noted_as after left result answer is same = is ∙ ap (λ (r : Result (Unit {0}) FollowErr). record after { stopped = stopped_by after.frames.passed r }) same

  module _ (old new : Disk) (before : StandbyView) (piece : List ℕ) (taken : FrameBufferView) (taken_is : taken ≡ record before.frames { kept = before.frames.kept ++ piece })
      (passes : (bytes : List ℕ) (payloads : List (List ℕ)) → HasPassed bytes payloads before.frames → HasPassed (bytes ++ piece) payloads taken) (after : StandbyView) (n : ℕ) where
    abbrev mid : StandbyView
    mid = record before { frames = taken }

    abbrev pub left_standby : Result (Unit {0}) FollowErr → StandbyView
    left_standby answer = record after { stopped = stopped_by after.frames.passed answer }

    with_piece : (p : Params) (first : List (Member O)) (bytes : List ℕ) → IsFollowing meaning p first bytes old before → IsFollowing meaning p first (bytes ++ piece) old mid
    with_piece p first bytes f = following_with p first bytes piece old before taken taken_is (passes bytes) f

    piece_followed : (p : Params) (first : List (Member O)) (bytes : List ℕ) (f : IsFollowing meaning p first bytes old before) (answer : Result (Unit {0}) FollowErr) → n ≡ accepted_in after.engine
        → AreFramesFollowed meaning old new mid after answer → FollowsPiece meaning p first bytes piece new before (left_standby answer) (fed_result n answer)
    piece_followed p first bytes f (Ok done) count it =
        let is = it.follows_it p first (bytes ++ piece) (with_piece p first bytes f) in
        let g = is.0 in
        record {
          following = noted p first (bytes ++ piece) new after None g;
          between = record {
            unfinished = it.done.0.0;
            fine = it.done.0.1;
            none_done = it.done.1;
            none_waits = none_waits p first (bytes ++ piece) new after g it.done.1;
          };
          stable = all_stable p first (bytes ++ piece) new after g it.done.1;
          count = count ∙ accepted_shown (meaning_in meaning p) p new after.engine.parts (ungrouped g.world) g.shows.shows;
          limited = ⊎_elim (λ same. inl (same ∙ ap (λ (b : FrameBufferView). b.passed) taken_is)) (λ none. inr none) is.1;
        }
    piece_followed p first bytes f (Err (BadFrame place)) count it = refused_so p first (bytes ++ piece) new after _ (BadFrame place) (it.follows_it p first (bytes ++ piece) (with_piece p first bytes f))
    piece_followed p first bytes f (Err (Gap expected got)) count it = refused_so p first (bytes ++ piece) new after _ (Gap expected got) (it.follows_it p first (bytes ++ piece) (with_piece p first bytes f))
    piece_followed p first bytes f (Err (Differs lsn)) count it = refused_so p first (bytes ++ piece) new after _ (Differs lsn) (it.follows_it p first (bytes ++ piece) (with_piece p first bytes f))
    piece_followed p first bytes f (Err (LogFull used need limit)) count it = refused_so p first (bytes ++ piece) new after _ (LogFull used need limit) (it.follows_it p first (bytes ++ piece) (with_piece p first bytes f))
    piece_followed p first bytes f (Err DiskFault) count it = tt
    piece_followed p first bytes f (Err (Damaged file place)) count it = refused_so p first (bytes ++ piece) new after _ (Damaged file place) (it.follows_it p first (bytes ++ piece) (with_piece p first bytes f))
    piece_followed p first bytes f (Err Memory) count it = inr (noted p first (bytes ++ piece) new after None (it.follows_it p first (bytes ++ piece) (with_piece p first bytes f)))
    piece_followed p first bytes f (Err (Stopped place)) count it = refused_so p first (bytes ++ piece) new after _ (Stopped place) (it.follows_it p first (bytes ++ piece) (with_piece p first bytes f))

    pub fed : (answer : Result (Unit {0}) FollowErr) → n ≡ accepted_in after.engine → AreFramesFollowed meaning old new mid after answer → IsFed meaning old new before (left_standby answer) piece (fed_result n answer)
    fed answer count it = record {
      time = it.time;
      quiet = it.quiet;
      params = it.params;
      attached = ⊎_elim (λ failed. inl (error_fed n answer DiskFault failed)) (λ kept. inr kept) it.attached;
      broken = (λ set. error_fed n answer DiskFault (it.broken.0 set), λ failed. it.broken.1 (fed_error n answer DiskFault failed));
      fault = λ failed. it.fault (fed_error n answer DiskFault failed);
      stopped = stopped_same n after.frames.passed answer;
      taken = inr (it.taken ∙ ap taken_by taken_is ∙ omega (arith, length-append before.frames.kept piece));
      follows_it = λ p first bytes f. piece_followed p first bytes f answer count it;
      leads = λ p w shown. fed_also (IsLedTo meaning p new after.engine w) n answer (it.leads p w shown);
      images = λ told p first bytes f. it.images told p first (bytes ++ piece) (with_piece p first bytes f);
      undamaged = λ told attached file place same. it.undamaged told attached file place (fed_error n answer (Damaged file place) same);
    }

    -- The same of a standby that is told apart into its parts, and as the stop was noted.
    pub fed_from : (answer : Result (Unit {0}) FollowErr) (now : StandbyView) → before ≡ now → (left : StandbyView) → left ≡ left_standby answer → n ≡ accepted_in after.engine → AreFramesFollowed meaning old new mid after answer
        → IsFed meaning old new now left piece (fed_result n answer)
    fed_from answer now same left left_is count it =
        subst (λ (s : StandbyView). IsFed meaning old new s left piece (fed_result n answer)) same
        (subst (λ (s : StandbyView). IsFed meaning old new before s piece (fed_result n answer)) (sym left_is) (fed answer count it))
