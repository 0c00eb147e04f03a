-- A stream is followed, piece by piece.
use Rattle.std.proofs.Common.{◌≡◌, ◌≢◌, ◌⊎◌, ⊎_elim, ◌∙◌, ◌+◌, ◌<◌, ◌≤◌, ◌^◌, ◌++◌, List, ℕ, [], ◌∷◌, append_assoc, Bool, true, false, refl, ap, sym, subst, inl, inr, arith, length, take, Option, None, Some, Result, Ok, Err}
use Rattle.std.specs.Result.{IsErrAnd}
use Rattle.std.proofs.Math.Path.{fun_ext}
use Rattle.std.proofs.lemmas.Grind.{common_steps}
use Rattle.std.proofs.lemmas.List.{append-nil, length-append, take_all}
use Rattle.disk_model.specs.Disk.{Files, Disk, IsDisk, IsSettled, Passes, LeavesOnly, Stays}
use Rattle.disk_model.specs.Silent.{IsSilent}
use Rattle.disk_model.specs.Moments.{first_call, passes_twice, runs_on, weaker}
use Rattle.oper_core.specs.Meaning.{IsSmall, Meaning}
use Rattle.oper_core.specs.declared.bounds.Bounds.{Bounds}
use Rattle.formats.specs.Objects.{bounds_of}
use Rattle.formats.specs.Records.{payload_of, records_of}
use Rattle.formats.specs.declared.params.Params.{Params}
use Rattle.formats.specs.declared.record.Record.{Record}
use Rattle.formats.specs.declared.record.Record.TheVariants.{Command as Logged_command, Identity as Logged_identity, Checkpoint as Logged_checkpoint}
use Rattle.frame_stream.specs.Frames.{IsUnfinished, Splits, frame, frames}
use Rattle.formats.specs.Log.{IsPayload}
use Rattle.frame_stream.specs.FrameBuffer.{first_kept, taken_by}
use Rattle.explain_core.specs.History.{Member, commands_of}
use Rattle.explain_core.specs.World.{World}
use Rattle.execution.specs.Judged.{first_refused, follows}
use Rattle.op_codec.specs.AllOps.{all_meaning}
use Rattle.restart.specs.Starts.{OrAtStart, from_settled, or_weaker}
use Rattle.standby_node.specs.Attaching.{BeginsOn}
use Rattle.standby_node.specs.Feeding.{FeedsTo, FollowsPiece, HasRefused, IsAtFrameEnd, IsFed, IsLedTo, feeds_on}
use Rattle.standby_node.specs.Same.{AreAllSame, IsUnlikeIn, MirrorView, Unlike, ends_at}
use Rattle.standby_node.specs.Standby.{AreFramesOf, IsFollowing, StandbyView}
use Rattle.standby_node.specs.declared.compare_err.CompareErr.{CompareErr}
use Rattle.standby_node.specs.declared.compare_err.CompareErr.TheVariants as of_compare
use Rattle.standby_node.specs.declared.follow_err.FollowErr.{FollowErr}
use Rattle.standby_node.specs.declared.follow_err.FollowErr.TheVariants as errors
use Rattle.store_engine.specs.Engine.{EngineView, InEachImage, IsEngineRead, forced_in}
use Rattle.store_engine.specs.Engine as of_engine
use Rattle.store_engine.specs.Grouping.{ungrouped}
use Rattle.running_store.specs.Kept.Laws.{shown_attached}
use Rattle.running_store.specs.Steps.Forced.{files_shown}
use Rattle.standby_words.specs.Comparing.{ComparesNext, HasMirror, cut_of_compare}
use Rattle.standby_words.proofs.ComparingLemmas.{IsCompared, mirror_more, small_shown, unlike_input}
use Rattle.standing.specs.Standing.{FilesShow}
use Rattle.disk_model.specs.declared.machine.FileNo.{FileNo}
use Rattle.script_lines.specs.declared.read_error.ReadError.{ReadError}
use Rattle.script_lines.specs.declared.read_error.ReadError.TheVariants as of_input
use Rattle.shell_base.specs.First.{OpeningMoment, Stage, IsFirst}
use Rattle.shell_base.specs.Open.{OpensFiles}
use Rattle.shell_base.specs.Keeps.{SaysOnly}
use Rattle.shell_base.specs.Notices as notices
use Rattle.shell_base.specs.Status.{IsOfFollow, IsOfUnopened, status_of, stop_of_input, IsOfOpened}
use Rattle.shell_base.specs.declared.budget.Budget.{Budget}
use Rattle.shell_base.specs.declared.status.Status.{Status}
use Rattle.shell_base.specs.declared.status.Status.TheVariants.{Done, NotAStore, Damaged as FilesDamaged, DiskFault as DiskFailed, ReadFault as InputFailed, SayFault, Memory as OutOfMemory, RestartMemory, TooLong, BadStream, StandbyFull}
use Rattle.shell_base.specs.Store.{Between, Command, IsAttached, Opens, Says, ShowsIn, Stands, meaning_in}
use Rattle.shell_base.specs.FetchLaws.{not_a_fault}
use Rattle.shell_base.specs.HoldLaws.{each_stays, shows_stays, still_settled}
use Rattle.shell_base.specs.OpeningLaws.{opening_failed, start_refused}
use Rattle.shell_base.specs.RestartLaws.{restarted}
use Rattle.standby_words.specs.Following.{Begins, ComparesInput, FollowMoment, FollowingMoment, FollowsFrames, FollowsFront, FollowsInput, HasEnded, HasOwn, IsFollowedThrough, IsNotItsOwn, IsOfMachine, IsFollowOn, IsFollowOpen, IsInputFollowed, IsOfStream, IsSilentEnd, IsUnsaid, SaysRefusal, ShowLed, ShowsFollowed, StandbyMoment, StreamMoment, WhereFollowed, at_end, notice_of, notice_of_unlike, status_of_refusal}
use Rattle.standby_words.specs.declared.cut.Cut.{Cut}
use Rattle.standby_words.specs.declared.cut.Cut.TheVariants as cuts
use Rattle.standby_words.specs.FollowingLaws.{follows_from, no_frames}

-- records without bytes are none
no_records : {O : Type 0} (m : Meaning O) (records : List (Record O)) → 0 ≡ length (payload_of m records) → records ≡ []
no_records m [] none = refl
no_records m (Logged_command number op ∷ records) none = absurd (omega (arith, none))
no_records m (Logged_identity number x value ∷ records) none = absurd (omega (arith, none))
no_records m (Logged_checkpoint table ∷ records) none = absurd (omega (arith, none))

-- where more bytes come, the rest is longer
longer : {p : Params} {first : List (Member Command)} {bytes rest : List ℕ} {commands : List Command} (more : List ℕ) → FollowsFrames p first bytes rest commands → FollowsFrames p first (bytes ++ more) (rest ++ more) commands
longer {bytes = bytes} {rest = rest} more is = record {
  payloads = is.payloads;
  groups = is.groups;
  whole = is.whole;
  split = ap (λ (l : List ℕ). l ++ more) is.split ∙ append_assoc (frames is.payloads) rest more;
  frames_are = is.frames_are;
  fine = is.fine;
  commands_are = is.commands_are;
}

moment_longer : {p : Params} {first : List (Member Command)} {bytes : List ℕ} (more : List ℕ) {files : Files} → StreamMoment p first bytes files → StreamMoment p first (bytes ++ more) files
moment_longer more m = record { rest = m.rest ++ more; commands = m.commands; follows_to = longer more m.follows_to; stands = m.stands }

at_frame_end : {p : Params} {old : Disk} {least : ℕ} {first : List (Member Command)} {bytes : List ℕ} {files : Files} {said : List ℕ} → IsAtFrameEnd all_meaning p old least first bytes files said → StreamMoment p first bytes files
at_frame_end {p} {first = first} is = record {
  rest = is.rest;
  commands = commands_of (follows (meaning_in p) first (records_of is.groups));
  follows_to = record { payloads = is.payloads; groups = is.groups; whole = is.whole; split = is.split; frames_are = is.frames_are; fine = is.fine; commands_are = refl };
  stands = is.stands;
}

-- between two frames a standby has followed all frames before the rest
module _ {p : Params} {first : List (Member Command)} {bytes : List ℕ} {d : Disk} {s : StandbyView} (following : IsFollowing all_meaning p first bytes d s) (none_done : s.done ≡ 0) where
  none_begun : following.begun ≡ []
  none_begun = no_records (meaning_in p) following.begun (sym none_done ∙ following.in_hand.count)

  only_frames : records_of following.groups ++ following.begun ≡ records_of following.groups
  only_frames = ap (λ (l : List (Record Command)). records_of following.groups ++ l) none_begun ∙ append-nil (records_of following.groups)

  abbrev frames_followed : FollowsFrames p first bytes s.frames.kept (commands_of following.world.history)
  frames_followed = record {
    payloads = following.payloads;
    groups = following.groups;
    whole = following.passed.whole;
    split = following.passed.is;
    frames_are = following.frames_are;
    fine = subst (λ (l : List (Record Command)). first_refused (meaning_in p) first l ≡ None) only_frames following.fine;
    commands_are = ap (λ (h : List (Member Command)). commands_of h) (following.members ∙ ap (λ (l : List (Record Command)). follows (meaning_in p) first l) only_frames);
  }

  held : of_engine.Holds all_meaning p d s.engine (commands_of following.world.history)
  held = record { world = following.world; shows = following.shows; commands_are = refl }

  -- with what its engine says, where nothing waits
  all_stand : ((commands : List Command) → of_engine.Holds all_meaning p d s.engine commands → Says p d s.engine commands) → s.engine.parts.log.log.pending ≡ [] → InEachImage d (λ files. Stands p files (commands_of following.world.history))
  all_stand says quiet =
      let here = says (commands_of following.world.history) held in
      let all = (here.none_waits quiet).0 in
      subst (λ (l : List Command). InEachImage d (λ files. Stands p files l)) (take_all (forced_in s.engine) (commands_of following.world.history) (omega (arith, all))) here.images

  abbrev shows_followed : ((commands : List Command) → of_engine.Holds all_meaning p d s.engine commands → Says p d s.engine commands) → s.engine.parts.log.log.pending ≡ [] → ShowsFollowed p first bytes s.frames.kept d
  shows_followed says quiet = record {
    commands = commands_of following.world.history;
    follows_to = frames_followed;
    world = following.world;
    shows = files_shown (meaning_in p) p d s.engine.parts (ungrouped following.world) following.shows.shows;
    history_is = following.members ∙ ap (λ (l : List (Record Command)). follows (meaning_in p) first l) only_frames;
    stands = all_stand says quiet;
    settled = following.shows.shows.log.keeps.settled;
  }

-- where no byte came, no frame was passed
no_bytes : (payloads : List (List ℕ)) → 0 ≡ length (frames payloads) → payloads ≡ []
no_bytes [] none = refl
no_bytes (payload ∷ payloads) none = absurd (omega (arith, none))

no_groups : {O : Type 0} (m : Meaning O) (payloads : List (List ℕ)) (groups : List (List (Record O))) → payloads ≡ [] → AreFramesOf m payloads groups → groups ≡ []
no_groups m [] [] none are = refl
no_groups m [] (group ∷ groups) none are = absurd are
no_groups m (payload ∷ payloads) groups none are = cc none

-- so the history is the first one
module _ {p : Params} {first : List (Member Command)} {d : Disk} {s : StandbyView} (following : IsFollowing all_meaning p first [] d s) where
  none_came : 0 ≡ length (frames following.payloads) + length s.frames.kept
  none_came = ap (λ (l : List ℕ). length l) following.passed.is ∙ length-append (frames following.payloads) s.frames.kept

  none_passed : following.groups ≡ []
  none_passed = no_groups (meaning_in p) following.payloads following.groups (no_bytes following.payloads (omega (arith, none_came))) following.frames_are

  done_none : s.done ≡ 0
  done_none = ⊎_elim (λ none. none)
      (λ (whole : (payload : List ℕ) × (later : List ℕ) × IsPayload payload × (s.frames.kept ≡ frame payload ++ later) × (s.done ≤ length payload)).
      let kept = ap (λ (l : List ℕ). length l) whole.3 in absurd (omega (arith, kept, none_came)))
      following.in_hand.within

  history_begins : following.world.history ≡ first
  history_begins =
      following.members ∙ ap (λ (l : List (Record Command)). follows (meaning_in p) first l) (only_frames following done_none)
      ∙ ap (λ (groups : List (List (Record Command))). follows (meaning_in p) first (records_of groups)) none_passed

begins_standing : {p : Params} {first : List (Member Command)} {d : Disk} {s : StandbyView} (begins : Begins p first d s)
    → ((ops : List Command) → of_engine.Holds all_meaning p d s.engine ops → Says p d s.engine ops) → InEachImage d (λ files. Stands p files (commands_of first))
begins_standing {p} {first} {d} {s} begins says =
    let same : commands_of begins.following.world.history ≡ commands_of first = ap (λ (h : List (Member Command)). commands_of h) (history_begins begins.following) in
    let here = says (commands_of begins.following.world.history) (held begins.following (done_none begins.following)) in
    subst (λ (l : List Command). InEachImage d (λ files. Stands p files l)) (take_all (forced_in s.engine) (commands_of first) (let all = begins.stable in omega (arith, all)))
    (subst (λ (l : List Command). InEachImage d (λ files. Stands p files (take (forced_in s.engine) l))) same here.images)

-- The standby that was opened begins with the history that a restart makes of the files: as many of its commands are stable as it
-- accepted, so they are those of the files.
pub first_begins : {budget : Budget} {p : Params} {old new : Disk} {s : StandbyView} {commands : List Command} (first : Stage) (is : IsFirst budget p commands old first) → IsFollowing all_meaning p (restarted is).history [] new s → BeginsOn all_meaning p new commands s
    → ((ops : List Command) → of_engine.Holds all_meaning p new s.engine ops → Says p new s.engine ops) → Begins p first.world.history new s
first_begins {budget} {p} {old} {new} {s} {commands} first is following begins says =
    let world : (restarted is).history ≡ first.world.history = ap (λ (w : World Command). w.history) (sym is.world_is) in
    let mine = (says (commands_of following.world.history) (held following (done_none following))).accepted in
    let other = (says (commands_of begins.following.world.history) (held begins.following (done_none begins.following))).accepted in
    let here = ap (λ (h : List (Member Command)). length (commands_of h)) (history_begins following ∙ world) in
    let there = ap (λ (h : List (Member Command)). length (commands_of h)) (history_begins begins.following) in
    let all = ap (λ (l : List Command). length l) begins.commands_are in
    record {
      following = subst (λ (h : List (Member Command)). IsFollowing all_meaning p h [] new s) world following;
      stable = let stable = begins.stable in omega (arith, mine, other, here, there, all, stable);
    }

-- An input of which so many bytes were followed: the standby stands behind them.
pub record IsTakingIn (told : Type 0) (left_first left : List ℕ) (start now : Disk) (before here : StandbyView) : Type 0 where
  pub time : Passes start now
  pub quiet : start.tells_files → now.said ≡ start.said
  pub unbroken : here.engine.broken ≡ false
  pub fine : here.stopped ≡ None
  pub attached : IsAttached start before.engine → IsAttached now here.engine
  pub bytes : List ℕ
  pub taken : told → left_first ≡ bytes ++ left
  pub count : taken_by here.frames ≡ length bytes
  pub few : length bytes ≤ 2 ^ 40
  pub following : (p : Params) (first : List (Member Command)) → Begins p first start before → FollowsFront p first bytes now here
  pub images : start.tells_moments → (p : Params) (first : List (Member Command)) → Begins p first start before → LeavesOnly start now (IsSilent (StreamMoment p first bytes) start.said)
  pub leads : (p : Params) (w : World Command) → ShowsIn p start before.engine w → IsLedTo all_meaning p now here.engine w

-- the error of a step is that of the whole
error_is : {T : Type 0} (result : Result T Cut) (cut : Cut) → IsErrAnd result (λ e. e ≡ cut) → result ≡ Err cut
error_is (Ok value) cut is = absurd is
error_is (Err e) cut is = ap (λ (x : Cut). Err x) is

-- what a reading leaves of a standby to which nothing came yet
following_read : {p : Params} {first : List (Member Command)} {d mid : Disk} {s here : StandbyView} {failed : Type 0} → IsEngineRead all_meaning d mid s.engine here.engine failed → (failed → ⊥) → here ≡ record s { engine = here.engine } → IsFollowing all_meaning p first [] d s → IsFollowing all_meaning p first [] mid here
following_read {p} {first} {d} {mid} {s} {here} read fine rest f = subst (λ (v : StandbyView). IsFollowing all_meaning p first [] mid v) (sym rest) (record {
  payloads = f.payloads;
  groups = f.groups;
  begun = f.begun;
  passed = f.passed;
  frames_are = f.frames_are;
  in_hand = f.in_hand;
  world = f.world;
  shows = ⊎_elim (λ failed. absurd (fine failed)) (λ there. there) (read.shows p f.world f.shows);
  fine = f.fine;
  members = f.members;
  no_checkpoint = f.no_checkpoint;
  forced = f.forced;
})

-- meanwhile the files stand for the commands
reading_images : {d mid : Disk} {s : StandbyView} → IsDisk d → Stays d mid → ((p : Params) (commands : List Command) → of_engine.Holds all_meaning p d s.engine commands → Says p d s.engine commands)
    → d.tells_moments → (p : Params) (first : List (Member Command)) → Begins p first d s → LeavesOnly d mid (IsSilent (StreamMoment p first []) d.said)
reading_images {d} {mid} {s} lawful stays says telling p first begins = first_call d mid (IsSilent (StreamMoment p first []) d.said) telling stays.time (λ files said left.
    let from = stays.crash telling files said left in
    let before = from.0.1 in
    record {
      silent = from.1;
      holds = record { rest = []; commands = commands_of first; follows_to = no_frames p first []; stands = subst (λ (f : Files). Stands p f (commands_of first)) (sym from.0.2) ((begins_standing begins (says p)).1 telling from.0.0 d.said before) };
    })

none_unfinished : (kept : List ℕ) → length kept ≡ 0 → IsUnfinished kept
none_unfinished kept none payload later is stands = let long = ap (λ (l : List ℕ). length l) stands in omega (arith, long, none)

-- the standby stands at the beginning of the input, once what the store has is read, where that is asked
pub starts_taking : {told failed : Type 0} (left : List ℕ) (d mid : Disk) (s here : StandbyView) → IsDisk d → s.stopped ≡ None → taken_by s.frames ≡ 0
    → ((p : Params) (commands : List Command) → of_engine.Holds all_meaning p d s.engine commands → Says p d s.engine commands) → IsEngineRead all_meaning d mid s.engine here.engine failed → (failed → ⊥) → here ≡ record s { engine = here.engine }
    → (IsAttached d s.engine → IsAttached mid here.engine) → IsTakingIn told left left d mid s here
starts_taking left d mid s here lawful fine fresh says read done rest attached = record {
  time = read.kept.time;
  quiet = λ told. read.kept.said told;
  unbroken = not_a_fault here.engine.broken (λ broken. done (read.broken.0 broken));
  fine = ap (λ (v : StandbyView). v.stopped) rest ∙ fine;
  attached = attached;
  bytes = [];
  taken = λ told. refl;
  count = ap (λ (v : StandbyView). taken_by v.frames) rest ∙ fresh;
  few = omega arith;
  following = λ p first begins. (following_read read done rest begins.following, none_unfinished here.frames.kept (omega (arith, ap (λ (v : StandbyView). taken_by v.frames) rest, fresh)));
  images = reading_images lawful read.kept says;
  leads = λ p w shows. (w, ⊎_elim (λ failed. absurd (done failed)) (λ there. there) (read.shows p w shows), FeedsTo.Nothing);
}

-- and nothing was compared yet
pub starts_comparing : {told failed : Type 0} (same : Bool) (left : List ℕ) (d mid : Disk) (s here : StandbyView) (mirror : Option MirrorView) → IsDisk d → s.stopped ≡ None → taken_by s.frames ≡ 0
    → ((p : Params) (commands : List Command) → of_engine.Holds all_meaning p d s.engine commands → Says p d s.engine commands) → IsEngineRead all_meaning d mid s.engine here.engine failed → (failed → ⊥) → here ≡ record s { engine = here.engine }
    → (IsAttached d s.engine → IsAttached mid here.engine) → HasMirror same d s.engine [] mirror → (it : IsTakingIn told left left d mid s here) × HasMirror same d s.engine it.bytes mirror
unfolding starts_taking
starts_comparing same left d mid s here mirror lawful fine fresh says read done rest attached has = (starts_taking left d mid s here lawful fine fresh says read done rest attached, has)

-- it could not be read
pub not_mirrored : {told : Type 0} (same : Bool) (left : List ℕ) (d mid : Disk) (s here : StandbyView) (cause : FollowErr) (result : Result ℕ Cut) → IsErrAnd result (λ cut. cut ≡ cuts.Refused cause) → IsDisk d
    → ((p : Params) (commands : List Command) → of_engine.Holds all_meaning p d s.engine commands → Says p d s.engine commands) → Stays d mid → (d.tells_files → IsAttached d s.engine → IsOfMachine cause) → IsInputFollowed same told left left d mid s here result
not_mirrored {told} same left d mid s here cause result is lawful says stays machine = subst (λ (r : Result ℕ Cut). IsInputFollowed same told left left d mid s here r) (sym (error_is result (cuts.Refused cause) is)) (record {
  bytes = [];
  taken = λ told. refl;
  few = omega arith;
  front = [];
  piece = [];
  split = refl;
  follows_it = λ p first begins. inr (machine begins.following.shows.shows.told (shown_attached all_meaning p d s.engine.parts (ungrouped begins.following.world) begins.following.shows.shows));
  images = reading_images lawful stays says;
  leads = λ p w shows. tt;
  compares = λ p w shows. inr (machine shows.shows.told (shown_attached all_meaning p d s.engine.parts (ungrouped w) shows.shows));
})

-- no byte is kept where there is no place of one, and some where there is
none_kept : (passed : ℕ) (kept : List ℕ) → first_kept passed kept ≡ None → kept ≡ []
none_kept passed [] none = refl
none_kept passed (byte ∷ kept) none = cc none

some_kept : (passed : ℕ) (kept : List ℕ) (place : ℕ) → first_kept passed kept ≡ Some place → (kept ≢ []) × (passed ≡ place)
some_kept passed [] place some = cc some
some_kept passed (byte ∷ kept) place some = (λ none. cc none, cc some)

module _ {told : Type 0} (same : Bool) {left_first left : List ℕ} {start now : Disk} {before here : StandbyView} (so_far : IsTakingIn told left_first left start now before here) where
  -- the input failed, or memory did
  pub stops_so : (error : ReadError) (result : Result ℕ Cut) → IsErrAnd result (λ cut. cut ≡ cuts.Unread error) → ((p : Params) (w : World Command) → ShowsIn p start before.engine w → HasOwn same p w so_far.bytes ⊎ (error ≡ of_input.Memory)) → IsInputFollowed same told left_first left start now before here result
  stops_so error result is own = subst (λ (r : Result ℕ Cut). IsInputFollowed same told left_first left start now before here r) (sym (error_is result (cuts.Unread error) is)) (record {
    bytes = so_far.bytes;
    taken = so_far.taken;
    few = so_far.few;
    front = so_far.bytes;
    piece = [];
    split = sym (append-nil so_far.bytes);
    follows_it = λ p first begins. tt;
    images = so_far.images;
    leads = so_far.leads;
    compares = own;
  })

  -- a piece more was taken
  bytes_taken : (piece later : List ℕ) → (told → left ≡ piece ++ later) → told → left_first ≡ (so_far.bytes ++ piece) ++ later
  bytes_taken piece later taken tells = so_far.taken tells ∙ ap (λ (l : List ℕ). so_far.bytes ++ l) (taken tells) ∙ sym (append_assoc so_far.bytes piece later)

  few_more : (piece : List ℕ) → taken_by here.frames + length piece ≤ 2 ^ 40 → length (so_far.bytes ++ piece) ≤ 2 ^ 40
  few_more piece few = let long = length-append so_far.bytes piece in let count = so_far.count in omega (arith, long, count, few)

  images_more : {new : Disk} {after : StandbyView} {piece : List ℕ} {answer : Result ℕ FollowErr} → IsFed all_meaning now new here after piece answer → start.tells_moments → (p : Params) (first : List (Member Command)) → Begins p first start before
      → LeavesOnly start new (IsSilent (StreamMoment p first (so_far.bytes ++ piece)) start.said)
  images_more {new} {after} {piece} fed telling p first begins =
      runs_on start now new (IsSilent (StreamMoment p first (so_far.bytes ++ piece)) start.said)
      (weaker start now (IsSilent (StreamMoment p first so_far.bytes) start.said) (IsSilent (StreamMoment p first (so_far.bytes ++ piece)) start.said) (so_far.images telling p first begins) (λ files said is. record { silent = is.silent; holds = moment_longer piece is.holds }))
      (weaker now new (IsAtFrameEnd all_meaning p now (forced_in here.engine) first (so_far.bytes ++ piece)) (IsSilent (StreamMoment p first (so_far.bytes ++ piece)) start.said)
      (fed.images (so_far.time.moments_told.0 telling) p first so_far.bytes (so_far.following p first begins).0) (λ files said is. record { silent = is.quiet ∙ so_far.quiet begins.following.shows.shows.told; holds = at_frame_end is }))

  -- the standby refused it, or failed
  refusal_of : (p : Params) (first : List (Member Command)) (bytes piece : List ℕ) (new : Disk) (after : StandbyView) (cause : FollowErr) → FollowsPiece all_meaning p first bytes piece new here after (Err cause)
      → ((following : IsFollowing all_meaning p first (bytes ++ piece) new after) × HasRefused (meaning_in p) following.world.history after cause) ⊎ IsOfMachine cause
  refusal_of p first bytes piece new after errors.DiskFault is = inr tt
  refusal_of p first bytes piece new after errors.Memory is = inr tt
  refusal_of p first bytes piece new after cause is = inl (is.following, is.refused)

  pub refused_so : {new : Disk} {after : StandbyView} {piece : List ℕ} (later : List ℕ) (cause : FollowErr) (result : Result ℕ Cut) → IsErrAnd result (λ cut. cut ≡ cuts.Refused cause) → IsFed all_meaning now new here after piece (Err cause) → (told → left ≡ piece ++ later)
      → taken_by here.frames + length piece ≤ 2 ^ 40 → ((p : Params) (w : World Command) → ShowsIn p start before.engine w → HasOwn same p w (so_far.bytes ++ piece)) → IsInputFollowed same told left_first later start new before after result
  refused_so {new} {after} {piece} later cause result is fed taken few own = subst (λ (r : Result ℕ Cut). IsInputFollowed same told left_first later start new before after r) (sym (error_is result (cuts.Refused cause) is)) (record {
    bytes = so_far.bytes ++ piece;
    taken = bytes_taken piece later taken;
    few = few_more piece few;
    front = so_far.bytes;
    piece = piece;
    split = refl;
    follows_it = λ p first begins. refusal_of p first so_far.bytes piece new after cause (fed.follows_it p first so_far.bytes (so_far.following p first begins).0);
    images = images_more fed;
    leads = λ p w shows. tt;
    compares = λ p w shows. inl (own p w shows);
  })

  -- a record of the piece is not the store's own, or memory ran out
  unlike_front : (p : Params) (first : List (Member Command)) (piece : List ℕ) → FollowsFront p first so_far.bytes now here → (ended : Type 0) (e : CompareErr) → FollowsInput p first so_far.bytes (so_far.bytes ++ piece) ended now here (Err (cut_of_compare e))
  unlike_front p first piece following ended (of_compare.Differs n) = following
  unlike_front p first piece following ended (of_compare.Unknown n) = following
  unlike_front p first piece following ended of_compare.Memory = tt

  still_leads : {P : Type 0} (e : CompareErr) → P → WhereFollowed (Err (cut_of_compare e)) P
  still_leads (of_compare.Differs n) it = it
  still_leads (of_compare.Unknown n) it = it
  still_leads of_compare.Memory it = it

  pub unlike_so : IsCompared → (piece later : List ℕ) (mirror after : Option MirrorView) (e : CompareErr) (result : Result ℕ Cut) → IsErrAnd result (λ cut. cut ≡ cut_of_compare e) → HasMirror same start before.engine so_far.bytes mirror → ComparesNext mirror after piece (Err e)
      → (told → left ≡ piece ++ later) → taken_by here.frames + length piece ≤ 2 ^ 40 → IsInputFollowed same told left_first later start now before here result
  unlike_so law piece later mirror after e result is has next taken few = subst (λ (r : Result ℕ Cut). IsInputFollowed same told left_first later start now before here r) (sym (error_is result (cut_of_compare e) is)) (record {
    bytes = so_far.bytes ++ piece;
    taken = bytes_taken piece later taken;
    few = few_more piece few;
    front = so_far.bytes;
    piece = piece;
    split = refl;
    follows_it = λ p first begins. unlike_front p first piece (so_far.following p first begins) (HasEnded told left_first later) e;
    images = λ telling p first begins.
        weaker start now (IsSilent (StreamMoment p first so_far.bytes) start.said) (IsSilent (StreamMoment p first (so_far.bytes ++ piece)) start.said) (so_far.images telling p first begins) (λ files said is. record { silent = is.silent; holds = moment_longer piece is.holds });
    leads = λ p w shows. still_leads e (so_far.leads p w shows);
    compares = unlike_input law same start before.engine so_far.bytes piece mirror after e has next;
  })

  -- it was followed
  module _ {new : Disk} {after : StandbyView} {piece : List ℕ} (later : List ℕ) (n : ℕ) (lawful : IsDisk new) (fed : IsFed all_meaning now new here after piece (Ok n)) (taken : told → left ≡ piece ++ later) (few : taken_by here.frames + length piece ≤ 2 ^ 40) where
    pub takes_more : IsTakingIn told left_first later start new before after
    takes_more = record {
      time = passes_twice start now new lawful so_far.time fed.time;
      quiet = λ tells. fed.quiet (so_far.time.files_told.0 tells) ∙ so_far.quiet tells;
      unbroken = not_a_fault after.engine.broken (λ broken. cc (fed.broken.0 broken));
      fine = fed.stopped;
      attached = λ attached. ⊎_elim (λ failed. cc failed) (λ stays. stays (so_far.attached attached)) fed.attached;
      bytes = so_far.bytes ++ piece;
      taken = bytes_taken piece later taken;
      count =
          let long = length-append so_far.bytes piece in
          let count = so_far.count in
          let all : taken_by after.frames ≡ taken_by here.frames + length piece = ⊎_elim (λ none. cc (none.1)) (λ all. all) fed.taken in
          omega (arith, all, long, count);
      few = few_more piece few;
      following = λ p first begins. let its = fed.follows_it p first so_far.bytes (so_far.following p first begins).0 in (its.following, its.between.unfinished);
      images = images_more fed;
      leads = λ p w shows.
          let was = so_far.leads p w shows in
          let on = fed.leads p was.0 was.1 in
          (on.0, on.1, feeds_on (meaning_in p) w was.0 on.0 was.2 on.2);
    }

    -- and it was the same
    pub compares_more : (mirror after_it : Option MirrorView) → HasMirror same start before.engine so_far.bytes mirror → ComparesNext mirror after_it piece (Ok tt) → (it : IsTakingIn told left_first later start new before after) × HasMirror same start before.engine it.bytes after_it
    unfolding takes_more
    compares_more mirror after_it has next = (takes_more, mirror_more same start before.engine so_far.bytes piece mirror after_it has next)

    module _ (own : (p : Params) (w : World Command) → ShowsIn p start before.engine w → HasOwn same p w (so_far.bytes ++ piece)) (ended : told → later ≡ []) (short : taken_by here.frames + length piece < 2 ^ 40) (says : (p : Params) (commands : List Command) → of_engine.Holds all_meaning p new after.engine commands → Says p new after.engine commands) where
      has_ended : HasEnded told left_first later
      has_ended tells = (
        ended tells,
        let whole = ap (λ (l : List ℕ). length l) (bytes_taken piece later taken tells) in
            let parts = length-append (so_far.bytes ++ piece) later in
            let front = length-append so_far.bytes piece in
            let none = ap (λ (l : List ℕ). length l) (ended tells) in
            let count = so_far.count in
            omega (arith, whole, parts, front, none, count, short),
      )

      -- to its end, between two frames
      ends_whole : first_kept after.frames.passed after.frames.kept ≡ None → IsInputFollowed same told left_first later start new before after (Ok n)
      ends_whole none = record {
        bytes = so_far.bytes ++ piece;
        taken = bytes_taken piece later taken;
        few = few_more piece few;
        front = so_far.bytes;
        piece = piece;
        split = refl;
        follows_it = λ p first begins.
            let its = fed.follows_it p first so_far.bytes (so_far.following p first begins).0 in
            let kept = none_kept after.frames.passed after.frames.kept none in
            let whole = subst (λ (rest : List ℕ). (all : ShowsFollowed p first (so_far.bytes ++ piece) rest new) × (n ≡ length all.commands)) kept (shows_followed its.following its.between.none_done (says p) its.between.none_waits, its.count) in
            (has_ended, whole.0, whole.1);
        images = images_more fed;
        leads = takes_more.leads;
        compares = own;
      }

      -- or within one
      ends_short : (place : ℕ) → first_kept after.frames.passed after.frames.kept ≡ Some place → IsInputFollowed same told left_first later start new before after (Err (cuts.Short place))
      ends_short place some = record {
        bytes = so_far.bytes ++ piece;
        taken = bytes_taken piece later taken;
        few = few_more piece few;
        front = so_far.bytes;
        piece = piece;
        split = refl;
        follows_it = λ p first begins.
            let its = fed.follows_it p first so_far.bytes (so_far.following p first begins).0 in
            let kept = some_kept after.frames.passed after.frames.kept place some in
            let long = ap (λ (l : List ℕ). length l) its.following.passed.is ∙ length-append (frames its.following.payloads) after.frames.kept in
            let passed = its.following.passed.passed in (
              has_ended,
              after.frames.kept,
              shows_followed its.following its.between.none_done (says p) its.between.none_waits,
              kept.0,
              its.between.unfinished,
              its.between.fine,
              omega (arith, long, passed, kept.1),
            );
        images = images_more fed;
        leads = takes_more.leads;
        compares = own;
      }

      pub ends_so : (result : Result ℕ Cut) → result ≡ at_end (first_kept after.frames.passed after.frames.kept) n → IsInputFollowed same told left_first later start new before after result
      ends_so result is = subst (λ (r : Result ℕ Cut). IsInputFollowed same told left_first later start new before after r) (sym is) (by_place (first_kept after.frames.passed after.frames.kept) refl)
        where
          by_place : (place : Option ℕ) → first_kept after.frames.passed after.frames.kept ≡ place → IsInputFollowed same told left_first later start new before after (at_end place n)
          by_place None none = ends_whole none
          by_place (Some place) some = ends_short place some

-- what a buffer holds whose front was written over, as far as it was
pub written_front : (n len : ℕ) (new rest : List ℕ) → len ≡ length new → n ≤ len → take n (take len (new ++ rest)) ≡ take n new
written_front n len new rest same within = grind (arith, common_steps)

pub written_length : (len : ℕ) (new rest : List ℕ) → len ≡ length new → length (take len (new ++ rest)) ≡ len
written_length len new rest same = grind (arith, common_steps)

-- ---- what is said at the end

-- an ending that is one of these is no other
is_not : {A B : Status} {status : Status} → (A ≡ B → ⊥) → (OutOfMemory ≡ B → ⊥) → (SayFault ≡ B → ⊥) → (status ≡ A) ⊎ ((status ≡ OutOfMemory) ⊎ (status ≡ SayFault)) → status ≡ B → ⊥
is_not another memory output ends is = ⊎_elim (λ e. another (sym e ∙ is)) (λ other. ⊎_elim (λ e. memory (sym e ∙ is)) (λ e. output (sym e ∙ is)) other) ends

-- what was said where the line was not missed
line_said : {P : Type 0} {A status : Status} → (OutOfMemory ≡ A → ⊥) → (SayFault ≡ A → ⊥) → (status ≡ OutOfMemory) ⊎ ((status ≡ SayFault) ⊎ P) → status ≡ A → P
line_said memory output said is = ⊎_elim (λ e. absurd (memory (sym e ∙ is))) (λ other. ⊎_elim (λ e. absurd (output (sym e ∙ is))) (λ p. p) other) said

-- a standby follows on while something is said
abbrev following_said : {p : Params} {first : List (Member Command)} {bytes : List ℕ} {d new : Disk} {s : StandbyView} → SaysOnly d new → IsFollowing all_meaning p first bytes d s → IsFollowing all_meaning p first bytes new s
following_said says following = record {
  payloads = following.payloads;
  groups = following.groups;
  begun = following.begun;
  passed = following.passed;
  frames_are = following.frames_are;
  in_hand = following.in_hand;
  world = following.world;
  shows = shows_stays says following.shows;
  fine = following.fine;
  members = following.members;
  no_checkpoint = following.no_checkpoint;
  forced = following.forced;
}

-- what was followed is still shown
still_followed : {p : Params} {first : List (Member Command)} {bytes rest : List ℕ} {d new : Disk} → SaysOnly d new → d.tells_files → (all : ShowsFollowed p first bytes rest d) → (other : ShowsFollowed p first bytes rest new) × (other.commands ≡ all.commands)
still_followed {p} says told all = (
  record {
    commands = all.commands;
    follows_to = all.follows_to;
    world = all.world;
    shows = subst (λ (f : Files). FilesShow (meaning_in p) p f all.world) (sym (says.reads told)) all.shows;
    history_is = all.history_is;
    stands = each_stays {P = λ files. Stands p files all.commands} says told all.stands;
    settled = still_settled says told all.settled;
  },
  refl,
)

-- an engine that was led to a world shows it in its files
shown_led : {p : Params} {w : World Command} {d : Disk} {engine : EngineView} → IsLedTo all_meaning p d engine w → ShowLed p w d.reads
shown_led {p} {d = d} {engine = engine} led = (led.0, files_shown (meaning_in p) p d engine.parts (ungrouped led.0) led.1.shows, led.2)

-- and so do files that are the same behind something said
still_led : {p : Params} {w : World Command} {d new : Disk} {engine : EngineView} → SaysOnly d new → IsLedTo all_meaning p d engine w → ShowLed p w new.reads
still_led {p} {w} says led = subst (λ (f : Files). ShowLed p w f) (sym (says.reads led.1.shows.told)) (shown_led led)

-- a stream that was refused was not followed through
not_through : (cause : FollowErr) → IsFollowedThrough (status_of_refusal cause) → ⊥
not_through errors.DiskFault through = through
not_through cause through = through

refused_through : {status : Status} (cause : FollowErr) → IsUnsaid status ⊎ (status ≡ status_of_refusal cause) → IsFollowedThrough status → ⊥
refused_through cause ends is = ⊎_elim (λ unsaid. ⊎_elim (λ e. subst IsFollowedThrough e is) (λ e. subst IsFollowedThrough e is) unsaid) (λ e. not_through cause (subst IsFollowedThrough e is)) ends

stream_cause : (cause : FollowErr) → status_of_refusal cause ≡ BadStream → IsOfStream cause
stream_cause (errors.BadFrame place) is = tt
stream_cause (errors.Gap expected got) is = tt
stream_cause (errors.Differs number) is = tt
stream_cause cause is = cc is

stream_refused : {P : Type 0} (cause : FollowErr) → IsOfStream cause → P ⊎ IsOfMachine cause → P
stream_refused (errors.BadFrame place) of is = ⊎_elim (λ p. p) (λ failed. absurd failed) is
stream_refused (errors.Gap expected got) of is = ⊎_elim (λ p. p) (λ failed. absurd failed) is
stream_refused (errors.Differs number) of is = ⊎_elim (λ p. p) (λ failed. absurd failed) is
stream_refused cause of is = absurd of

full_cause : (cause : FollowErr) → status_of_refusal cause ≡ StandbyFull → (used : ℕ) × (need : ℕ) × (limit : ℕ) × (cause ≡ errors.LogFull used need limit)
full_cause (errors.LogFull used need limit) is = (used, need, limit, refl)
full_cause cause is = cc is

-- a refusal that was said ends with its status
pub refusal_is : {A status : Status} (cause : FollowErr) → (OutOfMemory ≡ A → ⊥) → (SayFault ≡ A → ⊥) → IsUnsaid status ⊎ (status ≡ status_of_refusal cause) → status ≡ A → status_of_refusal cause ≡ A
refusal_is cause memory output ends is = ⊎_elim (λ unsaid. absurd (⊎_elim (λ e. memory (sym e ∙ is)) (λ e. output (sym e ∙ is)) unsaid)) (λ e. sym e ∙ is) ends

-- and what ends it silently leaves the machine as it is
pub refused_silent : {T : Type 0} {status : Status} {was is : T} (cause : FollowErr) → IsUnsaid status ⊎ (status ≡ status_of_refusal cause) → ((status ≡ DiskFailed) ⊎ (status ≡ OutOfMemory) → is ≡ was) → IsSilentEnd status → is ≡ was
refused_silent {status = status} {was = was} {is = is} cause ends same silent = ⊎_elim
    (λ unsaid. ⊎_elim (λ e. same (inr e)) (λ (e : status ≡ SayFault). absurd (subst IsSilentEnd e silent)) unsaid)
    (λ (e : status ≡ status_of_refusal cause). by_cause cause e (subst IsSilentEnd e silent))
    ends
  where
    by_cause : (cause : FollowErr) → status ≡ status_of_refusal cause → IsSilentEnd (status_of_refusal cause) → is ≡ was
    by_cause errors.DiskFault e loud = same (inl e)
    by_cause errors.Memory e loud = same (inr e)
    by_cause (errors.Stopped place) e loud = same (inr e)
    by_cause cause e loud = absurd loud

pub damage_cause : (cause : FollowErr) → status_of_refusal cause ≡ FilesDamaged → (file : FileNo) × (place : ℕ) × (cause ≡ errors.Damaged file place)
damage_cause (errors.Damaged file place) is = (file, place, refl)
damage_cause cause is = cc is

pub not_done : (cause : FollowErr) → status_of_refusal cause ≡ Done → ⊥
not_done errors.DiskFault is = cc is
not_done cause is = cc is

found_cause : (cause : FollowErr) → IsOfOpened (status_of_refusal cause)
found_cause errors.DiskFault = tt
found_cause cause = tt

-- an open store stays one
pub refusal_found : {status : Status} (cause : FollowErr) → IsUnsaid status ⊎ (status ≡ status_of_refusal cause) → IsOfOpened status
refusal_found cause ends = ⊎_elim (λ unsaid. ⊎_elim (λ e. subst IsOfOpened (sym e) tt) (λ e. subst IsOfOpened (sym e) tt) unsaid) (λ e. subst IsOfOpened (sym e) (found_cause cause)) ends

-- an ending at which something was said is not silent
said_end : {A status : Status} → (status ≡ A) ⊎ ((status ≡ OutOfMemory) ⊎ (status ≡ SayFault)) → (IsSilentEnd A → ⊥) → IsSilentEnd status → status ≡ OutOfMemory
said_end {A} {status} ends loud silent = ⊎_elim (λ e. absurd (loud (subst IsSilentEnd e silent))) (λ other. ⊎_elim (λ e. e) (λ e. absurd (subst IsSilentEnd e silent)) other) ends

-- what is said behind calls that said nothing changes no image
said_images : {old mid new : Disk} → IsDisk mid → Passes old mid → SaysOnly mid new → (p : Params) (first : List (Member Command)) (bytes : List ℕ) → LeavesOnly old mid (IsSilent (StreamMoment p first bytes) old.said) → IsSettled mid → old.tells_moments → LeavesOnly old new (FollowMoment p first bytes old new)
said_images {old} {mid} {new} lawful time says p first bytes images settled telling =
    let told_mid = time.moments_told.0 telling in
    runs_on old mid new (FollowMoment p first bytes old new)
    (weaker old mid (IsSilent (StreamMoment p first bytes) old.said) (FollowMoment p first bytes old new) images (λ files said is. (is.holds, inl is.silent)))
    (first_call mid new (FollowMoment p first bytes old new) told_mid says.time (λ files said left.
    let from = (says.crash told_mid files said left).0 in
    let there = images.each from.0 mid.said (lawful.among old.clock mid.clock from.0 mid.said time.later (omega arith) from.1) in
    let same : from.0 ≡ mid.reads = fun_ext (λ (n : FileNo). settled n told_mid from.0 mid.said from.1) in
    (subst (StreamMoment p first bytes) (sym from.2) there.holds, inr (from.2 ∙ same ∙ sym (says.reads (lawful.telling told_mid))))))

-- a record that is not the store's own comes behind all that was compared and followed
abbrev pub IsLater : Type 0
IsLater = (b : Bounds) (base : ℕ) (codes : List (List ℕ)) (bytes more : List ℕ) (payloads : List (List ℕ)) (groups : List (List (Record Command))) (kept : List ℕ) (why : Unlike) → IsSmall b → AreAllSame base (all_meaning b) codes bytes
    → Splits bytes payloads kept → AreFramesOf (all_meaning b) payloads groups → (it : IsUnlikeIn base (all_meaning b) codes (bytes ++ more) why) → length bytes < ends_at base (all_meaning b) it

unlike_later : {d : Disk} {s : StandbyView} → IsLater → (p : Params) (first : List (Member Command)) (w : World Command) (front piece bytes : List ℕ) (why : Unlike) → bytes ≡ front ++ piece → IsSmall (bounds_of p) → FollowsFront p first front d s → (it : IsNotItsOwn p w front bytes why)
    → length front < ends_at w.base (meaning_in p) it.unlike
unlike_later {s = s} law p first w front piece bytes why split small follows it =
    let f = follows.0 in
    subst (λ (l : List ℕ). (unlike : IsUnlikeIn w.base (meaning_in p) it.codes l why) → length front < ends_at w.base (meaning_in p) unlike) (sym split)
    (λ unlike. law (bounds_of p) w.base it.codes front piece f.payloads f.groups s.frames.kept why small it.same (record { is = f.passed.is; whole = f.passed.whole; unfinished = follows.1 }) f.frames_are unlike)
    it.unlike

-- so the stream was not followed through
unlike_through : {status : Status} → (status ≡ BadStream) ⊎ ((status ≡ OutOfMemory) ⊎ (status ≡ SayFault)) → IsFollowedThrough status → ⊥
unlike_through ends is = ⊎_elim (λ e. subst IsFollowedThrough e is) (λ rest. ⊎_elim (λ e. subst IsFollowedThrough e is) (λ e. subst IsFollowedThrough e is) rest) ends

-- where it was refused: what failed says nothing
refused_images : {old mid new : Disk} {after : StandbyView} → IsDisk mid → Passes old mid → SaysOnly mid new → (p : Params) (first : List (Member Command)) (bytes : List ℕ) (cause : FollowErr) → LeavesOnly old mid (IsSilent (StreamMoment p first bytes) old.said)
    → ((following : IsFollowing all_meaning p first bytes mid after) × HasRefused (meaning_in p) following.world.history after cause) ⊎ IsOfMachine cause → (IsOfMachine cause → new ≡ mid) → old.tells_moments → LeavesOnly old new (FollowMoment p first bytes old new)
refused_images {old} {mid} {new} {after} lawful time says p first bytes cause images its failed telling = ⊎_elim
    (λ (refused : (following : IsFollowing all_meaning p first bytes mid after) × HasRefused (meaning_in p) following.world.history after cause). said_images lawful time says p first bytes images refused.0.shows.shows.log.keeps.settled telling)
    (λ (failure : IsOfMachine cause). subst (λ (d : Disk). LeavesOnly old d (FollowMoment p first bytes old d)) (sym (failed failure))
    (weaker old mid (IsSilent (StreamMoment p first bytes) old.said) (FollowMoment p first bytes old mid) images (λ files said is. (is.holds, inl is.silent))))
    its

-- A call on an open standby, by how the following of the input ended.
module _ {told : Type 0} {same : Bool} {left rest : List ℕ} {old mid new : Disk} {before after : StandbyView} {status : Status} (lawful : IsDisk mid) (time : Passes old mid) (quiet : old.tells_files → mid.said ≡ old.said) (says : SaysOnly mid new) where
  pub open_done : (n : ℕ) → IsInputFollowed same told left rest old mid before after (Ok n) → (status ≡ Done) ⊎ ((status ≡ OutOfMemory) ⊎ (status ≡ SayFault))
      → (mid.tells_files → (status ≡ OutOfMemory) ⊎ ((status ≡ SayFault) ⊎ (new.said ≡ mid.said ++ notices.followed n))) → (status ≡ OutOfMemory → new.said ≡ mid.said) → IsFollowOpen same told left rest old new before status
  open_done n input ends said silent = record {
    bytes = input.bytes;
    taken = input.taken;
    few = input.few;
    follows_it = λ p first w begins shows.
        let its = input.follows_it p first begins in
        let tells = begins.following.shows.shows.told in
        let told_mid = time.files_told.0 tells in
        let still = still_followed says told_mid its.1 in
        record {
          done = λ is. (
            its.0,
            record {
              all = still.0;
              said = line_said (λ e. cc e) (λ e. cc e) (said told_mid) is ∙ ap (λ (l : List ℕ). l ++ notices.followed n) (quiet tells)
                  ∙ ap (λ (k : ℕ). old.said ++ notices.followed k) (its.2 ∙ ap (λ (l : List Command). length l) (sym still.1));
            },
          );
          stream = λ is. absurd (is_not (λ e. cc e) (λ e. cc e) (λ e. cc e) ends is);
          full = λ is. absurd (is_not (λ e. cc e) (λ e. cc e) (λ e. cc e) ends is);
          quiet = λ is. silent (said_end ends (λ none. none) is) ∙ quiet tells;
          its_own = λ is. input.compares p w shows;
        };
    images = λ telling p first begins. said_images lawful time says p first input.bytes (input.images telling p first begins) (input.follows_it p first begins).1.settled telling;
    leads = λ p w shows. record { through = λ is. still_led says (input.leads p w shows); stream = λ is. absurd (is_not (λ e. cc e) (λ e. cc e) (λ e. cc e) ends is) };
  }

  pub open_short : (place : ℕ) → IsInputFollowed same told left rest old mid before after (Err (cuts.Short place)) → (status ≡ BadStream) ⊎ ((status ≡ OutOfMemory) ⊎ (status ≡ SayFault))
      → (mid.tells_files → (status ≡ OutOfMemory) ⊎ ((status ≡ SayFault) ⊎ (new.said ≡ mid.said ++ notices.short place))) → (status ≡ OutOfMemory → new.said ≡ mid.said) → IsFollowOpen same told left rest old new before status
  open_short place input ends said silent = record {
    bytes = input.bytes;
    taken = input.taken;
    few = input.few;
    follows_it = λ p first w begins shows.
        let its = input.follows_it p first begins in
        let tells = begins.following.shows.shows.told in
        let told_mid = time.files_told.0 tells in
        record {
          done = λ is. absurd (is_not (λ e. cc e) (λ e. cc e) (λ e. cc e) ends is);
          stream = λ is. inl (
            input.compares p w shows,
            inl (
              its.0,
              record {
                rest = its.1;
                all = (still_followed says told_mid its.2).0;
                some = its.3;
                unfinished = its.4;
                fine = its.5;
                place = place;
                place_is = its.6;
                said = line_said (λ e. cc e) (λ e. cc e) (said told_mid) is ∙ ap (λ (l : List ℕ). l ++ notices.short place) (quiet tells);
              },
            ),
          );
          full = λ is. absurd (is_not (λ e. cc e) (λ e. cc e) (λ e. cc e) ends is);
          quiet = λ is. silent (said_end ends (λ none. none) is) ∙ quiet tells;
          its_own = λ is. input.compares p w shows;
        };
    images = λ telling p first begins. said_images lawful time says p first input.bytes (input.images telling p first begins) (input.follows_it p first begins).2.settled telling;
    leads = λ p w shows. record { through = λ is. still_led says (input.leads p w shows); stream = λ is. inl (still_led says (input.leads p w shows)) };
  }

  pub open_refused : (cause : FollowErr) → IsInputFollowed same told left rest old mid before after (Err (cuts.Refused cause)) → IsUnsaid status ⊎ (status ≡ status_of_refusal cause)
      → (mid.tells_files → (status ≡ BadStream) ⊎ (status ≡ StandbyFull) → new.said ≡ mid.said ++ notice_of cause) → (IsSilentEnd status → new.said ≡ mid.said) → (IsOfMachine cause → new ≡ mid) → IsFollowOpen same told left rest old new before status
  open_refused cause input ends said silent failed = record {
    bytes = input.bytes;
    taken = input.taken;
    few = input.few;
    follows_it = λ p first w begins shows.
        let tells = begins.following.shows.shows.told in
        record {
          done = λ is. absurd (not_done cause (refusal_is cause (λ e. cc e) (λ e. cc e) ends is));
          stream = λ is.
              let of = stream_cause cause (refusal_is cause (λ e. cc e) (λ e. cc e) ends is) in
              let its = stream_refused cause of (input.follows_it p first begins) in
              inl (
                stream_refused cause of (input.compares p w shows),
                inr (
                  cause,
                  of,
                  record {
                    standby = after;
                    following = following_said says its.0;
                    refused = its.1;
                    said = said (time.files_told.0 tells) (inl is) ∙ ap (λ (l : List ℕ). l ++ notice_of cause) (quiet tells);
                  },
                ),
              );
          full = λ is.
              let (used, need, limit, same) = full_cause cause (refusal_is cause (λ e. cc e) (λ e. cc e) ends is) in
              let its = ⊎_elim (λ refused. refused) (λ failure. absurd (subst IsOfMachine same failure)) (input.follows_it p first begins) in (
                used,
                need,
                limit,
                subst (λ (e : FollowErr). SaysRefusal p first input.bytes old new e) same (record {
                  standby = after;
                  following = following_said says its.0;
                  refused = its.1;
                  said = said (time.files_told.0 tells) (inr is) ∙ ap (λ (l : List ℕ). l ++ notice_of cause) (quiet tells);
                }),
              );
          quiet = λ is. silent is ∙ quiet tells;
          its_own = λ is. ⊎_elim
              (λ through. absurd (refused_through cause ends through))
              (λ full.
              let (used, need, limit, same_cause) = full_cause cause (refusal_is cause (λ e. cc e) (λ e. cc e) ends full) in
              ⊎_elim (λ own. own) (λ failure. absurd (subst IsOfMachine same_cause failure)) (input.compares p w shows))
              is;
        };
    images = λ telling p first begins. refused_images lawful time says p first input.bytes cause (input.images telling p first begins) (input.follows_it p first begins) failed telling;
    leads = λ p w shows. record {
      through = λ is. absurd (refused_through cause ends is);
      stream = λ is. inr (
        cause,
        stream_cause cause (refusal_is cause (λ e. cc e) (λ e. cc e) ends is),
        said (time.files_told.0 shows.shows.told) (inl is) ∙ ap (λ (l : List ℕ). l ++ notice_of cause) (quiet shows.shows.told),
      );
    };
  }

  -- a record is not the store's own
  pub open_unlike : IsLater → (cut : Cut) (why : Unlike) → ((p : Params) (first : List (Member Command)) (front : List ℕ) (ended : Type 0) (bytes : List ℕ) → FollowsInput p first front bytes ended mid after (Err cut) → FollowsFront p first front mid after)
      → ((p : Params) (w : World Command) (front bytes : List ℕ) → ComparesInput same p w front bytes (Err cut) → (same ≡ true) × IsNotItsOwn p w front bytes why) → ((P : Type 0) → WhereFollowed (Err cut) P → P) → IsInputFollowed same told left rest old mid before after (Err cut)
      → (status ≡ BadStream) ⊎ ((status ≡ OutOfMemory) ⊎ (status ≡ SayFault)) → (mid.tells_files → (status ≡ OutOfMemory) ⊎ ((status ≡ SayFault) ⊎ (new.said ≡ mid.said ++ notice_of_unlike why))) → (status ≡ OutOfMemory → new.said ≡ mid.said) → IsFollowOpen same told left rest old new before status
  open_unlike law cut why front unlike led input ends said silent = record {
    bytes = input.bytes;
    taken = input.taken;
    few = input.few;
    follows_it = λ p first w begins shows.
        let its = front p first input.front (HasEnded told left rest) input.bytes (input.follows_it p first begins) in
        let tells = begins.following.shows.shows.told in
        let is_not_own = unlike p w input.front input.bytes (input.compares p w shows) in
        record {
          done = λ is. absurd (is_not (λ e. cc e) (λ e. cc e) (λ e. cc e) ends is);
          stream = λ is. inr (
            is_not_own.0,
            why,
            record {
              standby = after;
              front = input.front;
              piece = input.piece;
              split = input.split;
              follows = (following_said says its.0, its.1);
              unlike = is_not_own.1;
              later = unlike_later law p first w input.front input.piece input.bytes why input.split (small_shown old before.engine p w shows) its is_not_own.1;
              said = line_said (λ e. cc e) (λ e. cc e) (said (time.files_told.0 tells)) is ∙ ap (λ (l : List ℕ). l ++ notice_of_unlike why) (quiet tells);
            },
          );
          full = λ is. absurd (is_not (λ e. cc e) (λ e. cc e) (λ e. cc e) ends is);
          quiet = λ is. silent (said_end ends (λ none. none) is) ∙ quiet tells;
          its_own = λ is. absurd (⊎_elim (unlike_through ends) (is_not (λ e. cc e) (λ e. cc e) (λ e. cc e) ends) is);
        };
    images = λ telling p first begins. said_images lawful time says p first input.bytes (input.images telling p first begins) (front p first input.front (HasEnded told left rest) input.bytes (input.follows_it p first begins)).0.shows.shows.log.keeps.settled telling;
    leads = λ p w shows. record { through = λ is. still_led says (led _ (input.leads p w shows)); stream = λ is. inl (still_led says (led _ (input.leads p w shows))) };
  }

-- the input was not read to its end
unread_loud : (error : ReadError) (A : Status) → status_of (stop_of_input error) ≡ A → (IsSilentEnd A → ⊥) → ⊥
unread_loud of_input.ReadFault A is loud = loud (subst IsSilentEnd is tt)
unread_loud of_input.TooLong A is loud = loud (subst IsSilentEnd is tt)
unread_loud of_input.Memory A is loud = loud (subst IsSilentEnd is tt)

pub open_unread : {told : Type 0} {same : Bool} {left rest : List ℕ} {old mid : Disk} {before after : StandbyView} {status : Status} (quiet : old.tells_files → mid.said ≡ old.said) (error : ReadError) → IsInputFollowed same told left rest old mid before after (Err (cuts.Unread error))
    → status ≡ status_of (stop_of_input error) → IsFollowOpen same told left rest old mid before status
open_unread {old = old} {mid = mid} {status = status} quiet error input is = record {
  bytes = input.bytes;
  taken = input.taken;
  few = input.few;
  follows_it = λ p first w begins shows. record {
    done = λ e. absurd (unread_loud error Done (sym is ∙ e) (λ none. none));
    stream = λ e. absurd (unread_loud error BadStream (sym is ∙ e) (λ none. none));
    full = λ e. absurd (unread_loud error StandbyFull (sym is ∙ e) (λ none. none));
    quiet = λ silent. quiet begins.following.shows.shows.told;
    its_own = λ through. ⊎_elim
        (λ own. own)
        (λ memory.
        let out : status ≡ OutOfMemory = is ∙ ap (λ (e : ReadError). status_of (stop_of_input e)) memory in
        absurd (⊎_elim (λ t. subst IsFollowedThrough out t) (λ full. cc (sym out ∙ full)) through))
        (input.compares p w shows);
  };
  images = λ telling p first begins. weaker old mid (IsSilent (StreamMoment p first input.bytes) old.said) (FollowMoment p first input.bytes old mid) (input.images telling p first begins) (λ files said it. (it.holds, inl it.silent));
  leads = λ p w shows.
      let led : ShowLed p w mid.reads = shown_led (input.leads p w shows) in
      record { through = λ through. led; stream = λ e. inl led };
}

-- where no store was opened no stream was followed
not_followed : (status : Status) → IsOfUnopened status → IsFollowedThrough status → ⊥
not_followed Done of through = of
not_followed InputFailed of through = of
not_followed TooLong of through = of
not_followed status of through = through

-- ---- from before the store was opened

module _ {budget : Budget} {p : Params} {commands : List Command} {old mid : Disk} (lawful : IsDisk old) (opens : Opens p old commands) (files : OpensFiles budget p commands old mid) where
  -- while it is opened the files stand for the commands
  opening_moments : (first : List (Member Command)) (bytes : List ℕ) (new : Disk) → old.tells_moments → LeavesOnly old mid (OrAtStart old (StandbyMoment p commands first bytes old new))
  opening_moments first bytes new told =
      or_weaker old mid (Between p old None (length commands) (length commands) commands) (StandbyMoment p commands first bytes old new) (files.images told)
      (λ image said b. let enough = b.enough in inl (subst (λ (l : List Command). Stands p image l) (take_all b.kept commands enough) b.stands, b.quiet))

  pub follow_unopened : {same : Bool} {ended : Type 0} {status : Status} → (first : Stage) × IsFirst budget p commands old first × (commands_of first.world.history ≡ commands) → IsOfUnopened status → (status ≢ NotAStore) × (status ≢ FilesDamaged) → (status ≢ SayFault) × (status ≢ OutOfMemory)
      → IsFollowOn budget same ended [] p commands old mid status
  follow_unopened {status = status} first of store output = record {
    first = first;
    follows_it = λ stage is. record {
      done = λ e. absurd (subst IsOfUnopened e of);
      stream = λ e. absurd (subst IsOfUnopened e of);
      full = λ e. absurd (subst IsOfUnopened e of);
      quiet = λ silent. files.quiet;
      its_own = λ is. absurd (⊎_elim (not_followed status of) (λ e. subst IsOfUnopened e of) is);
    };
    images = λ told stage is. opening_moments stage.world.history [] mid told;
    from_settled = λ told settled stage is. from_settled old mid (StandbyMoment p commands stage.world.history [] old mid) lawful told settled (inl (opens.stands, refl)) (opening_moments stage.world.history [] mid told);
    opened = λ told disk memory. absurd (opening_failed status of store output disk memory);
    unopened = λ told is. start_refused p commands files told;
    store = store;
    steps = λ told stage is. or_weaker old mid (OpeningMoment budget p commands old stage is) (FollowingMoment budget p commands old stage is [] mid) (files.steps told stage is) (λ image said here. inl here);
    leads = λ stage is. record { through = λ through. absurd (not_followed status of through); stream = λ e. absurd (subst IsOfUnopened e of) };
  }

  pub follow_on : {told : Type 0} {same : Bool} {left rest : List ℕ} {new : Disk} {standby : StandbyView} {status : Status} → IsDisk new → Passes old mid → Passes mid new
      → (first : Stage) × IsFirst budget p commands old first × (commands_of first.world.history ≡ commands) → ((first : Stage) → IsFirst budget p commands old first → Begins p first.world.history mid standby × ShowsIn p mid standby.engine first.world)
      → (it : IsFollowOpen same told left rest mid new standby status) → (status ≢ NotAStore) × (status ≢ FilesDamaged) → IsOfOpened status → IsFollowOn budget same (HasEnded told left rest) it.bytes p commands old new status
  follow_on {told} {same} {left} {rest} {new} {standby} {status} lawful_new before time first begins it store fine =
      let images : old.tells_moments → (stage : Stage) → IsFirst budget p commands old stage → LeavesOnly old new (OrAtStart old (StandbyMoment p commands stage.world.history it.bytes old new))
      = λ tells stage is. runs_on old mid new (OrAtStart old (StandbyMoment p commands stage.world.history it.bytes old new)) (opening_moments stage.world.history it.bytes new tells)
      (weaker mid new (FollowMoment p stage.world.history it.bytes old new) (OrAtStart old (StandbyMoment p commands stage.world.history it.bytes old new)) (goes_on tells stage is) (λ image said m. inr (inr m))) in
      record {
        first = first;
        follows_it = λ stage is. follows_from old mid new files.quiet (it.follows_it p stage.world.history stage.world (begins stage is).0 (begins stage is).1);
        images = images;
        from_settled = λ tells settled stage is. from_settled old new (StandbyMoment p commands stage.world.history it.bytes old new) lawful tells settled (inl (opens.stands, refl)) (images tells stage is);
        opened = λ tells disk memory stage is.
            let told_mid = before.moments_told.0 tells in
            let each : (image : Files) (said : List ℕ) → new.left_since new.clock image said → StreamMoment p stage.world.history it.bytes image
            = λ image said left. ((it.images told_mid p stage.world.history (begins stage is).0).each image said (lawful_new.among mid.clock new.clock image said time.later (omega arith) left)).0 in
            (each new.reads new.said (lawful_new.as_read (time.moments_told.0 told_mid)), λ told_new. each);
        unopened = λ told is. absurd (subst IsOfOpened is fine);
        store = store;
        steps = λ tells stage is. runs_on old mid new (OrAtStart old (FollowingMoment budget p commands old stage is it.bytes new))
            (or_weaker old mid (OpeningMoment budget p commands old stage is) (FollowingMoment budget p commands old stage is it.bytes new) (files.steps tells stage is) (λ image said here. inl here))
            (weaker mid new (FollowMoment p stage.world.history it.bytes old new) (OrAtStart old (FollowingMoment budget p commands old stage is it.bytes new)) (goes_on tells stage is) (λ image said m. inr (inr m)));
        leads = λ stage is.
            let on = it.leads p stage.world (begins stage is).1 in
            record {
              through = on.through;
              stream = λ e. ⊎_elim (λ led. inl led) (λ (refused : (cause : FollowErr) × IsOfStream cause × (new.said ≡ mid.said ++ notice_of cause)). inr (refused.0, refused.1, refused.2 ∙ ap (λ (l : List ℕ). l ++ notice_of refused.0) files.quiet)) (on.stream e);
            };
      }
    where
      -- after the opening
      goes_on : old.tells_moments → (stage : Stage) → IsFirst budget p commands old stage → LeavesOnly mid new (FollowMoment p stage.world.history it.bytes old new)
      goes_on tells stage is =
          weaker mid new (FollowMoment p stage.world.history it.bytes mid new) (FollowMoment p stage.world.history it.bytes old new) (it.images (before.moments_told.0 tells) p stage.world.history (begins stage is).0)
          (λ image said m. (m.0, ⊎_elim (λ (none : said ≡ mid.said). inl (none ∙ files.quiet)) (λ there. inr there) m.1))

-- the following of a stream may end as one of no store
pub unopened_follow : (status : Status) → IsOfUnopened status → IsOfFollow status
unopened_follow NotAStore of = tt
unopened_follow FilesDamaged of = tt
unopened_follow DiskFailed of = tt
unopened_follow SayFault of = tt
unopened_follow OutOfMemory of = tt
unopened_follow RestartMemory of = tt
unopened_follow status of = absurd of
