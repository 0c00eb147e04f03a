-- What a moment of a standby that follows leaves: what the passed frames make of the first list, or, where the frame in hand was
-- followed to its end, what that makes of it too.
use Rattle.std.proofs.Common.{◌≡◌, ◌∙◌, sym, subst, ap, ℕ, ◌≤◌, List, [], ◌∷◌, ◌++◌, length, take, refl, arith, append_assoc, ⊎_elim, Option, None}
use Rattle.std.proofs.Math.Path.{fun_ext}
use Rattle.std.proofs.Math.Seq.{take-append_seam, take-length}
use Rattle.std.proofs.lemmas.List.{append-nil}
use Rattle.std.specs.List.{AllByRecursion}
use Rattle.disk_model.specs.Disk.{Disk, Files, IsSettled, LeavesOnly, Stays}
use Rattle.disk_model.specs.Moments.{first_call}
use Rattle.disk_model.specs.declared.machine.FileNo.{FileNo}
use Rattle.oper_core.specs.Meaning.{Meaning}
use Rattle.oper_core.specs.declared.bounds.Bounds.{Bounds}
use Rattle.formats.specs.Log.{IsPayload}
use Rattle.formats.specs.Records.{payload_of, records_of}
use Rattle.formats.specs.declared.params.Params.{Params}
use Rattle.formats.specs.declared.record.Record.{Record}
use Rattle.frame_stream.specs.Frames.{frame, frames}
use Rattle.explain_core.specs.History.{Member, commands_of}
use Rattle.explain_core.specs.Sound.{IsSound}
use Rattle.explain_core.specs.World.{World}
use Rattle.execution.specs.Counted.{accepted_shown}
use Rattle.execution.specs.Judged.{first_refused, follows}
use Rattle.running_store.specs.Steps.Forced.{files_shown}
use Rattle.running_store.specs.Parts.{Shows}
use Rattle.standing.specs.Standing.{FilesShow, StandsFor}
use Rattle.store_engine.specs.Counts.{forced_shown, take-commands}
use Rattle.store_engine.specs.Engine.{Between, accepted_in, forced_in}
use Rattle.store_engine.specs.Grouping.{ungrouped}
use Rattle.store_engine.specs.Store.{Stands, meaning_in}
use Rattle.standby_node.specs.Feeding.{IsAtFrameEnd}
use Rattle.standby_node.specs.Standby.{AreFramesOf, BeginsWithFrameOf, IsFollowing, MayBeShipped, StandbyView}
use Rattle.standby_node.proofs.AllOf.{all_append}
use Rattle.standby_node.proofs.Judging.{IsLonger, follows_append, follows_longer, refused_front}

-- an image of a sound world stands for its stable commands
abbrev pub Stand : {O : Type 0} → (Bounds → Meaning O) → Type 0
Stand {O} meaning = (p : Params) (files : Files) (w : World O) → IsSound (meaning_in meaning p) w → FilesShow (meaning_in meaning p) p files w → StandsFor meaning p files (commands_of (take w.forced w.history))

-- frames behind others, and one more
pub frames_join : {O : Type 0} (m : Meaning O) (payloads others : List (List ℕ)) (groups rest : List (List (Record O))) → AreFramesOf m payloads groups → AreFramesOf m others rest → AreFramesOf m (payloads ++ others) (groups ++ rest)
frames_join m [] others [] rest are more = more
frames_join m [] others (group ∷ groups) rest are more = absurd are
frames_join m (payload ∷ payloads) others [] rest are more = absurd are
frames_join m (payload ∷ payloads) others (group ∷ groups) rest are more = (are.0, frames_join m payloads others groups rest are.1 more)

pub frames_more : {O : Type 0} (m : Meaning O) (payloads : List (List ℕ)) (groups : List (List (Record O))) (begun : List (Record O)) → AreFramesOf m payloads groups → AllByRecursion (MayBeShipped m) begun
    → AreFramesOf m (payloads ++ payload_of m begun ∷ []) (groups ++ begun ∷ [])
frames_more m payloads groups begun are shipped = frames_join m payloads (payload_of m begun ∷ []) groups (begun ∷ []) are (record { is = refl; shipped = shipped }, tt)

pub records_more : {O : Type 0} (groups : List (List (Record O))) (begun : List (Record O)) → records_of (groups ++ begun ∷ []) ≡ records_of groups ++ begun
records_more [] begun = append-nil begun
records_more {O} (group ∷ groups) begun = ap (λ (l : List (Record O)). group ++ l) (records_more groups begun) ∙ sym (append_assoc group (records_of groups) begun)

pub bytes_more : (payloads : List (List ℕ)) (payload : List ℕ) → frames (payloads ++ payload ∷ []) ≡ frames payloads ++ frame payload
bytes_more [] payload = append-nil (frame payload)
bytes_more (first ∷ payloads) payload = ap (λ (l : List ℕ). frame first ++ l) (bytes_more payloads payload) ∙ sym (append_assoc (frame first) (frames payloads) (frame payload))

-- a call that changes no image leaves of a settled machine what it reads
pub leaves_reads : (old new : Disk) (P : Files → List ℕ → Type 0) → Stays old new → old.tells_moments → IsSettled old → P old.reads old.said → LeavesOnly old new P
leaves_reads old new P stays told settled here = first_call old new P told stays.time (λ c s left.
    let from = stays.crash told c s left in
    let same : c ≡ old.reads = from.0.2 ∙ fun_ext (λ (n : FileNo). settled n told from.0.0 old.said from.0.1) in
    subst (λ (f : Files). P f s) (sym same) (subst (λ (l : List ℕ). P old.reads l) (sym from.1) here))

module _ {O : Type 0} (meaning : Bounds → Meaning O) (p : Params) (first : List (Member O)) (bytes : List ℕ) (old : Disk) (s : StandbyView) (f : IsFollowing meaning p first bytes old s) where
  abbrev m : Meaning O
  m = meaning_in meaning p

  abbrev w : World O
  w = f.world

  abbrev gone : List (Record O)
  gone = records_of f.groups

  -- the passed frames are refused nowhere
  pub gone_fine : first_refused m first gone ≡ None
  gone_fine = refused_front m first gone f.begun f.fine

  -- what they make of the first list, and what the frame in hand makes of that
  abbrev pub past : List (Member O)
  past = follows m first gone

  pub behind : IsLonger m past (follows m past f.begun) (length (payload_of m f.begun))
  behind = follows_longer m past f.begun

  pub history_is : w.history ≡ past ++ behind.more
  history_is = f.members ∙ follows_append m first gone f.begun gone_fine ∙ behind.is

  shown : Shows m p old s.engine.parts (ungrouped w)
  shown = f.shows.shows

  pub forced_is : forced_in s.engine ≡ length (commands_of (take w.forced w.history))
  forced_is = forced_shown m p old s.engine.parts (ungrouped w) shown

  -- files that stand for what the passed frames make of it
  passed_end : (files : Files) (said : List ℕ) → said ≡ old.said → forced_in s.engine ≤ length (commands_of past) → Stands meaning p files (commands_of past) → IsAtFrameEnd meaning p old (forced_in s.engine) first bytes files said
  passed_end files said quiet enough stands = record {
    quiet = quiet;
    payloads = f.payloads;
    groups = f.groups;
    rest = s.frames.kept;
    split = f.passed.is;
    whole = f.passed.whole;
    frames_are = f.frames_are;
    fine = gone_fine;
    enough = enough;
    stands = stands;
  }

  -- and of the frame in hand too
  whole_end : BeginsWithFrameOf m s.frames.kept f.begun → (files : Files) (said : List ℕ) → said ≡ old.said → forced_in s.engine ≤ length (commands_of w.history) → Stands meaning p files (commands_of w.history)
      → IsAtFrameEnd meaning p old (forced_in s.engine) first bytes files said
  whole_end whole files said quiet enough stands =
      let same : records_of (f.groups ++ f.begun ∷ []) ≡ gone ++ f.begun = records_more f.groups f.begun in
      let all : follows m first (records_of (f.groups ++ f.begun ∷ [])) ≡ w.history = ap (λ (rs : List (Record O)). follows m first rs) same ∙ sym f.members in
      record {
        quiet = quiet;
        payloads = f.payloads ++ payload_of m f.begun ∷ [];
        groups = f.groups ++ f.begun ∷ [];
        rest = whole.0;
        split = f.passed.is ∙ ap (λ (l : List ℕ). frames f.payloads ++ l) whole.2 ∙ sym (append_assoc (frames f.payloads) (frame (payload_of m f.begun)) whole.0)
            ∙ ap (λ (l : List ℕ). l ++ whole.0) (sym (bytes_more f.payloads (payload_of m f.begun)));
        whole = all_append IsPayload f.payloads (payload_of m f.begun ∷ []) f.passed.whole (whole.1, tt);
        frames_are = frames_more m f.payloads f.groups f.begun f.frames_are f.in_hand.shipped;
        fine = ap (λ (rs : List (Record O)). first_refused m first rs) same ∙ f.fine;
        enough = omega (arith, enough, ap (λ (h : List (Member O)). length (commands_of h)) all);
        stands = subst (λ (h : List (Member O)). Stands meaning p files (commands_of h)) (sym all) stands;
      }

  -- files that stand for what is stable
  stable_end : (files : Files) (said : List ℕ) → said ≡ old.said → Stands meaning p files (commands_of (take w.forced w.history)) → IsAtFrameEnd meaning p old (forced_in s.engine) first bytes files said
  stable_end files said quiet stands = ⊎_elim
      (λ same.
      let stable : take w.forced w.history ≡ past = (λ i. take (same i) (history_is i)) ∙ take-append_seam past behind.more in
      passed_end files said quiet (omega (arith, forced_is, ap (λ (h : List (Member O)). length (commands_of h)) stable)) (subst (λ (h : List (Member O)). Stands meaning p files (commands_of h)) stable stands))
      (λ both.
      let stable : take w.forced w.history ≡ w.history = ap (λ (n : ℕ). take n w.history) both.1 ∙ take-length w.history in
      whole_end both.0 files said quiet (omega (arith, forced_is, ap (λ (h : List (Member O)). length (commands_of h)) stable)) (subst (λ (h : List (Member O)). Stands meaning p files (commands_of h)) stable stands))
      f.forced

  -- the files as they are read
  pub reads_end : Stand meaning → IsAtFrameEnd meaning p old (forced_in s.engine) first bytes old.reads old.said
  reads_end stand = stable_end old.reads old.said refl (stand p old.reads w f.shows.sound (files_shown m p old s.engine.parts (ungrouped w) shown))

  -- so a call that changes no image leaves a frame's end
  pub still_end : Stand meaning → (new : Disk) → Stays old new → old.tells_moments → LeavesOnly old new (IsAtFrameEnd meaning p old (forced_in s.engine) first bytes)
  still_end stand new stays told = leaves_reads old new (IsAtFrameEnd meaning p old (forced_in s.engine) first bytes) stays told shown.log.keeps.settled (reads_end stand)

  -- and one that may force all of it, where the frame in hand was followed to its end
  pub between_end : BeginsWithFrameOf m s.frames.kept f.begun → (group : Option ℕ) (files : Files) (said : List ℕ) → Between meaning p old group (forced_in s.engine) (accepted_in s.engine) (commands_of w.history) files said
      → IsAtFrameEnd meaning p old (forced_in s.engine) first bytes files said
  between_end whole group files said is =
      let all : List O = commands_of w.history in
      let count = accepted_shown m p old s.engine.parts (ungrouped w) shown in
      ⊎_elim
      (λ same.
      let stable : take is.kept all ≡ commands_of (take w.forced w.history) = ap (λ (n : ℕ). take n all) (same ∙ forced_is) ∙ take-commands w.forced w.history in
      stable_end files said is.quiet (subst (λ (l : List O). Stands meaning p files l) stable is.stands))
      (λ (more : (group ≡ None) × (accepted_in s.engine ≤ is.kept)).
      let every : is.kept ≡ length all = omega (arith, more.1, is.within, count) in
      let same : take is.kept all ≡ all = ap (λ (n : ℕ). take n all) every ∙ take-length all in
      whole_end whole files said is.quiet (omega (arith, is.enough, every)) (subst (λ (l : List O). Stands meaning p files l) same is.stands))
      is.which

-- a frame's end of a later call is one of an earlier
pub later_end : {O : Type 0} (meaning : Bounds → Meaning O) (p : Params) (old mid : Disk) (least more : ℕ) (first : List (Member O)) (bytes : List ℕ) → mid.said ≡ old.said → least ≤ more → (files : Files) (said : List ℕ)
    → IsAtFrameEnd meaning p mid more first bytes files said → IsAtFrameEnd meaning p old least first bytes files said
later_end meaning p old mid least more first bytes quiet fewer files said is = record {
  quiet = is.quiet ∙ quiet;
  payloads = is.payloads;
  groups = is.groups;
  rest = is.rest;
  split = is.split;
  whole = is.whole;
  frames_are = is.frames_are;
  fine = is.fine;
  enough = omega (arith, is.enough, fewer);
  stands = is.stands;
}
