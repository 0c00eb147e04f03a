-- A standby that has followed nothing yet, and one whose opening said nothing, or was refused memory.
use Rattle.std.proofs.Common.{◌≡◌, ◌∙◌, ◌⊎◌, ◌++◌, ⊎_elim, Bool, true, List, ℕ, [], inl, inr, length, ap, refl, sym, subst}
use Rattle.disk_model.specs.Disk.{Files, Disk}
use Rattle.formats.specs.declared.params.Params.{Params}
use Rattle.explain_core.specs.History.{Member, commands_of}
use Rattle.explain_core.specs.World.{World}
use Rattle.standby_node.specs.Same.{Unlike}
use Rattle.standby_node.specs.declared.follow_err.FollowErr.{FollowErr}
use Rattle.shell_base.specs.Notices as notices
use Rattle.shell_base.specs.Store.{Command, Stands}
use Rattle.shell_base.specs.declared.status.Status.{Status}
use Rattle.standby_words.specs.Following.{FollowsFrames, FollowsFrom, HasOwn, IsOfStream, SaysRefusal, SaysShort, SaysUnlike, StandbyMoment, StreamMoment, notice_of, notice_of_unlike}

-- no frame is followed
pub no_frames : (p : Params) (first : List (Member Command)) (bytes : List ℕ) → FollowsFrames p first bytes bytes (commands_of first)
no_frames p first bytes = record { payloads = []; groups = []; whole = tt; split = refl; frames_are = tt; fine = refl; commands_are = refl }

-- a moment of it is one of the stream, where the history has the commands
pub standby_moment : {p : Params} {commands : List Command} {first : List (Member Command)} {bytes : List ℕ} (old new : Disk) {files : Files} {said : List ℕ} → commands_of first ≡ commands → StandbyMoment p commands first bytes old new files said → StreamMoment p first bytes files
standby_moment {p} {commands} {first} {bytes} old new {files} {said} are moment = ⊎_elim
    (λ (here : Stands p files commands × (said ≡ old.said)). record { rest = bytes; commands = commands_of first; follows_to = no_frames p first bytes; stands = subst (λ (l : List Command). Stands p files l) (sym are) here.0 })
    (λ m. m.0)
    moment

-- a stream is followed as well by what was said before
module _ (old mid new : Disk) (quiet : mid.said ≡ old.said) where
  short_from : {p : Params} {first : List (Member Command)} {bytes : List ℕ} → SaysShort p first bytes mid new → SaysShort p first bytes old new
  short_from is = record { rest = is.rest; all = is.all; some = is.some; unfinished = is.unfinished; fine = is.fine; place = is.place; place_is = is.place_is; said = is.said ∙ ap (λ (l : List ℕ). l ++ notices.short is.place) quiet }

  refusal_from : {p : Params} {first : List (Member Command)} {bytes : List ℕ} {cause : FollowErr} → SaysRefusal p first bytes mid new cause → SaysRefusal p first bytes old new cause
  refusal_from {cause = cause} is = record { standby = is.standby; following = is.following; refused = is.refused; said = is.said ∙ ap (λ (l : List ℕ). l ++ notice_of cause) quiet }

  unlike_from : {p : Params} {first : List (Member Command)} {w : World Command} {bytes : List ℕ} {why : Unlike} → SaysUnlike p first w bytes mid new why → SaysUnlike p first w bytes old new why
  unlike_from {why = why} is =
      record { standby = is.standby; front = is.front; piece = is.piece; split = is.split; follows = is.follows; unlike = is.unlike; later = is.later; said = is.said ∙ ap (λ (l : List ℕ). l ++ notice_of_unlike why) quiet }

  pub follows_from : {same : Bool} {ended : Type 0} {bytes : List ℕ} {p : Params} {first : List (Member Command)} {w : World Command} {status : Status} → FollowsFrom same ended bytes p first w mid new status → FollowsFrom same ended bytes p first w old new status
  follows_from {same} {ended} {bytes} {p} {first} {w} from = record {
    done = λ is. let done = from.done is in (done.0, record { all = done.1.all; said = done.1.said ∙ ap (λ (l : List ℕ). l ++ notices.followed (length done.1.all.commands)) quiet });
    stream = λ is. ⊎_elim
        (λ (own : HasOwn same p w bytes × ((ended × SaysShort p first bytes mid new) ⊎ ((cause : FollowErr) × IsOfStream cause × SaysRefusal p first bytes mid new cause))). inl (
          own.0,
          ⊎_elim
              (λ (ends : ended × SaysShort p first bytes mid new). inl (ends.0, short_from ends.1))
              (λ (refused : (cause : FollowErr) × IsOfStream cause × SaysRefusal p first bytes mid new cause). inr (refused.0, refused.1, refusal_from refused.2))
              own.1,
        ))
        (λ (unlike : (same ≡ true) × (why : Unlike) × SaysUnlike p first w bytes mid new why). inr (unlike.0, unlike.1, unlike_from unlike.2))
        (from.stream is);
    its_own = from.its_own;
    full = λ is. let full = from.full is in (full.0, full.1, full.2, refusal_from full.3);
    quiet = λ silent. from.quiet silent ∙ quiet;
  }
