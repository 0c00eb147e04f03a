-- From what stood before a turn to what stands behind it.
use Rattle.std.proofs.Common.{◌≡◌, ◌∙◌, ◌<◌, ℕ, List, [], ◌∷◌, ◌++◌, Vec, Global, length, map, refl, sym, ap, subst, append_assoc, ⊎_elim}
use Rattle.std.specs.Prelude.{slice_index_or, slice_set}
use Rattle.std.proofs.lemmas.List.{append-nil, get_or-map, length-map}
use Rattle.client_frames.specs.Frames.{Frame, IsFrame, frame_bytes, frames_bytes}
use Rattle.client_frames.specs.Reading.{IsUnfinished}
use Rattle.client_sessions.specs.Calls.{IsAnswered, IsHeard, IsSettled}
use Rattle.client_sessions.specs.Events.{Begins, Event, Happen, Happens, Rests, Tells, gone, rest_at}
use Rattle.client_sessions.specs.Laws.{keeps_same}
use Rattle.client_sessions.specs.Seen.{server_of}
use Rattle.client_sessions.specs.Sessions.{Server}
use Rattle.client_sessions.specs.Standing.{Hears, Keeps, Standing}
use Rattle.client_sessions.specs.Taking.{TellsNext}
use Rattle.client_sessions.specs.declared.heard.Heard.{Heard}
use Rattle.client_sessions.specs.declared.session_limits.SessionLimits.{SessionLimits}
use Rattle.client_sessions.specs.declared.sessions.Sessions.{Sessions}
use Rattle.named_words.specs.Effects.{Names, Sizes}
use Rattle.client_turns.specs.Serves.{Done, HasAnswered, HasHeard, IsFront, Serves, Service, ServesOn, events_of}
use Rattle.client_turns.specs.Turning.{AllAnswered, IsBetween, IsFresh, IsNew, service_of}
use Rattle.client_turns.specs.Within.{GoesOn, HasRead, IsGoing, IsHearing, IsReading, ReadsOn, rests_of}
use Rattle.client_turns.specs.declared.desk.Desk.{Desk}
use Rattle.client_turns.proofs.Brought.{brings_gone, brings_some, first_behind, heard_part, heard_read, next_first, read_frame}
use Rattle.client_turns.proofs.Histories.{front_more}
use Rattle.client_turns.proofs.Moments.{going_more, moment_all, serves_same}

-- what a client has left, among what all have
pub rest_seen : (all : List (Vec ℕ Global)) (at : ℕ) (one : Vec ℕ Global) → at < length all → one ≡ slice_index_or all at one → rest_at (map (λ rest. rest.items) all) at ≡ one.items
rest_seen all at one within is = get_or-map (λ (rest : Vec ℕ Global). rest.items) all at one [] within ∙ ap (λ (rest : Vec ℕ Global). rest.items) (sym is)

pub left_there : (s : Desk) (at : ℕ) → at < length s.rests.items → at < length (rests_of s)
left_there s at within = subst (λ (n : ℕ). at < n) (sym (length-map s.rests.items (λ rest. rest.items))) within

module _ (service : Service) where
  -- what follows is heard of the same bytes
  pub hearing_more : (said all : List Done) (at : ℕ) (bytes rest x y : List ℕ) (a b : Standing) (s t : Sessions) → IsHearing service said all at bytes a s x
      → (it : GoesOn service said all (λ events. Begins service.limits at bytes events rest) a b t y) → IsHearing service it.forced it.done at rest b t y
  hearing_more said all at bytes rest x y a b s t is it = record {
    going = it.going;
    fits = λ more tells. subst (λ (l : List ℕ). HasHeard service l (events_of it.done ++ more)) (sym it.heard)
        (subst (λ (l : List Event). HasHeard service a.heard l) (sym (ap (λ (l : List Event). l ++ more) it.are ∙ append_assoc (events_of all) it.events more))
        (is.fits (it.events ++ more) (first_behind service.limits at bytes rest it.events more it.told tells)));
  }

  -- a command, or what is left, is heard behind what was forced
  pub goes_heard : (said all forced : List Done) (at : ℕ) (bytes x y z : List ℕ) (heard : Heard) (a b c : Standing) (s t : Sessions) → IsHearing service said all at bytes a s x
      → IsFront said forced → IsGoing service forced all b s y → b.heard ≡ a.heard → Keeps b c
      → IsHeard (λ events. TellsNext s.limits at bytes heard events) (Happen b.sizes s.limits) b c s t y z → GoesOn service said all (λ events. TellsNext service.limits at bytes heard events) a c t z
  goes_heard said all forced at bytes x y z heard a b c s t is on going same keeps it =
      let tells : TellsNext service.limits at bytes heard it.events = subst (λ (l : SessionLimits). TellsNext l at bytes heard it.events) going.limits it.told in
      let has : HasHeard service b.heard (events_of all ++ it.events) =
      subst (λ (l : List ℕ). HasHeard service l (events_of all ++ it.events)) (sym same) (is.fits it.events (next_first service.limits at bytes heard it.events tells)) in
      let did = going_more service forced all s b c t y z it.events going keeps it.answered has in
      record { forced = forced; done = did.0; on = on; events = it.events; told = tells; are = did.1; heard = keeps.heard ∙ same; going = did.2 }

  -- one behind the other
  pub goes_more : (said all : List Done) (P Q R : List Event → Type 0) (a b c : Standing) (t u : Sessions) (x y : List ℕ) (one : GoesOn service said all P a b t x)
      → ((es ms : List Event) → P es → Q ms → R (es ++ ms)) → GoesOn service one.forced one.done Q b c u y → GoesOn service said all R a c u y
  goes_more said all P Q R a b c t u x y one joins two = record {
    forced = two.forced;
    done = two.done;
    on = front_more said one.forced two.forced one.on two.on;
    events = one.events ++ two.events;
    told = joins one.events two.events one.told two.told;
    are = two.are ∙ ap (λ (l : List Event). l ++ two.events) one.are ∙ append_assoc (events_of all) one.events two.events;
    heard = two.heard ∙ one.heard;
    going = two.going;
  }

  -- nothing yet
  pub goes_none : (said all : List Done) (tells : List Event → Type 0) (a : Standing) (s : Sessions) (x : List ℕ) → tells [] → IsGoing service said all a s x → GoesOn service said all tells a a s x
  goes_none said all tells a s x told going = record {
    forced = said;
    done = all;
    on = ([], sym (append-nil said));
    events = [];
    told = told;
    are = sym (append-nil (events_of all));
    heard = refl;
    going = going;
  }

  pub serves_later : (it : Standing) (said forced : List Done) → IsFront said forced → ServesOn service it forced → ServesOn service it said
  serves_later it said forced on serves = (serves.0, front_more said forced serves.0 on serves.1, serves.2)

  pub goes_serves : (said all : List Done) (tells : List Event → Type 0) (a b : Standing) (t : Sessions) (y : List ℕ) → GoesOn service said all tells a b t y → ServesOn service b said
  goes_serves said all tells a b t y it = serves_later b said it.forced it.on (serves_same service b it.forced it.going.serves)

  -- the bytes of a frame are heard behind what their client has left
  hearing_frame : (said all : List Done) (ahead x : List ℕ) (frame : Frame) (a : Standing) (s : Desk) → IsReading service said all (frame_bytes frame ++ ahead) a s x → IsFrame frame
      → frame.client < length (rests_of s) → 0 < length frame.bytes → IsHearing service said all frame.client (rest_at (rests_of s) frame.client ++ frame.bytes) a s.sessions x
  hearing_frame said all ahead x frame a s is whole within some = record {
    going = is.going;
    fits = λ more tells. heard_part service a.heard ahead (rests_of s) (events_of all) more frame is.read whole within some tells;
  }

  pub hearing_bytes : (said all : List Done) (ahead bytes x : List ℕ) (frame : Frame) (a : Standing) (s : Desk) → IsReading service said all (frame_bytes frame ++ ahead) a s x → IsFrame frame
      → frame.client < length s.rests.items → 0 < length frame.bytes → bytes ≡ rest_at (rests_of s) frame.client ++ frame.bytes → IsHearing service said all frame.client bytes a s.sessions x
  hearing_bytes said all ahead bytes x frame a s is whole within some same =
      subst (λ (l : List ℕ). IsHearing service said all frame.client l a s.sessions x) (sym same) (hearing_frame said all ahead x frame a s is whole (left_there s frame.client within) some)

  pub read_bytes : (said all : List Done) (ahead rest x y : List ℕ) (frame : Frame) (a b : Standing) (s t : Desk) → IsReading service said all (frame_bytes frame ++ ahead) a s x → IsFrame frame
      → frame.client < length (rests_of s) → 0 < length frame.bytes → rests_of t ≡ slice_set (rests_of s) frame.client rest
      → GoesOn service said all (λ events. Tells service.limits frame.client (rest_at (rests_of s) frame.client ++ frame.bytes) events rest) a b t.sessions y → ReadsOn service said ahead b t y
  read_bytes said all ahead rest x y frame a b s t is whole within some set it =
      let brings = brings_some service.limits frame.client (rest_at (rests_of s) frame.client) frame.bytes rest it.events some it.told in
      let read : HasRead service a.heard ahead (slice_set (rests_of s) frame.client rest) (events_of all ++ it.events) =
      read_frame service a.heard ahead (rests_of s) (events_of all) it.events rest frame is.read whole within brings in
      record {
        forced = it.forced;
        done = it.done;
        on = it.on;
        reading = record {
          going = it.going;
          read = subst (λ (l : List ℕ). HasRead service l ahead (rests_of t) (events_of it.done)) (sym it.heard)
              (subst (λ (l : List Event). HasRead service a.heard ahead (rests_of t) l) (sym it.are) (subst (λ (r : Rests). HasRead service a.heard ahead r (events_of all ++ it.events)) (sym set) read));
        };
      }

  -- a client is gone
  pub read_gone : (said all : List Done) (ahead x y : List ℕ) (frame : Frame) (a : Standing) (s t : Desk) → IsReading service said all (frame_bytes frame ++ ahead) a s x → IsFrame frame
      → frame.client < length (rests_of s) → frame.bytes ≡ [] → rests_of t ≡ slice_set (rests_of s) frame.client []
      → IsSettled (λ server frames new. (sizes : Sizes) → Happens sizes s.sessions.limits (gone frame.client) server frames new) s.sessions t.sessions x y → ReadsOn service said ahead a t y
  read_gone said all ahead x y frame a s t is whole within none set it =
      let events : List Event = gone frame.client ∷ [] in
      let brings = brings_gone service.limits frame.client (rest_at (rests_of s) frame.client) frame.bytes none in
      let read : HasRead service a.heard ahead (rests_of t) (events_of all ++ events) =
      subst (λ (r : Rests). HasRead service a.heard ahead r (events_of all ++ events)) (sym set) (read_frame service a.heard ahead (rests_of s) (events_of all) events [] frame is.read whole within brings) in
      let happen : IsAnswered (Happen a.sizes s.sessions.limits events) a a s.sessions t.sessions x y =
      record { frames = it.frames; is = (it.frames, [], server_of a.names t.sessions, it.is a.names a.sizes, sym (append-nil it.frames), (refl, refl)); bytes = it.bytes; large = it.large } in
      let did = going_more service said all s.sessions a a t.sessions x y events is.going (keeps_same a) happen (heard_read service a.heard ahead (rests_of t) (events_of all ++ events) read) in
      record {
        forced = said;
        done = did.0;
        on = ([], sym (append-nil said));
        reading = record { going = did.2; read = subst (λ (l : List Event). HasRead service a.heard ahead (rests_of t) l) (sym did.1) read };
      }

  -- nothing was read yet
  pub reads_none : (said all : List Done) (ahead x : List ℕ) (a : Standing) (s : Desk) → IsReading service said all ahead a s x → ReadsOn service said ahead a s x
  reads_none said all ahead x a s is = record { forced = said; done = all; on = ([], sym (append-nil said)); reading = is }

  pub reads_serves : (said : List Done) (ahead y : List ℕ) (b : Standing) (t : Desk) → ReadsOn service said ahead b t y → ServesOn service b said
  reads_serves said ahead y b t it = serves_later b said it.forced it.on (serves_same service b it.forced it.reading.going.serves)

  -- one behind the other
  pub reads_more : (said : List Done) (ahead later x y : List ℕ) (b c : Standing) (t u : Desk) (one : ReadsOn service said ahead b t x) → ReadsOn service one.forced later c u y → ReadsOn service said later c u y
  reads_more said ahead later x y b c t u one two = record { forced = two.forced; done = two.done; on = front_more said one.forced two.forced one.on two.on; reading = two.reading }

  -- a piece comes
  pub read_heard : (a b : Standing) (h : List Done) (rest piece : List ℕ) (rests : Rests) (server : Server) → HasAnswered service a h rest rests server → Hears a b piece
      → HasRead service b.heard (rest ++ piece) rests (events_of h)
  read_heard a b h rest piece rests server is hears = record {
    frames = is.frames;
    is = hears.heard ∙ ap (λ (l : List ℕ). l ++ piece) is.splits.is ∙ append_assoc (frames_bytes is.frames) rest piece;
    whole = is.splits.whole;
    bring = is.bring;
  }

  pub serves_heard : (a b : Standing) (h : List Done) (rest piece : List ℕ) (rests : Rests) (server : Server) → HasAnswered service a h rest rests server → Hears a b piece → Serves service b h
  serves_heard a b h rest piece rests server is hears = record {
    is = is.serves.is;
    each = λ heard said names at. ⊎_elim (λ old. is.serves.each heard said names old) (λ now.
        moment_all service h heard said names
        (subst (λ (l : List ℕ). HasHeard service l (events_of h)) (sym now.0) (heard_read service b.heard (rest ++ piece) rests (events_of h) (read_heard a b h rest piece rests server is hears)))
        (now.2 ∙ is.stable ∙ ap (λ (o : Server). o.names) is.server_is)
        ([], sym (now.1 ∙ is.said) ∙ sym (append-nil said))) (hears.moments heard said names at);
  }

  -- so a turn begins
  pub reading_begun : (a b : Standing) (h : List Done) (desk : Desk) (piece : List ℕ) → IsBetween service h a desk → Hears a b piece → IsReading service h h (desk.rest.items ++ piece) b desk []
  reading_begun a b h desk piece between hears =
      let is = between.answered in
      let server : Server = server_of a.names desk.sessions in
      let read : HasRead service b.heard (desk.rest.items ++ piece) (rests_of desk) (events_of h) = read_heard a b h desk.rest.items piece (rests_of desk) server is hears in
      let has : HasHeard service b.heard (events_of h) = heard_read service b.heard (desk.rest.items ++ piece) (rests_of desk) (events_of h) read in
      record {
        going = record {
          sizes = hears.sizes ∙ is.sizes;
          limits = between.limits;
          first = ([], sym (append-nil h));
          is = is.serves.is;
          server = ap (λ (n : Names). server_of n desk.sessions) hears.names ∙ is.server_is;
          to_say = refl;
          was_heard = has;
          serves = serves_heard a b h desk.rest.items piece (rests_of desk) server is hears;
          said_heard = has;
          was_said = hears.said ∙ is.said;
          stable = hears.stable ∙ is.stable ∙ ap (λ (o : Server). o.names) is.server_is;
        };
        read = read;
      }

  -- and ends
  pub between_turns : (h : List Done) (it : Standing) (desk : Desk) (heard x : List ℕ) → IsGoing service h h it desk.sessions x → HasRead service heard desk.rest.items (rests_of desk) (events_of h) → it.heard ≡ heard
      → IsUnfinished desk.rest.items → IsBetween service h it desk
  between_turns h it desk heard x going read same unfinished = record {
    limits = going.limits;
    answered = record {
      sizes = going.sizes;
      serves = going.serves;
      frames = read.frames;
      splits = record { is = same ∙ read.is; whole = read.whole; unfinished = unfinished };
      bring = read.bring;
      server_is = going.server;
      said = going.was_said;
      stable = going.stable ∙ sym (ap (λ (o : Server). o.names) going.server);
    };
  }

  pub all_answered : (h : List Done) (it : Standing) (desk : Desk) → IsBetween service h it desk → AllAnswered service it
  all_answered h it desk is = (h, desk.rest.items, rests_of desk, server_of it.names desk.sessions, is.answered)

-- before the first turn
pub serves_fresh : (limits : SessionLimits) (count : ℕ) (it : Standing) → IsFresh it → Serves (service_of limits count it) it []
serves_fresh limits count it fresh = record {
  is = tt;
  each = λ heard said names at.
      let now = fresh.moments heard said names at in
      moment_all (service_of limits count it) [] heard said names (record { frames = []; later = []; begins = now.0; whole = tt; told = refl }) now.2 ([], sym now.1 ∙ sym (append-nil said));
}

pub between_fresh : (limits : SessionLimits) (count : ℕ) (it : Standing) (desk : Desk) → IsFresh it → IsNew limits count desk → IsUnfinished desk.rest.items → IsBetween (service_of limits count it) [] it desk
between_fresh limits count it desk fresh new none = record {
  limits = new.limits_are;
  answered = record {
    sizes = refl;
    serves = serves_fresh limits count it fresh;
    frames = [];
    splits = record { is = fresh.heard ∙ sym new.rest; whole = tt; unfinished = none };
    bring = (refl, new.rests);
    server_is = new.server it.names;
    said = fresh.said;
    stable = fresh.stable;
  };
}
