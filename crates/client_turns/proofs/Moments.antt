-- What holds at each moment of a turn.
use Rattle.std.proofs.Common.{◌≡◌, ◌∙◌, ℕ, Contains, List, [], ◌++◌, take, drop, refl, sym, ap, subst, append_assoc, ⊎_elim}
use Rattle.std.proofs.lemmas.List.{append-nil, take-append-drop}
use Rattle.client_frames.specs.Frames.{frames_bytes}
use Rattle.client_sessions.specs.Calls.{IsAnswered}
use Rattle.client_sessions.specs.Events.{Event, Happen}
use Rattle.client_sessions.specs.Seen.{server_of}
use Rattle.client_sessions.specs.Sessions.{Server}
use Rattle.client_sessions.specs.Standing.{Commits, Keeps, Moment, Says, Standing}
use Rattle.client_sessions.specs.declared.session_limits.SessionLimits.{SessionLimits}
use Rattle.client_sessions.specs.declared.sessions.Sessions.{Sessions}
use Rattle.named_words.specs.Effects.{Names, Sizes}
use Rattle.client_turns.specs.Serves.{Done, HasHeard, IsFront, IsMoment, Serves, Service, ServesOn, answers_of, events_of, server_after}
use Rattle.client_turns.specs.Within.{IsGoing}
use Rattle.client_turns.proofs.Histories.{Is, after_more, events_more, front_more, history_more, history_of, said_more}

module _ (service : Service) where
  -- a moment of a history is one of a longer one
  moment_more : (h all : List Done) (heard said : List ℕ) (names : Names) → IsFront h all → IsMoment service h heard said names → IsMoment service all heard said names
  moment_more h all heard said names front is =
      record { done = is.done; first = front_more is.done h all is.first front; was_heard = is.was_heard; names_are = is.names_are; was_said = is.was_said }

  -- all of a history
  pub moment_all : (h : List Done) (heard said : List ℕ) (names : Names) → HasHeard service heard (events_of h) → names ≡ (server_after service.start h).names
      → IsFront said (frames_bytes (answers_of h)) → IsMoment service h heard said names
  moment_all h heard said names has same front = record { done = h; first = ([], sym (append-nil h)); was_heard = has; names_are = same; was_said = front }

  -- nothing more
  pub serves_same : (it : Standing) (h : List Done) → Serves service it h → ServesOn service it h
  serves_same it h serves = (h, ([], sym (append-nil h)), serves)

  -- nothing comes, nothing is said, and a crash leaves what it would have left
  pub serves_kept : (a b : Standing) (h : List Done) → Serves service a h → Keeps a b → Serves service b h
  serves_kept a b h serves keeps = record {
    is = serves.is;
    each = λ heard said names at. serves.each heard said names
        (subst (λ (l : List Moment). Contains l (record { heard = heard; said = said; names = names })) keeps.moments at);
  }

  module _ (said all : List Done) (s : Sessions) where
    pub going_serves : (a : Standing) (x : List ℕ) → IsGoing service said all a s x → ServesOn service a said
    going_serves a x is = serves_same a said is.serves

    pub relieved_none : (a : Standing) (x : List ℕ) → IsGoing service said all a s x → (forced : List Done) × IsFront said forced × IsGoing service forced all a s x
    relieved_none a x is = (said, ([], sym (append-nil said)), is)

    -- what happens while nothing is forced or said
    pub going_more : (a b : Standing) (t : Sessions) (x y : List ℕ) (events : List Event) → IsGoing service said all a s x → Keeps a b → IsAnswered (Happen a.sizes s.limits events) a b s t x y
        → HasHeard service a.heard (events_of all ++ events) → (done : List Done) × (events_of done ≡ events_of all ++ events) × IsGoing service said done b t y
    going_more a b t x y events is keeps it has =
        let was : Server = server_after service.start all in
        let new : Server = server_of b.names t in
        let happen : Happen service.sizes service.limits events was it.frames new =
        subst (λ (n : Sizes). Happen n service.limits events was it.frames new) is.sizes
        (subst (λ (l : SessionLimits). Happen a.sizes l events was it.frames new) is.limits (subst (λ (o : Server). Happen a.sizes s.limits events o it.frames new) is.server it.is)) in
        let did : Is service events was it.frames new = history_of service events was new it.frames happen in
        let m : List Done = did.history in
        let told : events_of (all ++ m) ≡ events_of all ++ events = events_more all m ∙ ap (λ (l : List Event). events_of all ++ l) did.events_are in (
          all ++ m,
          told,
          record {
            sizes = keeps.sizes ∙ is.sizes;
            limits = it.large.limits ∙ is.limits;
            first = (is.first.0 ++ m, ap (λ (l : List Done). l ++ m) is.first.1 ∙ append_assoc said is.first.0 m);
            is = history_more service service.start all m is.is did.is;
            server = sym did.server_is ∙ sym (after_more service.start all m);
            to_say = it.bytes ∙ (λ i. is.to_say i ++ frames_bytes (sym did.answers_are i)) ∙ sym (said_more is.first.0 m);
            was_heard = subst (λ (l : List ℕ). HasHeard service l (events_of (all ++ m))) (sym keeps.heard) (subst (λ (l : List Event). HasHeard service a.heard l) (sym told) has);
            serves = serves_kept a b said is.serves keeps;
            said_heard = subst (λ (l : List ℕ). HasHeard service l (events_of said)) (sym keeps.heard) is.said_heard;
            was_said = keeps.said ∙ is.was_said;
            stable = keeps.stable ∙ is.stable;
          },
        )

    module _ {ok : Type 0} (a b : Standing) (out : List ℕ) (is : IsGoing service said all a s out) (commits : Commits ok a b) where
      whole : frames_bytes (answers_of all) ≡ frames_bytes (answers_of said) ++ out
      whole = ap (λ (l : List Done). frames_bytes (answers_of l)) is.first.1 ∙ said_more said is.first.0 ∙ ap (λ (l : List ℕ). frames_bytes (answers_of said) ++ l) (sym is.to_say)

      -- it is forced
      pub serves_committed : Serves service b all
      serves_committed = record {
        is = is.is;
        each = λ heard words names at. ⊎_elim (λ old. moment_more said all heard words names is.first (is.serves.each heard words names old)) (λ here. ⊎_elim
            (λ was. moment_more said all heard words names is.first (moment_all said heard words names
            (subst (λ (l : List ℕ). HasHeard service l (events_of said)) (sym here.0) is.said_heard) (was ∙ is.stable)
            ([], sym (here.1 ∙ is.was_said) ∙ sym (append-nil words))))
            (λ now. moment_all all heard words names
            (subst (λ (l : List ℕ). HasHeard service l (events_of all)) (sym here.0) is.was_heard)
            (now ∙ ap (λ (o : Server). o.names) is.server)
            (out, whole ∙ ap (λ (l : List ℕ). l ++ out) (sym (here.1 ∙ is.was_said)))) here.2) (commits.moments heard words names at);
      }

      module _ {done : Type 0} (c : Standing) (bytes : List ℕ) (was : ok) (same : bytes ≡ out) (told : Says done bytes b c) where
        says : Says done out b c
        says = subst (λ (l : List ℕ). Says done l b c) same told

        forced : b.stable ≡ (server_after service.start all).names
        forced = commits.stable was ∙ commits.names ∙ ap (λ (o : Server). o.names) is.server

        -- and then said
        pub serves_said : Serves service c all
        serves_said = record {
          is = is.is;
          each = λ heard words names at. ⊎_elim (λ old. serves_committed.each heard words names old) (λ here.
              let n : ℕ = here.1.0 in
              let stands : words ≡ frames_bytes (answers_of said) ++ take n out = here.1.1 ∙ ap (λ (l : List ℕ). l ++ take n out) (commits.said ∙ is.was_said) in
              moment_all all heard words names
              (subst (λ (l : List ℕ). HasHeard service l (events_of all)) (sym (here.0 ∙ commits.heard)) is.was_heard)
              (here.2 ∙ forced) (
                drop n out,
                whole ∙ ap (λ (l : List ℕ). frames_bytes (answers_of said) ++ l) (sym (take-append-drop n out))
                    ∙ sym (append_assoc (frames_bytes (answers_of said)) (take n out) (drop n out)) ∙ ap (λ (l : List ℕ). l ++ drop n out) (sym stands),
              )) (says.moments heard words names at);
        }

        -- so nothing is put by any more
        pub going_settled : done → IsGoing service all all c s []
        going_settled all_said =
            let has : HasHeard service c.heard (events_of all) = subst (λ (l : List ℕ). HasHeard service l (events_of all)) (sym (says.heard ∙ commits.heard)) is.was_heard in
            record {
              sizes = says.sizes ∙ commits.sizes ∙ is.sizes;
              limits = is.limits;
              first = ([], sym (append-nil all));
              is = is.is;
              server = ap (λ (n : Names). server_of n s) (says.names ∙ commits.names) ∙ is.server;
              to_say = refl;
              was_heard = has;
              serves = serves_said;
              said_heard = has;
              was_said = says.said all_said ∙ ap (λ (l : List ℕ). l ++ out) (commits.said ∙ is.was_said) ∙ sym whole;
              stable = says.stable ∙ forced;
            }
