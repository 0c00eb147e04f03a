-- A command, from its first look to its last frame.
use Rattle.std.proofs.Common.{◌≡◌, ◌∙◌, ℕ, Bool, true, false, List, [], ◌∷◌, ◌++◌, length, map, refl, sym, ap, subst, arith, append_assoc}
use Rattle.std.specs.Prelude.{Some}
use Rattle.std.specs.List.{flat_map}
use Rattle.std.proofs.lemmas.List.{append-nil}
use Rattle.client_frames.specs.Frames.{Frame, frames_bytes}
use Rattle.client_frames.specs.Writing.{AreFor, Carries}
use Rattle.named_words.specs.Effects.{Names, Sizes}
use Rattle.named_words.specs.Reading.{request_of}
use Rattle.resp_words.specs.Replies.{Said, array, reply_bytes}
use Rattle.client_sessions.specs.Answers.{DoneInTurn, DoneNow, QueueDone, sort_of}
use Rattle.client_sessions.specs.Calls.{IsAnswered, IsAsLarge, IsDone, IsStep}
use Rattle.client_sessions.specs.Events.{CommandDone, Finishes, Happens, Obeys, command, farewell}
use Rattle.client_sessions.specs.Seen.{client_of, server_of}
use Rattle.client_sessions.specs.Sessions.{Client, Server, Words, client_at, ended, opened, with_client}
use Rattle.client_sessions.specs.Sorted.{Sorted, drops, sorted}
use Rattle.client_sessions.specs.Standing.{Standing}
use Rattle.client_sessions.specs.Steps.{Step, now, says, step_of}
use Rattle.client_sessions.specs.declared.session_limits.SessionLimits.{SessionLimits}
use Rattle.client_sessions.specs.declared.sessions.Sessions.{Sessions}
use Rattle.client_sessions.proofs.Nows.{bracket_now}
use Rattle.client_sessions.proofs.Running.{behind_more, frames_append}
use Rattle.client_sessions.proofs.Slots.{more_large, same_large}

-- words that were kept, one command
pub next_none : (sizes : Sizes) (at : ℕ) (words : Words) (a : Standing) (s : Sessions) (x : List ℕ) → words ≡ [] → IsDone (DoneNow sizes at words (sort_of words)) a a s s x x
next_none sizes at words a s x is = subst (λ (w : Words). IsDone (DoneNow sizes at w (sort_of w)) a a s s x x) (sym is) (bracket_now sizes at [] drops a s x)

pub next_some : (sizes : Sizes) (at : ℕ) (words kept : Words) (name : List ℕ) (rest : Words) (sort : Sorted) (a b : Standing) (s t : Sessions) (x y : List ℕ) → words ≡ kept → words ≡ name ∷ rest → sort ≡ sorted (request_of name rest)
    → IsDone (DoneNow sizes at words sort) a b s t x y → IsDone (DoneNow sizes at kept (sort_of kept)) a b s t x y
next_some sizes at words kept name rest sort a b s t x y same is sorts it =
    subst (λ (w : Words). IsDone (DoneNow sizes at w (sort_of w)) a b s t x y) same
    (subst (λ (p : Sorted). IsDone (DoneNow sizes at words p) a b s t x y) (sorts ∙ sym (ap sort_of is)) it)

-- all that is queued
pub all_done : (sizes : Sizes) (at n : ℕ) (queue : List Words) (a b : Standing) (old mid new : Sessions) (x y z : List ℕ) → queue ≡ (client_at (map client_of old.sessions.items) at).queue → n ≡ length queue
    → ((names : Names) → server_of names mid ≡ with_client at (ended (client_at (map client_of old.sessions.items) at)) (server_of names old)) → IsAsLarge old mid → y ≡ x ++ reply_bytes (array (Some n))
    → IsDone (DoneInTurn sizes at queue) a b mid new y z → IsDone (QueueDone sizes at) a b old new x z
all_done sizes at n queue a b old mid new x y z same long ends large head it =
    let there : Client = client_at (map client_of old.sessions.items) at in
    let start : Server = with_client at (ended there) (server_of a.names old) in
    record {
      said = array (Some n) ∷ it.said;
      is = (
        it.said,
        ap (λ (k : ℕ). array (Some k) ∷ it.said) (long ∙ ap length same),
        subst (λ (q : List Words). DoneInTurn sizes at q start it.said (server_of b.names new)) same (subst (λ (s : Server). DoneInTurn sizes at queue s it.said (server_of b.names new)) (ends a.names) it.is),
      );
      bytes = behind_more x y z (reply_bytes (array (Some n))) (flat_map reply_bytes it.said) head it.bytes;
      large = more_large old mid new large it.large;
    }

module _ (sizes : Sizes) (limits : SessionLimits) (at : ℕ) where
  pub finish_says : (words : Words) (said : Said) (a : Standing) (s : Sessions) (x y : List ℕ) → y ≡ x ++ reply_bytes said → IsDone (Finishes sizes limits at words (says said)) a a s s x y
  finish_says words said a s x y is = record { said = said ∷ []; is = (refl, refl); bytes = is ∙ ap (λ (l : List ℕ). x ++ l) (sym (append-nil (reply_bytes said))); large = same_large s }

  pub finish_now : (words : Words) (sort : Sorted) (a b : Standing) (s t : Sessions) (x y : List ℕ) → sort ≡ sort_of words → IsDone (DoneNow sizes at words sort) a b s t x y → IsDone (Finishes sizes limits at words now) a b s t x y
  finish_now words sort a b s t x y same it =
      record { said = it.said; is = subst (λ (p : Sorted). DoneNow sizes at words p (server_of a.names s) it.said (server_of b.names t)) same it.is; bytes = it.bytes; large = it.large }

  abbrev Stepped : Client → Words → Sorted → Server → List Said → Server → Type 0
  Stepped client words sort server said new = Finishes sizes limits at words (step_of limits client words sort).1 (with_client at (step_of limits client words sort).0 server) said new

  stepped_command : (client : Client) (words : Words) (name : List ℕ) (rest : Words) (sort : Sorted) (server new : Server) (said : List Said) → client_at server.clients at ≡ client → words ≡ name ∷ rest → sort ≡ sorted (request_of name rest)
      → Stepped client words sort server said new → CommandDone sizes limits at words server said new
  stepped_command client words name rest sort server new said there is sorts it =
      subst (λ (w : Words). CommandDone sizes limits at w server said new) (sym is)
      (subst (λ (c : Client). Stepped c (name ∷ rest) (sorted (request_of name rest)) server said new) (sym there)
      (subst (λ (p : Sorted). Stepped client (name ∷ rest) p server said new) sorts
      (subst (λ (w : Words). Stepped client w sort server said new) is it)))

  -- a command that came, and what was still to be done of it
  pub command_done : (words : Words) (name : List ℕ) (rest : Words) (sort : Sorted) (step : Step) (a b : Standing) (old mid new : Sessions) (x y : List ℕ) → words ≡ name ∷ rest → sort ≡ sorted (request_of name rest)
      → IsStep at (step_of limits (client_at (map client_of old.sessions.items) at) words sort) step old mid → IsAsLarge old mid → IsDone (Finishes sizes limits at words step) a b mid new x y
      → IsDone (CommandDone sizes limits at words) a b old new x y
  command_done words name rest sort step a b old mid new x y is sorts stepped large it =
      let client : Client = client_at (map client_of old.sessions.items) at in
      let last : Server = server_of b.names new in
      record {
        said = it.said;
        is = stepped_command client words name rest sort (server_of a.names old) last it.said refl is sorts
            (subst (λ (t : Step). Finishes sizes limits at words t (with_client at (step_of limits client words sort).0 (server_of a.names old)) it.said last) stepped.step_is
            (subst (λ (s : Server). Finishes sizes limits at words step s it.said last) (stepped.server a.names) it.is));
        bytes = it.bytes;
        large = more_large old mid new large it.large;
      }

  pub command_none : (words : Words) (a : Standing) (s : Sessions) (x : List ℕ) → words ≡ [] → IsDone (CommandDone sizes limits at words) a a s s x x
  command_none words a s x is = record {
    said = [];
    is = subst (λ (w : Words). CommandDone sizes limits at w (server_of a.names s) [] (server_of a.names s)) (sym is) (refl, refl);
    bytes = sym (append-nil x);
    large = same_large s;
  }

  -- a client that is leaving is not heard
  pub obeyed_none : (words : Words) (a : Standing) (s : Sessions) (x : List ℕ) → (client_at (map client_of s.sessions.items) at).leaving ≡ true → IsAnswered (Happens sizes limits (command at words)) a a s s x x
  obeyed_none words a s x is = record {
    frames = [];
    is = subst (λ (b : Bool). Obeys sizes limits b at words (server_of a.names s) [] (server_of a.names s)) (sym is) (refl, refl);
    bytes = sym (append-nil x);
    large = same_large s;
  }

  -- another is, and its answer goes out
  pub obeyed : (words : Words) (a b : Standing) (old mid new : Sessions) (x y z said : List ℕ) → (client_at (map client_of old.sessions.items) at).leaving ≡ false → ((names : Names) → server_of names mid ≡ opened at (server_of names old))
      → IsAsLarge old mid → IsDone (CommandDone sizes limits at words) a b mid new [] said → Carries at said x y → z ≡ y ++ frames_bytes (farewell at (client_at (map client_of new.sessions.items) at))
      → IsAnswered (Happens sizes limits (command at words)) a b old new x z
  obeyed words a b old mid new x y z said stays comes large it carries ends =
      let start : Server = server_of a.names old in
      let last : Server = server_of b.names new in
      let bye : List Frame = farewell at (client_at (map client_of new.sessions.items) at) in
      let frames : List Frame = carries.0 ++ bye in
      record {
        frames = frames;
        is = subst (λ (stay : Bool). Obeys sizes limits stay at words start frames last) (sym stays)
            (it.said, carries.0, subst (λ (s : Server). CommandDone sizes limits at words s it.said last) (comes a.names) it.is, subst (λ (l : List ℕ). AreFor at l carries.0) it.bytes carries.1, refl);
        bytes = ends ∙ ap (λ (l : List ℕ). l ++ frames_bytes bye) carries.2 ∙ append_assoc x (frames_bytes carries.0) (frames_bytes bye) ∙ ap (λ (l : List ℕ). x ++ l) (sym (frames_append carries.0 bye));
        large = more_large old mid new large it.large;
      }

pub nil_of : {A : Type 0} (xs : List A) → length xs ≡ 0 → xs ≡ []
nil_of [] is = refl
nil_of (x ∷ xs) is = absurd (omega (arith, is))
