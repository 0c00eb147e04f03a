-- Commands that are done at once.
use Rattle.std.proofs.Common.{◌≡◌, ◌∙◌, ℕ, List, [], ◌∷◌, ◌++◌, length, map, refl, sym, ap, false}
use Rattle.std.proofs.lemmas.List.{append-nil, length-map}
use Rattle.named_words.specs.Effects.{Sizes}
use Rattle.named_words.specs.Refusals.{text_of}
use Rattle.named_words.specs.Requests.{NamesAsked, SessionAsked}
use Rattle.named_words.specs.declared.refusal.Refusal.{Refusal}
use Rattle.resp_words.specs.Replies.{error, reply_bytes}
use Rattle.client_sessions.specs.Answers.{Choice, DoneNow, own_done}
use Rattle.client_sessions.specs.Calls.{IsAsLarge, IsDone, IsNamed, IsOwn}
use Rattle.client_sessions.specs.Seen.{client_of, server_of}
use Rattle.client_sessions.specs.Sessions.{Words, aware}
use Rattle.client_sessions.specs.Sorted.{Bracket, Own, bracket, of_server, on_names, own, refused}
use Rattle.client_sessions.specs.Standing.{Describes, Performs, Standing}
use Rattle.client_sessions.specs.Steps.{done}
use Rattle.client_sessions.specs.declared.sessions.Sessions.{Sessions}
use Rattle.client_sessions.proofs.Slots.{same_large}

-- where nothing is to choose
plain : Choice
plain = record { draw = 0; full = false; told = done ∷ []; one = tt }

pub note_large : (s t : Sessions) (touched : List (List ℕ)) → map client_of t.sessions.items ≡ map (aware touched) (map client_of s.sessions.items) → t.limits ≡ s.limits → IsAsLarge s t
note_large s t touched clients limits = record {
  limits = limits;
  count = sym (length-map t.sessions.items client_of) ∙ ap length clients ∙ length-map (map client_of s.sessions.items) (aware touched) ∙ length-map s.sessions.items client_of;
}

-- a request on names, of which each client is told
pub named_done : (asked : NamesAsked) (a b : Standing) (s t : Sessions) (touched : List (List ℕ)) (x y : List ℕ) → Performs asked a b touched x y
    → map client_of t.sessions.items ≡ map (aware touched) (map client_of s.sessions.items) → t.came ≡ s.came → t.limits ≡ s.limits → IsDone (IsNamed a.sizes asked) a b s t x y
named_done asked a b s t touched x y performs clients came limits = record {
  said = _;
  is = (performs.choice, refl, λ i. record { names = performs.names i; clients = (clients ∙ ap (λ (ns : List (List ℕ)). map (aware ns) (map client_of s.sessions.items)) performs.touched) i; came = came i });
  bytes = performs.said;
  large = note_large s t touched clients limits;
}

module _ (sizes : Sizes) (at : ℕ) (words : Words) where
  pub bracket_now : (word : Bracket) (a : Standing) (s : Sessions) (x : List ℕ) → IsDone (DoneNow sizes at words (bracket word)) a a s s x x
  bracket_now word a s x = record { said = []; is = (plain, refl, refl); bytes = sym (append-nil x); large = same_large s }

  pub own_now : (word : Own) (a : Standing) (s t : Sessions) (x y : List ℕ) → IsOwn (own_done at word) s t x y → IsDone (DoneNow sizes at words (own word)) a a s t x y
  own_now word a s t x y it = record { said = (own_done at word (server_of a.names s)).1; is = (plain, refl, it.server a.names); bytes = it.said a.names; large = it.large }

  pub server_now : (asked : SessionAsked) (a b : Standing) (s : Sessions) (x y : List ℕ) → Describes a b x y → IsDone (DoneNow sizes at words (of_server asked)) a b s s x y
  server_now asked a b s x y it = record {
    said = it.told;
    is = (record { draw = 0; full = false; told = it.told; one = it.one }, refl, λ i. server_of (it.names i) s);
    bytes = it.said;
    large = same_large s;
  }

  pub names_now : (asked : NamesAsked) (a b : Standing) (s t : Sessions) (x y : List ℕ) → IsDone (IsNamed sizes asked) a b s t x y → IsDone (DoneNow sizes at words (on_names asked)) a b s t x y
  names_now asked a b s t x y it = record { said = it.said; is = it.is; bytes = it.bytes; large = it.large }

  pub refused_now : (refusal : Refusal) (a : Standing) (s : Sessions) (x y : List ℕ) → y ≡ x ++ reply_bytes (error (text_of refusal words)) → IsDone (DoneNow sizes at words (refused refusal)) a a s s x y
  refused_now refusal a s x y is = record {
    said = error (text_of refusal words) ∷ [];
    is = (plain, refl, refl);
    bytes = is ∙ ap (λ (l : List ℕ). x ++ l) (sym (append-nil (reply_bytes (error (text_of refusal words)))));
    large = same_large s;
  }
