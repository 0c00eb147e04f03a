-- A queue is done, one command after the other.
use Rattle.std.proofs.Common.{◌≡◌, ◌∙◌, ℕ, List, [], ◌∷◌, ◌++◌, refl, sym, ap, subst, append_assoc}
use Rattle.std.specs.List.{flat_map}
use Rattle.std.proofs.lemmas.List.{append-nil}
use Rattle.named_words.specs.Effects.{Sizes}
use Rattle.resp_words.specs.Replies.{Said, reply_bytes}
use Rattle.client_sessions.specs.Answers.{DoneInTurn, DoneNow, sort_of}
use Rattle.client_sessions.specs.Calls.{IsDone}
use Rattle.client_sessions.specs.Seen.{server_of}
use Rattle.client_sessions.specs.Sessions.{Server, Words}
use Rattle.client_sessions.specs.Standing.{Keeps, Standing}
use Rattle.client_sessions.specs.declared.sessions.Sessions.{Sessions}
use Rattle.client_sessions.proofs.Running.{behind_more, replies_append}
use Rattle.client_sessions.proofs.Slots.{more_large, same_large}

-- what completes the rest of a queue completes all of it
abbrev pub Completes : Sizes → ℕ → List Words → List Words → Server → List Said → Server → Type 0
Completes sizes at queue rest server said mid = (others : List Said) (last : Server) → DoneInTurn sizes at rest mid others last → DoneInTurn sizes at queue server (said ++ others) last

pub turns_none : (sizes : Sizes) (at : ℕ) (queue : List Words) (a : Standing) (s : Sessions) (x : List ℕ) → IsDone (Completes sizes at queue queue) a a s s x x
turns_none sizes at queue a s x = record { said = []; is = λ others last done. done; bytes = sym (append-nil x); large = same_large s }

pub turns_more : (sizes : Sizes) (at : ℕ) (queue rest next : List Words) (words : Words) (a b c : Standing) (s t u : Sessions) (x y z : List ℕ) → next ≡ words ∷ rest
    → IsDone (Completes sizes at queue next) a b s t x y → sizes ≡ a.sizes → Keeps a b → IsDone (DoneNow b.sizes at words (sort_of words)) b c t u y z → IsDone (Completes sizes at queue rest) a c s u x z
turns_more sizes at queue rest next words a b c s t u x y z is one same_sizes keeps two =
    let mid : Server = server_of b.names t in
    let new : Server = server_of c.names u in
    let first : DoneNow sizes at words (sort_of words) mid two.said new = subst (λ (n : Sizes). DoneNow n at words (sort_of words) mid two.said new) (keeps.sizes ∙ sym same_sizes) two.is in
    record {
      said = one.said ++ two.said;
      is = λ others last done. subst (λ (l : List Said). DoneInTurn sizes at queue (server_of a.names s) l last) (sym (append_assoc one.said two.said others))
          (one.is (two.said ++ others) last (subst (λ (l : List Words). DoneInTurn sizes at l mid (two.said ++ others) last) (sym is) (two.said, others, new, first, refl, done)));
      bytes = behind_more x y z (flat_map reply_bytes one.said) (flat_map reply_bytes two.said) one.bytes two.bytes ∙ ap (λ (l : List ℕ). x ++ l) (sym (replies_append one.said two.said));
      large = more_large s t u one.large two.large;
    }

pub turns_all : (sizes : Sizes) (at : ℕ) (queue : List Words) (a b : Standing) (s t : Sessions) (x y : List ℕ) → IsDone (Completes sizes at queue []) a b s t x y → IsDone (DoneInTurn sizes at queue) a b s t x y
turns_all sizes at queue a b s t x y it = record {
  said = it.said;
  is = subst (λ (l : List Said). DoneInTurn sizes at queue (server_of a.names s) l (server_of b.names t)) (append-nil it.said) (it.is [] (server_of b.names t) (refl, refl));
  bytes = it.bytes;
  large = it.large;
}
