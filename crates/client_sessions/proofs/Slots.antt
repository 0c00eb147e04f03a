-- What is kept of one client, among what is kept of all.
use Rattle.std.proofs.Common.{◌≡◌, ◌∙◌, ◌<◌, ◌+◌, ◌++◌, ◌∷◌, [], ℕ, Bool, true, false, List, length, map, take, drop, refl, sym, ap, arith}
use Rattle.std.specs.Prelude.{◌||◌, ◌==◌, slice_index_or, slice_set}
use Rattle.std.proofs.lemmas.Bool.Decides.{nat_tests}
use Rattle.std.proofs.lemmas.List.Edits.{map_over_more}
use Rattle.std.proofs.lemmas.List.{append-nil, get_or-map, length-set, map-set}
use Rattle.std.specs.List.{flat_map, list_all}
use Rattle.named_words.specs.Effects.{Names}
use Rattle.resp_words.specs.Replies.{Said, reply_bytes}
use Rattle.client_sessions.specs.Answers.{called, is_graphic}
use Rattle.client_sessions.specs.Steps.{Step, done}
use Rattle.client_sessions.specs.Calls.{IsAsLarge, IsOwn, IsStep}
use Rattle.client_sessions.specs.Seen.{client_of, server_of}
use Rattle.client_sessions.specs.Sessions.{Client, Server, absent, aware, came_in, client_at, opened, with_client}
use Rattle.client_sessions.specs.declared.session.Session.{Session}
use Rattle.client_sessions.specs.declared.sessions.Sessions.{Sessions}

-- one that was read
pub at_seen : (all : List Session) (at : ℕ) (one : Session) → at < length all → one ≡ slice_index_or all at one → client_at (map client_of all) at ≡ client_of one
at_seen all at one within is = get_or-map client_of all at one absent within ∙ ap client_of (sym is)

-- one that was written
pub set_seen : (names : Names) (old new : Sessions) (at : ℕ) (one : Session) → new.sessions.items ≡ slice_set old.sessions.items at one → new.came ≡ old.came
    → server_of names new ≡ with_client at (client_of one) (server_of names old)
set_seen names old new at one is came =
    let clients = ap (map client_of) is ∙ map-set client_of old.sessions.items at one in
    (λ i. record { names = names; clients = clients i; came = came i })

pub set_large : (old new : Sessions) (at : ℕ) (one : Session) → new.sessions.items ≡ slice_set old.sessions.items at one → new.limits ≡ old.limits → IsAsLarge old new
set_large old new at one is limits = record { limits = limits; count = ap length is ∙ length-set old.sessions.items at one }

pub same_large : (it : Sessions) → IsAsLarge it it
same_large it = record { limits = refl; count = refl }

pub more_large : (a b c : Sessions) → IsAsLarge a b → IsAsLarge b c → IsAsLarge a c
more_large a b c one two = record { limits = two.limits ∙ one.limits; count = two.count ∙ one.count }

-- names that were touched, one client after the other
pub note_step : (f : Client → Client) (all : List Session) (old : List Client) (at : ℕ) (item new : Session) → at < length all → at < length old → map client_of all ≡ map f (take at old) ++ drop at old
    → item ≡ slice_index_or all at item → client_of new ≡ f (client_of item) → map client_of (slice_set all at new) ≡ map f (take (at + 1) old) ++ drop (at + 1) old
note_step f all old at item new within inside invariant read is =
    let one : client_of item ≡ slice_index_or (map client_of all) at (client_of item) = ap client_of read ∙ sym (get_or-map client_of all at item (client_of item) within) in
    map-set client_of all at new ∙ ap (λ (c : Client). slice_set (map client_of all) at c) is ∙ map_over_more f old (map client_of all) at (client_of item) inside invariant one

or_false : (b : Bool) → b ≡ (b || false)
or_false true = refl
or_false false = refl

pub aware_nothing : (all : List Client) → all ≡ map (aware []) all
aware_nothing [] = refl
aware_nothing (c ∷ all) = λ i. (record c { stale = or_false c.stale i }) ∷ aware_nothing all i

pub nil_if : {A : Type 0} (xs : List A) → (length xs == 0) ≡ true → xs ≡ []
nil_if [] is = refl
nil_if (x ∷ xs) is = absurd (grind (arith, nat_tests, is))

-- a word of a client changes what is kept of it, and one thing is said
pub own_set : (means : Server → Server × List Said) (f : Client → Client) (said : Said) (old new : Sessions) (at : ℕ) (was one : Session) (before behind : List ℕ)
    → ((names : Names) → means (server_of names old) ≡ (with_client at (f (client_at (map client_of old.sessions.items) at)) (server_of names old), said ∷ []))
    → at < length old.sessions.items → was ≡ slice_index_or old.sessions.items at was → new.sessions.items ≡ slice_set old.sessions.items at one → new.came ≡ old.came → new.limits ≡ old.limits
    → client_of one ≡ f (client_of was) → behind ≡ before ++ reply_bytes said → IsOwn means old new before behind
own_set means f said old new at was one before behind mean within read is came limits same bytes = record {
  server = λ names. set_seen names old new at one is came
      ∙ ap (λ (c : Client). with_client at c (server_of names old)) (same ∙ ap f (sym (at_seen old.sessions.items at was within read)))
      ∙ ap (λ (p : Server × List Said). p.0) (sym (mean names));
  said = λ names. bytes ∙ ap (λ (l : List ℕ). before ++ l) (sym (append-nil (reply_bytes said))) ∙ ap (λ (p : Server × List Said). before ++ flat_map reply_bytes p.1) (sym (mean names));
  large = set_large old new at one is limits;
}

pub called_is : (at : ℕ) (title : List ℕ) (server : Server) → list_all is_graphic title ≡ true
    → called at title server ≡ (with_client at (record (client_at server.clients at) { title = title }) server, done ∷ [])
called_is at title server is = rw is refl

opened_new : (at : ℕ) (server : Server) → (client_at server.clients at).here ≡ false → opened at server ≡ record server { clients = slice_set server.clients at (came_in server.came); came = 1 + server.came }
opened_new at server is = rw is refl

-- a client that was not there comes
pub open_new : (names : Names) (old : Sessions) (at : ℕ) (was one : Session) → at < length old.sessions.items → was ≡ slice_index_or old.sessions.items at was → was.here ≡ false → client_of one ≡ came_in old.came
    → (record { names = names; clients = map client_of (slice_set old.sessions.items at one); came = old.came + 1 }) ≡ opened at (server_of names old)
open_new names old at was one within read away is =
    let clients : map client_of (slice_set old.sessions.items at one) ≡ slice_set (map client_of old.sessions.items) at (came_in old.came) =
    map-set client_of old.sessions.items at one ∙ ap (λ (c : Client). slice_set (map client_of old.sessions.items) at c) is in
    let absent_there : (client_at (map client_of old.sessions.items) at).here ≡ false = ap (λ (c : Client). c.here) (at_seen old.sessions.items at was within read) ∙ away in
    let more : old.came + 1 ≡ 1 + old.came = omega arith in
    (λ i. record { names = names; clients = clients i; came = more i }) ∙ sym (opened_new at (server_of names old) absent_there)

-- a command comes
pub step_set : (old new : Sessions) (at : ℕ) (was one : Session) (means : Client → Client × Step) (step : Step) → at < length old.sessions.items → was ≡ slice_index_or old.sessions.items at was
    → new.sessions.items ≡ slice_set old.sessions.items at one → new.came ≡ old.came → (client_of one, step) ≡ means (client_of was) → IsStep at (means (client_at (map client_of old.sessions.items) at)) step old new
step_set old new at was one means step within read is came same =
    let all : (client_of one, step) ≡ means (client_at (map client_of old.sessions.items) at) = same ∙ ap means (sym (at_seen old.sessions.items at was within read)) in
    record {
      server = λ names. set_seen names old new at one is came ∙ ap (λ (p : Client × Step). with_client at p.0 (server_of names old)) all;
      step_is = ap (λ (p : Client × Step). p.1) all;
    }
