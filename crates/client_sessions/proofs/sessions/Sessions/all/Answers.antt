use Rattle.std.proofs.Common.{◌≡◌, ◌∙◌, ℕ, List, Vec, Global, length, map, sym, subst}
use Rattle.std.proofs.lemmas.List.{length-map}
use Rattle.std.proofs.lemmas.Result.{IfOk-from_err, on_ok_weaker}
use Rattle.client_sessions.specs.Answers.{DoneInTurn}
use Rattle.client_sessions.specs.Calls.{IsDone}
use Rattle.client_sessions.specs.Laws.{keeps_same}
use Rattle.client_sessions.specs.Sessions.{Words}
use Rattle.client_sessions.proofs.Commands.{all_done}
use Rattle.client_sessions.proofs.Slots.{more_large}
use Rattle.client_sessions.proofs.sessions.Sessions.all.Goals as goal

abbrev Kept : Type 0
Kept = Vec (Vec ℕ Global) Global

abbrev words_of : Kept → Words
words_of words = map (λ (word : Vec ℕ Global). word.items) words.items

pub returns-then-len-clause-done : goal.returns-then-len-clause-done
returns-then-len-clause-done g c origin was holds =
    record { next = was; counts = g.met.S.NamedStore.lawful.counts c.args.store.now origin was holds; stands = tt; is = (keeps_same was, tt) }

pub returns-in_err-push-clause-done : goal.returns-in_err-push-clause-done
returns-in_err-push-clause-done g c origin was holds =
    record { next = was; counts = g.met.S.NamedStore.lawful.counts c.args.store.now origin was holds; stands = IfOk-from_err c.from_residual.result _ c.from_residual.ensures.0; is = (keeps_same was, IfOk-from_err c.from_residual.result _ c.from_residual.ensures.0) }

pub returns-clause-large : goal.returns-clause-large
returns-clause-large g c = on_ok_weaker c.in_turn.result (λ large. more_large c.args.self.now c.take_queue-queue.new.self c.in_turn.new.self c.take_queue-queue.ensures.large large) c.in_turn.ensures.large

pub returns-clause-done : goal.returns-clause-done
returns-clause-done g c origin was holds =
    let one = c.in_turn.ensures.done origin was holds in
    let queue : List Kept = c.take_queue-queue.result.items in
    let mid = c.take_queue-queue.new.self in
    let new = c.in_turn.new.self in
    let y : List ℕ = c.push.new.into.items in
    let z : List ℕ = c.in_turn.new.into.items in
    let long : c.len-2.result ≡ length (map words_of queue) = c.len-2.ensures ∙ c.take_queue-queue.result.ok.0 ∙ sym (length-map queue words_of) in
    let done = on_ok_weaker c.in_turn.result (λ it. all_done was.sizes c.args.client c.len-2.result (map words_of queue) was one.next c.args.self.now mid new c.args.into.now.items y z c.take_queue-queue.ensures.queue long
    c.take_queue-queue.ensures.is c.take_queue-queue.ensures.large c.in_ok-push.ensures.ok
    (subst (λ (l : List Kept). IsDone (DoneInTurn was.sizes c.args.client (map words_of l)) was one.next mid new y z) c.deref.ensures.value it)) one.is.1 in
    record { next = one.next; counts = one.counts; stands = one.stands; is = (one.is.0, done) }
