use Rattle.std.proofs.Common.{◌≡◌, ◌∙◌, ℕ, List, [], map, sym, ap, subst, rules}
use Rattle.std.specs.Borrow.{Bor}
use Rattle.std.proofs.lemmas.Result.{IfOk-from_err, on_ok_weaker}
use Rattle.named_words.specs.Forms.{texts}
use Rattle.resp_words.specs.Replies.{said}
use Rattle.client_sessions.specs.Answers.{sort_of}
use Rattle.client_sessions.specs.Calls.{IsStep}
use Rattle.client_sessions.specs.Laws.{keeps_same}
use Rattle.client_sessions.specs.Seen.{client_of}
use Rattle.client_sessions.specs.Sessions.{Words, client_at}
use Rattle.client_sessions.specs.Sorted.{Sorted}
use Rattle.client_sessions.specs.Steps.{all, now, says, step_of}
use Rattle.client_sessions.specs.Words.{sorted_seen, step_seen}
use Rattle.client_sessions.specs.declared.sorted_word.NextStep.{NextStep}
use Rattle.client_sessions.proofs.Commands.{command_done, command_none, finish_now, finish_says, nil_of}
use Rattle.client_sessions.proofs.Slots.{more_large, same_large}
use Rattle.client_sessions.proofs.sessions.Sessions.command.Goals as goal

pub returns-in_default-clause-large : goal.returns-in_default-clause-large
returns-in_default-clause-large g c = same_large c.args.self.now

pub returns-in_default-clause-done : goal.returns-in_default-clause-done
returns-in_default-clause-done g c origin was holds =
    let words : Words = texts c.args.words.now in
    let none : words ≡ [] = ap (λ (l : List (Bor (List ℕ))). texts l) (nil_of c.args.words.now (search rules)) in
    let it = command_none was.sizes c.args.self.now.limits c.args.client words was c.args.self.now c.args.into.now.items none in
    record { next = was; counts = g.met.S.NamedStore.lawful.counts c.args.store.now origin was holds; stands = holds; is = (keeps_same was, it) }

pub returns-in_err-reply-clause-done : goal.returns-in_err-reply-clause-done
returns-in_err-reply-clause-done g c origin was holds =
    record { next = was; counts = g.met.S.NamedStore.lawful.counts c.args.store.now origin was holds; stands = IfOk-from_err c.from_residual.result _ c.from_residual.ensures.0; is = (keeps_same was, IfOk-from_err c.from_residual.result _ c.from_residual.ensures.0) }

pub returns-in_err-push-in-Says-clause-done : goal.returns-in_err-push-in-Says-clause-done
returns-in_err-push-in-Says-clause-done g c origin was holds =
    record { next = was; counts = g.met.S.NamedStore.lawful.counts c.args.store.now origin was holds; stands = IfOk-from_err c.from_residual-in_err-push-in-Says.result _ c.from_residual-in_err-push-in-Says.ensures.0; is = (keeps_same was, IfOk-from_err c.from_residual-in_err-push-in-Says.result _ c.from_residual-in_err-push-in-Says.ensures.0) }

pub returns-in_ok-push-in-Says-clause-large : goal.returns-in_ok-push-in-Says-clause-large
returns-in_ok-push-in-Says-clause-large g c = c.in_ok-reply.ensures.large

pub returns-in_ok-push-in-Says-clause-done : goal.returns-in_ok-push-in-Says-clause-done
returns-in_ok-push-in-Says-clause-done g c origin was holds =
    let old = c.args.self.now in
    let mid = c.step.new.self in
    let at : ℕ = c.args.client in
    let words : Words = texts c.args.words.now in
    let is = ap (λ (l : List (Bor (List ℕ))). texts l) c.in-Some.ensures.cases.0 in
    let sort : Sorted = sorted_seen c.sort-sorted.result in
    let stepped = subst (λ (n : NextStep). IsStep at (step_of old.limits (client_at (map client_of old.sessions.items) at) words sort) (step_seen n) old mid) c.in-Says.is c.in_ok-reply.ensures.is in
    let x : List ℕ = c.args.into.now.items in
    let y : List ℕ = c.push.new.into.items in
    let it = command_done was.sizes old.limits at words c.in-Some.name.now.now (texts c.in-Some.rest.now) sort (says (said c.in-Says.reply)) was was old mid mid x y is c.sort-sorted.ensures stepped
    c.in_ok-reply.ensures.large (finish_says was.sizes old.limits at words (said c.in-Says.reply) was mid x y c.in_ok-push-in-Says.ensures.ok) in
    record { next = was; counts = g.met.S.NamedStore.lawful.counts c.args.store.now origin was holds; stands = holds; is = (keeps_same was, it) }

pub returns-in-Now-clause-large : goal.returns-in-Now-clause-large
returns-in-Now-clause-large g c = on_ok_weaker c.now.result (λ large. more_large c.args.self.now c.step.new.self c.now.new.self c.in_ok-reply.ensures.large large) c.now.ensures.large

pub returns-in-Now-clause-done : goal.returns-in-Now-clause-done
returns-in-Now-clause-done g c origin was holds =
    let one = c.now.ensures.done origin was holds in
    let old = c.args.self.now in
    let mid = c.step.new.self in
    let at : ℕ = c.args.client in
    let words : Words = texts c.args.words.now in
    let is = ap (λ (l : List (Bor (List ℕ))). texts l) c.in-Some.ensures.cases.0 in
    let sort : Sorted = sorted_seen c.sort-sorted.result in
    let stepped = subst (λ (n : NextStep). IsStep at (step_of old.limits (client_at (map client_of old.sessions.items) at) words sort) (step_seen n) old mid) c.in-Now.is c.in_ok-reply.ensures.is in
    let new = c.now.new.self in
    let x : List ℕ = c.args.into.now.items in
    let y : List ℕ = c.now.new.into.items in
    let done = on_ok_weaker c.now.result (λ it. command_done was.sizes old.limits at words c.in-Some.name.now.now (texts c.in-Some.rest.now) sort now was one.next old mid new x y is c.sort-sorted.ensures stepped
    c.in_ok-reply.ensures.large (finish_now was.sizes old.limits at words sort was one.next mid new x y (c.sort-sorted.ensures ∙ sym (ap sort_of is)) it)) one.is.1 in
    record { next = one.next; counts = one.counts; stands = one.stands; is = (one.is.0, done) }

pub returns-in-All-clause-large : goal.returns-in-All-clause-large
returns-in-All-clause-large g c = on_ok_weaker c.all.result (λ large. more_large c.args.self.now c.step.new.self c.all.new.self c.in_ok-reply.ensures.large large) c.all.ensures.large

pub returns-in-All-clause-done : goal.returns-in-All-clause-done
returns-in-All-clause-done g c origin was holds =
    let one = c.all.ensures.done origin was holds in
    let old = c.args.self.now in
    let mid = c.step.new.self in
    let at : ℕ = c.args.client in
    let words : Words = texts c.args.words.now in
    let is = ap (λ (l : List (Bor (List ℕ))). texts l) c.in-Some.ensures.cases.0 in
    let sort : Sorted = sorted_seen c.sort-sorted.result in
    let stepped = subst (λ (n : NextStep). IsStep at (step_of old.limits (client_at (map client_of old.sessions.items) at) words sort) (step_seen n) old mid) c.in-All.is c.in_ok-reply.ensures.is in
    let new = c.all.new.self in
    let x : List ℕ = c.args.into.now.items in
    let y : List ℕ = c.all.new.into.items in
    let done = on_ok_weaker c.all.result (λ it. command_done was.sizes old.limits at words c.in-Some.name.now.now (texts c.in-Some.rest.now) sort all was one.next old mid new x y is c.sort-sorted.ensures stepped
    c.in_ok-reply.ensures.large it) one.is.1 in
    record { next = one.next; counts = one.counts; stands = one.stands; is = (one.is.0, done) }
