use Rattle.std.proofs.Common.{◌≡◌, ◌∙◌, ℕ, List, [], Vec, Global, map, sym, ap, rules}
use Rattle.std.specs.Borrow.{Bor}
use Rattle.std.proofs.lemmas.Result.{IfOk-from_err, on_ok_weaker}
use Rattle.named_words.specs.Forms.{texts}
use Rattle.client_sessions.specs.Laws.{keeps_same}
use Rattle.client_sessions.specs.Sessions.{Words}
use Rattle.client_sessions.specs.Words.{sorted_seen}
use Rattle.client_sessions.proofs.Commands.{next_none, next_some, nil_of}
use Rattle.client_sessions.proofs.Slots.{same_large}
use Rattle.client_sessions.proofs.sessions.Sessions.next.Goals as goal

pub returns-in_err-words-clause-done : goal.returns-in_err-words-clause-done
returns-in_err-words-clause-done g c origin was holds =
    record { next = was; counts = g.met.S.NamedStore.lawful.counts c.args.store.now origin was holds; stands = IfOk-from_err c.from_residual.result _ c.from_residual.ensures.0; is = (keeps_same was, IfOk-from_err c.from_residual.result _ c.from_residual.ensures.0) }

pub returns-in_default-clause-large : goal.returns-in_default-clause-large
returns-in_default-clause-large g c = same_large c.args.self.now

pub returns-in_default-clause-done : goal.returns-in_default-clause-done
returns-in_default-clause-done g c origin was holds =
    let words : Words = map (λ (word : Vec ℕ Global). word.items) c.args.words.now in
    let none : words ≡ [] = sym c.in_ok-words.ensures ∙ ap (λ (l : List (Bor (List ℕ))). texts l) (sym c.deref.ensures.value ∙ nil_of c.deref.result.now (search rules)) in
    let it = next_none was.sizes c.args.client words was c.args.self.now c.args.into.now.items none in
    record { next = was; counts = g.met.S.NamedStore.lawful.counts c.args.store.now origin was holds; stands = holds; is = (keeps_same was, it) }

pub returns-clause-large : goal.returns-clause-large
returns-clause-large g c = c.now.ensures.large

pub returns-clause-done : goal.returns-clause-done
returns-clause-done g c origin was holds =
    let one = c.now.ensures.done origin was holds in
    let kept : Words = map (λ (word : Vec ℕ Global). word.items) c.args.words.now in
    let words : Words = texts c.deref-2.result.now in
    let same : words ≡ kept = ap (λ (l : List (Bor (List ℕ))). texts l) c.deref-2.ensures.value ∙ c.in_ok-words.ensures in
    let is = ap (λ (l : List (Bor (List ℕ))). texts l) (c.deref-2.ensures.value ∙ sym c.deref.ensures.value ∙ c.in-Some.ensures.cases.0) in
    let done = on_ok_weaker c.now.result (λ it. next_some was.sizes c.args.client words kept c.in-Some.name.now.now (texts c.in-Some.rest.now) (sorted_seen c.sort-sorted.result) was one.next c.args.self.now c.now.new.self
    c.args.into.now.items c.now.new.into.items same is c.sort-sorted.ensures it) one.is.1 in
    record { next = one.next; counts = one.counts; stands = one.stands; is = (one.is.0, done) }
