use Rattle.std.proofs.Common.{ℕ, List, sym, subst}
use Rattle.std.proofs.lemmas.Result.{IfOk-from_err, on_ok_weaker}
use Rattle.named_words.specs.Forms.{texts}
use Rattle.named_words.specs.Requests.{asked_of_names, asked_of_session}
use Rattle.client_sessions.specs.Answers.{DoneNow}
use Rattle.client_sessions.specs.Calls.{IsDone}
use Rattle.client_sessions.specs.Laws.{keeps_same}
use Rattle.client_sessions.specs.Sessions.{Words}
use Rattle.client_sessions.specs.Standing.{Standing}
use Rattle.client_sessions.specs.Words.{bracket_seen, own_seen, sorted_seen}
use Rattle.client_sessions.specs.declared.sessions.Sessions.{Sessions}
use Rattle.client_sessions.specs.declared.sorted_word.SortedWord.{SortedWord}
use Rattle.client_sessions.proofs.Nows.{bracket_now, names_now, own_now, refused_now, server_now}
use Rattle.client_sessions.proofs.Running.{always_on_ok}
use Rattle.client_sessions.proofs.Slots.{same_large}
use Rattle.client_sessions.proofs.sessions.Sessions.now.Goals as goal

-- what is done of a word
abbrev Does : ℕ → Words → SortedWord → Standing → Standing → Sessions → Sessions → List ℕ → List ℕ → Type 0
Does at words sorted was next old new x y = IsDone (DoneNow was.sizes at words (sorted_seen sorted)) was next old new x y

pub returns-in-Bracket-clause-large : goal.returns-in-Bracket-clause-large
returns-in-Bracket-clause-large g c = same_large c.args.self.now

pub returns-in-Bracket-clause-done : goal.returns-in-Bracket-clause-done
returns-in-Bracket-clause-done g c origin was holds =
    let words : Words = texts c.args.words.now in
    let old = c.args.self.now in
    let x : List ℕ = c.args.into.now.items in
    let word = c.in-Bracket.field-0 in
    let it = subst (λ (w : SortedWord). Does c.args.client words w was was old old x x) (sym c.in-Bracket.is) (bracket_now was.sizes c.args.client words (bracket_seen word) was old x) in
    record { next = was; counts = g.met.S.NamedStore.lawful.counts c.args.store.now origin was holds; stands = holds; is = (keeps_same was, it) }

pub returns-in_err-own-in-Own-clause-done : goal.returns-in_err-own-in-Own-clause-done
returns-in_err-own-in-Own-clause-done g c origin was holds =
    record { next = was; counts = g.met.S.NamedStore.lawful.counts c.args.store.now origin was holds; stands = IfOk-from_err c.from_residual.result _ c.from_residual.ensures.0; is = (keeps_same was, IfOk-from_err c.from_residual.result _ c.from_residual.ensures.0) }

pub returns-in_ok-own-in-Own-clause-large : goal.returns-in_ok-own-in-Own-clause-large
returns-in_ok-own-in-Own-clause-large g c = c.in_ok-own-in-Own.ensures.large

pub returns-in_ok-own-in-Own-clause-done : goal.returns-in_ok-own-in-Own-clause-done
returns-in_ok-own-in-Own-clause-done g c origin was holds =
    let words : Words = texts c.args.words.now in
    let old = c.args.self.now in
    let new = c.own.new.self in
    let x : List ℕ = c.args.into.now.items in
    let y : List ℕ = c.own.new.into.items in
    let done = own_now was.sizes c.args.client words (own_seen c.in-Own.word) was old new x y c.in_ok-own-in-Own.ensures in
    let it = subst (λ (w : SortedWord). Does c.args.client words w was was old new x y) (sym c.in-Own.is) done in
    record { next = was; counts = g.met.S.NamedStore.lawful.counts c.args.store.now origin was holds; stands = holds; is = (keeps_same was, it) }

pub returns-in-OfServer-clause-large : goal.returns-in-OfServer-clause-large
returns-in-OfServer-clause-large g c = always_on_ok c.describe.result (same_large c.args.self.now)

pub returns-in-OfServer-clause-done : goal.returns-in-OfServer-clause-done
returns-in-OfServer-clause-done g c origin was holds =
    let one = c.describe.ensures origin was holds in
    let words : Words = texts c.args.words.now in
    let old = c.args.self.now in
    let x : List ℕ = c.args.into.now.items in
    let y : List ℕ = c.describe.new.into.items in
    let done = on_ok_weaker c.describe.result (λ told. subst (λ (w : SortedWord). Does c.args.client words w was one.next old old x y) (sym c.in-OfServer.is)
    (server_now was.sizes c.args.client words (asked_of_session c.in-OfServer.request) was one.next old x y told)) one.is.1 in
    record { next = one.next; counts = one.counts; stands = one.stands; is = (one.is.0, done) }

pub returns-in-OnNames-clause-large : goal.returns-in-OnNames-clause-large
returns-in-OnNames-clause-large g c = c.perform.ensures.large

pub returns-in-OnNames-clause-done : goal.returns-in-OnNames-clause-done
returns-in-OnNames-clause-done g c origin was holds =
    let one = c.perform.ensures.done origin was holds in
    let words : Words = texts c.args.words.now in
    let old = c.args.self.now in
    let new = c.perform.new.self in
    let x : List ℕ = c.args.into.now.items in
    let y : List ℕ = c.perform.new.into.items in
    let done = on_ok_weaker c.perform.result (λ named. subst (λ (w : SortedWord). Does c.args.client words w was one.next old new x y) (sym c.in-OnNames.is)
    (names_now was.sizes c.args.client words (asked_of_names c.in-OnNames.request) was one.next old new x y named)) one.is.1 in
    record { next = one.next; counts = one.counts; stands = one.stands; is = (one.is.0, done) }

pub returns-in_err-push_refusal-in-Refused-clause-done : goal.returns-in_err-push_refusal-in-Refused-clause-done
returns-in_err-push_refusal-in-Refused-clause-done g c origin was holds =
    record { next = was; counts = g.met.S.NamedStore.lawful.counts c.args.store.now origin was holds; stands = IfOk-from_err c.from_residual-in_err-push_refusal-in-Refused.result _ c.from_residual-in_err-push_refusal-in-Refused.ensures.0; is = (keeps_same was, IfOk-from_err c.from_residual-in_err-push_refusal-in-Refused.result _ c.from_residual-in_err-push_refusal-in-Refused.ensures.0) }

pub returns-in_ok-push_refusal-in-Refused-clause-large : goal.returns-in_ok-push_refusal-in-Refused-clause-large
returns-in_ok-push_refusal-in-Refused-clause-large g c = same_large c.args.self.now

pub returns-in_ok-push_refusal-in-Refused-clause-done : goal.returns-in_ok-push_refusal-in-Refused-clause-done
returns-in_ok-push_refusal-in-Refused-clause-done g c origin was holds =
    let words : Words = texts c.args.words.now in
    let old = c.args.self.now in
    let x : List ℕ = c.args.into.now.items in
    let y : List ℕ = c.push_refusal.new.into.items in
    let done = refused_now was.sizes c.args.client words c.in-Refused.refusal was old x y c.in_ok-push_refusal-in-Refused.ensures in
    let it = subst (λ (w : SortedWord). Does c.args.client words w was was old old x y) (sym c.in-Refused.is) done in
    record { next = was; counts = g.met.S.NamedStore.lawful.counts c.args.store.now origin was holds; stands = holds; is = (keeps_same was, it) }
