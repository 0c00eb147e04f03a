use Rattle.std.proofs.Common.{◌≡◌, ◌∙◌, ◌+◌, ◌<◌, ℕ, List, [], ◌∷◌, Vec, Global, map, drop, refl, sym, ap, subst, arith}
use Rattle.std.proofs.lemmas.List.{drop_all, drop_more}
use Rattle.std.proofs.lemmas.Result.{IfOk-from_err}
use Rattle.client_sessions.specs.Calls.{IsDone}
use Rattle.client_sessions.specs.Laws.{keeps_same}
use Rattle.client_sessions.specs.Sessions.{Words}
use Rattle.client_sessions.proofs.Running.{keeps_more}
use Rattle.client_sessions.proofs.Slots.{more_large, same_large}
use Rattle.client_sessions.proofs.Turns.{Completes, turns_all, turns_more, turns_none}
use Rattle.client_sessions.proofs.sessions.Sessions.in_turn.Goals as goal

abbrev Kept : Type 0
Kept = Vec (Vec ℕ Global) Global

abbrev words_of : Kept → Words
words_of words = map (λ (word : Vec ℕ Global). word.items) words.items

pub loop-words-init : goal.loop-words-init
loop-words-init g c = record {
  large = same_large c.args.self.now;
  goes = λ origin was holds. (was, holds, keeps_same was, turns_none was.sizes c.args.client (map words_of c.args.queue.now) was c.args.self.now c.args.into.now.items);
}

pub next-requires : goal.next-requires
next-requires g c = subst (λ (n : ℕ). c.args.client < n) (sym c.loop-words.invariant.large.count) c.requires

pub returns-in_err-next-clause-done : goal.returns-in_err-next-clause-done
returns-in_err-next-clause-done g c origin was holds =
    let here = c.loop-words.invariant.goes origin was holds in
    let one = c.in_err-next.ensures.done origin here.0 here.1 in
    record { next = one.next; counts = one.counts; stands = IfOk-from_err c.from_residual.result _ c.from_residual.ensures.0; is = (keeps_more was here.0 one.next here.2 one.is.0, IfOk-from_err c.from_residual.result _ c.from_residual.ensures.0) }

pub loop-words-preserved : goal.loop-words-preserved
loop-words-preserved g c =
    let queue : List Kept = c.args.queue.now in
    let at : ℕ = c.loop-words.words-index in
    let words : Kept = c.words-item.result in
    let next : Words = map (λ (word : Vec ℕ Global). word.items) c.as_slice.result.now in
    let rest : List Words = map words_of (drop (at + 1) queue) in
    let split : map words_of (drop at queue) ≡ next ∷ rest =
    ap (λ (l : List Kept). map words_of l) (drop_more queue at words (omega (arith, c.loop-words-test.true, c.loop-words.auto.words-index-end)) ∙ ap (λ (w : Kept). w ∷ drop (at + 1) queue) (sym c.words-item.is))
    ∙ ap (λ (l : List (Vec ℕ Global)). map (λ (word : Vec ℕ Global). word.items) l ∷ rest) (sym c.as_slice.ensures.value) in
    record {
      large = more_large c.args.self.now c.loop-words.self c.next.new.self c.loop-words.invariant.large c.in_ok-next.ensures.large;
      goes = λ origin was holds.
          let here = c.loop-words.invariant.goes origin was holds in
          let one = c.in_ok-next.ensures.done origin here.0 here.1 in (
            one.next,
            one.stands,
            keeps_more was here.0 one.next here.2 one.is.0,
            turns_more was.sizes c.args.client (map words_of queue) rest (map words_of (drop at queue)) next was here.0 one.next c.args.self.now c.loop-words.self c.next.new.self
                c.args.into.now.items c.loop-words.into.items c.next.new.into.items split here.3 refl here.2 one.is.1,
          );
    }

pub returns-clause-large : goal.returns-clause-large
returns-clause-large g c = c.loop-words.invariant.large

pub returns-clause-done : goal.returns-clause-done
returns-clause-done g c origin was holds =
    let queue : List Kept = c.args.queue.now in
    let here = c.loop-words.invariant.goes origin was holds in
    let x : List ℕ = c.args.into.now.items in
    let y : List ℕ = c.loop-words.into.items in
    let none : drop c.loop-words.words-index queue ≡ [] = drop_all c.loop-words.words-index queue (omega (arith, c.loop-words-test.false, c.loop-words.auto.words-index-end)) in
    let all = subst (λ (l : List Kept). IsDone (Completes was.sizes c.args.client (map words_of queue) (map words_of l)) was here.0 c.args.self.now c.loop-words.self x y) none here.3 in
    record {
      next = here.0;
      counts = g.met.S.NamedStore.lawful.counts c.loop-words.store origin here.0 here.1;
      stands = here.1;
      is = (here.2, turns_all was.sizes c.args.client (map words_of queue) was here.0 c.args.self.now c.loop-words.self x y all);
    }
