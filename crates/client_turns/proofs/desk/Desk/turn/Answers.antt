use Rattle.std.proofs.Common.{◌≡◌, ◌∙◌, ◌++◌, ℕ, List, [], sym, ap, subst}
use Rattle.std.proofs.lemmas.Result.{IfOk-from_err}
use Rattle.client_turns.specs.Within.{IsReading}
use Rattle.client_turns.proofs.Moments.{serves_same}
use Rattle.client_turns.proofs.Turned.{reading_begun}
use Rattle.client_turns.proofs.desk.Desk.turn.Goals as goal

pub returns-in_err-heard : goal.returns-in_err-heard
returns-in_err-heard g c origin was holds =
    record { next = was; counts = g.met.S.NamedStore.lawful.counts c.args.store.now origin was holds; stands = IfOk-from_err c.from_residual.result _ c.from_residual.ensures.0; is = λ service history is. (serves_same service was history is.answered.serves, IfOk-from_err c.from_residual.result _ c.from_residual.ensures.0) }

pub returns-in_err-more : goal.returns-in_err-more
returns-in_err-more g c origin was holds =
    let one = c.in_err-more.ensures origin was holds in
    let b = one.next in
    record {
      next = b;
      counts = one.counts;
      stands = IfOk-from_err c.from_residual-in_err-more.result _ c.from_residual-in_err-more.ensures.0;
      is = λ service history is. (serves_same service b history (reading_begun service was b history c.args.self.now one.is.0 is one.is.1).going.serves, IfOk-from_err c.from_residual-in_err-more.result _ c.from_residual-in_err-more.ensures.0);
    }

pub returns-in_err-answer : goal.returns-in_err-answer
returns-in_err-answer g c origin was holds =
    let one = c.in_ok-more.ensures origin was holds in
    let b = one.next in
    let two = c.in_err-answer.ensures origin b one.stands in
    let desk = c.args.self.now in
    let piece : List ℕ = one.is.0 in
    let come : c.deref-2.result.now ≡ desk.rest.items ++ piece =
    c.deref-2.ensures.value ∙ one.is.2 ∙ ap (λ (l : List ℕ). l ++ piece) (c.in_ok-heard.ensures.items ∙ c.deref.ensures.value) in
    record {
      next = two.next;
      counts = two.counts;
      stands = IfOk-from_err c.from_residual-in_err-answer.result _ c.from_residual-in_err-answer.ensures.0;
      is = λ service history is. ((two.is service history (subst (λ (l : List ℕ). IsReading service history history l b desk []) (sym come) (reading_begun service was b history desk piece is one.is.1))).0, IfOk-from_err c.from_residual-in_err-answer.result _ c.from_residual-in_err-answer.ensures.0);
    }

pub returns : goal.returns
returns g c origin was holds =
    let one = c.in_ok-more.ensures origin was holds in
    let b = one.next in
    let two = c.in_ok-answer.ensures origin b one.stands in
    let desk = c.args.self.now in
    let piece : List ℕ = one.is.0 in
    let come : c.deref-2.result.now ≡ desk.rest.items ++ piece =
    c.deref-2.ensures.value ∙ one.is.2 ∙ ap (λ (l : List ℕ). l ++ piece) (c.in_ok-heard.ensures.items ∙ c.deref.ensures.value) in
    record { next = two.next; counts = two.counts; stands = two.stands; is = λ service history is. two.is service history (subst (λ (l : List ℕ). IsReading service history history l b desk []) (sym come) (reading_begun service was b history desk piece is one.is.1)) }
