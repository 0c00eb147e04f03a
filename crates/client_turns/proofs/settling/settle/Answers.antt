use Rattle.std.proofs.Common.{◌∙◌, ℕ, List, refl, subst, sym}
use Rattle.std.proofs.lemmas.Result.{IfOk-from_err}
use Rattle.client_turns.specs.Within.{IsGoing}
use Rattle.client_turns.proofs.Moments.{going_settled, serves_committed, serves_said, serves_same}
use Rattle.client_turns.proofs.Turned.{serves_later}
use Rattle.client_turns.proofs.settling.settle.Goals as goal

pub returns-in_err-commit : goal.returns-in_err-commit
returns-in_err-commit g c origin was holds =
    let one = c.in_err-commit.ensures origin was holds in
    let b = one.next in
    record {
      next = b;
      counts = one.counts;
      stands = IfOk-from_err c.from_residual.result _ c.from_residual.ensures.0;
      is = (
        one.is.heard,
        λ service said all sessions is.
            (serves_later service b said all is.first (serves_same service b all (serves_committed service said all sessions was b c.args.out.now.items is one.is)), IfOk-from_err c.from_residual.result _ c.from_residual.ensures.0),
      );
    }

pub returns-in_err-say : goal.returns-in_err-say
returns-in_err-say g c origin was holds =
    let one = c.in_ok-commit.ensures origin was holds in
    let b = one.next in
    let two = c.in_err-say.ensures origin b one.stands in
    let d = two.next in
    record {
      next = d;
      counts = two.counts;
      stands = IfOk-from_err c.from_residual-in_err-say.result _ c.from_residual-in_err-say.ensures.0;
      is = (
        two.is.heard ∙ one.is.heard,
        λ service said all sessions is. (
          serves_later service d said all is.first
              (serves_same service d all (serves_said service said all sessions was b c.args.out.now.items is one.is d c.deref.result.now refl c.deref.ensures.value two.is)),
          IfOk-from_err c.from_residual-in_err-say.result _ c.from_residual-in_err-say.ensures.0,
        ),
      );
    }

pub returns : goal.returns
returns g c origin was holds =
    let one = c.in_ok-commit.ensures origin was holds in
    let b = one.next in
    let two = c.in_ok-say.ensures origin b one.stands in
    let d = two.next in
    record {
      next = d;
      counts = two.counts;
      stands = two.stands;
      is = (
        two.is.heard ∙ one.is.heard,
        λ service said all sessions is. (
          serves_later service d said all is.first
              (serves_same service d all (serves_said service said all sessions was b c.args.out.now.items is one.is d c.deref.result.now refl c.deref.ensures.value two.is)),
          subst (λ (l : List ℕ). IsGoing service all all d sessions l) (sym c.clear.ensures.items)
              (going_settled service said all sessions was b c.args.out.now.items is one.is d c.deref.result.now refl c.deref.ensures.value two.is refl),
        ),
      );
    }
