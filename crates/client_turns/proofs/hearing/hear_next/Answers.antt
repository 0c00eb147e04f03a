use Rattle.std.proofs.lemmas.Result.{IfOk-from_err, IfOk-weaker}
use Rattle.client_turns.proofs.Moments.{serves_kept, serves_same}
use Rattle.client_turns.proofs.Turned.{goes_heard, serves_later}
use Rattle.client_turns.proofs.hearing.hear_next.Goals as goal

pub returns-in_err-relieve-clause-hears : goal.returns-in_err-relieve-clause-hears
returns-in_err-relieve-clause-hears g c origin was holds =
    let one = c.in_err-relieve.ensures origin was holds in
    record {
      next = one.next;
      counts = one.counts;
      stands = IfOk-from_err c.from_residual.result _ c.from_residual.ensures.0;
      is = λ service said all is. ((one.is.1 service said all c.args.sessions.now is.going).0, IfOk-from_err c.from_residual.result _ c.from_residual.ensures.0);
    }

pub returns-clause-count : goal.returns-clause-count
returns-clause-count g c = IfOk-weaker c.hear.result _ _ (λ heard large. large.count) c.hear.ensures.large

pub returns-clause-fewer : goal.returns-clause-fewer
returns-clause-fewer g c = c.hear.ensures.fewer

pub returns-clause-hears : goal.returns-clause-hears
returns-clause-hears g c origin was holds =
    let one = c.in_ok-relieve.ensures origin was holds in
    let b = one.next in
    let two = c.hear.ensures.heard origin b one.stands in
    let d = two.next in
    record {
      next = d;
      counts = two.counts;
      stands = two.stands;
      is = λ service said all is.
          let it = (one.is.1 service said all c.args.sessions.now is.going).1 in (
            serves_later service d said it.0 it.1 (serves_same service d it.0 (serves_kept service b d it.0 it.2.serves two.is.0)),
            IfOk-weaker c.hear.result _ _ (λ heard told. goes_heard service said all it.0 c.args.client c.args.bytes.now c.args.out.now.items c.relieve.new.out.items c.hear.new.out.items heard was b d
                c.args.sessions.now c.hear.new.self is it.1 it.2 one.is.0 two.is.0 told) two.is.1,
          );
    }
