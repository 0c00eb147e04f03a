use Rattle.std.proofs.Common.{[], sym}
use Rattle.std.proofs.lemmas.List.{append-nil}
use Rattle.std.proofs.lemmas.Result.{IfOk-from_err}
use Rattle.client_turns.proofs.Histories.{front_more}
use Rattle.client_turns.proofs.Moments.{serves_same}
use Rattle.client_turns.proofs.Turned.{all_answered, serves_later}
use Rattle.client_turns.proofs.desk.Desk.turns.Goals as goal

pub loop-init : goal.loop-init
loop-init g c origin was holds = (was, holds, λ service history is. (history, ([], sym (append-nil history)), is))

pub loop-preserved : goal.loop-preserved
loop-preserved g c origin was holds =
    let at = c.loop.invariant origin was holds in
    let one = c.in_ok-more.ensures origin at.0 at.1 in (
      one.next,
      one.stands,
      λ service history is.
          let it = at.2 service history is in
          let on = (one.is service it.0 it.2).1 in
          (on.0, front_more history it.0 on.0 it.1 on.1, on.2),
    )

pub returns-in_err-more : goal.returns-in_err-more
returns-in_err-more g c origin was holds =
    let at = c.loop.invariant origin was holds in
    let one = c.in_err-more.ensures origin at.0 at.1 in
    record {
      next = one.next;
      counts = one.counts;
      stands = IfOk-from_err c.from_residual.result _ c.from_residual.ensures.0;
      is = λ service history is. let it = at.2 service history is in (serves_later service one.next history it.0 it.1 (one.is service it.0 it.2).0, IfOk-from_err c.from_residual.result _ c.from_residual.ensures.0);
    }

pub returns-then-not-more : goal.returns-then-not-more
returns-then-not-more g c origin was holds =
    let at = c.loop.invariant origin was holds in
    let one = c.in_ok-more.ensures origin at.0 at.1 in
    record {
      next = one.next;
      counts = one.counts;
      stands = one.stands;
      is = λ service history is.
          let it = at.2 service history is in
          let on = one.is service it.0 it.2 in
          (serves_later service one.next history it.0 it.1 on.0, all_answered service on.1.0 one.next c.turn.new.self on.1.2);
    }

pub returns : goal.returns
returns g c origin was holds =
    let at = c.loop.invariant origin was holds in
    let b = at.0 in
    record {
      next = b;
      counts = g.met.S.NamedStore.lawful.counts c.loop.store origin b at.1;
      stands = at.1;
      is = λ service history is.
          let it = at.2 service history is in
          (serves_later service b history it.0 it.1 (serves_same service b it.0 it.2.answered.serves), all_answered service it.0 b c.loop.self it.2);
    }
