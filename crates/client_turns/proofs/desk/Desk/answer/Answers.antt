use Rattle.std.proofs.Common.{List, ℕ, sym, subst}
use Rattle.std.proofs.lemmas.Result.{IfOk-from_err}
use Rattle.client_turns.specs.Within.{IsReading}
use Rattle.client_turns.proofs.Histories.{front_more}
use Rattle.client_turns.proofs.Turned.{between_turns, serves_later}
use Rattle.client_turns.proofs.desk.Desk.answer.Goals as goal

pub returns-in_err-rest : goal.returns-in_err-rest
returns-in_err-rest g c origin was holds =
    let one = c.in_err-rest.ensures.reads origin was holds in
    record {
      next = one.next;
      counts = one.counts;
      stands = IfOk-from_err c.from_residual.result _ c.from_residual.ensures.0;
      is = λ service history is. ((one.is service history history (subst (λ (l : List ℕ). IsReading service history history c.args.heard.now was c.args.self.now l) (sym c.new-out.ensures.items) is)).0, IfOk-from_err c.from_residual.result _ c.from_residual.ensures.0);
    }

pub returns-in_err-settle : goal.returns-in_err-settle
returns-in_err-settle g c origin was holds =
    let one = c.in_ok-rest.ensures.reads origin was holds in
    let two = c.in_err-settle.ensures origin one.next one.stands in
    record {
      next = two.next;
      counts = two.counts;
      stands = IfOk-from_err c.from_residual-in_err-settle.result _ c.from_residual-in_err-settle.ensures.0;
      is = λ service history is.
          let it = (one.is service history history (subst (λ (l : List ℕ). IsReading service history history c.args.heard.now was c.args.self.now l) (sym c.new-out.ensures.items) is)).1 in
          (serves_later service two.next history it.forced it.on (two.is.1 service it.forced it.done c.hear_frames.new.self.sessions it.reading.going).0, IfOk-from_err c.from_residual-in_err-settle.result _ c.from_residual-in_err-settle.ensures.0);
    }

pub returns : goal.returns
returns g c origin was holds =
    let one = c.in_ok-rest.ensures.reads origin was holds in
    let two = c.in_ok-settle.ensures origin one.next one.stands in
    let d = two.next in
    let here = c.hear_frames.new.self in
    record {
      next = d;
      counts = two.counts;
      stands = two.stands;
      is = λ service history is.
          let it = (one.is service history history (subst (λ (l : List ℕ). IsReading service history history c.args.heard.now was c.args.self.now l) (sym c.new-out.ensures.items) is)).1 in
          let going = two.is.1 service it.forced it.done here.sessions it.reading.going in (
            serves_later service d history it.forced it.on going.0,
            (
              it.done,
              front_more history it.forced it.done it.on it.reading.going.first,
              between_turns service it.done d (record here { rest = c.in_ok-rest.rest }) one.next.heard c.settle.new.out.items going.1 it.reading.read two.is.0 c.in_ok-rest.ensures.unfinished,
            ),
          );
    }
