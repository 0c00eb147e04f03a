use Rattle.std.proofs.Common.{[]}
use Rattle.std.proofs.lemmas.Result.{IfOk-from_err}
use Rattle.client_turns.specs.Turning.{service_of}
use Rattle.client_turns.proofs.Brought.{unfinished_nothing}
use Rattle.client_turns.proofs.Turned.{between_fresh, serves_fresh}
use Rattle.client_turns.proofs.turning.serve.Goals as goal

pub returns-in_err-desk : goal.returns-in_err-desk
returns-in_err-desk g c origin was holds =
    record { next = was; counts = g.met.S.NamedStore.lawful.counts c.args.store.now origin was holds; stands = IfOk-from_err c.from_residual.result _ c.from_residual.ensures.0; is = λ fresh. ([], serves_fresh c.args.limits c.args.count was fresh, IfOk-from_err c.from_residual.result _ c.from_residual.ensures.0) }

pub returns : goal.returns
returns g c origin was holds =
    let one = c.turns.ensures origin was holds in
    let new = c.in_ok-desk.ensures in
    record {
      next = one.next;
      counts = one.counts;
      stands = one.stands;
      is = λ fresh.
          let it = one.is (service_of c.args.limits c.args.count was) [] (between_fresh c.args.limits c.args.count was c.in_ok-desk.desk fresh new (unfinished_nothing c.in_ok-desk.desk.rest.items new.rest)) in
          (it.0.0, it.0.2, it.1);
    }
