use Rattle.std.proofs.Common.{refl}
use Rattle.std.proofs.lemmas.Result.{on_ok_weaker}
use Rattle.client_turns.proofs.Moments.{going_serves, relieved_none}
use Rattle.client_turns.proofs.settling.relieve.Goals as goal

pub returns-then-not-is_enough : goal.returns-then-not-is_enough
returns-then-not-is_enough g c origin was holds =
    let x = c.args.out.now.items in
    record {
      next = was;
      counts = g.met.S.NamedStore.lawful.counts c.args.store.now origin was holds;
      stands = holds;
      is = (refl, λ service said all sessions is. (going_serves service said all sessions was x is, relieved_none service said all sessions was x is));
    }

pub returns : goal.returns
returns g c origin was holds =
    let one = c.settle.ensures origin was holds in
    record {
      next = one.next;
      counts = one.counts;
      stands = one.stands;
      is = (
        one.is.0,
        λ service said all sessions is.
            let both = one.is.1 service said all sessions is in
            (both.0, on_ok_weaker c.settle.result (λ it. (all, is.first, it)) both.1),
      );
    }
