use Rattle.std.proofs.Common.{ap, refl}
use Rattle.embed_c.specs.GivenUp.{IsGivenUp}
use Rattle.embed_c.specs.declared.answer.Answer.{Answer}
use Rattle.embed_c.proofs.GivingUp.{boxed_as, on_none}
use Rattle.embed_c.proofs.Untaken.{untaken}
use Rattle.embed_c.proofs.session.Session.abort.Goals as goal

pub returns-in-Ok-clause-some : goal.returns-in-Ok-clause-some
returns-in-Ok-clause-some c =
    let e = c.in-Ok.ensures in
    boxed_as (IsGivenUp c.args.self) c.boxed.result c.boxed.ensures (record {
      store = record {
        unbroken = e.ready.0;
        group = e.ready.1;
        copied = e.ready.2;
        identities = e.ready.3;
        attached = e.ready.4;
        undone = e.undone tt;
        images = e.images tt;
      };
      detail = ap (λ (a : Answer). a.detail) c.done.ensures;
      untaken = untaken e.opening.time;
      taken = refl;
      pairs = refl;
      staging = refl;
      snapshot = c.brought_back-snapshot.ensures;
    })

pub returns-in-Ok-clause-none : goal.returns-in-Ok-clause-none
returns-in-Ok-clause-none c =
    let e = c.in-Ok.ensures in
    on_none c.boxed.result (record { machine = c.in-Ok.store.machine; untaken = untaken e.opening.time; images = e.images tt; again = e.again tt })

pub returns-in-Err-clause-none : goal.returns-in-Err-clause-none
returns-in-Err-clause-none c = let e = c.in-Err.ensures in record { machine = c.in-Err.machine; untaken = untaken e.opening.time; images = e.images tt; again = e.again tt }
