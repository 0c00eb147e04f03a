use Rattle.std.proofs.Common.{ap, refl}
use Rattle.embed_c.specs.declared.answer.Answer.{Answer}
use Rattle.embed_c.proofs.Untaken.{untaken}
use Rattle.embed_c.proofs.session.Session.begin_room.Goals as goal

pub returns : goal.returns
returns c =
    let e = c.begin_room.ensures in
    record {
      made = c.begin_room.result;
      store = record { in_group = e.in_group; full = e.full; alone = e.alone; room = e.room; broken = e.broken };
      number = ap (λ (a : Answer). a.number) c.work_answer-answer.ensures;
      detail = ap (λ (a : Answer). a.detail) c.work_answer-answer.ensures;
      untaken = untaken e.time;
      taken = refl;
      pairs = refl;
      snapshot = refl;
      staging = refl;
    }
