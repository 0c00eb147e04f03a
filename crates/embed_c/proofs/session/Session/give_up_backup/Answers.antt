use Rattle.std.proofs.Common.{ap, refl}
use Rattle.backup_copy.specs.Refusals.{judge_copy}
use Rattle.embed_c.specs.declared.answer.Answer.{Answer}
use Rattle.embed_c.proofs.Untaken.{by_give_up, either_way, unchanged}
use Rattle.embed_c.proofs.session.Session.give_up_backup.Goals as goal

pub returns : goal.returns
returns c =
    let e = c.give_up_backup.ensures in
    let store = c.args.self.now.store in
    record {
      made = c.give_up_backup.result;
      store = record { refused = e.refused; given_up = e.given_up; broken = e.broken };
      number = ap (λ (a : Answer). a.number) c.backup_answer-answer.ensures;
      detail = ap (λ (a : Answer). a.detail) c.backup_answer-answer.ensures;
      untaken = either_way store.engine.broken (λ works. by_give_up store c.give_up_backup.new.self c.give_up_backup.result (judge_copy store.engine) (e.refused works) (e.given_up works)) (λ fails. unchanged (e.broken fails).same);
      taken = refl;
      pairs = refl;
      snapshot = refl;
      staging = refl;
    }
