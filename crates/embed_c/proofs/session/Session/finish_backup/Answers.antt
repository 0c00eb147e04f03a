use Rattle.std.proofs.Common.{ap, refl}
use Rattle.backup_copy.specs.Refusals.{judge_finish}
use Rattle.embed_c.specs.declared.answer.Answer.{Answer}
use Rattle.embed_c.proofs.Telling.{saved}
use Rattle.embed_c.proofs.Untaken.{by_finish, either_way, unchanged, untaken, untouched}
use Rattle.embed_c.proofs.session.Session.finish_backup.Goals as goal

pub returns : goal.returns
returns c =
    let e = c.finish_backup-made.ensures in
    let engine = c.args.self.now.store.engine in
    let target = c.args.target.now.machine in
    let target' = c.finish_backup-made.new.target in
    let made = c.finish_backup-made.result in
    record {
      call = record {
        made = made;
        store = (
          record {
            done = λ works. record {
              refused = e.refused works;
              forces = (e.forces works).0;
              copied = (e.forces works).1;
              saved = λ p w copies. saved target target' p w made (e.saved works p w copies);
              moments = e.moments works tt;
              again = e.again works;
              quiet = e.quiet works;
              undamaged = e.undamaged works tt;
              cause = e.cause works;
              long = e.long works;
            };
            broken = e.broken;
          },
          c.put_saved.ensures,
        );
        number = ap (λ (a : Answer). a.number) c.backup_answer-answer.ensures;
        detail = ap (λ (a : Answer). a.detail) c.backup_answer-answer.ensures;
        untaken = either_way engine.broken (λ works. by_finish engine c.finish_backup-made.new.self.engine target target' (judge_finish engine) made (e.refused works) (e.forces works).0) (λ fails. unchanged (e.broken fails).0.same);
        taken = refl;
        pairs = refl;
        snapshot = refl;
        staging = refl;
      };
      untaken = either_way engine.broken (λ works. untaken (e.quiet works).time) (λ fails. untouched (e.broken fails).1);
      taken = refl;
    }
