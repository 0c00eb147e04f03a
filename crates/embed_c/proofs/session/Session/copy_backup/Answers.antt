use Rattle.std.proofs.Common.{ap, refl}
use Rattle.embed_c.specs.declared.answer.Answer.{Answer}
use Rattle.embed_c.proofs.Untaken.{either_way, unchanged, untaken, untouched}
use Rattle.embed_c.proofs.session.Session.copy_backup.Goals as goal

pub returns : goal.returns
returns c =
    let e = c.copy_backup-made.ensures in
    let broken = c.args.self.now.store.engine.broken in
    record {
      call = record {
        made = c.copy_backup-made.result;
        store = (
          record {
            done = λ works. record {
              refused = e.refused works;
              read = e.read works;
              attached = e.attached works;
              runs = e.runs works;
              up_to = e.count works;
              answers = e.told works;
              goes_on = e.goes_on works;
              undamaged = e.undamaged works tt;
              cause = e.cause works;
            };
            broken = e.broken;
          },
          c.put_copied.ensures,
        );
        number = ap (λ (a : Answer). a.number) c.backup_answer-answer.ensures;
        detail = ap (λ (a : Answer). a.detail) c.backup_answer-answer.ensures;
        untaken = either_way broken (λ works. untaken (e.read works).kept.time) (λ fails. unchanged (e.broken fails).0.same);
        taken = refl;
        pairs = refl;
        snapshot = refl;
        staging = refl;
      };
      untaken = either_way broken (λ works. untaken (e.runs works).time) (λ fails. untouched (e.broken fails).1);
      taken = refl;
    }
