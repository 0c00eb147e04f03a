use Rattle.std.proofs.Common.{ap, refl}
use Rattle.backup_copy.specs.Refusals.{judge_start}
use Rattle.embed_c.specs.Backups.{RisesHere, RisesThere}
use Rattle.embed_c.specs.declared.answer.Answer.{Answer}
use Rattle.embed_c.proofs.Telling.{start_cause}
use Rattle.embed_c.proofs.Untaken.{by_start, either_way, unchanged, untaken, untouched}
use Rattle.embed_c.proofs.session.Session.start_backup.Goals as goal

pub returns : goal.returns
returns c =
    let e = c.start_backup.ensures in
    let store = c.args.self.now.store in
    let store' = c.start_backup.new.self in
    let target = c.args.target.now.machine in
    let target' = c.start_backup.new.target in
    let engine = store.engine in
    let made = c.start_backup.result in
    record {
      call = record {
        made = made;
        store = record {
          done = λ works. record {
            refused = e.refused works;
            forces = e.forces works;
            copied = e.copied works;
            begun = e.begun works;
            kept = λ begins. e.kept works tt begins;
            moments = λ none. e.moments works tt none;
            quiet = e.quiet works;
            cause = start_cause target (RisesHere target target' store store') (RisesThere target target' store store') (judge_start engine) made (e.cause works);
          };
          broken = e.broken;
        };
        number = ap (λ (a : Answer). a.number) c.backup_answer-answer.ensures;
        detail = ap (λ (a : Answer). a.detail) c.backup_answer-answer.ensures;
        untaken = either_way engine.broken (λ works. by_start engine store'.engine target target' (judge_start engine) made (e.refused works) (e.forces works)) (λ fails. unchanged (e.broken fails).0.same);
        taken = refl;
        pairs = refl;
        snapshot = refl;
        staging = refl;
      };
      untaken = either_way engine.broken (λ works. untaken (e.quiet works).time) (λ fails. untouched (e.broken fails).1);
      taken = refl;
    }
