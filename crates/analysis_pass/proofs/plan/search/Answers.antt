use Rattle.std.proofs.Common.{sym, Ok, Err, rules}
use Rattle.std.proofs.lemmas.List.Sorted.{answers_always}
use Rattle.analysis_pass.proofs.Objects.{searched}
use Rattle.analysis_pass.proofs.plan.search.Goals as goal

pub returns-in-Ok : goal.returns-in-Ok
returns-in-Ok c =
    let found = c.in-Ok.ensures.position (λ s. s.0) (answers_always _ _ _ (λ f a r g called. search rules)) in
    sym (searched c.args.starts.now c.requires c.args.object c.args.other (Ok c.in-Ok.place) c.in-Ok.ensures.bound found).0

pub returns-in-Err : goal.returns-in-Err
returns-in-Err c =
    let none = c.in-Err.ensures.position (λ s. s.0) (answers_always _ _ _ (λ f a r g called. search rules)) in
    sym (searched c.args.starts.now c.requires c.args.object c.args.other (Err c.in-Err.field-0) c.in-Err.ensures.bound none).1
