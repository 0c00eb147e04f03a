use Rattle.std.proofs.Common.{sym, ap, ◌∙◌, ℕ, Option}
use Rattle.logical_btree.specs.Plan as plans
use Rattle.range_calls.specs.Free.{free_between}
use Rattle.range_calls.specs.Store.{state_of}
use Rattle.tree_client.specs.Finding.{split_answer}
use Rattle.tree_client.proofs.splitting.split.Goals as goal

pub returns-in-None-clause-answer : goal.returns-in-None-clause-answer
returns-in-None-clause-answer g c = λ p commands holds fits.
    let free = free_between (state_of p commands) c.args.tree.now.lo c.args.tree.now.hi in
    c.split_root.ensures.answer p commands holds fits
    ∙ sym (
    ap (λ (f : plans.Full). split_answer (plans.split_with free f.child f.parent)) (sym c.full.view_is)
    ∙ ap (λ (o : Option ℕ). split_answer (plans.split_with free c.full.inside.child o)) c.in-None.is
    )

pub returns-in-Some-clause-answer : goal.returns-in-Some-clause-answer
returns-in-Some-clause-answer g c = λ p commands holds fits.
    let free = free_between (state_of p commands) c.args.tree.now.lo c.args.tree.now.hi in
    c.split_child.ensures.answer p commands holds fits
    ∙ sym (
    ap (λ (f : plans.Full). split_answer (plans.split_with free f.child f.parent)) (sym c.full.view_is)
    ∙ ap (λ (o : Option ℕ). split_answer (plans.split_with free c.full.inside.child o)) c.in-Some.is
    )
