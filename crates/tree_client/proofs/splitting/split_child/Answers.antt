use Rattle.std.proofs.Common.{sym, ap, subst, ℕ, List}
use Rattle.logical_btree.specs.Plan as plans
use Rattle.range_calls.specs.Free.{IsLeastFree}
use Rattle.range_calls.specs.Store.{state_of}
use Rattle.tree_client.specs.Finding.{split_answer}
use Rattle.tree_client.proofs.splitting.split_child.Goals as goal

pub returns-in-Some-clause-answer : goal.returns-in-Some-clause-answer
returns-in-Some-clause-answer g c = λ p commands holds fits.
    let first = subst (IsLeastFree (state_of p commands) c.args.tree.now.lo c.args.tree.now.hi) c.in-Some.is (c.first_free.ensures.answer p commands holds fits) in
    sym (ap (λ (l : List ℕ). split_answer (plans.split_child_with c.args.parent c.args.child l)) first)

pub returns-in-None-clause-answer : goal.returns-in-None-clause-answer
returns-in-None-clause-answer g c = λ p commands holds fits.
    let first = subst (IsLeastFree (state_of p commands) c.args.tree.now.lo c.args.tree.now.hi) c.in-None.is (c.first_free.ensures.answer p commands holds fits) in
    sym (ap (λ (l : List ℕ). split_answer (plans.split_child_with c.args.parent c.args.child l)) first)
