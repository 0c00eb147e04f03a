use Rattle.std.proofs.Common.{◌<◌, sym, ap, ◌∙◌, subst, ℕ, suc, ◌∷◌, List}
use Rattle.logical_btree.specs.Plan as plans
use Rattle.range_calls.specs.Free.{IsLeastFree, free_between}
use Rattle.range_calls.specs.Store.{state_of}
use Rattle.tree_client.specs.Finding.{split_answer}
use Rattle.tree_client.proofs.splitting.split_root.Goals as goal

pub returns-in-Some-clause-answer : goal.returns-in-Some-clause-answer
returns-in-Some-clause-answer g c = λ p commands holds fits.
    let s = state_of p commands in
    let first = subst (IsLeastFree s c.args.tree.now.lo c.args.tree.now.hi) c.in-Some.is (c.first_free.ensures.answer p commands holds fits) in
    c.split_root_beside.ensures.answer p commands holds (subst (λ (x : ℕ). x < p.objects) (sym c.last.ensures.value) fits)
    ∙ ap (λ (x : ℕ). split_answer (plans.split_root_with c.args.root (c.in-Some.left ∷ free_between s (suc c.in-Some.left) x))) c.last.ensures.value
    ∙ sym (ap (λ (l : List ℕ). split_answer (plans.split_root_with c.args.root l)) first)

pub returns-in-None-clause-answer : goal.returns-in-None-clause-answer
returns-in-None-clause-answer g c = λ p commands holds fits.
    let first = subst (IsLeastFree (state_of p commands) c.args.tree.now.lo c.args.tree.now.hi) c.in-None.is (c.first_free.ensures.answer p commands holds fits) in
    sym (ap (λ (l : List ℕ). split_answer (plans.split_root_with c.args.root l)) first)
