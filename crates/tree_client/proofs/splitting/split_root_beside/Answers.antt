use Rattle.std.proofs.Common.{◌≡◌, sym, ap, ◌∙◌, subst, ℕ, suc, ◌+◌, ◌∷◌, List, arith}
use Rattle.logical_btree.specs.Plan as plans
use Rattle.range_calls.specs.Free.{IsLeastFree, free_between}
use Rattle.range_calls.specs.Store.{state_of}
use Rattle.tree_client.specs.Finding.{split_answer}
use Rattle.tree_client.proofs.splitting.split_root_beside.Goals as goal

pub returns-in-Some-clause-answer : goal.returns-in-Some-clause-answer
returns-in-Some-clause-answer g c = λ p commands holds fits.
    let s = state_of p commands in
    let first = subst (IsLeastFree s (c.args.left + 1) c.args.last) c.in-Some.is (c.least_free.ensures.answer p commands holds fits) in
    let next : suc c.args.left ≡ c.args.left + 1 = omega arith in
    sym (ap (λ (l : List ℕ). split_answer (plans.split_root_with c.args.root (c.args.left ∷ l))) (ap (λ (x : ℕ). free_between s x c.args.last) next ∙ first))

pub returns-in-None-clause-answer : goal.returns-in-None-clause-answer
returns-in-None-clause-answer g c = λ p commands holds fits.
    let s = state_of p commands in
    let first = subst (IsLeastFree s (c.args.left + 1) c.args.last) c.in-None.is (c.least_free.ensures.answer p commands holds fits) in
    let next : suc c.args.left ≡ c.args.left + 1 = omega arith in
    sym (ap (λ (l : List ℕ). split_answer (plans.split_root_with c.args.root (c.args.left ∷ l))) (ap (λ (x : ℕ). free_between s x c.args.last) next ∙ first))
