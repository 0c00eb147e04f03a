use Rattle.std.proofs.Common.{subst, ℕ, ◌<◌, ◌≤◌, ◌⊎◌, List, length, inl, inr}
use Rattle.running_store.specs.Parts.{volatile}
use Rattle.cache_manager.specs.Beside.{HasCopied, IsFresh}
use Rattle.cache_manager.proofs.MadeReady.Chosen.{not_unready}
use Rattle.cache_manager.proofs.readying.logged_first.Goals as goal

pub returns-in_default-clause-none : goal.returns-in_default-clause-none
returns-in_default-clause-none c = inl c.in_default.ensures.none

pub returns-then-may_finish-clause-none : goal.returns-then-may_finish-clause-none
returns-then-may_finish-clause-none c =
    let it = volatile c.args.objects.now c.args.graph.now.entries in
    let few = subst (λ (l : List ℕ). length l ≤ 1) c.as_slice.ensures.value (c.may_finish.ensures.few c.if-may_finish.true) in
    let fresh = subst (λ (l : List ℕ). IsFresh it.entries c.in-Some.name c.args.copied l) c.as_slice.ensures.value (c.may_finish.ensures.fresh c.if-may_finish.true) in
    inr (c.in-Some.name, c.in-Some.ensures.some, not_unready it c.args.copied c.in-Some.name c.in_ok-work.work.items c.in_ok-work.ensures few fresh)

pub returns-clause-some : goal.returns-clause-some
returns-clause-some c =
    let it = volatile c.args.objects.now c.args.graph.now.entries in
    let must = subst (λ (l : List ℕ). (1 < length l) ⊎ HasCopied it.entries c.in-Some.name c.args.copied l) c.as_slice.ensures.value (c.may_finish.ensures.must c.if-may_finish.false) in
    (c.in-Some.name, c.in-Some.ensures.some, (c.in_ok-work.work.items, record { minimal = c.in-Some.ensures.some.0; is_work = c.in_ok-work.ensures; must = must }), c.in_ok-logs.ensures)
