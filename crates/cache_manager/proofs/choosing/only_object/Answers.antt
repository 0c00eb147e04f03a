use Rattle.std.proofs.Common.{◌∙◌, sym, subst, ap, ℕ, ◌≤◌, Bool, List, length, take}
use Rattle.write_graph.specs.Graph.{IsNodeNamed}
use Rattle.running_store.specs.Parts.{volatile}
use Rattle.cache_manager.specs.Beside.{IsFresh}
use Rattle.cache_manager.specs.Thin.{IsWork}
use Rattle.cache_manager.proofs.OneRound.DueNodes.{first_due, not_due}
use Rattle.cache_manager.proofs.choosing.only_object.Goals as goal

pub returns-then-not-may_finish-clause-none : goal.returns-then-not-may_finish-clause-none
returns-then-not-may_finish-clause-none c =
    not_due (volatile c.args.objects.now c.args.graph.now.entries) c.args.copied c.args.n c.requires c.as_slice.result.now (subst (λ (l : List ℕ). (node : ℕ → Bool) → IsNodeNamed c.args.graph.now.entries c.args.n node → IsWork (volatile c.args.objects.now c.args.graph.now.entries) node l) (sym c.as_slice.ensures.value) c.in_ok-work.ensures)
    (c.may_finish.ensures.must c.if-not-may_finish.true)

pub returns-clause-some : goal.returns-clause-some
returns-clause-some c =
    (first_due (volatile c.args.objects.now c.args.graph.now.entries) c.args.copied c.args.n c.requires c.in_ok-work.work.items c.in_ok-work.ensures
    (subst (λ (l : List ℕ). length l ≤ 1) c.as_slice.ensures.value (c.may_finish.ensures.few c.if-not-may_finish.false))
    (subst (λ (l : List ℕ). IsFresh c.args.graph.now.entries c.args.n c.args.copied l) c.as_slice.ensures.value (c.may_finish.ensures.fresh c.if-not-may_finish.false))
    c.first_of.result (c.first_of.ensures ∙ ap (λ (l : List ℕ). take 1 l) c.as_slice-2.ensures.value)).0

pub returns-clause-none : goal.returns-clause-none
returns-clause-none c =
    (first_due (volatile c.args.objects.now c.args.graph.now.entries) c.args.copied c.args.n c.requires c.in_ok-work.work.items c.in_ok-work.ensures
    (subst (λ (l : List ℕ). length l ≤ 1) c.as_slice.ensures.value (c.may_finish.ensures.few c.if-not-may_finish.false))
    (subst (λ (l : List ℕ). IsFresh c.args.graph.now.entries c.args.n c.args.copied l) c.as_slice.ensures.value (c.may_finish.ensures.fresh c.if-not-may_finish.false))
    c.first_of.result (c.first_of.ensures ∙ ap (λ (l : List ℕ). take 1 l) c.as_slice-2.ensures.value)).1
