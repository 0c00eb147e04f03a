use Rattle.std.proofs.Common.{◌≡◌, sym, subst, ℕ, Bool, true, List, refl, inl, inr}
use Rattle.write_graph.specs.Graph.{IsNodeNamed}
use Rattle.dirty_cache.specs.Contents.{is_dirty}
use Rattle.running_store.specs.Parts.{Volatile, volatile}
use Rattle.cache_manager.specs.Thin.{IsWork}
use Rattle.cache_manager.proofs.MadeReady.Chosen.{not_unready}
use Rattle.cache_manager.proofs.ThinNode.Nodes.{among_all}
use Rattle.cache_manager.proofs.readying.consider.Goals as goal

-- what the node has to flush
due_is : (it : Volatile) (n : ℕ) (items due : List ℕ) → due ≡ items → ((node : ℕ → Bool) → IsNodeNamed it.entries n node → IsWork it node items) → (node : ℕ → Bool) → IsNodeNamed it.entries n node → IsWork it node due
due_is it n items due same is = subst (λ (l : List ℕ). (node : ℕ → Bool) → IsNodeNamed it.entries n node → IsWork it node l) (sym same) is

pub add_others-requires-clause-dirty : goal.add_others-requires-clause-dirty
add_others-requires-clause-dirty c =
    let it = volatile c.args.objects.now c.args.graph.now.entries in
    let listed = due_is it c.args.n c.in_ok-work.work.items c.as_slice-due.result.now c.as_slice-due.ensures.value c.in_ok-work.ensures c.requires.0 c.requires.1 in
    among_all (λ x. is_dirty c.args.objects.now.cache x ≡ true) c.as_slice-due.result.now (λ x there. ((listed.exactly x).0 there).1)

pub add_others-requires-clause-rising : goal.add_others-requires-clause-rising
add_others-requires-clause-rising c =
    let it = volatile c.args.objects.now c.args.graph.now.entries in
    (due_is it c.args.n c.in_ok-work.work.items c.as_slice-due.result.now c.as_slice-due.ensures.value c.in_ok-work.ensures c.requires.0 c.requires.1).rising

pub returns-then-may_finish : goal.returns-then-may_finish
returns-then-may_finish c =
    let it = volatile c.args.objects.now c.args.graph.now.entries in
    let is = due_is it c.args.n c.in_ok-work.work.items c.as_slice-due.result.now c.as_slice-due.ensures.value c.in_ok-work.ensures in
    inr (not_unready it c.args.copied c.args.n c.as_slice-due.result.now is (c.may_finish.ensures.few c.if-may_finish.true) (c.may_finish.ensures.fresh c.if-may_finish.true), refl, refl)

pub returns : goal.returns
returns c =
    let it = volatile c.args.objects.now c.args.graph.now.entries in
    let is = due_is it c.args.n c.in_ok-work.work.items c.as_slice-due.result.now c.as_slice-due.ensures.value c.in_ok-work.ensures in
    let added = c.in_ok-add_others.ensures in
    inl (c.as_slice-due.result.now, added.0, record { minimal = c.requires; is_work = is; must = c.may_finish.ensures.must c.if-may_finish.false }, added.2, c.in_ok-push.ensures.items, added.1)
