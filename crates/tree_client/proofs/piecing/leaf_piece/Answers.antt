use Rattle.range_calls.specs.JoinLaws.{nothing_reads}
use Rattle.std.proofs.Common.{◌≡◌, ◌≤◌, ◌<◌, refl, sym, ap, ◌∙◌, subst, ℕ, ◌-◌, None, Some, List, [], Err, true, Option, arith}
use Rattle.formats.specs.declared.params.Params.{Params}
use Rattle.btree_ops.specs.declared.node.Node.{Node}
use Rattle.btree_ops.specs.declared.node.Node.TheVariants.{Inner}
use Rattle.logical_btree.specs.Plan.{get_on}
use Rattle.logical_btree.specs.Walk as walks
use Rattle.running_store.specs.Taking.Ending.{Done}
use Rattle.store_engine.specs.Lists.{ending_of}
use Rattle.range_calls.specs.Store.{Command, state_of}
use Rattle.range_calls.specs.ReadLaws.{makes_err, nothing_passed, passed, refused_passed}
use Rattle.tree_client.specs.Answers.{TreeErr, cause_of, told}
use Rattle.tree_client.specs.Pieces.{end_below}
use Rattle.tree_client.proofs.PieceLemmas.{gets_bad, gets_begin, gets_end, gets_go_on, key_below, way_begins, way_ends, way_goes_on}
use Rattle.tree_client.proofs.WalkLemmas.{child_within, node_found}
use Rattle.tree_client.proofs.piecing.leaf_piece.Goals as goal

pub loop-step-init : goal.loop-step-init
loop-step-init g c =
    let lo = c.args.tree.now.lo in
    let hi = c.args.tree.now.hi in
    let all : walks.size lo hi - 0 ≡ walks.size lo hi = omega arith in record {
      reads = nothing_reads g.S.Store.view (g.M.Machine.disk c.args.machine.now) c.args.store.now c.nothing_is_made.ensures.front (c.nothing_is_made.ensures.calls c.requires.unbroken);
      within = λ p commands holds. subst (λ (x : ℕ). x ≤ hi) (sym c.root-object.ensures) c.size-step-end.ensures.order;
      rising = refl;
      way = λ p commands holds. way_begins lo hi (state_of p commands) c.args.key None (walks.size lo hi - 0) c.root-object.result all c.root-object.ensures;
      gets = λ p commands holds. gets_begin lo hi (state_of p commands) c.args.key (walks.size lo hi - 0) c.root-object.result all c.root-object.ensures;
    }

pub returns-in_err-node-clause-reads : goal.returns-in_err-node-clause-reads
returns-in_err-node-clause-reads g c =
    makes_err c.from_residual.result c.in_err-node.field-0.0 (passed c.from_residual.result c.in_err-node.field-0.0 c.from_residual.ensures.1)
    (c.reads_go_on.ensures.behind c.args.machine.now c.loop-step.machine c.node_of.new.machine c.args.store.now c.loop-step.store c.node_of.new.store (λ p commands. []) _ c.loop-step.invariant.reads c.in_err-node.ensures.reads)

pub returns-in_err-node-clause-pairs : goal.returns-in_err-node-clause-pairs
returns-in_err-node-clause-pairs g c = λ p commands holds.
    nothing_passed c.from_residual.result c.in_err-node.field-0.0 _ (passed c.from_residual.result c.in_err-node.field-0.0 c.from_residual.ensures.1)

pub returns-in_err-node-clause-rising : goal.returns-in_err-node-clause-rising
returns-in_err-node-clause-rising g c = nothing_passed c.from_residual.result c.in_err-node.field-0.0 _ (passed c.from_residual.result c.in_err-node.field-0.0 c.from_residual.ensures.1)

pub returns-in_err-node-clause-bad : goal.returns-in_err-node-clause-bad
returns-in_err-node-clause-bad g c = λ p commands holds.
    let s = state_of p commands in
    let lo = c.args.tree.now.lo in
    let hi = c.args.tree.now.hi in
    let inv = c.loop-step.invariant in
    let fits = ap (λ (q : Params). q.objects) (g.S.Store.view.numbers p (g.M.Machine.disk c.args.machine.now) c.args.store.now commands holds) in
    let below : c.loop-step.object < p.objects = omega (arith, inv.within p commands holds, c.requires.there, fits) in
    let turn : c.loop-step._step < walks.size lo hi = omega (arith, c.loop-step-test.true, c.size-step-end.ensures.value) in
    refused_passed c.from_residual.result c.in_err-node.field-0.0 (λ (e : TreeErr). ending_of (cause_of e) ≡ Done → told (get_on c.args.key (walks.walk lo hi s c.args.key)) ≡ Err e)
    (passed c.from_residual.result c.in_err-node.field-0.0 c.from_residual.ensures.1)
    (λ done. gets_bad lo hi s c.args.key c.loop-step._step c.loop-step.object turn c.in_err-node.field-0.0 (c.in_err-node.ensures.answer p commands (c.reads_go_on.ensures.holds p c.args.machine.now c.loop-step.machine c.args.store.now c.loop-step.store commands inv.reads holds) below done) (inv.gets p commands holds))

pub returns-in-Leaf-clause-reads : goal.returns-in-Leaf-clause-reads
returns-in-Leaf-clause-reads g c =
    c.reads_go_on.ensures.behind c.args.machine.now c.loop-step.machine c.node_of.new.machine c.args.store.now c.loop-step.store c.node_of.new.store (λ p commands. []) None c.loop-step.invariant.reads c.in_ok-node.ensures.reads

pub returns-in-Leaf-clause-pairs : goal.returns-in-Leaf-clause-pairs
returns-in-Leaf-clause-pairs g c = λ p commands holds.
    let s = state_of p commands in
    let lo = c.args.tree.now.lo in
    let hi = c.args.tree.now.hi in
    let inv = c.loop-step.invariant in
    let fits = ap (λ (q : Params). q.objects) (g.S.Store.view.numbers p (g.M.Machine.disk c.args.machine.now) c.args.store.now commands holds) in
    let below : c.loop-step.object < p.objects = omega (arith, inv.within p commands holds, c.requires.there, fits) in
    let turn : c.loop-step._step < walks.size lo hi = omega (arith, c.loop-step-test.true, c.size-step-end.ensures.value) in
    let node = node_found c.loop-step.object _ c.in_ok-node.node (c.in_ok-node.ensures.answer p commands (c.reads_go_on.ensures.holds p c.args.machine.now c.loop-step.machine c.args.store.now c.loop-step.store commands inv.reads holds) below refl) ∙ ap (λ (n : Node). Some n) c.in-Leaf.is in
    way_ends lo hi s c.args.key c.loop-step._step c.loop-step.object turn c.loop-step.end c.in-Leaf.leaf c.asked_pairs-pairs.result.items node inv.rising c.asked_pairs-pairs.ensures (inv.way p commands holds)

pub returns-in-Leaf-clause-rising : goal.returns-in-Leaf-clause-rising
returns-in-Leaf-clause-rising g c = c.loop-step.invariant.rising

pub returns-in-Leaf-clause-bad : goal.returns-in-Leaf-clause-bad
returns-in-Leaf-clause-bad g c = λ p commands holds. tt

pub loop-step-preserved : goal.loop-step-preserved
loop-step-preserved g c =
    let lo = c.args.tree.now.lo in
    let hi = c.args.tree.now.hi in
    let key = c.args.key in
    let inv = c.loop-step.invariant in
    let first = c.in-Inner.first in
    let branches = c.in-Inner.branches.items in
    let turn : c.loop-step._step < walks.size lo hi = omega (arith, c.loop-step-test.true, c.size-step-end.ensures.value) in
    let below : (p : Params) (commands : List Command) → g.S.Store.view.holds p (g.M.Machine.disk c.args.machine.now) c.args.store.now commands → c.loop-step.object < p.objects =
    λ p commands holds. let fits = ap (λ (q : Params). q.objects) (g.S.Store.view.numbers p (g.M.Machine.disk c.args.machine.now) c.args.store.now commands holds) in omega (arith, inv.within p commands holds, c.requires.there, fits) in
    let child : c.child_for-object.result ≡ walks.child_for key first branches = c.child_for-object.ensures ∙ ap (λ (l : List (List ℕ × ℕ)). walks.child_for key first l) c.as_slice-others.ensures.value in
    let next : c.end_for-end.result ≡ end_below key c.loop-step.end branches = c.end_for-end.ensures ∙ ap (λ (l : List (List ℕ × ℕ)). end_below key c.loop-step.end l) c.as_slice-others.ensures.value in
    let node : (p : Params) (commands : List Command) → g.S.Store.view.holds p (g.M.Machine.disk c.args.machine.now) c.args.store.now commands
    → walks.node_at lo hi (state_of p commands) c.loop-step.object ≡ Some (Inner first c.in-Inner.branches) =
    λ p commands holds.
    node_found c.loop-step.object _ c.in_ok-node.node (c.in_ok-node.ensures.answer p commands (c.reads_go_on.ensures.holds p c.args.machine.now c.loop-step.machine c.args.store.now c.loop-step.store commands inv.reads holds) (below p commands holds) refl) ∙ ap (λ (n : Node). Some n) c.in-Inner.is in
    record {
      reads = c.reads_go_on.ensures.behind c.args.machine.now c.loop-step.machine c.node_of.new.machine c.args.store.now c.loop-step.store c.node_of.new.store (λ p commands. []) None inv.reads c.in_ok-node.ensures.reads;
      within = λ p commands holds.
          subst (λ (x : ℕ). x ≤ hi) (sym child) (child_within lo hi (state_of p commands) key c.loop-step.object first branches (node p commands holds));
      rising = subst (λ (e : Option (List ℕ)). walks.is_below key e ≡ true) (sym next) (key_below key c.loop-step.end branches inv.rising);
      way = λ p commands holds.
          way_goes_on lo hi (state_of p commands) key c.loop-step._step c.loop-step.object turn c.loop-step.end c.end_for-end.result first c.child_for-object.result branches (node p commands holds) next child (inv.way p commands holds);
      gets = λ p commands holds.
          gets_go_on lo hi (state_of p commands) key c.loop-step._step c.loop-step.object turn first c.child_for-object.result branches (node p commands holds) child (inv.gets p commands holds);
    }

pub returns-clause-bad : goal.returns-clause-bad
returns-clause-bad g c = λ p commands holds done.
    let lo = c.args.tree.now.lo in
    let hi = c.args.tree.now.hi in
    let out : walks.size lo hi - c.loop-step._step ≡ 0 = omega (arith, c.loop-step-test.false, c.size-step-end.ensures.value) in
    gets_end lo hi (state_of p commands) c.args.key (walks.size lo hi - c.loop-step._step) c.loop-step.object out (c.loop-step.invariant.gets p commands holds)
