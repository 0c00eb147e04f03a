use Rattle.std.proofs.Common.{◌≡◌, ◌≤◌, ◌<◌, refl, sym, ap, ◌∙◌, subst, suc, ◌+◌, ◌-◌, List, Some, arith}
use Rattle.btree_ops.specs.declared.node.Node.{Node}
use Rattle.logical_btree.specs.Walk.{Pair, is_within, scan_from}
use Rattle.tree_client.specs.Scanning.{IsBad, span, weight}
use Rattle.tree_client.specs.Answers.{cause_of}
use Rattle.store_engine.specs.Lists.{ending_of}
use Rattle.running_store.specs.Taking.Ending.{Done}
use Rattle.range_calls.specs.Store.{state_of}
use Rattle.tree_client.specs.Answers.{TreeErr}
use Rattle.std.specs.List.{filter}
use Rattle.std.specs.Prelude.{length, ◌++◌, ◌^◌}
use Rattle.tree_client.specs.declared.part.Part.{Part}
use Rattle.range_calls.specs.JoinLaws.{not_refused, reads_then, nothing_reads}
use Rattle.range_calls.specs.ReadLaws.{passed, refused_passed}
use Rattle.tree_client.proofs.ScanLemmas.{bad_met, inner_met, leaf_met, lighter_with, lighter_without, on_ok}
use Rattle.tree_client.proofs.WalkLemmas.{node_found}
use Rattle.tree_client.proofs.scanning.meet.Goals as goal

pub returns-then-depth-eq0-clause-reads : goal.returns-then-depth-eq0-clause-reads
returns-then-depth-eq0-clause-reads g c = nothing_reads g.S.Store.view (g.M.Machine.disk c.args.machine.now) c.args.store.now c.nothing_is_made.ensures.front (c.nothing_is_made.ensures.calls c.requires.unbroken)

pub returns-in_err-leaf-clause-bad : goal.returns-in_err-leaf-clause-bad
returns-in_err-leaf-clause-bad g c = λ p commands holds below.
    let some : 0 < c.args.depth = omega (arith, c.if-depth-eq0.false) in
    refused_passed c.from_residual.result c.in_err-leaf.field-0.0
    (λ (e : TreeErr). ending_of (cause_of e) ≡ Done → IsBad (scan_from c.args.tree.now.lo c.args.tree.now.hi (state_of p commands) c.args.depth (span c.args.from c.args.to) c.args.object) e)
    (passed c.from_residual.result c.in_err-leaf.field-0.0 c.from_residual.ensures.1)
    (λ done. bad_met c.args.tree.now.lo c.args.tree.now.hi (state_of p commands) c.args.depth c.args.object (span c.args.from c.args.to) c.in_err-leaf.field-0.0 some (c.in_err-leaf.ensures.answer p commands holds below done))

pub returns-in-Leaf-clause-reads : goal.returns-in-Leaf-clause-reads
returns-in-Leaf-clause-reads g c = reads_then g.S.Store.view g.M.Machine.disk c.reads_run_short.ensures c.args.machine.now c.node_of.new.machine c.args.store.now c.node_of.new.store c.push_pairs.result c.in_ok-leaf.ensures.reads c.push_pairs.ensures.memory

pub returns-in-Leaf-clause-ok : goal.returns-in-Leaf-clause-ok
returns-in-Leaf-clause-ok g c = λ p commands holds below within.
    let s = state_of p commands in
    let some : 0 < c.args.depth = omega (arith, c.if-depth-eq0.false) in
    let node = node_found c.args.object _ c.in_ok-leaf.field-0 (c.in_ok-leaf.ensures.answer p commands holds below refl) ∙ ap (λ (n : Node). Some n) c.in-Leaf.is in
    on_ok c.push_pairs.result
    (λ pushed. leaf_met c.args.tree.now.lo c.args.tree.now.hi s c.args.depth c.args.object c.args.from c.args.to c.in-Leaf.leaf c.args.scan.now.parts.items c.args.scan.now.pairs.items c.push_pairs.new.pairs.items some node
    (pushed ∙ ap (λ (l : List Pair). c.args.scan.now.pairs.items ++ filter (λ e. is_within e.0 (span c.args.from c.args.to)) l) c.as_slice.ensures.value) within)
    c.push_pairs.ensures.ok

pub returns-in-Leaf-clause-bad : goal.returns-in-Leaf-clause-bad
returns-in-Leaf-clause-bad g c = λ p commands holds below. not_refused c.push_pairs.result _ c.push_pairs.ensures.memory

pub returns-in-Leaf-clause-lighter : goal.returns-in-Leaf-clause-lighter
returns-in-Leaf-clause-lighter g c = on_ok c.push_pairs.result (λ pushed. lighter_without c.args.scan.now.parts.items c.args.depth) c.push_pairs.ensures.ok

pub returns-in-Inner-clause-reads : goal.returns-in-Inner-clause-reads
returns-in-Inner-clause-reads g c = reads_then g.S.Store.view g.M.Machine.disk c.reads_run_short.ensures c.args.machine.now c.node_of.new.machine c.args.store.now c.node_of.new.store c.push_part.result c.in_ok-leaf.ensures.reads c.push_part.ensures.memory

pub returns-in-Inner-clause-ok : goal.returns-in-Inner-clause-ok
returns-in-Inner-clause-ok g c = λ p commands holds below within.
    let s = state_of p commands in
    let some : 0 < c.args.depth = omega (arith, c.if-depth-eq0.false) in
    let node = node_found c.args.object _ c.in_ok-leaf.field-0 (c.in_ok-leaf.ensures.answer p commands holds below refl) ∙ ap (λ (n : Node). Some n) c.in-Inner.is in
    on_ok c.push_part.result
    (λ pushed. inner_met c.args.tree.now.lo c.args.tree.now.hi s c.args.depth c.args.object (record { child = c.in-Inner.child; branches = c.in-Inner.branches; depth = c.args.depth - 1; from = c.args.from; to = c.args.to })
    c.args.scan.now.parts.items c.push_part.new.parts.items c.args.scan.now.pairs.items some node refl pushed within)
    c.push_part.ensures.ok

pub returns-in-Inner-clause-bad : goal.returns-in-Inner-clause-bad
returns-in-Inner-clause-bad g c = λ p commands holds below. not_refused c.push_part.result _ c.push_part.ensures.memory

pub returns-in-Inner-clause-lighter : goal.returns-in-Inner-clause-lighter
returns-in-Inner-clause-lighter g c =
    let some : 0 < c.args.depth = omega (arith, c.if-depth-eq0.false) in
    let few : length c.in-Inner.branches.items ≤ 7 = omega (arith, c.as_slice-few.ensures.fits, ap length c.as_slice-few.ensures.value) in
    let deeper : c.args.depth ≡ suc (c.args.depth - 1) = omega (arith, some) in
    let part : Part = record { child = c.in-Inner.child; branches = c.in-Inner.branches; depth = c.args.depth - 1; from = c.args.from; to = c.args.to } in
    on_ok c.push_part.result
    (λ pushed. subst (λ (l : List Part). weight l < weight c.args.scan.now.parts.items + 9 ^ c.args.depth) (sym pushed) (lighter_with c.args.scan.now.parts.items part c.args.depth few deeper))
    c.push_part.ensures.ok
