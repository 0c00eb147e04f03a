use Rattle.std.proofs.Common.{◌≡◌, ◌≤◌, refl, sym, ap, ◌∙◌, subst, List, [], ◌∷◌, Option, Some, true, false, arith}
use Rattle.formats.specs.Objects.{bounds_of}
use Rattle.formats.specs.declared.params.Params.{Params}
use Rattle.key_entries.specs.Pairs.{has}
use Rattle.btree_ops.specs.Operation.{node_meaning}
use Rattle.btree_ops.specs.declared.node_op.NodeOp.TheVariants.{Delete}
use Rattle.op_codec.specs.AllOps.{node}
use Rattle.logical_btree.specs.Plan.{TreePlan, delete_plan}
use Rattle.logical_btree.specs.declared.refusal.TreeRefusal.{TreeRefusal}
use Rattle.logical_btree.specs.Walk.{Pair, walk}
use Rattle.running_store.specs.Taking.Ending.{Done}
use Rattle.range_calls.specs.Answers as answers
use Rattle.tree_client.specs.Answers.{cause_in, made_of, refused_in}
use Rattle.range_calls.specs.DueLaws.{one_due, short_is}
use Rattle.range_calls.specs.Store.{Command, state_of}
use Rattle.range_calls.specs.JoinLaws.{holds_behind}
use Rattle.range_calls.specs.MakeLaws.{made_none}
use Rattle.tree_client.proofs.PlanLemmas.{bad_way, delete_absent, delete_bad, delete_past, delete_present, end_of_way, is_within}
use Rattle.range_calls.specs.ReadLaws.{adds_passed, one_behind, passed, refuses_passed}
use Rattle.tree_client.proofs.deleting.delete.Goals as goal

none_of : (p : Params) (plan : TreePlan) (r : Option TreeRefusal) → plan ≡ record { commands = []; refusal = r } → made_of p.cap plan.commands ≡ []
none_of p plan r is = ap (λ (q : TreePlan). made_of p.cap q.commands) is ∙ made_none p.cap

pub returns-then-last-params-clause-adds : goal.returns-then-last-params-clause-adds
returns-then-last-params-clause-adds g c = λ p commands holds.
    let fits = ap (λ (q : Params). q.objects) (c.params.ensures.value ∙ (g.S.Store.view.numbers p (g.M.Machine.disk c.args.machine.now) c.args.store.now commands holds)) in
    let past : p.objects ≤ c.args.tree.now.hi = omega (arith, c.if-last-params.true, c.last.ensures.value, fits) in
    subst (λ (l : List Command). g.S.Store.view.adds p (g.M.Machine.disk c.args.machine.now) (g.M.Machine.disk c.args.machine.now) c.args.store.now c.args.store.now commands l Done)
    (sym (none_of p _ _ (delete_past (bounds_of p) c.args.tree.now.lo c.args.tree.now.hi (state_of p commands) c.args.key.now past))) (c.nothing_is_made.ensures.front p commands holds)

pub returns-in_err-end-clause-adds : goal.returns-in_err-end-clause-adds
returns-in_err-end-clause-adds g c = λ p commands holds.
    let s = state_of p commands in
    let lo = c.args.tree.now.lo in
    let hi = c.args.tree.now.hi in
    let fits = ap (λ (q : Params). q.objects) (c.params.ensures.value ∙ (g.S.Store.view.numbers p (g.M.Machine.disk c.args.machine.now) c.args.store.now commands holds)) in
    let there = is_within (bounds_of p) lo hi (omega (arith, c.last.ensures.order, c.last.ensures.value)) (omega (arith, c.if-last-params.false, c.last.ensures.value, fits)) in
    adds_passed g.S.Store.view c.from_residual.result c.in_err-end.field-0.0 (passed c.from_residual.result c.in_err-end.field-0.0 c.from_residual.ensures.1)
    (c.in_err-end.ensures.reads.adds p commands holds (made_of p.cap (delete_plan (bounds_of p) lo hi s c.args.key.now).commands)
    (λ done.
    none_of p _ _ (delete_bad (bounds_of p) lo hi s c.args.key.now there c.in_err-end.field-0.0 (bad_way (walk lo hi s c.args.key.now) c.in_err-end.field-0.0 (c.in_err-end.ensures.answer p commands holds done)))))

pub returns-in_err-end-clause-answer : goal.returns-in_err-end-clause-answer
returns-in_err-end-clause-answer g c = λ p commands holds.
    let s = state_of p commands in
    let lo = c.args.tree.now.lo in
    let hi = c.args.tree.now.hi in
    let fits = ap (λ (q : Params). q.objects) (c.params.ensures.value ∙ (g.S.Store.view.numbers p (g.M.Machine.disk c.args.machine.now) c.args.store.now commands holds)) in
    let there = is_within (bounds_of p) lo hi (omega (arith, c.last.ensures.order, c.last.ensures.value)) (omega (arith, c.if-last-params.false, c.last.ensures.value, fits)) in
    refuses_passed c.from_residual.result c.in_err-end.field-0.0 (refused_in p.cap (delete_plan (bounds_of p) lo hi s c.args.key.now)) (passed c.from_residual.result c.in_err-end.field-0.0 c.from_residual.ensures.1)
    (λ done.
    let bad = bad_way (walk lo hi s c.args.key.now) c.in_err-end.field-0.0 (c.in_err-end.ensures.answer p commands holds done) in
    ap (λ e. Some e) bad.error ∙ sym (ap (refused_in p.cap) (delete_bad (bounds_of p) lo hi s c.args.key.now there c.in_err-end.field-0.0 bad)))

pub returns-clause-adds : goal.returns-clause-adds
returns-clause-adds g c = λ p commands holds.
    let s = state_of p commands in
    let lo = c.args.tree.now.lo in
    let hi = c.args.tree.now.hi in
    let fits = ap (λ (q : Params). q.objects) (c.params.ensures.value ∙ (g.S.Store.view.numbers p (g.M.Machine.disk c.args.machine.now) c.args.store.now commands holds)) in
    let there = is_within (bounds_of p) lo hi (omega (arith, c.last.ensures.order, c.last.ensures.value)) (omega (arith, c.if-last-params.false, c.last.ensures.value, fits)) in
    let found = end_of_way (walk lo hi s c.args.key.now) c.in_ok-end.end (c.in_ok-end.ensures.answer p commands holds refl) in
    let absent : has c.args.key.now c.in_ok-end.end.pairs.items ≡ false = ap (λ (l : List Pair). has c.args.key.now l) (sym c.as_slice.ensures.value) ∙ sym c.if-has_key.ensures in
    c.in_ok-end.ensures.reads.adds p commands holds (made_of p.cap (delete_plan (bounds_of p) lo hi s c.args.key.now).commands)
    (λ done. none_of p _ _ (delete_absent (bounds_of p) lo hi s c.args.key.now there c.in_ok-end.end found absent))

pub returns-clause-answer : goal.returns-clause-answer
returns-clause-answer g c = λ p commands holds done.
    let s = state_of p commands in
    let lo = c.args.tree.now.lo in
    let hi = c.args.tree.now.hi in
    let fits = ap (λ (q : Params). q.objects) (c.params.ensures.value ∙ (g.S.Store.view.numbers p (g.M.Machine.disk c.args.machine.now) c.args.store.now commands holds)) in
    let there = is_within (bounds_of p) lo hi (omega (arith, c.last.ensures.order, c.last.ensures.value)) (omega (arith, c.if-last-params.false, c.last.ensures.value, fits)) in
    let found = end_of_way (walk lo hi s c.args.key.now) c.in_ok-end.end (c.in_ok-end.ensures.answer p commands holds refl) in
    let absent : has c.args.key.now c.in_ok-end.end.pairs.items ≡ false = ap (λ (l : List Pair). has c.args.key.now l) (sym c.as_slice.ensures.value) ∙ sym c.if-has_key.ensures in
    sym (ap (refused_in p.cap) (delete_absent (bounds_of p) lo hi s c.args.key.now there c.in_ok-end.end found absent))

pub returns-then-has_key-clause-calls : goal.returns-then-has_key-clause-calls
returns-then-has_key-clause-calls g c =
    c.calls_go_on.ensures.calls c.args.machine.now c.walk.new.machine c.make.new.machine c.args.store.now c.walk.new.store c.make.new.store _ c.in_ok-end.ensures.reads.calls c.make.ensures.calls

-- the plan has the one command
pub returns-then-has_key-clause-adds : goal.returns-then-has_key-clause-adds
returns-then-has_key-clause-adds g c = λ p commands holds.
    let b = bounds_of p in
    let s = state_of p commands in
    let lo = c.args.tree.now.lo in
    let hi = c.args.tree.now.hi in
    let key = c.args.key.now in
    let fits = ap (λ (q : Params). q.objects) (c.params.ensures.value ∙ (g.S.Store.view.numbers p (g.M.Machine.disk c.args.machine.now) c.args.store.now commands holds)) in
    let there = is_within b lo hi (omega (arith, c.last.ensures.order, c.last.ensures.value)) (omega (arith, c.if-last-params.false, c.last.ensures.value, fits)) in
    let found = end_of_way (walk lo hi s key) c.in_ok-end.end (c.in_ok-end.ensures.answer p commands holds refl) in
    let here : has key c.in_ok-end.end.pairs.items ≡ true = ap (λ (l : List Pair). has key l) (sym c.as_slice.ensures.value) ∙ sym c.if-has_key.ensures in
    let plan = delete_present b lo hi s key there c.in_ok-end.end found here in
    let short = short_is key (omega (arith, c.as_slice-bytes.ensures.some)) (omega (arith, c.as_slice-bytes.ensures.few)) in
    let due = one_due node (node_meaning b) p s (λ op. refl) (delete_plan b lo hi s key) (Delete c.in_ok-end.end.leaf key) plan c.node_op-op.result c.node_op-op.ensures
    (λ wide. c.commands_are_accepted.ensures.delete b lo hi s key short wide) (λ narrow. c.commands_are_accepted.ensures.delete_too_large b lo hi s key short narrow) in
    one_behind g.S.Store.view g.M.Machine.disk c.calls_go_on.ensures c.args.machine.now c.walk.new.machine c.make.new.machine c.args.store.now c.walk.new.store c.make.new.store (cause_in c.make.result) p commands
    c.in_ok-end.ensures.reads holds (answers.made_of p.cap (c.node_op-op.result ∷ [])) (made_of p.cap (delete_plan b lo hi s key).commands)
    (ap (λ (o : Command). answers.made_of p.cap (o ∷ [])) c.node_op-op.ensures ∙ sym (ap (λ (q : TreePlan). made_of p.cap q.commands) plan))
    (c.make.ensures.adds p commands (holds_behind g.S.Store.view g.M.Machine.disk c.calls_go_on.ensures p c.args.machine.now c.walk.new.machine c.args.store.now c.walk.new.store commands c.in_ok-end.ensures.reads holds) due)

pub returns-then-has_key-clause-answer : goal.returns-then-has_key-clause-answer
returns-then-has_key-clause-answer g c = λ p commands holds done.
    let b = bounds_of p in
    let s = state_of p commands in
    let lo = c.args.tree.now.lo in
    let hi = c.args.tree.now.hi in
    let key = c.args.key.now in
    let fits = ap (λ (q : Params). q.objects) (c.params.ensures.value ∙ (g.S.Store.view.numbers p (g.M.Machine.disk c.args.machine.now) c.args.store.now commands holds)) in
    let there = is_within b lo hi (omega (arith, c.last.ensures.order, c.last.ensures.value)) (omega (arith, c.if-last-params.false, c.last.ensures.value, fits)) in
    let found = end_of_way (walk lo hi s key) c.in_ok-end.end (c.in_ok-end.ensures.answer p commands holds refl) in
    let here : has key c.in_ok-end.end.pairs.items ≡ true = ap (λ (l : List Pair). has key l) (sym c.as_slice.ensures.value) ∙ sym c.if-has_key.ensures in
    let plan = delete_present b lo hi s key there c.in_ok-end.end found here in
    let short = short_is key (omega (arith, c.as_slice-bytes.ensures.some)) (omega (arith, c.as_slice-bytes.ensures.few)) in
    let due = one_due node (node_meaning b) p s (λ op. refl) (delete_plan b lo hi s key) (Delete c.in_ok-end.end.leaf key) plan c.node_op-op.result c.node_op-op.ensures
    (λ wide. c.commands_are_accepted.ensures.delete b lo hi s key short wide) (λ narrow. c.commands_are_accepted.ensures.delete_too_large b lo hi s key short narrow) in
    let mid = holds_behind g.S.Store.view g.M.Machine.disk c.calls_go_on.ensures p c.args.machine.now c.walk.new.machine c.args.store.now c.walk.new.store commands c.in_ok-end.ensures.reads holds in
    c.make.ensures.answer p commands mid due done
    ∙ sym (ap (refused_in p.cap) plan)
