use Rattle.std.proofs.Common.{◌≡◌, ◌≤◌, refl, sym, ap, ◌∙◌, subst, ℕ, List, [], ◌∷◌, Option, Some, Ok, true, false, map, arith}
use Rattle.formats.specs.Objects.{bounds_of}
use Rattle.formats.specs.declared.params.Params.{Params}
use Rattle.key_entries.specs.Pairs.{has}
use Rattle.hash_ops.specs.Operation.{hash_meaning}
use Rattle.hash_ops.specs.declared.hash_op.HashOp.TheVariants.{Delete}
use Rattle.op_codec.specs.AllOps.{hash}
use Rattle.running_store.specs.Taking.Ending.{Done}
use Rattle.call_plans.specs.Plan.{refused_by}
use Rattle.hash_file.specs.Find.{find_bucket, unused, bad, found}
use Rattle.hash_file.specs.Plan.{HashPlan, delete_plan}
use Rattle.hash_file.specs.declared.refusal.HashRefusal.{HashRefusal}
use Rattle.range_calls.specs.Answers.{cause_in, made_of, refused_in}
use Rattle.range_calls.specs.DueLaws.{one_due, short_is}
use Rattle.range_calls.specs.JoinLaws.{holds_behind}
use Rattle.range_calls.specs.MakeLaws.{made_none}
use Rattle.range_calls.specs.ReadLaws.{adds_passed, one_behind, passed, refuses_passed}
use Rattle.range_calls.specs.Store.{Command, state_of}
use Rattle.range_calls.specs.declared.call_err.CallErr.{CallErr}
use Rattle.hash_client.specs.Finding.{met_answer}
use Rattle.hash_client.specs.declared.finding.Found.{Found}
use Rattle.hash_client.proofs.FindLemmas.{bad_met, found_met, unused_met}
use Rattle.hash_client.proofs.PutLemmas.{delete_absent, delete_met, delete_past, delete_present, is_within}
use Rattle.hash_client.proofs.deleting.delete.Goals as goal

none_of : (p : Params) (plan : HashPlan) (r : HashRefusal) → plan ≡ refused_by r → made_of p.cap (map hash plan.commands) ≡ []
none_of p plan r is = ap (λ (q : HashPlan). made_of p.cap (map hash q.commands)) is ∙ made_none p.cap

pub returns-then-last-params-clause-adds : goal.returns-then-last-params-clause-adds
returns-then-last-params-clause-adds g c = λ p commands holds.
    let b = bounds_of p in
    let s = state_of p commands in
    let lo = c.args.file.now.lo in
    let hi = c.args.file.now.hi in
    let key = c.args.key.now in
    let fits = ap (λ (q : Params). q.objects) (c.params.ensures.value ∙ (g.S.Store.view.numbers p (g.M.Machine.disk c.args.machine.now) c.args.store.now commands holds)) in
    let past : p.objects ≤ hi = omega (arith, c.if-last-params.true, c.last.ensures.value, fits) in
    subst (λ (l : List Command). g.S.Store.view.adds p (g.M.Machine.disk c.args.machine.now) (g.M.Machine.disk c.args.machine.now) c.args.store.now c.args.store.now commands l Done)
    (sym (none_of p _ _ (delete_past b lo hi s key past))) (c.nothing_is_made.ensures.front p commands holds)

pub returns-then-last-params-clause-answer : goal.returns-then-last-params-clause-answer
returns-then-last-params-clause-answer g c = λ p commands holds done.
    let b = bounds_of p in
    let s = state_of p commands in
    let lo = c.args.file.now.lo in
    let hi = c.args.file.now.hi in
    let key = c.args.key.now in
    let fits = ap (λ (q : Params). q.objects) (c.params.ensures.value ∙ (g.S.Store.view.numbers p (g.M.Machine.disk c.args.machine.now) c.args.store.now commands holds)) in
    let past : p.objects ≤ hi = omega (arith, c.if-last-params.true, c.last.ensures.value, fits) in
    sym (ap (refused_in p.cap) (delete_past b lo hi s key past))

pub returns-in_err-met-clause-adds : goal.returns-in_err-met-clause-adds
returns-in_err-met-clause-adds g c = λ p commands holds.
    let b = bounds_of p in
    let s = state_of p commands in
    let lo = c.args.file.now.lo in
    let hi = c.args.file.now.hi in
    let key = c.args.key.now in
    let fits = ap (λ (q : Params). q.objects) (c.params.ensures.value ∙ (g.S.Store.view.numbers p (g.M.Machine.disk c.args.machine.now) c.args.store.now commands holds)) in
    let there = is_within b lo hi (omega (arith, c.last.ensures.order, c.last.ensures.value)) (omega (arith, c.if-last-params.false, c.last.ensures.value, fits)) in
    adds_passed g.S.Store.view c.from_residual.result c.in_err-met.field-0.0 (passed c.from_residual.result c.in_err-met.field-0.0 c.from_residual.ensures.1)
    (c.in_err-met.ensures.reads.adds p commands holds (made_of p.cap (map hash (delete_plan b lo hi s key).commands))
    (λ done.
    let wrong = bad_met (find_bucket lo hi s key) c.in_err-met.field-0.0 (c.in_err-met.ensures.answer p commands holds done) in
    none_of p _ _ (delete_met b lo hi s key there (bad wrong.object) wrong.met)))

pub returns-in_err-met-clause-answer : goal.returns-in_err-met-clause-answer
returns-in_err-met-clause-answer g c = λ p commands holds.
    let b = bounds_of p in
    let s = state_of p commands in
    let lo = c.args.file.now.lo in
    let hi = c.args.file.now.hi in
    let key = c.args.key.now in
    let fits = ap (λ (q : Params). q.objects) (c.params.ensures.value ∙ (g.S.Store.view.numbers p (g.M.Machine.disk c.args.machine.now) c.args.store.now commands holds)) in
    let there = is_within b lo hi (omega (arith, c.last.ensures.order, c.last.ensures.value)) (omega (arith, c.if-last-params.false, c.last.ensures.value, fits)) in
    refuses_passed c.from_residual.result c.in_err-met.field-0.0 (refused_in p.cap (delete_plan b lo hi s key)) (passed c.from_residual.result c.in_err-met.field-0.0 c.from_residual.ensures.1)
    (λ done.
    let wrong = bad_met (find_bucket lo hi s key) c.in_err-met.field-0.0 (c.in_err-met.ensures.answer p commands holds done) in
    ap (λ (e : CallErr HashRefusal). Some e) wrong.error ∙ sym (ap (refused_in p.cap) (delete_met b lo hi s key there (bad wrong.object) wrong.met)))

pub returns-in-None-clause-adds : goal.returns-in-None-clause-adds
returns-in-None-clause-adds g c = λ p commands holds.
    let b = bounds_of p in
    let s = state_of p commands in
    let lo = c.args.file.now.lo in
    let hi = c.args.file.now.hi in
    let key = c.args.key.now in
    let fits = ap (λ (q : Params). q.objects) (c.params.ensures.value ∙ (g.S.Store.view.numbers p (g.M.Machine.disk c.args.machine.now) c.args.store.now commands holds)) in
    let there = is_within b lo hi (omega (arith, c.last.ensures.order, c.last.ensures.value)) (omega (arith, c.if-last-params.false, c.last.ensures.value, fits)) in
    let told = subst (λ (o : Option Found). Ok o ≡ met_answer (find_bucket lo hi s key)) c.in-None.is (c.in_ok-met.ensures.answer p commands holds refl) in
    c.in_ok-met.ensures.reads.adds p commands holds (made_of p.cap (map hash (delete_plan b lo hi s key).commands))
    (λ done. none_of p _ _ (delete_met b lo hi s key there unused (unused_met (find_bucket lo hi s key) told)))

pub returns-in-None-clause-answer : goal.returns-in-None-clause-answer
returns-in-None-clause-answer g c = λ p commands holds done.
    let b = bounds_of p in
    let s = state_of p commands in
    let lo = c.args.file.now.lo in
    let hi = c.args.file.now.hi in
    let key = c.args.key.now in
    let fits = ap (λ (q : Params). q.objects) (c.params.ensures.value ∙ (g.S.Store.view.numbers p (g.M.Machine.disk c.args.machine.now) c.args.store.now commands holds)) in
    let there = is_within b lo hi (omega (arith, c.last.ensures.order, c.last.ensures.value)) (omega (arith, c.if-last-params.false, c.last.ensures.value, fits)) in
    let told = subst (λ (o : Option Found). Ok o ≡ met_answer (find_bucket lo hi s key)) c.in-None.is (c.in_ok-met.ensures.answer p commands holds refl) in
    sym (ap (refused_in p.cap) (delete_met b lo hi s key there unused (unused_met (find_bucket lo hi s key) told)))

pub returns-else-has_key-clause-adds : goal.returns-else-has_key-clause-adds
returns-else-has_key-clause-adds g c = λ p commands holds.
    let b = bounds_of p in
    let s = state_of p commands in
    let lo = c.args.file.now.lo in
    let hi = c.args.file.now.hi in
    let key = c.args.key.now in
    let fits = ap (λ (q : Params). q.objects) (c.params.ensures.value ∙ (g.S.Store.view.numbers p (g.M.Machine.disk c.args.machine.now) c.args.store.now commands holds)) in
    let there = is_within b lo hi (omega (arith, c.last.ensures.order, c.last.ensures.value)) (omega (arith, c.if-last-params.false, c.last.ensures.value, fits)) in
    let told = subst (λ (o : Option Found). Ok o ≡ met_answer (find_bucket lo hi s key)) c.in-Some.is (c.in_ok-met.ensures.answer p commands holds refl) in
    let absent : has key c.in-Some.found.bucket.pairs.items ≡ false = ap (λ (l : List (List ℕ × List ℕ)). has key l) (sym c.as_slice.ensures.value) ∙ sym c.if-has_key.ensures in
    c.in_ok-met.ensures.reads.adds p commands holds (made_of p.cap (map hash (delete_plan b lo hi s key).commands))
    (λ done. none_of p _ _ (delete_met b lo hi s key there (found c.in-Some.found.object c.in-Some.found.bucket) (found_met (find_bucket lo hi s key) c.in-Some.found told) ∙ delete_absent key c.in-Some.found.object c.in-Some.found.bucket absent))

pub returns-else-has_key-clause-answer : goal.returns-else-has_key-clause-answer
returns-else-has_key-clause-answer g c = λ p commands holds done.
    let b = bounds_of p in
    let s = state_of p commands in
    let lo = c.args.file.now.lo in
    let hi = c.args.file.now.hi in
    let key = c.args.key.now in
    let fits = ap (λ (q : Params). q.objects) (c.params.ensures.value ∙ (g.S.Store.view.numbers p (g.M.Machine.disk c.args.machine.now) c.args.store.now commands holds)) in
    let there = is_within b lo hi (omega (arith, c.last.ensures.order, c.last.ensures.value)) (omega (arith, c.if-last-params.false, c.last.ensures.value, fits)) in
    let told = subst (λ (o : Option Found). Ok o ≡ met_answer (find_bucket lo hi s key)) c.in-Some.is (c.in_ok-met.ensures.answer p commands holds refl) in
    let absent : has key c.in-Some.found.bucket.pairs.items ≡ false = ap (λ (l : List (List ℕ × List ℕ)). has key l) (sym c.as_slice.ensures.value) ∙ sym c.if-has_key.ensures in
    sym (ap (refused_in p.cap) (delete_met b lo hi s key there (found c.in-Some.found.object c.in-Some.found.bucket) (found_met (find_bucket lo hi s key) c.in-Some.found told) ∙ delete_absent key c.in-Some.found.object c.in-Some.found.bucket absent))

pub returns-then-has_key-clause-calls : goal.returns-then-has_key-clause-calls
returns-then-has_key-clause-calls g c =
    c.calls_go_on.ensures.calls c.args.machine.now c.find_bucket.new.machine c.make.new.machine c.args.store.now c.find_bucket.new.store c.make.new.store _ c.in_ok-met.ensures.reads.calls c.make.ensures.calls

-- the plan has the one command
pub returns-then-has_key-clause-adds : goal.returns-then-has_key-clause-adds
returns-then-has_key-clause-adds g c = λ p commands holds.
    let b = bounds_of p in
    let s = state_of p commands in
    let lo = c.args.file.now.lo in
    let hi = c.args.file.now.hi in
    let key = c.args.key.now in
    let fits = ap (λ (q : Params). q.objects) (c.params.ensures.value ∙ (g.S.Store.view.numbers p (g.M.Machine.disk c.args.machine.now) c.args.store.now commands holds)) in
    let there = is_within b lo hi (omega (arith, c.last.ensures.order, c.last.ensures.value)) (omega (arith, c.if-last-params.false, c.last.ensures.value, fits)) in
    let told = subst (λ (o : Option Found). Ok o ≡ met_answer (find_bucket lo hi s key)) c.in-Some.is (c.in_ok-met.ensures.answer p commands holds refl) in
    let here : has key c.in-Some.found.bucket.pairs.items ≡ true = ap (λ (l : List (List ℕ × List ℕ)). has key l) (sym c.as_slice.ensures.value) ∙ sym c.if-has_key.ensures in
    let plan = delete_met b lo hi s key there (found c.in-Some.found.object c.in-Some.found.bucket) (found_met (find_bucket lo hi s key) c.in-Some.found told) ∙ delete_present key c.in-Some.found.object c.in-Some.found.bucket here in
    let short = short_is key (omega (arith, c.as_slice-bytes.ensures.some)) (omega (arith, c.as_slice-bytes.ensures.few)) in
    let due = one_due hash (hash_meaning b) p s (λ op. refl) (delete_plan b lo hi s key) (Delete c.in-Some.found.object key) plan c.hash_op-op.result c.hash_op-op.ensures
    (λ wide. c.commands_are_accepted.ensures.delete b lo hi s key short wide) (λ narrow. c.commands_are_accepted.ensures.delete_too_large b lo hi s key short narrow) in
    one_behind g.S.Store.view g.M.Machine.disk c.calls_go_on.ensures c.args.machine.now c.find_bucket.new.machine c.make.new.machine c.args.store.now c.find_bucket.new.store c.make.new.store (cause_in c.make.result) p commands
    c.in_ok-met.ensures.reads holds (made_of p.cap (c.hash_op-op.result ∷ [])) (made_of p.cap (map hash (delete_plan b lo hi s key).commands))
    (ap (λ (o : Command). made_of p.cap (o ∷ [])) c.hash_op-op.ensures ∙ sym (ap (λ (q : HashPlan). made_of p.cap (map hash q.commands)) plan))
    (c.make.ensures.adds p commands (holds_behind g.S.Store.view g.M.Machine.disk c.calls_go_on.ensures p c.args.machine.now c.find_bucket.new.machine c.args.store.now c.find_bucket.new.store commands c.in_ok-met.ensures.reads holds) due)

pub returns-then-has_key-clause-answer : goal.returns-then-has_key-clause-answer
returns-then-has_key-clause-answer g c = λ p commands holds done.
    let b = bounds_of p in
    let s = state_of p commands in
    let lo = c.args.file.now.lo in
    let hi = c.args.file.now.hi in
    let key = c.args.key.now in
    let fits = ap (λ (q : Params). q.objects) (c.params.ensures.value ∙ (g.S.Store.view.numbers p (g.M.Machine.disk c.args.machine.now) c.args.store.now commands holds)) in
    let there = is_within b lo hi (omega (arith, c.last.ensures.order, c.last.ensures.value)) (omega (arith, c.if-last-params.false, c.last.ensures.value, fits)) in
    let told = subst (λ (o : Option Found). Ok o ≡ met_answer (find_bucket lo hi s key)) c.in-Some.is (c.in_ok-met.ensures.answer p commands holds refl) in
    let here : has key c.in-Some.found.bucket.pairs.items ≡ true = ap (λ (l : List (List ℕ × List ℕ)). has key l) (sym c.as_slice.ensures.value) ∙ sym c.if-has_key.ensures in
    let plan = delete_met b lo hi s key there (found c.in-Some.found.object c.in-Some.found.bucket) (found_met (find_bucket lo hi s key) c.in-Some.found told) ∙ delete_present key c.in-Some.found.object c.in-Some.found.bucket here in
    let short = short_is key (omega (arith, c.as_slice-bytes.ensures.some)) (omega (arith, c.as_slice-bytes.ensures.few)) in
    let due = one_due hash (hash_meaning b) p s (λ op. refl) (delete_plan b lo hi s key) (Delete c.in-Some.found.object key) plan c.hash_op-op.result c.hash_op-op.ensures
    (λ wide. c.commands_are_accepted.ensures.delete b lo hi s key short wide) (λ narrow. c.commands_are_accepted.ensures.delete_too_large b lo hi s key short narrow) in
    let mid = holds_behind g.S.Store.view g.M.Machine.disk c.calls_go_on.ensures p c.args.machine.now c.find_bucket.new.machine c.args.store.now c.find_bucket.new.store commands c.in_ok-met.ensures.reads holds in
    c.make.ensures.answer p commands mid due done
    ∙ sym (ap (refused_in p.cap) plan)
