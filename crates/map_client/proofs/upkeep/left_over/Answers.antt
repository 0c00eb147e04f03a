use Rattle.std.proofs.Common.{◌≡◌, ◌<◌, ◌∙◌, ap, ℕ, ◌+◌, ◌-◌, ◌++◌, ◌∷◌, [], suc, List, filter, if◌then◌else◌, arith}
use Rattle.formats.specs.declared.params.Params.{Params}
use Rattle.call_plans.specs.Free.{objects_from}
use Rattle.page_map.specs.Map.{Range}
use Rattle.page_map.specs.Sweeps as sweeps
use Rattle.page_map.specs.Sweeps.{is_left}
use Rattle.range_calls.specs.Store.{state_of}
use Rattle.map_client.proofs.UpkeepLemmas.{all_looked, looked}
use Rattle.map_client.proofs.upkeep.left_over.Goals as goal

pub loop-above-init : goal.loop-above-init
loop-above-init g c = λ p commands holds.
    let s = state_of p commands in
    let range = c.args.map.now in
    let rest : ℕ → List ℕ = λ x. filter (λ y. is_left range c.args.check.now.met.objects y (s y)) (objects_from (suc x) (range.hi - x)) in
    ap (λ (l : List ℕ). l ++ rest c.root-above.result) c.new-left.ensures.items ∙ ap rest c.root-above.ensures

-- one object more is looked at
pub loop-above-preserved : goal.loop-above-preserved
loop-above-preserved g c = λ p commands holds.
    let s = state_of p commands in
    let range = c.args.map.now in
    let met = c.args.check.now.met.objects in
    let above : ℕ = c.loop-above.above in
    let left : List ℕ = c.loop-above.left.items in
    let numbers = ap (λ (q : Params). q.objects) (g.S.Store.view.numbers p (g.M.Machine.disk c.args.machine.now) c.args.store.now commands holds) in
    let below : above < range.hi = omega (arith, c.loop-above-test.true, c.last-above-end.ensures.value) in
    let there : above + 1 < p.objects = omega (arith, below, c.requires.there, numbers) in
    looked (λ x. is_left range met x (s x)) left above range.hi below c.add_left.new.left.items
    (c.in_ok-add_left.ensures.added p commands holds there ∙ ap (λ (r : Range). (if is_left r met (above + 1) (s (above + 1)) then left ++ (above + 1) ∷ [] else left)) c.requires.range)
    ∙ c.loop-above.invariant p commands holds

-- none is left to look at
pub returns-clause-left : goal.returns-clause-left
returns-clause-left g c = λ p commands holds.
    let s = state_of p commands in
    let range = c.args.map.now in
    let met = c.args.check.now.met.objects in
    all_looked (λ x. is_left range met x (s x)) c.loop-above.left.items (sweeps.left_over range met s) c.loop-above.above range.hi (omega (arith, c.loop-above-test.false, c.last-above-end.ensures.value)) (c.loop-above.invariant p commands holds)
