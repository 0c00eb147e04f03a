use Rattle.std.proofs.Common.{◌≡◌, sym, ap, ◌∙◌, ℕ, suc, ◌-◌, None, Some, List, [], Option, Ok, Err, arith, option_map}
use Rattle.page_map.specs.Map.{Span}
use Rattle.page_map.specs.Ranges.{and_then, back_answer, back_from}
use Rattle.range_calls.specs.ReadLaws.{makes_err, passed, refused_passed}
use Rattle.range_calls.specs.Store.{state_of}
use Rattle.running_store.specs.Taking.Ending.{Done}
use Rattle.store_engine.specs.Lists.{ending_of}
use Rattle.map_client.specs.Answers.{cause_of, told}
use Rattle.map_client.specs.RangingWay.{before}
use Rattle.map_client.proofs.RangingLeavesLemmas.{all_read, goes_to, meets_bad, no_begin, no_leaf_before, same_begin}
use Rattle.map_client.proofs.ranging_fall.back_leaves.Goals as goal

pub returns-in_err-begin-clause-bad : goal.returns-in_err-begin-clause-bad
returns-in_err-begin-clause-bad g c = λ p commands holds.
    let s = state_of p commands in
    let lo = c.args.map.now.lo in
    let hi = c.args.map.now.hi in
    let to : Option (List ℕ) = option_map (λ end. end.now) c.args.to in
    let span : Span = record { from = c.args.from.now; to = to } in
    let leaves : suc hi - lo ≡ suc (c.last-last.result - c.root.result) = omega (arith, c.last-last.ensures.value, c.last-last.ensures.order, c.root.ensures) in
    refused_passed c.from_residual.result c.in_err-begin.field-0.0
    (λ e. ending_of (cause_of e) ≡ Done → told (and_then (Ok c.args.gathered.now.pairs.items) (back_answer lo hi s span c.args.gathered.now.left)) ≡ Err e)
    (passed c.from_residual.result c.in_err-begin.field-0.0 c.from_residual.ensures.1)
    (λ done. meets_bad (λ (n : ℕ). back_from lo hi s n c.args.gathered.now.left span) c.args.gathered.now.pairs.items (suc hi - lo) (c.last-last.result - c.root.result) leaves c.in_err-begin.field-0.0
    (c.in_err-begin.ensures.bad p commands holds done))

pub loop-leaves-init : goal.loop-leaves-init
loop-leaves-init g c = record {
  reads = c.in_ok-begin.ensures.reads;
  same = λ p commands holds.
      let s = state_of p commands in
      let lo = c.args.map.now.lo in
      let hi = c.args.map.now.hi in
      let to : Option (List ℕ) = option_map (λ end. end.now) c.args.to in
      let span : Span = record { from = c.args.from.now; to = to } in
      let leaves : suc hi - lo ≡ suc (c.last-last.result - c.root.result) = omega (arith, c.last-last.ensures.value, c.last-last.ensures.order, c.root.ensures) in
      goes_to (λ (n : ℕ). back_from lo hi s n c.args.gathered.now.left span) c.args.gathered.now.pairs.items (suc hi - lo) (c.last-last.result - c.root.result) leaves c.back_turn.new.gathered.pairs.items
      (λ (n : ℕ). before (back_from lo hi s n c.back_turn.new.gathered.left) span (option_map (λ v. v.items) c.in_ok-begin.begin)) (c.in_ok-begin.ensures.found p commands holds);
}

pub returns-in_err-earlier-in-Some-clause-reads : goal.returns-in_err-earlier-in-Some-clause-reads
returns-in_err-earlier-in-Some-clause-reads g c =
    makes_err c.from_residual-in_err-earlier-in-Some.result c.in_err-earlier-in-Some.field-0.0 (passed c.from_residual-in_err-earlier-in-Some.result c.in_err-earlier-in-Some.field-0.0 c.from_residual-in_err-earlier-in-Some.ensures.1)
    (c.reads_go_on.ensures.behind c.args.machine.now c.loop-leaves.machine c.back_turn-in-Some.new.machine c.args.store.now c.loop-leaves.store c.back_turn-in-Some.new.store (λ p commands. []) _ c.loop-leaves.invariant.reads c.in_err-earlier-in-Some.ensures.reads)

pub returns-in_err-earlier-in-Some-clause-bad : goal.returns-in_err-earlier-in-Some-clause-bad
returns-in_err-earlier-in-Some-clause-bad g c = λ p commands holds.
    let s = state_of p commands in
    let lo = c.args.map.now.lo in
    let hi = c.args.map.now.hi in
    let to : Option (List ℕ) = option_map (λ end. end.now) c.args.to in
    let span : Span = record { from = c.args.from.now; to = to } in
    let inv = c.loop-leaves.invariant in
    let here : Span = record { from = c.args.from.now; to = Some c.in-Some.at.now } in
    let pairs = c.loop-leaves.gathered.pairs.items in
    let left = c.loop-leaves.gathered.left in
    let more : c.loop-leaves.leaves ≡ suc (c.loop-leaves.leaves - 1) = omega (arith, c.loop-leaves-test.true) in
    let goes : and_then (Ok c.args.gathered.now.pairs.items) (back_answer lo hi s span c.args.gathered.now.left) ≡ and_then (Ok pairs) (back_from lo hi s c.loop-leaves.leaves left here) =
    inv.same p commands holds ∙ (λ k. and_then (Ok pairs) (before (back_from lo hi s c.loop-leaves.leaves left) span (sym c.in-Some.ensures k))) in
    refused_passed c.from_residual-in_err-earlier-in-Some.result c.in_err-earlier-in-Some.field-0.0
    (λ e. ending_of (cause_of e) ≡ Done → told (and_then (Ok c.args.gathered.now.pairs.items) (back_answer lo hi s span c.args.gathered.now.left)) ≡ Err e)
    (passed c.from_residual-in_err-earlier-in-Some.result c.in_err-earlier-in-Some.field-0.0 c.from_residual-in_err-earlier-in-Some.ensures.1)
    (λ done. ap told goes ∙ meets_bad (λ (n : ℕ). back_from lo hi s n left here) pairs c.loop-leaves.leaves (c.loop-leaves.leaves - 1) more c.in_err-earlier-in-Some.field-0.0
    (c.in_err-earlier-in-Some.ensures.bad p commands (c.reads_go_on.ensures.holds p c.args.machine.now c.loop-leaves.machine c.args.store.now c.loop-leaves.store commands inv.reads holds) done))

pub loop-leaves-preserved : goal.loop-leaves-preserved
loop-leaves-preserved g c = record {
  reads = c.reads_go_on.ensures.behind c.args.machine.now c.loop-leaves.machine c.back_turn-in-Some.new.machine c.args.store.now c.loop-leaves.store c.back_turn-in-Some.new.store (λ p commands. []) None c.loop-leaves.invariant.reads c.in_ok-earlier-in-Some.ensures.reads;
  same = λ p commands holds.
      let s = state_of p commands in
      let lo = c.args.map.now.lo in
      let hi = c.args.map.now.hi in
      let to : Option (List ℕ) = option_map (λ end. end.now) c.args.to in
      let span : Span = record { from = c.args.from.now; to = to } in
      let inv = c.loop-leaves.invariant in
      let here : Span = record { from = c.args.from.now; to = Some c.in-Some.at.now } in
      let pairs = c.loop-leaves.gathered.pairs.items in
      let left = c.loop-leaves.gathered.left in
      let more : c.loop-leaves.leaves ≡ suc (c.loop-leaves.leaves - 1) = omega (arith, c.loop-leaves-test.true) in
      let goes : and_then (Ok c.args.gathered.now.pairs.items) (back_answer lo hi s span c.args.gathered.now.left) ≡ and_then (Ok pairs) (back_from lo hi s c.loop-leaves.leaves left here) =
      inv.same p commands holds ∙ (λ k. and_then (Ok pairs) (before (back_from lo hi s c.loop-leaves.leaves left) span (sym c.in-Some.ensures k))) in
      let next : Option (List ℕ) = option_map (λ v. v.items) c.in_ok-earlier-in-Some.earlier in
      goes ∙ goes_to (λ (n : ℕ). back_from lo hi s n left here) pairs c.loop-leaves.leaves (c.loop-leaves.leaves - 1) more c.back_turn-in-Some.new.gathered.pairs.items
      (λ (n : ℕ). before (back_from lo hi s n c.back_turn-in-Some.new.gathered.left) here next) (c.in_ok-earlier-in-Some.ensures.found p commands (c.reads_go_on.ensures.holds p c.args.machine.now c.loop-leaves.machine c.args.store.now c.loop-leaves.store commands inv.reads holds))
      ∙ ap (and_then (Ok c.back_turn-in-Some.new.gathered.pairs.items)) (same_begin (back_from lo hi s (c.loop-leaves.leaves - 1) c.back_turn-in-Some.new.gathered.left) c.args.from.now (Some c.in-Some.at.now) to next);
}

-- there is no leaf beside it, or none is left that may be looked at
pub returns-in-None-clause-found : goal.returns-in-None-clause-found
returns-in-None-clause-found g c = λ p commands holds.
    let s = state_of p commands in
    let lo = c.args.map.now.lo in
    let hi = c.args.map.now.hi in
    let to : Option (List ℕ) = option_map (λ end. end.now) c.args.to in
    let span : Span = record { from = c.args.from.now; to = to } in
    let pairs = c.loop-leaves.gathered.pairs.items in
    let left = c.loop-leaves.gathered.left in
    let begin : Option (List ℕ) = option_map (λ v. v.items) c.loop-leaves.begin in
    c.loop-leaves.invariant.same p commands holds
    ∙ all_read pairs (before (back_from lo hi s c.loop-leaves.leaves left) span begin) (no_begin (back_from lo hi s c.loop-leaves.leaves left) span begin (sym c.in-None.ensures))

pub returns-clause-found : goal.returns-clause-found
returns-clause-found g c = λ p commands holds.
    let s = state_of p commands in
    let lo = c.args.map.now.lo in
    let hi = c.args.map.now.hi in
    let to : Option (List ℕ) = option_map (λ end. end.now) c.args.to in
    let span : Span = record { from = c.args.from.now; to = to } in
    let none : c.loop-leaves.leaves ≡ 0 = omega (arith, c.loop-leaves-test.false) in
    let pairs = c.loop-leaves.gathered.pairs.items in
    let left = c.loop-leaves.gathered.left in
    let begin : Option (List ℕ) = option_map (λ v. v.items) c.loop-leaves.begin in
    c.loop-leaves.invariant.same p commands holds
    ∙ all_read pairs (before (back_from lo hi s c.loop-leaves.leaves left) span begin) (no_leaf_before lo hi s left c.loop-leaves.leaves span none begin)
