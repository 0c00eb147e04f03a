use Rattle.std.proofs.Common.{◌≡◌, ◌<◌, ◌+◌, ◌-◌, refl, sym, ap, ◌∙◌, ℕ, suc, None, List, [], Option, Result, Ok, Err, arith, option_map}
use Rattle.page_map.specs.Map.{Span}
use Rattle.page_map.specs.Ranges.{and_count, count_answer, count_from, from_end}
use Rattle.range_calls.specs.JoinLaws.{memory_is_short, nothing_reads, reads_then}
use Rattle.range_calls.specs.ReadLaws.{makes_err, passed, refused_passed}
use Rattle.range_calls.specs.Store.{state_of}
use Rattle.running_store.specs.Taking.Ending.{Done}
use Rattle.store_engine.specs.Lists.{ending_of}
use Rattle.map_client.specs.Answers.{MapErr, cause_of, told}
use Rattle.map_client.proofs.RangingCountLemmas.{count_is_bad, next_counted, no_next, none_left, same_end}
use Rattle.map_client.proofs.ranging_count.count_leaves.Goals as goal

pub returns-in_err-copy-clause-reads : goal.returns-in_err-copy-clause-reads
returns-in_err-copy-clause-reads g c =
    let failed : Result ℕ MapErr = Err c.in_err-copy.field-0.0 in
    makes_err c.from_residual.result c.in_err-copy.field-0.0 (passed c.from_residual.result c.in_err-copy.field-0.0 c.from_residual.ensures.1)
    (reads_then g.S.Store.view g.M.Machine.disk c.reads_run_short.ensures c.args.machine.now c.args.machine.now c.args.store.now c.args.store.now failed
    (nothing_reads g.S.Store.view (g.M.Machine.disk c.args.machine.now) c.args.store.now c.nothing_is_made.ensures.front (c.nothing_is_made.ensures.calls c.requires.unbroken)) c.in_err-copy.ensures.memory)

pub returns-in_err-copy-clause-bad : goal.returns-in_err-copy-clause-bad
returns-in_err-copy-clause-bad g c = λ p commands holds.
    let span : Span = record { from = c.args.from.now; to = option_map (λ end. end.now) c.args.to } in
    refused_passed c.from_residual.result c.in_err-copy.field-0.0 (λ e. ending_of (cause_of e) ≡ Done → told (count_answer c.args.map.now.lo c.args.map.now.hi (state_of p commands) span) ≡ Err e)
    (passed c.from_residual.result c.in_err-copy.field-0.0 c.from_residual.ensures.1) (λ done. absurd (memory_is_short c.in_err-copy.field-0.0 c.in_err-copy.ensures.memory done))

pub loop-left-init : goal.loop-left-init
loop-left-init g c = record {
  reads = nothing_reads g.S.Store.view (g.M.Machine.disk c.args.machine.now) c.args.store.now c.nothing_is_made.ensures.front (c.nothing_is_made.ensures.calls c.requires.unbroken);
  few = omega (arith, c.last-last.ensures.value, c.last-last.ensures.order, c.root.ensures);
  same = λ p commands holds.
      let s = state_of p commands in
      let lo = c.args.map.now.lo in
      let hi = c.args.map.now.hi in
      let to : Option (List ℕ) = option_map (λ end. end.now) c.args.to in
      let leaves : suc hi - lo ≡ c.last-last.result - c.root.result + 1 = omega (arith, c.last-last.ensures.value, c.last-last.ensures.order, c.root.ensures) in
      none_yet (count_from lo hi s (suc hi - lo) (record { from = c.args.from.now; to = to }))
      ∙ (λ k. and_count 0 (count_from lo hi s (leaves k) (record { from = sym c.in_ok-copy.ensures.key k; to = to })));
}
  where
    none_yet : (r : Result ℕ ℕ) → r ≡ and_count 0 r
    none_yet (Ok n) = let same : n ≡ 0 + n = omega arith in ap (λ (k : ℕ). (let r : Result ℕ ℕ = Ok k in r)) same
    none_yet (Err x) = refl

pub returns-in_err-turn-in-Some-clause-reads : goal.returns-in_err-turn-in-Some-clause-reads
returns-in_err-turn-in-Some-clause-reads g c =
    makes_err c.from_residual-in_err-turn-in-Some.result c.in_err-turn-in-Some.field-0.0 (passed c.from_residual-in_err-turn-in-Some.result c.in_err-turn-in-Some.field-0.0 c.from_residual-in_err-turn-in-Some.ensures.1)
    (c.reads_go_on.ensures.behind c.args.machine.now c.loop-left.machine c.count_turn.new.machine c.args.store.now c.loop-left.store c.count_turn.new.store (λ p commands. []) _ c.loop-left.invariant.reads c.in_err-turn-in-Some.ensures.reads)

pub returns-in_err-turn-in-Some-clause-bad : goal.returns-in_err-turn-in-Some-clause-bad
returns-in_err-turn-in-Some-clause-bad g c = λ p commands holds.
    let s = state_of p commands in
    let lo = c.args.map.now.lo in
    let hi = c.args.map.now.hi in
    let inv = c.loop-left.invariant in
    let to : Option (List ℕ) = option_map (λ end. end.now) c.args.to in
    let span : Span = record { from = c.args.from.now; to = to } in
    let all : Result ℕ ℕ = count_answer lo hi s span in
    let some : 0 < c.loop-left.left = omega (arith, c.loop-left-test.true) in
    let here : all ≡ and_count c.loop-left.total (count_from lo hi s c.loop-left.left (record { from = c.in-Some.at.now; to = to })) =
    inv.same p commands holds ∙ (λ k. and_count c.loop-left.total (from_end 0 (count_from lo hi s c.loop-left.left) span (sym c.in-Some.ensures k))) in
    refused_passed c.from_residual-in_err-turn-in-Some.result c.in_err-turn-in-Some.field-0.0 (λ e. ending_of (cause_of e) ≡ Done → told all ≡ Err e)
    (passed c.from_residual-in_err-turn-in-Some.result c.in_err-turn-in-Some.field-0.0 c.from_residual-in_err-turn-in-Some.ensures.1)
    (λ done. count_is_bad lo hi s to all c.in-Some.at.now c.loop-left.total c.loop-left.left here some c.in_err-turn-in-Some.field-0.0 (c.in_err-turn-in-Some.ensures.bad p commands (c.reads_go_on.ensures.holds p c.args.machine.now c.loop-left.machine c.args.store.now c.loop-left.store commands inv.reads holds) done))

pub loop-left-preserved : goal.loop-left-preserved
loop-left-preserved g c =
    let inv = c.loop-left.invariant in
    let some : 0 < c.loop-left.left = omega (arith, c.loop-left-test.true) in
    record {
      reads = c.reads_go_on.ensures.behind c.args.machine.now c.loop-left.machine c.count_turn.new.machine c.args.store.now c.loop-left.store c.count_turn.new.store (λ p commands. []) None inv.reads c.in_ok-turn-in-Some.ensures.reads;
      few = omega (arith, inv.few, some, c.in_ok-turn-in-Some.ensures.few);
      same = λ p commands holds.
          let s = state_of p commands in
          let lo = c.args.map.now.lo in
          let hi = c.args.map.now.hi in
          let to : Option (List ℕ) = option_map (λ end. end.now) c.args.to in
          let span : Span = record { from = c.args.from.now; to = to } in
          let all : Result ℕ ℕ = count_answer lo hi s span in
          let next : Option (List ℕ) = option_map (λ v. v.items) c.in_ok-turn-in-Some.turn.next in
          let here : all ≡ and_count c.loop-left.total (count_from lo hi s c.loop-left.left (record { from = c.in-Some.at.now; to = to })) =
          inv.same p commands holds ∙ (λ k. and_count c.loop-left.total (from_end 0 (count_from lo hi s c.loop-left.left) span (sym c.in-Some.ensures k))) in
          next_counted lo hi s to all c.in-Some.at.now c.loop-left.total c.loop-left.left here some c.in_ok-turn-in-Some.turn.count next (c.in_ok-turn-in-Some.ensures.found p commands (c.reads_go_on.ensures.holds p c.args.machine.now c.loop-left.machine c.args.store.now c.loop-left.store commands inv.reads holds))
          ∙ ap (and_count (c.loop-left.total + c.in_ok-turn-in-Some.turn.count)) (same_end 0 (count_from lo hi s (c.loop-left.left - 1)) c.in-Some.at.now c.args.from.now to next);
    }

-- there is no next leaf, or none is left that may be looked at
pub returns-in-None-clause-found : goal.returns-in-None-clause-found
returns-in-None-clause-found g c = λ p commands holds.
    let to : Option (List ℕ) = option_map (λ end. end.now) c.args.to in
    let span : Span = record { from = c.args.from.now; to = to } in
    no_next c.args.map.now.lo c.args.map.now.hi (state_of p commands) span (count_answer c.args.map.now.lo c.args.map.now.hi (state_of p commands) span) c.loop-left.total c.loop-left.left (option_map (λ v. v.items) c.loop-left.next)
    (sym c.in-None.ensures) (c.loop-left.invariant.same p commands holds)

pub returns-clause-found : goal.returns-clause-found
returns-clause-found g c = λ p commands holds.
    let to : Option (List ℕ) = option_map (λ end. end.now) c.args.to in
    let span : Span = record { from = c.args.from.now; to = to } in
    let none : c.loop-left.left ≡ 0 = omega (arith, c.loop-left-test.false) in
    none_left c.args.map.now.lo c.args.map.now.hi (state_of p commands) span (count_answer c.args.map.now.lo c.args.map.now.hi (state_of p commands) span) c.loop-left.total c.loop-left.left (option_map (λ v. v.items) c.loop-left.next)
    none (c.loop-left.invariant.same p commands holds)
