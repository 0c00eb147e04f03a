use Rattle.std.proofs.Common.{◌≡◌, sym, ◌∙◌, subst, ℕ, ◌+◌, ◌-◌, None, arith}
use Rattle.range_calls.specs.JoinLaws.{nothing_reads}
use Rattle.range_calls.specs.ReadLaws.{passed}
use Rattle.range_calls.specs.RunLaws.{turn_less}
use Rattle.range_calls.specs.Rounds.{Comes, in_rounds}
use Rattle.range_calls.specs.ComesLaws.{comes_none}
use Rattle.range_calls.proofs.RoundLemmas.{LeadsOn, rounds_end, rounds_fail, rounds_go_on}
use Rattle.range_calls.proofs.taking.take_rounds.Goals as goal

pub loop-round-init : goal.loop-round-init
loop-round-init g c = record {
  calls = c.nothing_is_made.ensures.calls c.requires.unbroken;
  whole = λ new after r.
      let all : c.args.most - 0 ≡ c.args.most = omega arith in
      subst (λ (n : ℕ). Comes g.S.Store.view (g.M.Machine.disk c.args.machine.now) (g.M.Machine.disk new) c.args.store.now after (in_rounds (g.C.Rounds.next c.args.call.now) n) r) all;
}

pub loop-round-preserved : goal.loop-round-preserved
loop-round-preserved g c =
    let inv = c.loop-round.invariant in
    let next = g.C.Rounds.next c.args.call.now in
    let most = c.args.most in
    let left = most - (c.loop-round._round + 1) in
    let whole = subst (λ (n : ℕ). LeadsOn g.S.Store.view g.M.Machine.disk next (Unit {0}) c.args.machine.now c.loop-round.machine c.args.store.now c.loop-round.store most n) (turn_less most c.loop-round._round c.loop-round-test.true) inv.whole in
    record {
      calls = c.calls_go_on.ensures.calls c.args.machine.now c.loop-round.machine c.take_round.new.machine c.args.store.now c.loop-round.store c.take_round.new.store None inv.calls c.in_ok-take_round.ensures.comes.makes.calls;
      whole = λ new after r rest.
          whole new after r
          (rounds_go_on g.S.Store.view g.M.Machine.disk next c.loop-round.machine c.take_round.new.machine c.loop-round.store c.take_round.new.store left c.calls_go_on.ensures new after r
          (λ p commands holds. sym c.if-branch.false ∙ c.in_ok-take_round.ensures.last p commands holds) _ c.in_ok-take_round.ensures.comes rest);
    }

pub returns-then-branch : goal.returns-then-branch
returns-then-branch g c =
    let next = g.C.Rounds.next c.args.call.now in
    let most = c.args.most in
    let left = most - (c.loop-round._round + 1) in
    let whole = subst (λ (n : ℕ). LeadsOn g.S.Store.view g.M.Machine.disk next (Unit {0}) c.args.machine.now c.loop-round.machine c.args.store.now c.loop-round.store most n) (turn_less most c.loop-round._round c.loop-round-test.true) c.loop-round.invariant.whole in
    whole c.take_round.new.machine c.take_round.new.store _
    (rounds_end g.S.Store.view g.M.Machine.disk next c.loop-round.machine c.take_round.new.machine c.loop-round.store c.take_round.new.store left _
    (λ p commands holds. sym c.if-branch.true ∙ c.in_ok-take_round.ensures.last p commands holds) _ c.in_ok-take_round.ensures.comes)

pub returns-in_err-take_round : goal.returns-in_err-take_round
returns-in_err-take_round g c =
    let next = g.C.Rounds.next c.args.call.now in
    let most = c.args.most in
    let left = most - (c.loop-round._round + 1) in
    let e = c.in_err-take_round.field-0.0 in
    let whole = subst (λ (n : ℕ). LeadsOn g.S.Store.view g.M.Machine.disk next (Unit {0}) c.args.machine.now c.loop-round.machine c.args.store.now c.loop-round.store most n) (turn_less most c.loop-round._round c.loop-round-test.true) c.loop-round.invariant.whole in
    whole c.take_round.new.machine c.take_round.new.store c.from_residual.result
    (rounds_fail g.S.Store.view g.M.Machine.disk next c.loop-round.machine c.take_round.new.machine c.loop-round.store c.take_round.new.store left
    c.from_residual.result e (passed c.from_residual.result e c.from_residual.ensures.1) c.in_err-take_round.ensures.comes)

pub returns : goal.returns
returns g c =
    let inv = c.loop-round.invariant in
    let next = g.C.Rounds.next c.args.call.now in
    let out : c.args.most - c.loop-round._round ≡ 0 = omega (arith, c.loop-round-test.false) in
    let whole = subst (λ (n : ℕ). LeadsOn g.S.Store.view g.M.Machine.disk next (Unit {0}) c.args.machine.now c.loop-round.machine c.args.store.now c.loop-round.store c.args.most n) out inv.whole in
    whole c.loop-round.machine c.loop-round.store _
    (comes_none g.S.Store.view (g.M.Machine.disk c.loop-round.machine) c.loop-round.store _ (nothing_reads g.S.Store.view (g.M.Machine.disk c.loop-round.machine) c.loop-round.store c.nothing_is_made-2.ensures.front (c.nothing_is_made-2.ensures.calls (inv.calls.unbroken (λ failed. failed)))))
