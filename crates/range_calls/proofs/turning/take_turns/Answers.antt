use Rattle.std.proofs.Common.{◌≡◌, refl, sym, ◌∙◌, subst, ℕ, ◌+◌, ◌-◌, None, arith}
use Rattle.formats.specs.Objects.{bounds_of}
use Rattle.range_calls.specs.Answers.{cause_of, refused_in}
use Rattle.range_calls.specs.ReadLaws.{adds_passed, calls_passed, passed, refuses_passed}
use Rattle.range_calls.specs.RunLaws.{IsUnderWay, begins_under_way, ends, goes_on, holds_now, none_left, now, planned, refused_on, turn_less}
use Rattle.range_calls.proofs.turning.take_turns.Goals as goal

pub loop-turn-init : goal.loop-turn-init
loop-turn-init g c = record {
  calls = c.nothing_is_made.ensures.calls c.requires.unbroken;
  made = λ p commands holds.
      begins_under_way g.C.Turns.kind p (g.C.Turns.meaning (bounds_of p)) (g.met.C.Turns.means (bounds_of p)) (g.C.Turns.next c.args.call.now (bounds_of p)) c.args.most g.S.Store.view commands (c.args.most - 0) (omega arith)
      (c.nothing_is_made.ensures.front p commands holds);
}

pub loop-turn-preserved : goal.loop-turn-preserved
loop-turn-preserved g c = record {
  calls = c.calls_go_on.ensures.calls c.args.machine.now c.loop-turn.machine c.take_turn.new.machine c.args.store.now c.loop-turn.store c.take_turn.new.store None c.loop-turn.invariant.calls c.in_ok-take_turn.ensures.makes.calls;
  made = λ p commands holds.
      let kind = g.C.Turns.kind in
      let m = g.C.Turns.meaning (bounds_of p) in
      let means = g.met.C.Turns.means (bounds_of p) in
      let next = g.C.Turns.next c.args.call.now (bounds_of p) in
      let most = c.args.most in
      let view = g.S.Store.view in
      let disk = g.M.Machine.disk in
      let laws = c.calls_go_on.ensures in
      let left = most - (c.loop-turn._turn + 1) in
      let way = subst (λ (n : ℕ). IsUnderWay kind p m means next most view (disk c.args.machine.now) (disk c.loop-turn.machine) c.args.store.now c.loop-turn.store commands n)
      (turn_less most c.loop-turn._turn c.loop-turn-test.true) (c.loop-turn.invariant.made p commands holds) in
      let here = now kind p m means next most view disk laws c.args.machine.now c.loop-turn.machine c.take_turn.new.machine c.args.store.now c.loop-turn.store c.take_turn.new.store commands left way holds in
      let there = holds_now kind p m means next most view disk laws c.args.machine.now c.loop-turn.machine c.take_turn.new.machine c.args.store.now c.loop-turn.store c.take_turn.new.store commands left way holds in
      goes_on kind p m means next most view disk laws c.args.machine.now c.loop-turn.machine c.take_turn.new.machine c.args.store.now c.loop-turn.store c.take_turn.new.store commands left way holds _ (λ others. refl)
      c.in_ok-take_turn.ensures.makes (c.in_ok-take_turn.ensures.answer p here there refl) (sym (c.in_ok-take_turn.ensures.last p here there) ∙ c.if-branch.false);
}

pub returns-then-branch-clause-calls : goal.returns-then-branch-clause-calls
returns-then-branch-clause-calls g c =
    c.calls_go_on.ensures.calls c.args.machine.now c.loop-turn.machine c.take_turn.new.machine c.args.store.now c.loop-turn.store c.take_turn.new.store None c.loop-turn.invariant.calls c.in_ok-take_turn.ensures.makes.calls

pub returns-then-branch-clause-adds : goal.returns-then-branch-clause-adds
returns-then-branch-clause-adds g c = λ p commands holds.
    let kind = g.C.Turns.kind in
    let m = g.C.Turns.meaning (bounds_of p) in
    let means = g.met.C.Turns.means (bounds_of p) in
    let next = g.C.Turns.next c.args.call.now (bounds_of p) in
    let most = c.args.most in
    let view = g.S.Store.view in
    let disk = g.M.Machine.disk in
    let laws = c.calls_go_on.ensures in
    let left = most - (c.loop-turn._turn + 1) in
    let way = subst (λ (n : ℕ). IsUnderWay kind p m means next most view (disk c.args.machine.now) (disk c.loop-turn.machine) c.args.store.now c.loop-turn.store commands n)
    (turn_less most c.loop-turn._turn c.loop-turn-test.true) (c.loop-turn.invariant.made p commands holds) in
    let here = now kind p m means next most view disk laws c.args.machine.now c.loop-turn.machine c.take_turn.new.machine c.args.store.now c.loop-turn.store c.take_turn.new.store commands left way holds in
    let there = holds_now kind p m means next most view disk laws c.args.machine.now c.loop-turn.machine c.take_turn.new.machine c.args.store.now c.loop-turn.store c.take_turn.new.store commands left way holds in
    let all = ends kind p m means next most view disk laws c.args.machine.now c.loop-turn.machine c.take_turn.new.machine c.args.store.now c.loop-turn.store c.take_turn.new.store commands left way holds _ (λ others. refl)
    c.in_ok-take_turn.ensures.makes (c.in_ok-take_turn.ensures.answer p here there refl) (sym (c.in_ok-take_turn.ensures.last p here there) ∙ c.if-branch.true) in
    all.0

pub returns-then-branch-clause-answer : goal.returns-then-branch-clause-answer
returns-then-branch-clause-answer g c = λ p commands holds done.
    let kind = g.C.Turns.kind in
    let m = g.C.Turns.meaning (bounds_of p) in
    let means = g.met.C.Turns.means (bounds_of p) in
    let next = g.C.Turns.next c.args.call.now (bounds_of p) in
    let most = c.args.most in
    let view = g.S.Store.view in
    let disk = g.M.Machine.disk in
    let laws = c.calls_go_on.ensures in
    let left = most - (c.loop-turn._turn + 1) in
    let way = subst (λ (n : ℕ). IsUnderWay kind p m means next most view (disk c.args.machine.now) (disk c.loop-turn.machine) c.args.store.now c.loop-turn.store commands n)
    (turn_less most c.loop-turn._turn c.loop-turn-test.true) (c.loop-turn.invariant.made p commands holds) in
    let here = now kind p m means next most view disk laws c.args.machine.now c.loop-turn.machine c.take_turn.new.machine c.args.store.now c.loop-turn.store c.take_turn.new.store commands left way holds in
    let there = holds_now kind p m means next most view disk laws c.args.machine.now c.loop-turn.machine c.take_turn.new.machine c.args.store.now c.loop-turn.store c.take_turn.new.store commands left way holds in
    let all = ends kind p m means next most view disk laws c.args.machine.now c.loop-turn.machine c.take_turn.new.machine c.args.store.now c.loop-turn.store c.take_turn.new.store commands left way holds _ (λ others. refl)
    c.in_ok-take_turn.ensures.makes (c.in_ok-take_turn.ensures.answer p here there refl) (sym (c.in_ok-take_turn.ensures.last p here there) ∙ c.if-branch.true) in
    all.1

pub returns-in_err-take_turn-clause-calls : goal.returns-in_err-take_turn-clause-calls
returns-in_err-take_turn-clause-calls g c =
    calls_passed g.S.Store.view c.from_residual.result c.in_err-take_turn.field-0.0 (passed c.from_residual.result c.in_err-take_turn.field-0.0 c.from_residual.ensures.1)
    (c.calls_go_on.ensures.calls c.args.machine.now c.loop-turn.machine c.take_turn.new.machine c.args.store.now c.loop-turn.store c.take_turn.new.store (cause_of c.in_err-take_turn.field-0.0) c.loop-turn.invariant.calls c.in_err-take_turn.ensures.makes.calls)

pub returns-in_err-take_turn-clause-adds : goal.returns-in_err-take_turn-clause-adds
returns-in_err-take_turn-clause-adds g c = λ p commands holds.
    let kind = g.C.Turns.kind in
    let m = g.C.Turns.meaning (bounds_of p) in
    let means = g.met.C.Turns.means (bounds_of p) in
    let next = g.C.Turns.next c.args.call.now (bounds_of p) in
    let most = c.args.most in
    let view = g.S.Store.view in
    let disk = g.M.Machine.disk in
    let laws = c.calls_go_on.ensures in
    let left = most - (c.loop-turn._turn + 1) in
    let way = subst (λ (n : ℕ). IsUnderWay kind p m means next most view (disk c.args.machine.now) (disk c.loop-turn.machine) c.args.store.now c.loop-turn.store commands n)
    (turn_less most c.loop-turn._turn c.loop-turn-test.true) (c.loop-turn.invariant.made p commands holds) in
    let here = now kind p m means next most view disk laws c.args.machine.now c.loop-turn.machine c.take_turn.new.machine c.args.store.now c.loop-turn.store c.take_turn.new.store commands left way holds in
    let there = holds_now kind p m means next most view disk laws c.args.machine.now c.loop-turn.machine c.take_turn.new.machine c.args.store.now c.loop-turn.store c.take_turn.new.store commands left way holds in
    let all = refused_on kind p m means next most view disk laws c.args.machine.now c.loop-turn.machine c.take_turn.new.machine c.args.store.now c.loop-turn.store c.take_turn.new.store commands left way holds _ (λ others. refl)
    (cause_of c.in_err-take_turn.field-0.0) c.in_err-take_turn.field-0.0 refl c.in_err-take_turn.ensures.makes (c.in_err-take_turn.ensures.answer p here there) in
    adds_passed view c.from_residual.result c.in_err-take_turn.field-0.0 (passed c.from_residual.result c.in_err-take_turn.field-0.0 c.from_residual.ensures.1) all.0

pub returns-in_err-take_turn-clause-answer : goal.returns-in_err-take_turn-clause-answer
returns-in_err-take_turn-clause-answer g c = λ p commands holds.
    let kind = g.C.Turns.kind in
    let m = g.C.Turns.meaning (bounds_of p) in
    let means = g.met.C.Turns.means (bounds_of p) in
    let next = g.C.Turns.next c.args.call.now (bounds_of p) in
    let most = c.args.most in
    let view = g.S.Store.view in
    let disk = g.M.Machine.disk in
    let laws = c.calls_go_on.ensures in
    let left = most - (c.loop-turn._turn + 1) in
    let way = subst (λ (n : ℕ). IsUnderWay kind p m means next most view (disk c.args.machine.now) (disk c.loop-turn.machine) c.args.store.now c.loop-turn.store commands n)
    (turn_less most c.loop-turn._turn c.loop-turn-test.true) (c.loop-turn.invariant.made p commands holds) in
    let here = now kind p m means next most view disk laws c.args.machine.now c.loop-turn.machine c.take_turn.new.machine c.args.store.now c.loop-turn.store c.take_turn.new.store commands left way holds in
    let there = holds_now kind p m means next most view disk laws c.args.machine.now c.loop-turn.machine c.take_turn.new.machine c.args.store.now c.loop-turn.store c.take_turn.new.store commands left way holds in
    let all = refused_on kind p m means next most view disk laws c.args.machine.now c.loop-turn.machine c.take_turn.new.machine c.args.store.now c.loop-turn.store c.take_turn.new.store commands left way holds _ (λ others. refl)
    (cause_of c.in_err-take_turn.field-0.0) c.in_err-take_turn.field-0.0 refl c.in_err-take_turn.ensures.makes (c.in_err-take_turn.ensures.answer p here there) in
    refuses_passed c.from_residual.result c.in_err-take_turn.field-0.0 (refused_in p.cap (planned kind p m means next most view commands)) (passed c.from_residual.result c.in_err-take_turn.field-0.0 c.from_residual.ensures.1) all.1

pub returns-clause-adds : goal.returns-clause-adds
returns-clause-adds g c = λ p commands holds.
    let kind = g.C.Turns.kind in
    let m = g.C.Turns.meaning (bounds_of p) in
    let means = g.met.C.Turns.means (bounds_of p) in
    let next = g.C.Turns.next c.args.call.now (bounds_of p) in
    let out : c.args.most - c.loop-turn._turn ≡ 0 = omega (arith, c.loop-turn-test.false) in
    (none_left kind p m means next c.args.most g.S.Store.view
    (subst (λ (n : ℕ). IsUnderWay kind p m means next c.args.most g.S.Store.view (g.M.Machine.disk c.args.machine.now) (g.M.Machine.disk c.loop-turn.machine) c.args.store.now c.loop-turn.store commands n) out (c.loop-turn.invariant.made p commands holds))).0

pub returns-clause-answer : goal.returns-clause-answer
returns-clause-answer g c = λ p commands holds done.
    let kind = g.C.Turns.kind in
    let m = g.C.Turns.meaning (bounds_of p) in
    let means = g.met.C.Turns.means (bounds_of p) in
    let next = g.C.Turns.next c.args.call.now (bounds_of p) in
    let out : c.args.most - c.loop-turn._turn ≡ 0 = omega (arith, c.loop-turn-test.false) in
    (none_left kind p m means next c.args.most g.S.Store.view
    (subst (λ (n : ℕ). IsUnderWay kind p m means next c.args.most g.S.Store.view (g.M.Machine.disk c.args.machine.now) (g.M.Machine.disk c.loop-turn.machine) c.args.store.now c.loop-turn.store commands n) out (c.loop-turn.invariant.made p commands holds))).1
