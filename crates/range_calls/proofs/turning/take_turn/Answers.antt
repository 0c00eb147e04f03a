use Rattle.std.proofs.Common.{refl, sym, ◌∙◌, ◌++◌, None, map}
use Rattle.formats.specs.Objects.{bounds_of}
use Rattle.range_calls.specs.Answers.{cause_of, made_of, refused_in}
use Rattle.range_calls.specs.JoinLaws.{holds_behind}
use Rattle.range_calls.specs.ReadLaws.{makes_err, passed, refuses_passed, turn_adds}
use Rattle.range_calls.specs.Store.{state_of}
use Rattle.range_calls.specs.TurnLaws.{found_turn, refused_answer, refused_made, refused_turn}
use Rattle.range_calls.specs.Turns.{turn_plan}
use Rattle.range_calls.proofs.turning.take_turn.Goals as goal

pub returns-in_err-turn-clause-makes : goal.returns-in_err-turn-clause-makes
returns-in_err-turn-clause-makes g c =
    let kind = g.C.Turns.kind in
    makes_err c.from_residual.result c.in_err-turn.field-0.0 (passed c.from_residual.result c.in_err-turn.field-0.0 c.from_residual.ensures.1)
    (record {
      calls = c.in_err-turn.ensures.reads.calls;
      adds = λ p commands holds rest ended.
          let next = g.C.Turns.next c.args.call.now (bounds_of p) (state_of p commands) in
          c.in_err-turn.ensures.reads.adds p commands holds (made_of p.cap (map kind (turn_plan next).commands) ++ rest)
          (λ done. refused_made kind p.cap next c.in_err-turn.field-0.0 (refused_turn kind next c.in_err-turn.field-0.0 (c.in_err-turn.ensures.answer p commands holds done)) rest (ended done));
    })

pub returns-in_err-turn-clause-answer : goal.returns-in_err-turn-clause-answer
returns-in_err-turn-clause-answer g c = λ p commands holds.
    let kind = g.C.Turns.kind in
    let next = g.C.Turns.next c.args.call.now (bounds_of p) (state_of p commands) in
    refuses_passed c.from_residual.result c.in_err-turn.field-0.0 (refused_in p.cap (turn_plan next)) (passed c.from_residual.result c.in_err-turn.field-0.0 c.from_residual.ensures.1)
    (λ done. refused_answer kind p.cap next c.in_err-turn.field-0.0 (refused_turn kind next c.in_err-turn.field-0.0 (c.in_err-turn.ensures.answer p commands holds done)))

pub returns-clause-last : goal.returns-clause-last
returns-clause-last g c = λ p commands holds.
    (found_turn g.C.Turns.kind (g.C.Turns.next c.args.call.now (bounds_of p) (state_of p commands)) c.in_ok-turn.turn (c.in_ok-turn.ensures.answer p commands holds refl)).last

pub returns-clause-makes : goal.returns-clause-makes
returns-clause-makes g c =
    let view = g.S.Store.view in
    let disk = g.M.Machine.disk in
    let laws = c.calls_go_on.ensures in record {
      calls = laws.calls c.args.machine.now c.due_turn.new.machine c.make.new.machine c.args.store.now c.due_turn.new.store c.make.new.store None c.in_ok-turn.ensures.reads.calls c.in_ok-make.ensures.calls;
      adds = λ p commands holds.
          let kind = g.C.Turns.kind in
          let next = g.C.Turns.next c.args.call.now (bounds_of p) (state_of p commands) in
          let found = found_turn kind next c.in_ok-turn.turn (c.in_ok-turn.ensures.answer p commands holds refl) in
          let there = holds_behind view disk laws p c.args.machine.now c.due_turn.new.machine c.args.store.now c.due_turn.new.store commands c.in_ok-turn.ensures.reads holds in
          turn_adds view disk laws c.args.machine.now c.due_turn.new.machine c.make.new.machine c.args.store.now c.due_turn.new.store c.make.new.store None p commands c.in_ok-turn.ensures.reads holds
          c.in_ok-turn.turn.op (map kind (turn_plan next).commands) found.plan (c.in_ok-make.ensures.adds p commands there (c.in_ok-turn.ensures.due p commands holds));
    }

pub returns-in_err-make-clause-makes : goal.returns-in_err-make-clause-makes
returns-in_err-make-clause-makes g c =
    let view = g.S.Store.view in
    let disk = g.M.Machine.disk in
    let laws = c.calls_go_on.ensures in
    let error = cause_of c.in_err-make.field-0.0 in
    makes_err c.from_residual-in_err-make.result c.in_err-make.field-0.0 (passed c.from_residual-in_err-make.result c.in_err-make.field-0.0 c.from_residual-in_err-make.ensures.1)
    (record {
      calls = laws.calls c.args.machine.now c.due_turn.new.machine c.make.new.machine c.args.store.now c.due_turn.new.store c.make.new.store error c.in_ok-turn.ensures.reads.calls c.in_err-make.ensures.calls;
      adds = λ p commands holds.
          let kind = g.C.Turns.kind in
          let next = g.C.Turns.next c.args.call.now (bounds_of p) (state_of p commands) in
          let found = found_turn kind next c.in_ok-turn.turn (c.in_ok-turn.ensures.answer p commands holds refl) in
          let there = holds_behind view disk laws p c.args.machine.now c.due_turn.new.machine c.args.store.now c.due_turn.new.store commands c.in_ok-turn.ensures.reads holds in
          turn_adds view disk laws c.args.machine.now c.due_turn.new.machine c.make.new.machine c.args.store.now c.due_turn.new.store c.make.new.store error p commands c.in_ok-turn.ensures.reads holds
          c.in_ok-turn.turn.op (map kind (turn_plan next).commands) found.plan (c.in_err-make.ensures.adds p commands there (c.in_ok-turn.ensures.due p commands holds));
    })

pub returns-in_err-make-clause-answer : goal.returns-in_err-make-clause-answer
returns-in_err-make-clause-answer g c = λ p commands holds.
    let next = g.C.Turns.next c.args.call.now (bounds_of p) (state_of p commands) in
    let found = found_turn g.C.Turns.kind next c.in_ok-turn.turn (c.in_ok-turn.ensures.answer p commands holds refl) in
    let there = holds_behind g.S.Store.view g.M.Machine.disk c.calls_go_on.ensures p c.args.machine.now c.due_turn.new.machine c.args.store.now c.due_turn.new.store commands c.in_ok-turn.ensures.reads holds in
    refuses_passed c.from_residual-in_err-make.result c.in_err-make.field-0.0 (refused_in p.cap (turn_plan next)) (passed c.from_residual-in_err-make.result c.in_err-make.field-0.0 c.from_residual-in_err-make.ensures.1)
    (λ done. c.in_err-make.ensures.answer p commands there (c.in_ok-turn.ensures.due p commands holds) done ∙ sym (found.alone p.cap))

pub returns-clause-answer : goal.returns-clause-answer
returns-clause-answer g c = λ p commands holds done.
    let next = g.C.Turns.next c.args.call.now (bounds_of p) (state_of p commands) in
    let found = found_turn g.C.Turns.kind next c.in_ok-turn.turn (c.in_ok-turn.ensures.answer p commands holds refl) in
    let there = holds_behind g.S.Store.view g.M.Machine.disk c.calls_go_on.ensures p c.args.machine.now c.due_turn.new.machine c.args.store.now c.due_turn.new.store commands c.in_ok-turn.ensures.reads holds in
    c.in_ok-make.ensures.answer p commands there (c.in_ok-turn.ensures.due p commands holds) refl ∙ sym (found.alone p.cap)
