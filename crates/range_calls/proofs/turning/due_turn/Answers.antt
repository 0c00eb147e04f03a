use Rattle.std.proofs.Common.{subst}
use Rattle.formats.specs.Objects.{bounds_of}
use Rattle.formats.specs.declared.params.Params.{Params}
use Rattle.range_calls.specs.DueLaws.{turn_due}
use Rattle.range_calls.specs.Store.{state_of}
use Rattle.range_calls.proofs.turning.due_turn.Goals as goal

pub returns-clause-due : goal.returns-clause-due
returns-clause-due g c = λ p commands holds.
    let s = state_of p commands in
    let there = subst (λ (q : Params). g.C.Turns.is_there c.args.call.now q) (g.S.Store.view.numbers p (g.M.Machine.disk c.args.machine.now) c.args.store.now commands holds) c.requires.there in
    turn_due g.C.Turns.kind p s (g.C.Turns.next c.args.call.now (bounds_of p) s) (λ op comes. c.commands_are_due.ensures p s op there comes) c.next_turn.result (c.next_turn.ensures.answer p commands holds)
