use Rattle.std.proofs.Common.{List, Ok, ℕ, subst}
use Rattle.script_lines.specs.declared.answer.Answer.TheVariants as answers
use Rattle.script_lines.specs.declared.line.Line.TheVariants.{Make}
use Rattle.script_lines.specs.declared.line.Making.TheVariants.{Map}
use Rattle.script_lines.specs.declared.line.MapChange.TheVariants.{Delete}
use Rattle.script_run.specs.Found.{IsMade}
use Rattle.script_run.specs.Made.{change_comes}
use Rattle.script_run.proofs.MapLemmas.{changed, in_order, made_nowhere, made_there, map_is, no_map, not_changed, not_there}
use Rattle.script_run.proofs.map_making.map_delete.Goals as goal

pub returns-in_default : goal.returns-in_default
returns-in_default g c =
    not_there (Make (Map c.args.low c.args.high (Delete c.args.key)))
    (λ p commands. made_nowhere c.args.low c.args.high (Delete c.args.key) p commands (no_map c.args.low c.args.high c.in_default.ensures)) (c.nothing_is_made.ensures.calls c.requires) c.nothing_is_made.ensures.front

pub returns-in-Ok : goal.returns-in-Ok
returns-in-Ok g c =
    let key = c.as_slice.result.now in
    subst (λ (k : List ℕ). IsMade (g.M.Machine.disk c.args.machine.now) (g.M.Machine.disk c.delete.new.machine) c.args.engine.now c.delete.new.store (Make (Map c.args.low c.args.high (Delete k))) (Ok answers.Done))
    c.as_slice.ensures.value
    (changed _ _ _ _ (Make (Map c.args.low c.args.high (Delete key)))
    (λ p commands t. change_comes t.lo t.hi (Delete key) p commands) (record { lo = c.args.low; hi = c.args.high })
    (λ p commands. made_there c.args.low c.args.high (Delete key) p commands (in_order c.args.low c.args.high c.in-Some.map c.in-Some.ensures))
    c.in-Some.map (map_is c.args.low c.args.high c.in-Some.map c.in-Some.ensures) c.in-Ok.ensures.calls c.in-Ok.ensures.adds c.in-Ok.ensures.answer)

pub returns : goal.returns
returns g c =
    let key = c.as_slice.result.now in
    subst (λ (k : List ℕ). IsMade (g.M.Machine.disk c.args.machine.now) (g.M.Machine.disk c.delete.new.machine) c.args.engine.now c.delete.new.store (Make (Map c.args.low c.args.high (Delete k))) c.map_error_answer.result)
    c.as_slice.ensures.value
    (not_changed _ _ _ _ (Make (Map c.args.low c.args.high (Delete key)))
    (λ p commands t. change_comes t.lo t.hi (Delete key) p commands) (record { lo = c.args.low; hi = c.args.high })
    (λ p commands. made_there c.args.low c.args.high (Delete key) p commands (in_order c.args.low c.args.high c.in-Some.map c.in-Some.ensures))
    c.in-Some.map c.in-Err.error (map_is c.args.low c.args.high c.in-Some.map c.in-Some.ensures) c.in-Err.ensures.calls c.in-Err.ensures.adds c.in-Err.ensures.answer c.map_error_answer.ensures)
