use Rattle.std.proofs.Common.{ap, sym, ◌∙◌, ℕ, ◌+◌, ◌-◌, List, ◌++◌}
use Rattle.std.specs.List.{flat_map}
use Rattle.script_lines.specs.DemoScript.{ended, lines_from, line_at, behind, closing, script_of}
use Rattle.script_lines.proofs.Left.{one_more, lines_left, none_left}
use Rattle.script_lines.proofs.demo.demo_script.Goals as goal

pub loop-preserved : goal.loop-preserved
loop-preserved c =
    let n = c.args.steps in
    let i = c.loop.counter in
    let g = c.loop.draws in
    let done = c.loop.script.items in
    let rest = flat_map ended (lines_from (n - (i + 1)) (behind g) ++ closing) in
    let all = ap (λ (lines : List (List ℕ)). done ++ flat_map ended (lines ++ closing)) (sym (lines_left n i g c.loop-test.true)) ∙ c.loop.invariant in
    rw c.in_ok-push_step.ensures.draws (one_more done (ended (line_at g)) rest _ _ c.in_ok-push_step.ensures.text all)

pub returns : goal.returns
unfolding script_of
returns c =
    let left = none_left c.args.steps c.loop.counter c.loop-test.false in
    let done = c.loop.script.items in
    c.in_ok-push_closing.ensures
    ∙ ap (λ (k : ℕ). done ++ flat_map ended (lines_from k c.loop.draws ++ closing)) (sym left)
    ∙ c.loop.invariant
