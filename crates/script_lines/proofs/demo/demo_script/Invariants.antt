use Rattle.std.proofs.Common.{◌≡◌, ◌++◌, ◌-◌}
use Rattle.std.specs.List.{flat_map}
use Rattle.script_lines.specs.DemoScript.{ended, lines_from, closing}
use Rattle.script_lines.proofs.demo.demo_script.Given as goal

-- the lines so far and those that are left are all of them
abbrev pub invariant-loop : goal.invariant-loop
invariant-loop l =
    l.script.items ++ flat_map ended (lines_from (l.steps - l.counter) l.draws ++ closing)
    ≡ flat_map ended (lines_from l.steps l.fn.seed ++ closing)
