use Rattle.std.proofs.Common.{◌≡◌, ◌++◌, ◌-◌, map}
use Rattle.std.specs.List.{flat_map, range_with_len}
use Rattle.script_lines.specs.DemoScript.{ended, get_line, closing}
use Rattle.script_lines.proofs.steps.push_closing.Given as goal

-- the lines so far and those that are left are all of them
abbrev pub invariant-loop-object : goal.invariant-loop-object
invariant-loop-object l = l.script.items ++ flat_map ended (map get_line (range_with_len l.object (16 - l.object))) ≡ l.fn.script.items ++ flat_map ended closing
