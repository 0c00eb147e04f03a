use Rattle.std.proofs.Common.{◌≡◌, ◌++◌, ◌-◌}
use Rattle.script_lines.specs.Draws.{after_draws, bytes_from}
use Rattle.script_lines.proofs.steps.drawn_bytes.Given as goal

-- the bytes so far and those that are left are all of them
abbrev pub invariant-loop : goal.invariant-loop
invariant-loop l =
    (l.bytes.items ++ bytes_from (l.count - l.counter) l.draws ≡ bytes_from l.count l.fn.draws)
    × (after_draws (l.count - l.counter) l.draws ≡ after_draws l.count l.fn.draws)
