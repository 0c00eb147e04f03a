-- What follows from the grammar of a line.
use Rattle.std.proofs.Common.{◌<◌, List, ℕ, length, arith}
use Rattle.script_lines.specs.Grammar.{IsBad}

-- a line that is too long is bad
pub long_is_bad : (line : List ℕ) → 40000 < length line → IsBad line
long_is_bad line long request asks = absurd (omega (arith, long, asks.short))
