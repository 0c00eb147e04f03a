use Rattle.std.proofs.Common.{◌≡◌, ◌<◌, ℕ, suc, List, get_or, Less}
use Rattle.key_entries.specs.Entries.{byte_order}
use Rattle.key_entries.proofs.reading.rise.Given as goal

abbrev pub invariant-loop-i : goal.invariant-loop-i
invariant-loop-i g l = (k : ℕ) (d : List ℕ × _) → suc k < l.i → byte_order (get_or l.entries k d).0 (get_or l.entries (suc k) d).0 ≡ Less
