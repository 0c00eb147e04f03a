use Rattle.std.proofs.Common.{◌≡◌, ℕ, ◌<◌, true, is_lt}
use Rattle.key_entries.specs.Entries.{byte_order}
use Rattle.page_ops.specs.OnCells.{key_at}
use Rattle.page_map.proofs.cells.Cells.place_for.Given as goal

abbrev pub invariant-loop-i : goal.invariant-loop-i
invariant-loop-i l = (k : ℕ) → k < l.i → is_lt (byte_order (key_at l.self k) l.key) ≡ true
