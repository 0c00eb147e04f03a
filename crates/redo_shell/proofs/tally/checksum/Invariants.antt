use Rattle.std.proofs.Common.{◌≡◌, ◌%◌, ◌^◌, ◌*◌, ℕ, take}
use Rattle.std.specs.Prelude.{sum_by}
use Rattle.std.specs.List.{enumerate_from}
use Rattle.redo_shell.proofs.tally.checksum.Given as goal

abbrev pub invariant-loop-byte : goal.invariant-loop-byte
invariant-loop-byte l = (l.offset ≡ l.byte-index) × (l.sum ≡ sum_by (λ (it : ℕ × ℕ). it.0 * it.1) (take l.byte-index (enumerate_from 1 l.bytes)) % 2 ^ 64)
