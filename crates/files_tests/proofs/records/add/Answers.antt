use Rattle.std.proofs.Common.{◌≤◌, ℕ, List, [], ◌∷◌, length, arith}
use Rattle.log_blocks.specs.LogView.{end_with}
use Rattle.files_tests.proofs.records.add.Goals as goal

-- what waits is a part of the log's length
within : (gate : ℕ) (bytes : List ℕ) → length bytes ≤ end_with gate bytes
within gate [] = omega arith
within gate (b ∷ bytes) = omega arith

pub append-requires-clause-short : goal.append-requires-clause-short
append-requires-clause-short c =
    let log = c.args.log.now in
    omega (arith, c.if-code_length-gt12.false, c.code_length.ensures log.bounds, c.used.ensures, c.if-used.true, within log.log.end log.log.pending)
