use Rattle.std.proofs.Common.{ℕ, ◌-◌, ◌^◌, List, length, take, drop, slice_index_or, ap, ◌∙◌, arith}
use Rattle.hash_ops.specs.BlockLaws.{numbers_count}
use Rattle.hash_ops.proofs.directory.Directory.read.Goals as goal

pub returns-clause-count : goal.returns-clause-count
returns-clause-count c =
    let bytes : List ℕ = c.args.bytes.now in
    ap length c.read_numbers-entries.ensures
    ∙ numbers_count (2 ^ slice_index_or bytes 1 0) (take (length bytes - 2) (drop 2 bytes)) (omega (arith, c.if-body-body_len.false, c.body_len.ensures.value))
