use Rattle.std.proofs.Common.{◌≡◌, ◌^◌, length, ap, ◌∙◌, arith}
use Rattle.hash_ops.specs.OperationLaws.{power_half}
use Rattle.hash_ops.proofs.split.deep_entries.Goals as goal

pub doubled-requires : goal.doubled-requires
doubled-requires c =
    let size : length c.as_slice.result.now ≡ 2 ^ c.args.directory.now.depth = ap length c.as_slice.ensures.value ∙ c.requires.count in
    omega (arith, size, power_half c.args.directory.now.depth (omega (arith, c.requires.shallow, c.if-depth-directory.true)))
