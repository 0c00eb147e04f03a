use Rattle.std.proofs.Common.{arith}
use Rattle.hash_ops.specs.OperationLaws.{power_small}
use Rattle.hash_ops.proofs.directory.body_len.Goals as goal

pub returns-clause-few : goal.returns-clause-few
returns-clause-few c = omega (arith, power_small c.args.depth c.requires)
