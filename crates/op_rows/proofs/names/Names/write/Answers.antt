use Rattle.std.proofs.Common.{rules, length, ap, arith}
use Rattle.op_rows.specs.RowLaws.{length_code}
use Rattle.op_rows.proofs.names.Names.write.Goals as goal

pub loop-object-init : goal.loop-object-init
loop-object-init c =
    let size = length_code c.args.self.now in
    record {
      written = search rules;
      room = omega (arith, size, c.code_length.ensures, c.in_ok-reserve.ensures.ok, c.in_ok-push.ensures.capacity, ap length c.in_ok-push.ensures.items, ap length c.in_ok-reserve.ensures.items);
    }
