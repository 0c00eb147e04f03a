use Rattle.std.proofs.Common.{◌≡◌, ◌≤◌, ◌+◌, ◌*◌, ◌++◌, length, take}
use Rattle.std.specs.Vec.{vec_capacity}
use Rattle.op_rows.specs.Rows.{numbers_code, text_code}
use Rattle.op_rows.proofs.names.Names.write.Given as goal

abbrev pub invariant-loop-object : goal.invariant-loop-object
invariant-loop-object l = record {
  written : l.out.items ≡ l.fn.out.items ++ numbers_code l.self.tag (take l.object-index l.self.objects);
  room : length l.out.items + (4 * length l.self.objects + 4 * length l.self.numbers + length (text_code l.self.text)) ≤ vec_capacity l.out + 4 * l.object-index;
}
