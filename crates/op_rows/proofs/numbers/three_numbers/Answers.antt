use Rattle.std.proofs.Common.{◌∙◌, ap, arith}
use Rattle.byteorder.specs.Endian.{little_number}
use Rattle.oper_core.specs.LittleEndian.{slice_from}
use Rattle.op_rows.proofs.ReadNumbers.{three_begin}
use Rattle.op_rows.proofs.numbers.three_numbers.Goals as goal

pub returns-clause-some : goal.returns-clause-some
returns-clause-some c =
    let bytes = c.args.bytes.now in
    three_begin c.args.tag c.read_u32.result c.read_u32-2.result c.read_u32-3.result bytes (λ i. omega (arith, c.type_inv.bytes i)) (omega arith) c.if-bytes-tag.false
    (c.read_u32.ensures ∙ ap (little_number 4) (slice_from 1 bytes)) (c.read_u32-2.ensures ∙ ap (little_number 4) (slice_from 5 bytes))
    (c.read_u32-3.ensures ∙ ap (little_number 4) (slice_from 9 bytes))
